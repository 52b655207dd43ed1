-- Numbers, and what is read at a place: the place after it goes out with it.
use Rattle.std.specs.Prelude.{ℕ}
use Rattle.section_bytes.specs.Read.{Result, gives, refused, got, Read}
use Rattle.section_bytes.specs.declared.Span.{Span}
use Rattle.section_bytes.specs.declared.leb128.Number.{Number}
use Rattle.section_bytes.specs.declared.UnitLength.{UnitLength}
use Rattle.ffi_words.specs.Common.{number_of, is_dwarf64, part, no_part, done, refused_by}
use Rattle.ffi_words.specs.declared.common.YzDone.{YzDone}
use Rattle.ffi_words.specs.declared.common.YzPart.{YzPart}
use Rattle.ffi_words.specs.declared.reads.YzNumber.{YzNumber}
use Rattle.ffi_words.specs.declared.reads.YzRead.{YzRead}
use Rattle.ffi_words.specs.declared.reads.YzLeb128.{YzLeb128}
use Rattle.ffi_words.specs.declared.reads.YzPlace.{YzPlace}
use Rattle.ffi_words.specs.declared.reads.YzSplitPart.{YzSplitPart}
use Rattle.ffi_words.specs.declared.reads.YzUnitLength.{YzUnitLength}

abbrev pub number_told : YzDone → ℕ → YzNumber
number_told d n = record { done = d; number = n }

abbrev pub no_number : YzDone → YzNumber
no_number d = number_told d 0

abbrev pub number_result : Result ℕ → YzNumber
number_result (gives v) = number_told done v
number_result (refused n vs) = no_number (refused_by n vs)

-- without its place
abbrev pub number_only : Read ℕ → YzNumber
number_only (gives (got v c)) = number_told done v
number_only (refused n vs) = no_number (refused_by n vs)

abbrev pub read : YzDone → ℕ → ℕ → YzRead
read d c v = record { done = d; next = c; number = v }

abbrev pub number_read : Read ℕ → YzRead
number_read (gives (got v c)) = read done c v
number_read (refused n vs) = read (refused_by n vs) 0 0

abbrev pub leb128 : YzDone → ℕ → ℕ → ℕ → ℕ → YzLeb128
leb128 d c v len padded = record { done = d; next = c; number = v; length = len; padded = padded }

abbrev pub leb128_read : Read Number → YzLeb128
leb128_read (gives (got x c)) = leb128 done c x.value x.len (number_of x.padded)
leb128_read (refused n vs) = leb128 (refused_by n vs) 0 0 0 0

abbrev pub place : YzDone → ℕ → YzPlace
place d c = record { done = d; next = c }

abbrev pub place_read : Read Unit → YzPlace
place_read (gives (got u c)) = place done c
place_read (refused n vs) = place (refused_by n vs) 0

abbrev pub split_part : YzDone → ℕ → YzPart → YzSplitPart
split_part d c x = record { done = d; next = c; part = x }

abbrev pub part_read : Read Span → YzSplitPart
part_read (gives (got x c)) = split_part done c (part x.offset x.len)
part_read (refused n vs) = split_part (refused_by n vs) 0 no_part

abbrev pub unit_length : YzDone → ℕ → ℕ → ℕ → YzUnitLength
unit_length d c n dwarf64 = record { done = d; next = c; length = n; dwarf64 = dwarf64 }

abbrev pub length_read : Read UnitLength → YzUnitLength
length_read (gives (got u c)) = unit_length done c u.length (number_of (is_dwarf64 u.format))
length_read (refused n vs) = unit_length (refused_by n vs) 0 0 0
