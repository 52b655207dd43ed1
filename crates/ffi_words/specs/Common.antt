-- What a call over the C interface is told of a unit, what it comes to, and what it leaves in the words or bytes that it is lent.
use Rattle.std.specs.Prelude.{ℕ, Bool, true, false, List, eqb, get_or}
use Rattle.std.specs.Borrow.{Bor}
use Rattle.section_bytes.specs.Read.{Result, gives, refused, pick}
use Rattle.section_bytes.specs.declared.common.DwarfFileType.{DwarfFileType}
use Rattle.section_bytes.specs.declared.common.DwarfFileType.TheVariants.{Main, Dwo}
use Rattle.section_bytes.specs.declared.common.Encoding.{Encoding}
use Rattle.section_bytes.specs.declared.common.Format.{Format}
use Rattle.section_bytes.specs.declared.common.Format.TheVariants.{Dwarf32, Dwarf64}
use Rattle.section_bytes.specs.declared.endianity.RunTimeEndian.{RunTimeEndian}
use Rattle.section_bytes.specs.declared.endianity.RunTimeEndian.TheVariants.{Little, Big}
use Rattle.lists.specs.declared.Unit.{Unit as DwarfUnit}
use Rattle.ffi_words.specs.declared.common.YzEncoding.{YzEncoding}
use Rattle.ffi_words.specs.declared.common.YzPart.{YzPart}
use Rattle.ffi_words.specs.declared.common.YzDone.{YzDone}

-- a number that says yes or no: any but 0 says yes
abbrev pub is_set : ℕ → Bool
is_set n = pick (eqb n 0) false true

-- how a caller says byte order, encoding and kind of file
abbrev pub endian_of : Bool → RunTimeEndian
endian_of false = Little
endian_of true = Big

abbrev pub endian_in : YzEncoding → RunTimeEndian
endian_in encoding = endian_of (is_set encoding.big_endian)

abbrev pub format_of : Bool → Format
format_of false = Dwarf32
format_of true = Dwarf64

abbrev pub encoding_of : YzEncoding → Encoding
encoding_of encoding =
    record { address_size = encoding.address_size; format = format_of encoding.dwarf64; version = encoding.version }

abbrev pub file_of : Bool → DwarfFileType
file_of false = Main
file_of true = Dwo

-- a unit by its encoding, and its table of addresses
abbrev pub unit_of : YzEncoding → Bor (List ℕ) → ℕ → DwarfUnit
unit_of encoding table base = record { encoding = encoding_of encoding; endian = endian_in encoding; debug_addr = table; debug_addr_base = record { 0 = base } }

-- an encoding told, with the byte order that it was read in
abbrev pub number_of : Bool → ℕ
number_of false = 0
number_of true = 1

abbrev pub is_dwarf64 : Format → Bool
is_dwarf64 Dwarf32 = false
is_dwarf64 Dwarf64 = true

abbrev pub encoding_told : Encoding → Bool → YzEncoding
encoding_told encoding bigEndian =
    record {
      version = encoding.version;
      address_size = encoding.address_size;
      dwarf64 = is_dwarf64 encoding.format;
      big_endian = number_of bigEndian;
    }

abbrev pub no_encoding : YzEncoding
no_encoding = record { version = 0; address_size = 0; dwarf64 = false; big_endian = 0 }

-- a part of a section
abbrev pub part : ℕ → ℕ → YzPart
part offset len = record { offset = offset; length = len }

abbrev pub no_part : YzPart
no_part = part 0 0

-- what a call comes to: the one definition of the result codes
abbrev pub comes_to : ℕ → YzDone
comes_to code = record { result = code; refusal = 0; refusal_value = 0 }

abbrev pub done : YzDone
done = comes_to 0

abbrev pub ended : YzDone
ended = comes_to 1

abbrev pub nothing : YzDone
nothing = comes_to 2

abbrev pub not_there : YzDone
not_there = comes_to 3

-- by its number, with its value, 0 where it has none
abbrev pub refused_by : ℕ → List ℕ → YzDone
refused_by n vs = record { result = 4; refusal = n; refusal_value = get_or vs 0 0 }

-- what a call answers that gives nothing
abbrev pub done_or_refused : Result Unit → YzDone
done_or_refused (gives x) = done
done_or_refused (refused n vs) = refused_by n vs

-- an answer, and what the call leaves in the words or bytes that it is lent
pub record Left (A : Type 0) : Type 0 where
  pub answer : A
  pub lent : List ℕ

abbrev pub left : {A : Type 0} → A → List ℕ → Left A
left a ws = record { answer = a; lent = ws }
