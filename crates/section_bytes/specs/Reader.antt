-- Reads at a place of a section. What would pass the section's end is refused.
use Rattle.std.specs.Prelude.{ℕ, ◌+◌, Bool, ◌||◌, List, [], length, take, drop, ◌==◌, nat_le, nat_lt}
use Rattle.section_bytes.specs.Read.{gives, got, Read, read_then, pick}
use Rattle.section_bytes.specs.Error.{refusal}
use Rattle.section_bytes.specs.Common.{word_size}
use Rattle.section_bytes.specs.Endianity.{value}
use Rattle.section_bytes.specs.declared.common.Format.{Format}
use Rattle.section_bytes.specs.declared.common.Format.TheVariants.{Dwarf32, Dwarf64}
use Rattle.section_bytes.specs.declared.endianity.RunTimeEndian.{RunTimeEndian}
use Rattle.section_bytes.specs.declared.endianity.RunTimeEndian.TheVariants.{Little}
use Rattle.section_bytes.specs.declared.error.Error.TheVariants.{UnexpectedEof, UnsupportedAddressSize, UnknownReservedLength}
use Rattle.section_bytes.specs.declared.Span.{Span}
use Rattle.section_bytes.specs.declared.UnitLength.{UnitLength}

-- the place after n more bytes
unfoldable pub skip : ℕ → List ℕ → ℕ → Read Unit
skip n s at = pick (nat_le (at + n) (length s)) (gives (got tt (at + n))) (refusal UnexpectedEof)

-- the number of `size` bytes
unfoldable pub uint : RunTimeEndian → ℕ → List ℕ → ℕ → Read ℕ
uint endian size s at = read_then (skip size s at) (λ _ c. gives (got (value endian (take size (drop at s))) c))

-- the n bytes from a place on as a part of the section
unfoldable pub split : ℕ → List ℕ → ℕ → Read Span
split n s at = read_then (skip n s at) (λ _ c. gives (got (record { offset = at; len = n }) c))

-- where a section ends that is cut n bytes after the place; the place stays
unfoldable pub truncate : ℕ → List ℕ → ℕ → Read ℕ
truncate n s at = read_then (skip n s at) (λ _ c. gives (got c at))

-- the bytes of a part; none where it does not lie in the section
unfoldable pub part_of : List ℕ → ℕ → ℕ → List ℕ
part_of s offset len = pick (nat_le (offset + len) (length s)) (take len (drop offset s)) []

-- the address sizes that are read
unfoldable pub is_size : ℕ → Bool
is_size n = n == 1 || n == 2 || n == 3 || n == 4 || n == 8

unfoldable pub address : RunTimeEndian → ℕ → List ℕ → ℕ → Read ℕ
address endian size s at = pick (is_size size) (uint endian size s at) (refusal (UnsupportedAddressSize size))

-- an address size in a header: one byte
unfoldable pub address_size_at : List ℕ → ℕ → Read ℕ
address_size_at s at = read_then (uint Little 1 s at) (λ size c. pick (is_size size) (gives (got size c)) (refusal (UnsupportedAddressSize size)))

-- an offset or a length of a format
abbrev pub word : RunTimeEndian → Format → List ℕ → ℕ → Read ℕ
word endian format s at = uint endian (word_size format) s at

-- an initial length (DWARF 5, 7.2.2 and 7.4)
abbrev pub length_of : ℕ → Format → UnitLength
length_of n format = record { length = n; format = format }

unfoldable pub initial_length : RunTimeEndian → List ℕ → ℕ → Read UnitLength
initial_length endian s at =
    read_then (uint endian 4 s at) (λ n c.
    pick (nat_lt n 0xfffffff0) (gives (got (length_of n Dwarf32) c))
    (pick (n == 0xffffffff) (read_then (uint endian 8 s c) (λ m d. gives (got (length_of m Dwarf64) d)))
    (refusal (UnknownReservedLength n))))
