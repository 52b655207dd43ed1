-- An address table's header as it was read before, by a rule of older tables that gimli keeps: its addresses begin at a multiple of
-- the address size, counted from the header's first byte. What holds of the header that is read without the rule is stated below;
-- its proof is `no_remainder` in proofs/PaddedLaws.antt.
use Rattle.std.specs.Prelude.{ℕ, ◌+◌, ◌-◌, ◌%◌, List, ◌⊎◌, ◌≡◌, eqb, take}
use Rattle.section_bytes.specs.Read.{gives, refused, got, Read, read_then, pick}
use Rattle.section_bytes.specs.Common.{initial_length_size}
use Rattle.section_bytes.specs.Reader.{skip}
use Rattle.section_bytes.specs.declared.common.Format.{Format}
use Rattle.section_bytes.specs.declared.endianity.RunTimeEndian.{RunTimeEndian}
use Rattle.tables.specs.Header.{head}
use Rattle.tables.specs.Addr.{table_of, addr_header}
use Rattle.tables.specs.declared.header.Head.{Head}
use Rattle.tables.specs.declared.addr.AddrHeader.{AddrHeader}

-- unit_length, version, address_size, segment_selector_size: 8 bytes, or 16 in the 64-bit format
abbrev pub table_header_size : Format → ℕ
table_header_size format = initial_length_size format + 4

-- the bytes that bring a header to a multiple of a size
abbrev pub padding : ℕ → ℕ → ℕ
padding header size = pick (eqb (header % size) 0) 0 (size - header % size)

unfoldable pub padded_header : RunTimeEndian → List ℕ → ℕ → Read AddrHeader
padded_header endian s at =
    read_then (head endian s at) (λ h c.
    read_then (skip (padding (table_header_size h.format) h.address_size) (take h.end s) c) (λ _ d. gives (got (table_of at h d) h.end)))

-- one of the sizes 1, 2, 4 and 8
abbrev pub OneOfFour : ℕ → Type 0
OneOfFour size = (size ≡ 1) ⊎ ((size ≡ 2) ⊎ ((size ≡ 4) ⊎ (size ≡ 8)))

-- fields that were read have such a size; a refusal has none
abbrev pub SizeOneOfFour : Read Head → Type 0
SizeOneOfFour (gives (got h c)) = OneOfFour h.address_size
SizeOneOfFour (refused n vs) = Unit

pub record NoRemainder : Type 0 where
  -- the addresses follow a header of 8 or 16 bytes
  pub follow : (endian : RunTimeEndian) (s : List ℕ) (at : ℕ) {t : AddrHeader} {c : ℕ} → addr_header endian s at ≡ gives (got t c)
      → t.entries.offset ≡ at + table_header_size t.encoding.format
  -- each of the four sizes divides both
  pub none_over : (format : Format) (size : ℕ) → OneOfFour size → padding (table_header_size format) size ≡ 0
  -- so that a header of such a size reads as before, and so does one that is refused. A header of another size may not: with the
  -- rule, the addresses of size 3 would begin one byte later, or two in the 64-bit format
  pub reads_as_before : (endian : RunTimeEndian) (s : List ℕ) (at : ℕ) → SizeOneOfFour (head endian s at)
      → addr_header endian s at ≡ padded_header endian s at
