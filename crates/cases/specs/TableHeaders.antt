-- Headers of address tables: the addresses follow the 8 bytes of a header, or the 16 of one in the 64-bit format, wherever it stands.
use Rattle.std.specs.Prelude.{◌≡◌, refl, List, [], ◌∷◌, ℕ}
use Rattle.section_bytes.specs.Read.{gives, refused, got, Read}
use Rattle.section_bytes.specs.Endianity.{little}
use Rattle.section_bytes.specs.Reader.{skip, uint, truncate, is_size, address_size_at, initial_length}
use Rattle.section_bytes.specs.declared.common.Format.{Format}
use Rattle.section_bytes.specs.declared.common.Format.TheVariants.{Dwarf32, Dwarf64}
use Rattle.section_bytes.specs.declared.endianity.RunTimeEndian.{RunTimeEndian}
use Rattle.section_bytes.specs.declared.endianity.RunTimeEndian.TheVariants.{Little, Big}
use Rattle.tables.specs.Header.{fields, head}
use Rattle.tables.specs.Addr.{addr_header}
use Rattle.tables.specs.Padded.{table_header_size, padding}
use Rattle.tables.specs.declared.addr.AddrHeader.{AddrHeader}

header : RunTimeEndian → List ℕ → ℕ → Read AddrHeader
unfolding addr_header head fields initial_length truncate address_size_at skip uint is_size little
header endian s at = addr_header endian s at

-- a table by its place, format, size and length, where its addresses begin, and how many bytes they have
abbrev table : ℕ → Format → ℕ → ℕ → ℕ → ℕ → AddrHeader
table at format size n first len =
    record {
      offset = record { 0 = at };
      encoding = record { address_size = size; format = format; version = 5 };
      length = n;
      entries = record { offset = first; len = len };
    }

size_1 : header Little (0x05 ∷ 0x00 ∷ 0x00 ∷ 0x00 ∷ 0x05 ∷ 0x00 ∷ 0x01 ∷ 0x00 ∷ 0xaa ∷ []) 0 ≡ gives (got (table 0 Dwarf32 1 5 8 1) 9)
unfolding header
size_1 = refl

size_2 : header Little (0x06 ∷ 0x00 ∷ 0x00 ∷ 0x00 ∷ 0x05 ∷ 0x00 ∷ 0x02 ∷ 0x00 ∷ 0xaa ∷ 0xbb ∷ []) 0
    ≡ gives (got (table 0 Dwarf32 2 6 8 2) 10)
unfolding header
size_2 = refl

no_addresses : header Little (0x04 ∷ 0x00 ∷ 0x00 ∷ 0x00 ∷ 0x05 ∷ 0x00 ∷ 0x08 ∷ 0x00 ∷ []) 0 ≡ gives (got (table 0 Dwarf32 8 4 8 0) 8)
unfolding header
no_addresses = refl

-- a byte behind the unit is not the table's
behind_the_unit : header Little (0x05 ∷ 0x00 ∷ 0x00 ∷ 0x00 ∷ 0x05 ∷ 0x00 ∷ 0x02 ∷ 0x00 ∷ 0xaa ∷ 0xbb ∷ []) 0
    ≡ gives (got (table 0 Dwarf32 2 5 8 1) 9)
unfolding header
behind_the_unit = refl

wide : header Little
    (0xff ∷ 0xff ∷ 0xff ∷ 0xff ∷ 0x0c ∷ 0x00 ∷ 0x00 ∷ 0x00 ∷ 0x00 ∷ 0x00 ∷ 0x00 ∷ 0x00 ∷ 0x05 ∷ 0x00 ∷ 0x08 ∷ 0x00
    ∷ 0x11 ∷ 0x22 ∷ 0x33 ∷ 0x44 ∷ 0x55 ∷ 0x66 ∷ 0x77 ∷ 0x88 ∷ []) 0
    ≡ gives (got (table 0 Dwarf64 8 12 16 8) 24)
unfolding header
wide = refl

-- at odd places
placed_at_1 : header Little
    (0x00 ∷ 0x0c ∷ 0x00 ∷ 0x00 ∷ 0x00 ∷ 0x05 ∷ 0x00 ∷ 0x04 ∷ 0x00 ∷ 0x10 ∷ 0x00 ∷ 0x00 ∷ 0x00 ∷ 0x20 ∷ 0x00 ∷ 0x00 ∷ 0x00 ∷ []) 1
    ≡ gives (got (table 1 Dwarf32 4 12 9 8) 17)
unfolding header
placed_at_1 = refl

wide_at_3 : header Big
    (0x00 ∷ 0x00 ∷ 0x00 ∷ 0xff ∷ 0xff ∷ 0xff ∷ 0xff ∷ 0x00 ∷ 0x00 ∷ 0x00 ∷ 0x00 ∷ 0x00 ∷ 0x00 ∷ 0x00 ∷ 0x0c ∷ 0x00 ∷ 0x05 ∷ 0x08 ∷ 0x00
    ∷ 0x11 ∷ 0x22 ∷ 0x33 ∷ 0x44 ∷ 0x55 ∷ 0x66 ∷ 0x77 ∷ 0x88 ∷ []) 3
    ≡ gives (got (table 3 Dwarf64 8 12 19 8) 27)
unfolding header
wide_at_3 = refl

-- what can't be read, in the order of the bytes
no_segment_size : header Little (0x03 ∷ 0x00 ∷ 0x00 ∷ 0x00 ∷ 0x05 ∷ 0x00 ∷ 0x04 ∷ []) 0 ≡ refused 1 []
unfolding header
no_segment_size = refl

past_the_section : header Little (0x05 ∷ 0x00 ∷ 0x00 ∷ 0x00 ∷ 0x05 ∷ 0x00 ∷ 0x04 ∷ 0x00 ∷ []) 0 ≡ refused 1 []
unfolding header
past_the_section = refl

version_4 : header Little (0x04 ∷ 0x00 ∷ 0x00 ∷ 0x00 ∷ 0x04 ∷ 0x00 ∷ 0x04 ∷ 0x00 ∷ []) 0 ≡ refused 5 (4 ∷ [])
unfolding header
version_4 = refl

size_5 : header Little (0x04 ∷ 0x00 ∷ 0x00 ∷ 0x00 ∷ 0x05 ∷ 0x00 ∷ 0x05 ∷ 0x00 ∷ []) 0 ≡ refused 6 (5 ∷ [])
unfolding header
size_5 = refl

segments : header Little (0x04 ∷ 0x00 ∷ 0x00 ∷ 0x00 ∷ 0x05 ∷ 0x00 ∷ 0x04 ∷ 0x01 ∷ []) 0 ≡ refused 7 (1 ∷ [])
unfolding header
segments = refl

reserved : header Little (0xf0 ∷ 0xff ∷ 0xff ∷ 0xff ∷ 0x05 ∷ 0x00 ∷ 0x04 ∷ 0x00 ∷ []) 0 ≡ refused 8 (0xfffffff0 ∷ [])
unfolding header
reserved = refl

-- the addresses of size 3 follow their header as well, where the rule of older tables would pass over a byte, or over two in the
-- 64-bit format
size_3 : header Little (0x0a ∷ 0x00 ∷ 0x00 ∷ 0x00 ∷ 0x05 ∷ 0x00 ∷ 0x03 ∷ 0x00 ∷ 0x10 ∷ 0x00 ∷ 0x00 ∷ 0x20 ∷ 0x00 ∷ 0x00 ∷ []) 0
    ≡ gives (got (table 0 Dwarf32 3 10 8 6) 14)
unfolding header
size_3 = refl

wide_3 : header Little
    (0xff ∷ 0xff ∷ 0xff ∷ 0xff ∷ 0x0a ∷ 0x00 ∷ 0x00 ∷ 0x00 ∷ 0x00 ∷ 0x00 ∷ 0x00 ∷ 0x00 ∷ 0x05 ∷ 0x00 ∷ 0x03 ∷ 0x00
    ∷ 0x10 ∷ 0x00 ∷ 0x00 ∷ 0x20 ∷ 0x00 ∷ 0x00 ∷ []) 0
    ≡ gives (got (table 0 Dwarf64 3 10 16 6) 22)
unfolding header
wide_3 = refl

padding_3 : padding (table_header_size Dwarf32) 3 ≡ 1
padding_3 = refl

padding_3_wide : padding (table_header_size Dwarf64) 3 ≡ 2
padding_3_wide = refl
