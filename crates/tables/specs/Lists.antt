-- The header of a set of lists (DWARF 5, 7.28 and 7.29).
use Rattle.std.specs.Prelude.{ℕ, ◌+◌, ◌-◌, List, leb, take, Ok, Err}
use Rattle.std.specs.declared.result.Result.{Result as Answer}
use Rattle.section_bytes.specs.Read.{Result, gives, read_then, pick}
use Rattle.section_bytes.specs.Error.{refusal}
use Rattle.section_bytes.specs.Common.{initial_length_size}
use Rattle.section_bytes.specs.Reader.{uint}
use Rattle.section_bytes.specs.declared.Span.{Span}
use Rattle.section_bytes.specs.declared.common.Encoding.{Encoding}
use Rattle.section_bytes.specs.declared.common.DwarfFileType.{DwarfFileType}
use Rattle.section_bytes.specs.declared.common.DwarfFileType.TheVariants.{Main, Dwo}
use Rattle.section_bytes.specs.declared.error.Error.{Error}
use Rattle.section_bytes.specs.declared.endianity.RunTimeEndian.{RunTimeEndian}
use Rattle.tables.specs.Header.{head, unit_encoding}
use Rattle.tables.specs.declared.header.Head.{Head}
use Rattle.tables.specs.declared.lists.ListsHeader.{ListsHeader}

-- a header, and the part of the section that is left of its unit
pub record Parsed : Type 0 where
  pub header : ListsHeader
  pub rest : Span

abbrev pub parsed : ListsHeader → Span → Parsed
parsed h r = record { header = h; rest = r }

abbrev pub told_lists : Answer (ListsHeader × Span) Error → Result Parsed
told_lists (Ok p) = gives (parsed p.0 p.1)
told_lists (Err e) = refusal e

-- what is left between a place and the unit's end
abbrev pub rest_of : Head → ℕ → Span
rest_of h c = record { offset = c; len = h.end - c }

abbrev pub header_of : Head → ℕ → ListsHeader
header_of h count = record { encoding = unit_encoding h; offset_entry_count = count }

-- the fields, then four bytes that count the offsets, inside the unit
unfoldable pub lists_header : RunTimeEndian → List ℕ → ℕ → Result Parsed
lists_header endian s at =
    read_then (head endian s at) (λ h c.
    read_then (uint endian 4 (take h.end s) c) (λ count d. gives (parsed (header_of h count) (rest_of h d))))

-- unit_length, version, address_size, segment_selector_size, offset_entry_count
abbrev pub header_size : Encoding → ℕ
header_size encoding = initial_length_size encoding.format + 8

-- split files leave out the attribute that says where the offsets begin: there it is after the header (gimli's rule)
abbrev pub base_in : Encoding → DwarfFileType → ℕ
base_in encoding Main = 0
base_in encoding Dwo = header_size encoding

unfoldable pub default_base : Encoding → DwarfFileType → ℕ
default_base encoding file = pick (leb 5 encoding.version) (base_in encoding file) 0
