-- Address tables (DWARF 5, 7.27).
use Rattle.std.specs.Prelude.{ℕ, ◌+◌, ◌-◌, List, leb, length}
use Rattle.section_bytes.specs.Read.{Result, gives, refused, got, Read, read_then, pick}
use Rattle.section_bytes.specs.Reader.{address, part_of}
use Rattle.section_bytes.specs.declared.common.DebugAddrBase.{DebugAddrBase}
use Rattle.section_bytes.specs.declared.common.DebugAddrIndex.{DebugAddrIndex}
use Rattle.section_bytes.specs.declared.endianity.RunTimeEndian.{RunTimeEndian}
use Rattle.tables.specs.Header.{head, unit_encoding}
use Rattle.tables.specs.Lists.{rest_of}
use Rattle.tables.specs.Row.{row_at}
use Rattle.tables.specs.Next.{Next, ends, hands}
use Rattle.tables.specs.declared.header.Head.{Head}
use Rattle.tables.specs.declared.addr.AddrHeader.{AddrHeader}
use Rattle.tables.specs.declared.addr.AddrHeaderIter.{AddrHeaderIter}
use Rattle.tables.specs.declared.addr.AddrEntryIter.{AddrEntryIter}

-- the address of an index: its row, then an address of the size
unfoldable pub address_at : RunTimeEndian → ℕ → DebugAddrBase → DebugAddrIndex → List ℕ → Result ℕ
address_at endian size base index s =
    read_then (row_at base.0 index.0 size s) (λ _ c. read_then (address endian size s c) (λ a _. gives a))

abbrev pub table_of : ℕ → Head → ℕ → AddrHeader
table_of at h c = record { offset = record { 0 = at }; encoding = unit_encoding h; length = h.length; entries = rest_of h c }

-- a table's header, and the place after the table: its addresses follow the header, up to the unit's end
unfoldable pub addr_header : RunTimeEndian → List ℕ → ℕ → Read AddrHeader
addr_header endian s at = read_then (head endian s at) (λ h c. gives (got (table_of at h c) h.end))

-- the headers of a section, one after the other; a refusal leaves the walk at the section's end
abbrev pub headers_at : ℕ → AddrHeaderIter
headers_at c = record { at = c }

abbrev pub on_header : ℕ → Read AddrHeader → Next AddrHeader AddrHeaderIter
on_header len (gives (got h c)) = hands (gives h) (headers_at c)
on_header len (refused n vs) = hands (refused n vs) (headers_at len)

unfoldable pub next_header : RunTimeEndian → List ℕ → AddrHeaderIter → Next AddrHeader AddrHeaderIter
next_header endian s w = pick (leb (length s) w.at) (ends w) (on_header (length s) (addr_header endian s w.at))

-- the addresses of a table, one after the other, in the part of the section that is left
abbrev pub entries_of : AddrHeader → AddrEntryIter
entries_of h = record { entries = h.entries; encoding = h.encoding }

-- the walk that has n bytes of its part behind it
abbrev pub moved_on : AddrEntryIter → ℕ → AddrEntryIter
moved_on w n = record { entries = record { offset = w.entries.offset + n; len = w.entries.len - n }; encoding = w.encoding }

abbrev pub on_entry : AddrEntryIter → Read ℕ → Next ℕ AddrEntryIter
on_entry w (gives (got a c)) = hands (gives a) (moved_on w c)
on_entry w (refused n vs) = hands (refused n vs) (moved_on w w.entries.len)

abbrev pub next_in_part : RunTimeEndian → List ℕ → AddrEntryIter → Next ℕ AddrEntryIter
next_in_part endian part w = pick (leb (length part) 0) (ends w) (on_entry w (address endian w.encoding.address_size part 0))

unfoldable pub next_entry : RunTimeEndian → List ℕ → AddrEntryIter → Next ℕ AddrEntryIter
next_entry endian s w = next_in_part endian (part_of s w.entries.offset w.entries.len) w
