-- The worked examples of docs/SCOPE.md, its examples of refusals and the open points of docs/DECISIONS.md that compute: one table,
-- proved from the definitions.
-- A list is shown whole: what its opening answers, then what each call of the walk hands out, with the walk after it.
use Rattle.std.specs.Prelude.{◌≡◌, refl, Bool, true, false, List, [], ◌∷◌, ℕ, zero, suc, ◌-◌, ◌^◌, length}
use Rattle.section_bytes.specs.Read.{Result, gives, refused, got, Read, and_then}
use Rattle.section_bytes.specs.Endianity.{little}
use Rattle.section_bytes.specs.Leb128.{unsigned_from, unsigned}
use Rattle.section_bytes.specs.Reader.{skip, uint, split, truncate, part_of, is_size, address, address_size_at, length_of, initial_length}
use Rattle.section_bytes.specs.declared.UnitLength.{UnitLength}
use Rattle.section_bytes.specs.declared.common.Encoding.{Encoding}
use Rattle.section_bytes.specs.declared.common.Format.{Format}
use Rattle.section_bytes.specs.declared.common.Format.TheVariants.{Dwarf32, Dwarf64}
use Rattle.section_bytes.specs.declared.endianity.RunTimeEndian.{RunTimeEndian}
use Rattle.section_bytes.specs.declared.endianity.RunTimeEndian.TheVariants.{Little}
use Rattle.tables.specs.Header.{fields, head}
use Rattle.tables.specs.Lists.{Parsed, parsed, lists_header}
use Rattle.tables.specs.Row.{row_at, offset_at}
use Rattle.tables.specs.Next.{Next, ends, hands}
use Rattle.tables.specs.Addr.{address_at, addr_header, headers_at, next_header, entries_of, next_entry}
use Rattle.tables.specs.declared.addr.AddrHeader.{AddrHeader}
use Rattle.tables.specs.declared.addr.AddrHeaderIter.{AddrHeaderIter}
use Rattle.tables.specs.declared.addr.AddrEntryIter.{AddrEntryIter}
use Rattle.entries.specs.Forms.{versioned_length, block}
use Rattle.entries.specs.Kinds.{range_kinds, location_kinds, kind_of, coded, of_pair, bare, range_entry_by, location_entry, raw_at}
use Rattle.entries.specs.declared.Expression.{Expression}
use Rattle.lists.specs.Convert.{convert, table_at}
use Rattle.lists.specs.Open.{walk_at, one_more, opened}
use Rattle.lists.specs.Counted.{left_by}
use Rattle.lists.specs.Walk.{ranges, locations, Item, item, Trace, over, trace_from, trace, next, next_range, handed}
use Rattle.lists.specs.declared.Walk.{Walk}

abbrev pub enc : ℕ → ℕ → Encoding
enc version size = record { address_size = size; format = Dwarf32; version = version }

-- the address table of docs/SCOPE.md; its addresses start at 8
abbrev pub table : List ℕ
table = 0x0c ∷ 0x00 ∷ 0x00 ∷ 0x00 ∷ 0x05 ∷ 0x00 ∷ 0x04 ∷ 0x00 ∷ 0x10 ∷ 0x00 ∷ 0x00 ∷ 0x00 ∷ 0x20 ∷ 0x00 ∷ 0x00 ∷ 0x00 ∷ []

-- a list by its byte order, its address table and that table's base, then version, address size, bytes, offset and base address
unfoldable pub ranges_in : RunTimeEndian → List ℕ → ℕ → ℕ → ℕ → List ℕ → ℕ → ℕ → Result (Trace Unit)
unfolding opened one_more trace trace_from convert address_at row_at range_entry_by raw_at coded bare of_pair kind_of range_kinds address skip uint is_size little unsigned unsigned_from
ranges_in endian t b version size s offset base =
    and_then (opened (enc version size) s offset base)
    (λ w. gives (trace (ranges (enc version size) endian s) (table_at endian (enc version size) (record { 0 = b }) t) size (length s) w))

abbrev pub range : ℕ → ℕ → List ℕ → ℕ → ℕ → Result (Trace Unit)
range version size s offset base = ranges_in Little table 8 version size s offset base

unfoldable pub location : Bool → ℕ → ℕ → List ℕ → ℕ → ℕ → Result (Trace Expression)
unfolding
    opened one_more trace trace_from convert address_at row_at location_entry raw_at coded bare of_pair kind_of location_kinds versioned_length block split address skip uint is_size little unsigned unsigned_from
location dwo version size s offset base =
    and_then (opened (enc version size) s offset base)
    (λ w. gives (trace (locations dwo (enc version size) Little s) (table_at Little (enc version size) (record { 0 = 8 }) table) size (length s) w))

abbrev pub expression : ℕ → ℕ → Expression
expression offset len = record { offset = offset; len = len }

-- `00`; the empty section
end_mark : range 5 4 (0x00 ∷ []) 0 0 ≡ gives (over (walk_at 1 0 1))
unfolding ranges_in
end_mark = refl

empty_section : range 5 4 [] 0 0 ≡ gives (over (walk_at 0 0 0))
unfolding ranges_in
empty_section = refl

past_the_section : range 5 4 [] 1 0 ≡ refused 1 []
unfolding ranges_in
past_the_section = refl

-- ranges by start and end, by offsets, at the tombstone bound, past 2^32, and of one byte
start_end : range 5 4 (0x06 ∷ 0x10 ∷ 0x00 ∷ 0x00 ∷ 0x00 ∷ 0x20 ∷ 0x00 ∷ 0x00 ∷ 0x00 ∷ 0x00 ∷ []) 0 0
    ≡ gives (handed (gives (item 0x10 0x20 tt)) (walk_at 9 0 1) (over (walk_at 10 0 2)))
unfolding ranges_in
start_end = refl

padded_offsets : range 5 4 (0x04 ∷ 0x01 ∷ 0x82 ∷ 0x00 ∷ 0x00 ∷ []) 0 0x1000
    ≡ gives (handed (gives (item 0x1001 0x1002 tt)) (walk_at 4 0x1000 1) (over (walk_at 5 0x1000 2)))
unfolding ranges_in
padded_offsets = refl

below_tombstone : range 5 4 (0x04 ∷ 0x00 ∷ 0x01 ∷ 0x00 ∷ []) 0 0xfffffffd
    ≡ gives (handed (gives (item 0xfffffffd 0xfffffffe tt)) (walk_at 3 0xfffffffd 1) (over (walk_at 4 0xfffffffd 2)))
unfolding ranges_in
below_tombstone = refl

at_tombstone : range 5 4 (0x04 ∷ 0x00 ∷ 0x01 ∷ 0x00 ∷ []) 0 0xfffffffe ≡ gives (over (walk_at 4 0xfffffffe 2))
unfolding ranges_in
at_tombstone = refl

base_at_tombstone : range 5 4 (0x04 ∷ 0x80 ∷ 0x02 ∷ 0x90 ∷ 0x02 ∷ 0x00 ∷ []) 0 0xfffffffe
    ≡ gives (over (walk_at 6 0xfffffffe 2))
unfolding ranges_in
base_at_tombstone = refl

wrapped_sum : range 5 4 (0x04 ∷ 0x80 ∷ 0x02 ∷ 0x90 ∷ 0x02 ∷ 0x00 ∷ []) 0 0xffffff00
    ≡ gives (handed (gives (item 0 0x10 tt)) (walk_at 5 0xffffff00 1) (over (walk_at 6 0xffffff00 2)))
unfolding ranges_in
wrapped_sum = refl

size_one : range 5 1 (0x07 ∷ 0xf0 ∷ 0x0f ∷ 0x00 ∷ []) 0 0
    ≡ gives (handed (gives (item 0xf0 0xff tt)) (walk_at 3 0 1) (over (walk_at 4 0 2)))
unfolding ranges_in
size_one = refl

size_one_skipped : range 5 1 (0x07 ∷ 0xf0 ∷ 0x20 ∷ 0x00 ∷ []) 0 0 ≡ gives (over (walk_at 4 0 2))
unfolding ranges_in
size_one_skipped = refl

-- nine `80`, then the tenth byte
abbrev tenth : ℕ → List ℕ
tenth b = 0x80 ∷ 0x80 ∷ 0x80 ∷ 0x80 ∷ 0x80 ∷ 0x80 ∷ 0x80 ∷ 0x80 ∷ 0x80 ∷ b ∷ []

tenth_01 : unsigned (tenth 0x01) 0 ≡ gives (got (2 ^ 63) 10)
unfolding unsigned unsigned_from
tenth_01 = refl

tenth_00 : unsigned (tenth 0x00) 0 ≡ gives (got 0 10)
unfolding unsigned unsigned_from
tenth_00 = refl

tenth_02 : unsigned (tenth 0x02) 0 ≡ refused 2 []
unfolding unsigned unsigned_from
tenth_02 = refl

-- bare pairs: a base and a pair; a pair of equal numbers, which ends nothing; the end pair, after which nothing is read
bare_pairs : range 4 2 (0xff ∷ 0xff ∷ 0x00 ∷ 0x20 ∷ 0x01 ∷ 0x00 ∷ 0x03 ∷ 0x00 ∷ 0x00 ∷ 0x00 ∷ 0x00 ∷ 0x00 ∷ []) 0 0
    ≡ gives (handed (gives (item 0x2001 0x2003 tt)) (walk_at 8 0x2000 2) (over (walk_at 12 0x2000 3)))
unfolding ranges_in
bare_pairs = refl

equal_pair : range 4 2 (0x05 ∷ 0x00 ∷ 0x05 ∷ 0x00 ∷ 0x01 ∷ 0x00 ∷ 0x03 ∷ 0x00 ∷ 0x00 ∷ 0x00 ∷ 0x00 ∷ 0x00 ∷ []) 0 0
    ≡ gives (handed (gives (item 1 3 tt)) (walk_at 8 0 2) (over (walk_at 12 0 3)))
unfolding ranges_in
equal_pair = refl

end_pair : range 4 2 (0x00 ∷ 0x00 ∷ 0x00 ∷ 0x00 ∷ 0x01 ∷ 0x00 ∷ 0x03 ∷ 0x00 ∷ []) 0 0 ≡ gives (over (walk_at 8 0 1))
unfolding ranges_in
end_pair = refl

-- the address table: a list with a row that is not there goes on after the refusal
by_index : range 5 4 (0x02 ∷ 0x00 ∷ 0x02 ∷ 0x03 ∷ 0x00 ∷ 0x08 ∷ 0x00 ∷ []) 0 0
    ≡ gives (handed (refused 1 []) (walk_at 3 0 1) (handed (gives (item 0x10 0x18 tt)) (walk_at 6 0 2) (over (walk_at 7 0 3))))
unfolding ranges_in
by_index = refl

-- the same, call after call
unfoldable pub calls : List ℕ → ℕ → Walk → List (Next (Item Unit) Walk)
unfolding next one_more trace trace_from convert address_at row_at range_entry_by raw_at coded kind_of range_kinds address skip uint is_size little unsigned unsigned_from
calls s zero w = []
calls s (suc n) w =
    let r = next_range (enc 5 4) Little s table (record { 0 = 8 }) w in r ∷ calls s n (left_by r)

by_calls : calls (0x02 ∷ 0x00 ∷ 0x02 ∷ 0x03 ∷ 0x00 ∷ 0x08 ∷ 0x00 ∷ []) 4 (walk_at 0 0 0)
    ≡ hands (refused 1 []) (walk_at 3 0 1) ∷ hands (gives (item 0x10 0x18 tt)) (walk_at 6 0 2) ∷ ends (walk_at 7 0 3) ∷ ends (walk_at 7 0 3) ∷ []
unfolding calls
by_calls = refl

-- the address table: rows by index, by address size, base, index and bytes
unfoldable pub row : ℕ → ℕ → ℕ → List ℕ → Result ℕ
unfolding address_at row_at address skip uint is_size little
row size base index s = address_at Little size (record { 0 = base }) (record { 0 = index }) s

row_0 : row 4 8 0 table ≡ gives 0x10
unfolding row
row_0 = refl

row_1 : row 4 8 1 table ≡ gives 0x20
unfolding row
row_1 = refl

row_2 : row 4 8 2 table ≡ refused 1 []
unfolding row
row_2 = refl

-- the address table: its header, and the headers of its section one after the other
abbrev header : AddrHeader
header = record { offset = record { 0 = 0 }; encoding = enc 5 4; length = 0xc; entries = record { offset = 8; len = 8 } }

headers : List ℕ → ℕ → Next AddrHeader AddrHeaderIter
unfolding next_header addr_header head fields initial_length truncate address_size_at skip uint is_size little
headers s at = next_header Little s (headers_at at)

first_header : headers table 0 ≡ hands (gives header) (headers_at 16)
unfolding headers
first_header = refl

no_more_headers : headers table 16 ≡ ends (headers_at 16)
unfolding headers
no_more_headers = refl

-- the address table: its entries one after the other, from its header on; what is left is at a place, with a length
unfoldable pub entries : List ℕ → AddrEntryIter → Next ℕ AddrEntryIter
unfolding next_entry part_of address skip uint is_size little
entries s w = next_entry Little s w

abbrev pub left : ℕ → ℕ → ℕ → AddrEntryIter
left size at len = record { entries = record { offset = at; len = len }; encoding = enc 5 size }

entry_0 : entries table (entries_of header) ≡ hands (gives 0x10) (left 4 12 4)
unfolding entries
entry_0 = refl

entry_1 : entries table (left 4 12 4) ≡ hands (gives 0x20) (left 4 16 0)
unfolding entries
entry_1 = refl

no_more_entries : entries table (left 4 16 0) ≡ ends (left 4 16 0)
unfolding entries
no_more_entries = refl

-- locations, with the bytes of their expressions
abbrev default : List ℕ
default = 0x05 ∷ 0x01 ∷ 0x50 ∷ 0x00 ∷ []

default_location : location false 5 4 default 0 0
    ≡ gives (handed (gives (item 0 (2 ^ 64 - 1) (expression 2 1))) (walk_at 3 0 1) (over (walk_at 4 0 2)))
unfolding location
default_location = refl

default_expression : part_of default 2 1 ≡ 0x50 ∷ []
unfolding part_of
default_expression = refl

abbrev split_list : List ℕ
split_list = 0x03 ∷ 0x00 ∷ 0x08 ∷ 0x00 ∷ 0x00 ∷ 0x00 ∷ 0x01 ∷ 0x00 ∷ 0x50 ∷ 0x00 ∷ []

split_4 : location true 4 4 split_list 0 0
    ≡ gives (handed (gives (item 0x10 0x18 (expression 8 1))) (walk_at 9 0 1) (over (walk_at 10 0 2)))
unfolding location
split_4 = refl

split_4_expression : part_of split_list 8 1 ≡ 0x50 ∷ []
unfolding part_of
split_4_expression = refl

-- bare locations: the pair, the expression's length in two bytes, the expression; a base and the end pair have none
abbrev bare_list : List ℕ
bare_list = 0xff ∷ 0xff ∷ 0x00 ∷ 0x20 ∷ 0x01 ∷ 0x00 ∷ 0x03 ∷ 0x00 ∷ 0x01 ∷ 0x00 ∷ 0x50 ∷ 0x00 ∷ 0x00 ∷ 0x00 ∷ 0x00 ∷ 0x51 ∷ []

bare_locations : location false 4 2 bare_list 0 0
    ≡ gives (handed (gives (item 0x2001 0x2003 (expression 10 1))) (walk_at 11 0x2000 2) (over (walk_at 16 0x2000 3)))
unfolding location
bare_locations = refl

bare_expression : part_of bare_list 10 1 ≡ 0x50 ∷ []
unfolding part_of
bare_expression = refl

-- rows 1 to 4 of the refusals: a raw refusal empties the walk
refusal_1 : range 5 4 (0x06 ∷ 0x10 ∷ 0x00 ∷ []) 0 0 ≡ gives (handed (refused 1 []) (walk_at 3 0 0) (over (walk_at 3 0 0)))
unfolding ranges_in
refusal_1 = refl

refusal_2 : range 5 4 (0x04 ∷ tenth 0x02) 0 0 ≡ gives (handed (refused 2 []) (walk_at 11 0 0) (over (walk_at 11 0 0)))
unfolding ranges_in
refusal_2 = refl

refusal_3 : range 5 4 (0x08 ∷ []) 0 0 ≡ gives (handed (refused 3 (0x08 ∷ [])) (walk_at 1 0 0) (over (walk_at 1 0 0)))
unfolding ranges_in
refusal_3 = refl

refusal_4 : location false 5 4 (0x09 ∷ []) 0 0 ≡ gives (handed (refused 4 (0x09 ∷ [])) (walk_at 1 0 0) (over (walk_at 1 0 0)))
unfolding location
refusal_4 = refl

-- rows 5 to 8, and 1 for a header: unit past the section's end, unit without the entry count, no bytes
unfoldable pub lists : List ℕ → Result Parsed
unfolding lists_header head fields initial_length truncate address_size_at skip uint is_size little
lists s = lists_header Little s 0

good_header : lists (0x08 ∷ 0x00 ∷ 0x00 ∷ 0x00 ∷ 0x05 ∷ 0x00 ∷ 0x04 ∷ 0x00 ∷ 0x00 ∷ 0x00 ∷ 0x00 ∷ 0x00 ∷ [])
    ≡ gives (parsed (record { encoding = enc 5 4; offset_entry_count = 0 }) (record { offset = 12; len = 0 }))
unfolding lists
good_header = refl

refusal_5 : lists (0x08 ∷ 0x00 ∷ 0x00 ∷ 0x00 ∷ 0x04 ∷ 0x00 ∷ 0x04 ∷ 0x00 ∷ 0x00 ∷ 0x00 ∷ 0x00 ∷ 0x00 ∷ [])
    ≡ refused 5 (0x04 ∷ [])
unfolding lists
refusal_5 = refl

refusal_6 : lists (0x08 ∷ 0x00 ∷ 0x00 ∷ 0x00 ∷ 0x05 ∷ 0x00 ∷ 0x05 ∷ 0x00 ∷ 0x00 ∷ 0x00 ∷ 0x00 ∷ 0x00 ∷ [])
    ≡ refused 6 (0x05 ∷ [])
unfolding lists
refusal_6 = refl

refusal_7 : lists (0x08 ∷ 0x00 ∷ 0x00 ∷ 0x00 ∷ 0x05 ∷ 0x00 ∷ 0x04 ∷ 0x01 ∷ 0x00 ∷ 0x00 ∷ 0x00 ∷ 0x00 ∷ [])
    ≡ refused 7 (0x01 ∷ [])
unfolding lists
refusal_7 = refl

refusal_8 : lists (0xf0 ∷ 0xff ∷ 0xff ∷ 0xff ∷ []) ≡ refused 8 (0xfffffff0 ∷ [])
unfolding lists
refusal_8 = refl

header_past_the_section : lists (0x08 ∷ 0x00 ∷ 0x00 ∷ 0x00 ∷ 0x05 ∷ 0x00 ∷ 0x04 ∷ 0x00 ∷ 0x00 ∷ 0x00 ∷ 0x00 ∷ [])
    ≡ refused 1 []
unfolding lists
header_past_the_section = refl

count_past_the_unit : lists (0x04 ∷ 0x00 ∷ 0x00 ∷ 0x00 ∷ 0x05 ∷ 0x00 ∷ 0x04 ∷ 0x00 ∷ 0x00 ∷ 0x00 ∷ 0x00 ∷ 0x00 ∷ [])
    ≡ refused 1 []
unfolding lists
count_past_the_unit = refl

no_header : lists [] ≡ refused 1 []
unfolding lists
no_header = refl

-- initial lengths at the bounds of the reserved ones
length_at : List ℕ → Read UnitLength
unfolding initial_length skip uint little
length_at s = initial_length Little s 0

length_32 : length_at (0xef ∷ 0xff ∷ 0xff ∷ 0xff ∷ []) ≡ gives (got (length_of 0xffffffef Dwarf32) 4)
unfolding length_at
length_32 = refl

length_reserved : length_at (0xfe ∷ 0xff ∷ 0xff ∷ 0xff ∷ []) ≡ refused 8 (0xfffffffe ∷ [])
unfolding length_at
length_reserved = refl

length_64 : length_at (0xff ∷ 0xff ∷ 0xff ∷ 0xff ∷ 0x10 ∷ 0x00 ∷ 0x00 ∷ 0x00 ∷ 0x00 ∷ 0x00 ∷ 0x00 ∷ 0x00 ∷ [])
    ≡ gives (got (length_of 0x10 Dwarf64) 12)
unfolding length_at
length_64 = refl

-- row 9: a product or a sum too large, in the address table and in an offset table
refusal_9 : row 8 0 (2 ^ 61) [] ≡ refused 9 []
unfolding row
refusal_9 = refl

offset : Format → ℕ → ℕ → List ℕ → Result ℕ
unfolding offset_at row_at skip uint little
offset format base index s = offset_at Little format base index s

offset_from_base : offset Dwarf32 4 1 (0x00 ∷ 0x00 ∷ 0x00 ∷ 0x00 ∷ 0x08 ∷ 0x00 ∷ 0x00 ∷ 0x00 ∷ 0x10 ∷ 0x00 ∷ 0x00 ∷ 0x00 ∷ [])
    ≡ gives 0x14
unfolding offset
offset_from_base = refl

offset_product : offset Dwarf64 0 (2 ^ 61) [] ≡ refused 9 []
unfolding offset
offset_product = refl

offset_sum : offset Dwarf64 1 0 (0x00 ∷ 0xff ∷ 0xff ∷ 0xff ∷ 0xff ∷ 0xff ∷ 0xff ∷ 0xff ∷ 0xff ∷ [])
    ≡ refused 9 []
unfolding offset
offset_sum = refl

-- open point 1: a begin is looked up before its end (size 8, no table; the index 2^61 gives 9, the index 0 gives 1)
lost_begin : ranges_in Little [] 0 5 8 (0x02 ∷ 0x80 ∷ 0x80 ∷ 0x80 ∷ 0x80 ∷ 0x80 ∷ 0x80 ∷ 0x80 ∷ 0x80 ∷ 0x20 ∷ 0x00 ∷ 0x00 ∷ []) 0 0
    ≡ gives (handed (refused 9 []) (walk_at 11 0 1) (over (walk_at 12 0 2)))
unfolding ranges_in
lost_begin = refl

lost_end : ranges_in Little [] 0 5 8 (0x02 ∷ 0x00 ∷ 0x80 ∷ 0x80 ∷ 0x80 ∷ 0x80 ∷ 0x80 ∷ 0x80 ∷ 0x80 ∷ 0x80 ∷ 0x20 ∷ 0x00 ∷ []) 0 0
    ≡ gives (handed (refused 1 []) (walk_at 11 0 1) (over (walk_at 12 0 2)))
unfolding ranges_in
lost_end = refl

-- open point 2: base and product are never added
never_added : row 8 8 (2 ^ 61 - 1) (0x00 ∷ 0x00 ∷ 0x00 ∷ 0x00 ∷ 0x00 ∷ 0x00 ∷ 0x00 ∷ 0x00 ∷ []) ≡ refused 1 []
unfolding row
never_added = refl

-- open point 4: the end mark empties the walk, and what follows it is not read
end_empties : range 5 4 (0x00 ∷ 0x08 ∷ []) 0 0 ≡ gives (over (walk_at 2 0 1))
unfolding ranges_in
end_empties = refl

end_again : calls (0x00 ∷ 0x08 ∷ []) 3 (walk_at 0 0 0)
    ≡ ends (walk_at 2 0 1) ∷ ends (walk_at 2 0 1) ∷ ends (walk_at 2 0 1) ∷ []
unfolding calls
end_again = refl

-- open point 6: in an address table the size is refused after the tests of base and index
size_after_base : row 5 1 0 [] ≡ refused 1 []
unfolding row
size_after_base = refl

size_last : row 5 0 0 [] ≡ refused 6 (0x05 ∷ [])
unfolding row
size_last = refl

-- open point 7: an empty expression at the section's end
empty_expression : location false 5 4 (0x05 ∷ 0x00 ∷ []) 0 0
    ≡ gives (handed (gives (item 0 (2 ^ 64 - 1) (expression 2 0))) (walk_at 2 0 1) (over (walk_at 2 0 1)))
unfolding location
empty_expression = refl

-- open point 9: the last entry is cut at its table, which ends at 9
cut_entry : entries (0x05 ∷ 0x00 ∷ 0x00 ∷ 0x00 ∷ 0x05 ∷ 0x00 ∷ 0x02 ∷ 0x00 ∷ 0xaa ∷ 0xbb ∷ []) (left 2 8 1)
    ≡ hands (refused 1 []) (left 2 9 0)
unfolding entries
cut_entry = refl
