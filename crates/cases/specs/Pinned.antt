-- Equations at the edges of the definitions, where no worked example of docs/SCOPE.md stands: a definition that is changed there is
-- noticed here.
use Rattle.std.specs.Prelude.{◌≡◌, refl, false, List, [], ◌∷◌, ℕ, length, take}
use Rattle.section_bytes.specs.Read.{gives, refused, got}
use Rattle.section_bytes.specs.Endianity.{little}
use Rattle.section_bytes.specs.Reader.{skip, uint, truncate, part_of, is_size, address, address_size_at, initial_length}
use Rattle.section_bytes.specs.declared.common.Encoding.{Encoding}
use Rattle.section_bytes.specs.declared.common.Format.TheVariants.{Dwarf32}
use Rattle.section_bytes.specs.declared.endianity.RunTimeEndian.TheVariants.{Little}
use Rattle.tables.specs.Header.{fields, head}
use Rattle.tables.specs.Lists.{parsed, lists_header}
use Rattle.tables.specs.Next.{hands}
use Rattle.tables.specs.Addr.{next_entry}
use Rattle.tables.specs.declared.addr.AddrEntryIter.{AddrEntryIter}
use Rattle.entries.specs.Forms.{stop}
use Rattle.entries.specs.Kinds.{raw_at, raw_range, raw_location}
use Rattle.entries.specs.declared.RawRngListEntry.TheVariants as rng
use Rattle.entries.specs.declared.RawLocListEntry.TheVariants as loc
use Rattle.lists.specs.Open.{walk_at, opened}
use Rattle.lists.specs.Walk.{Trace, item, over, next, next_raw, convert_raw, next_range, next_raw_range, converted_range, next_location, next_raw_location, converted_location, handed, comes}
use Rattle.coverage.specs.Covered.{source, range_list, yielded_in, yielded_of, coverage_of}
use Rattle.coverage.specs.Kept.{ranges_of, padded, kept_as, lawful_from, is_lawful}
use Rattle.coverage.specs.Ranges.{limit}
use Rattle.coverage.specs.Told.{made, placed, putting}
use Rattle.sheets.specs.Sheet.{sheet_kept}
use Rattle.canonical.specs.Canonical.{canonical_of, canonical_kept}
use Rattle.coverage.specs.Output.{output, written}
use Rattle.coverage.specs.declared.Coverage.{Coverage}

abbrev enc : ℕ → Encoding
enc size = record { address_size = size; format = Dwarf32; version = 5 }

-- address size 5 is refused with 6 and the size: an opening before its offset is looked at; a call on a walk before its
-- bytes are, and the walk is emptied; a conversion leaves the walk as it was
opening_size : opened (enc 5) [] 1 0 ≡ refused 6 (5 ∷ [])
unfolding opened is_size
opening_size = refl

abbrev two : List ℕ
two = 0x08 ∷ 0x09 ∷ []

range_size : next_range (enc 5) Little two [] (record { 0 = 0 }) (walk_at 0 7 3) ≡ hands (refused 6 (5 ∷ [])) (walk_at 2 7 3)
unfolding next is_size
range_size = refl

location_size : next_location false (enc 5) Little two [] (record { 0 = 0 }) (walk_at 0 7 3) ≡ hands (refused 6 (5 ∷ [])) (walk_at 2 7 3)
unfolding next is_size
location_size = refl

raw_range_size : next_raw_range (enc 5) Little two (walk_at 0 7 3) ≡ hands (refused 6 (5 ∷ [])) (walk_at 2 7 3)
unfolding next_raw is_size
raw_range_size = refl

raw_location_size : next_raw_location false (enc 5) Little two (walk_at 0 7 3) ≡ hands (refused 6 (5 ∷ [])) (walk_at 2 7 3)
unfolding next_raw is_size
raw_location_size = refl

converted_range_size : converted_range (enc 5) Little [] (record { 0 = 0 }) (walk_at 1 7 3) (rng.BaseAddress 9)
    ≡ comes (refused 6 (5 ∷ [])) (walk_at 1 7 3)
unfolding convert_raw is_size
converted_range_size = refl

converted_location_size : converted_location (enc 5) Little [] (record { 0 = 0 }) (walk_at 1 7 3) (loc.BaseAddress 9)
    ≡ comes (refused 6 (5 ∷ [])) (walk_at 1 7 3)
unfolding convert_raw is_size
converted_location_size = refl

-- an address of a table of size 5 is refused so too, and nothing of the table is left
abbrev left : ℕ → ℕ → AddrEntryIter
left at len = record { entries = record { offset = at; len = len }; encoding = enc 5 }

entry_size : next_entry Little two (left 0 2) ≡ hands (refused 6 (5 ∷ [])) (left 2 0)
unfolding next_entry part_of address is_size
entry_size = refl

-- at a place that is the section's length a list ends, there
range_at_the_end : raw_range (enc 4) Little (0x08 ∷ []) 1 ≡ gives (got stop 1)
unfolding raw_at
range_at_the_end = refl

location_at_the_end : raw_location false (enc 4) Little (0x09 ∷ []) 1 ≡ gives (got stop 1)
unfolding raw_at
location_at_the_end = refl

-- a part that does not lie in the section is empty
part_past_the_section : part_of (0x01 ∷ 0x02 ∷ 0x03 ∷ []) 2 2 ≡ []
unfolding part_of
part_past_the_section = refl

-- a header is read at its place
header_at_1 : lists_header Little (0xff ∷ 0x08 ∷ 0x00 ∷ 0x00 ∷ 0x00 ∷ 0x05 ∷ 0x00 ∷ 0x04 ∷ 0x00 ∷ 0x02 ∷ 0x00 ∷ 0x00 ∷ 0x00 ∷ []) 1
    ≡ gives (parsed (record { encoding = enc 4; offset_entry_count = 2 }) (record { offset = 13; len = 0 }))
unfolding lists_header head fields initial_length truncate address_size_at skip uint is_size little
header_at_1 = refl

-- a refused call leaves the output as it was; one that fits writes its bytes and leaves the others; one that does not fit is
-- refused with 11
written_refused : written (refused 3 (0x08 ∷ [])) (0x01 ∷ []) ≡ output (refused 3 (0x08 ∷ [])) (0x01 ∷ [])
unfolding written
written_refused = refl

written_fits : written (gives (0x00 ∷ [])) (0x01 ∷ 0x02 ∷ []) ≡ output (gives 1) (0x00 ∷ 0x02 ∷ [])
unfolding written
written_fits = refl

written_no_space : written (gives (0x07 ∷ 0x00 ∷ [])) (0x01 ∷ []) ≡ output (refused 11 []) (0x01 ∷ [])
unfolding written
written_no_space = refl

-- runs are put at the front of what is lent, which may be longer than they are, and each of another length; into less they are
-- refused with 11, and nothing is written
runs_fit : putting (gives ((0x10, 0x20) ∷ [])) (0x01 ∷ []) (0x02 ∷ 0x03 ∷ []) ≡ placed (gives 1) (0x10 ∷ []) (0x20 ∷ 0x03 ∷ [])
unfolding putting
runs_fit = refl

runs_no_space : putting (gives ((0x10, 0x20) ∷ [])) (0x01 ∷ []) [] ≡ placed (refused 11 []) (0x01 ∷ []) []
unfolding putting
runs_no_space = refl

runs_none : putting (gives []) [] [] ≡ placed (gives 0) [] []
unfolding putting
runs_none = refl

-- a coverage of one range counts it, has as many places as the limit and is 0 past it; that of a refused list counts none
abbrev one : Coverage
one = (made (gives ((0x10, 0x20) ∷ []))).coverage

one_counted : one.n ≡ 1
unfolding kept_as
one_counted = refl

one_places : length one.begins ≡ limit
unfolding kept_as padded
one_places = refl

one_begin : take 3 one.begins ≡ 0x10 ∷ 0 ∷ 0 ∷ []
unfolding kept_as padded
one_begin = refl

one_end : take 3 one.ends ≡ 0x20 ∷ 0 ∷ 0 ∷ []
unfolding kept_as padded
one_end = refl

abbrev none : Coverage
none = (made (refused 3 (0x08 ∷ []))).coverage

none_counted : none.n ≡ 0
unfolding kept_as
none_counted = refl

none_begin : take 3 none.begins ≡ 0 ∷ 0 ∷ 0 ∷ []
unfolding kept_as padded
none_begin = refl

none_verdict : (made (refused 3 (0x08 ∷ []))).verdict ≡ refused 3 (0x08 ∷ [])
none_verdict = refl

-- a range and then refusal 3: without room for the range refusal 10 comes first, with room for it refusal 3
abbrev refused_after : Trace Unit
refused_after = handed (gives (item 0x10 0x20 tt)) (walk_at 9 0 1) (handed (refused 3 (0x08 ∷ [])) (walk_at 10 0 1) (over (walk_at 10 0 1)))

no_room : yielded_in 0 refused_after ≡ refused 10 []
unfolding yielded_in
no_room = refl

room_for_one : yielded_in 1 refused_after ≡ refused 3 (0x08 ∷ [])
unfolding yielded_in
room_for_one = refl

-- an opening's refusal is the answer of the canonical list too
not_opened : canonical_of (source range_list (enc 4) Little [] 1 0 [] (record { 0 = 0 })) ≡ refused 1 []
unfolding canonical_of coverage_of yielded_of opened is_size
not_opened = refl

-- a coverage handed in whose begin is its end makes no lawful sheet: 12
abbrev empty : Coverage
empty = record { n = 1; begins = 0x10 ∷ []; ends = 0x10 ∷ [] }

canonical_unlawful : canonical_kept empty ≡ refused 12 []
unfolding canonical_kept is_lawful ranges_of lawful_from
canonical_unlawful = refl

sheet_unlawful : sheet_kept empty ≡ refused 12 []
unfolding sheet_kept is_lawful ranges_of lawful_from
sheet_unlawful = refl
