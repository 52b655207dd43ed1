-- Range lists by tables of kind numbers, and the tables that are loaded (docs/SCOPE.md, "Kind numbers").
use Rattle.std.specs.Prelude.{◌≡◌, refl, Bool, true, false, List, [], ◌∷◌, ◌++◌, map, ℕ, zero, suc, length, replicate}
use Rattle.section_bytes.specs.Read.{Result, gives, refused, and_then}
use Rattle.section_bytes.specs.Endianity.{little}
use Rattle.section_bytes.specs.Leb128.{unsigned_from, unsigned}
use Rattle.section_bytes.specs.Padded.{is_padded, number_at}
use Rattle.section_bytes.specs.Reader.{skip, uint, is_size, address}
use Rattle.section_bytes.specs.Written.{little_bytes, unsigned_in}
use Rattle.section_bytes.specs.declared.endianity.RunTimeEndian.TheVariants.{Little}
use Rattle.tables.specs.Row.{row_at}
use Rattle.tables.specs.Next.{Next, ends, hands}
use Rattle.tables.specs.Addr.{address_at}
use Rattle.entries.specs.Forms.{addr_index}
use Rattle.entries.specs.Kinds.{range_kinds, kind_of, coded, of_pair, bare, range_entry_by, raw_at}
use Rattle.entries.specs.Loaded.{fixed_table}
use Rattle.entries.specs.Numbers.{are_numbers, codes_of, none_twice, is_table, loading}
use Rattle.entries.specs.Padded.{Noted, coded_padded, range_part}
use Rattle.entries.specs.declared.RawRngListEntry.{RawRngListEntry}
use Rattle.entries.specs.declared.RawRngListEntry.TheVariants.{
  AddressOrOffsetPair,
  BaseAddress,
  BaseAddressx,
  StartxEndx,
  StartxLength,
  OffsetPair,
  StartEnd,
  StartLength,
}
use Rattle.lists.specs.Convert.{convert, table_at}
use Rattle.lists.specs.Counted.{left_by}
use Rattle.lists.specs.Open.{walk_at, one_more, opened}
use Rattle.lists.specs.Walk.{ranges_by, Item, item, Trace, over, trace_from, trace, next, next_raw, next_range_by, noted_range_by, handed}
use Rattle.lists.specs.declared.Walk.{Walk}
use Rattle.coverage.specs.Ranges.{insert, inserts}
use Rattle.coverage.specs.Covered.{source, range_list, range_list_by, yielded_in, trace_of, yielded_of, coverage_of}
use Rattle.canonical.specs.Canonical.{entry_bytes, canonical_bytes, canonical_of}
use Rattle.cases.specs.Cases.{enc, table, ranges_in, range}

-- a supplier's table: 10, 11 and 14 to 17 for the kinds 0, 1 and 4 to 7, and no code for kinds 2 and 3
abbrev supplier : List ℕ
supplier = replicate 16 255 ++ 0 ∷ 1 ∷ 255 ∷ 255 ∷ 4 ∷ 5 ∷ 6 ∷ 7 ∷ replicate 232 255

-- the eight codes the other way round, kind 7 first: too short to be loaded
abbrev reversed : List ℕ
reversed = 7 ∷ 6 ∷ 5 ∷ 4 ∷ 3 ∷ 2 ∷ 1 ∷ 0 ∷ []

-- a list by its table of kind numbers, then version, address size, bytes and base address; rows by index are those of docs/SCOPE.md
range_by : List ℕ → ℕ → ℕ → List ℕ → ℕ → Result (Trace Unit)
unfolding opened one_more trace trace_from convert address_at row_at range_entry_by raw_at coded bare of_pair kind_of range_kinds address skip uint is_size little unsigned unsigned_from
range_by kinds version size s base =
    and_then (opened (enc version size) s 0 base)
    (λ w. gives (trace (ranges_by kinds (enc version size) Little s) (table_at Little (enc version size) (record { 0 = 8 }) table) size (length s) w))

-- of version 5 and address size 4, and the same without a table
abbrev by : List ℕ → List ℕ → ℕ → Result (Trace Unit)
by kinds s base = range_by kinds 5 4 s base

abbrev plain : List ℕ → ℕ → Result (Trace Unit)
plain s base = range 5 4 s 0 base

-- a list that yields one range
abbrev one : ℕ → ℕ → Walk → Walk → Result (Trace Unit)
one b e after end = gives (handed (gives (item b e tt)) after (over end))

-- a list of so many bytes whose first code has no kind: it is refused with the code, and nothing was read
abbrev unknown : ℕ → ℕ → Result (Trace Unit)
unknown code len = gives (handed (refused 3 (code ∷ [])) (walk_at len 0 0) (over (walk_at len 0 0)))

-- the examples: with the supplier's table, and renumbered without one
offsets : by supplier (0x14 ∷ 0x01 ∷ 0x05 ∷ 0x10 ∷ []) 0x1000 ≡ one 0x1001 0x1005 (walk_at 3 0x1000 1) (walk_at 4 0x1000 2)
unfolding range_by
offsets = refl

offsets_renumbered : by supplier (0x14 ∷ 0x01 ∷ 0x05 ∷ 0x10 ∷ []) 0x1000 ≡ plain (0x04 ∷ 0x01 ∷ 0x05 ∷ 0x00 ∷ []) 0x1000
unfolding range_by ranges_in
offsets_renumbered = refl

start_length : by supplier (0x17 ∷ 0x10 ∷ 0x00 ∷ 0x00 ∷ 0x00 ∷ 0x08 ∷ 0x10 ∷ []) 0 ≡ one 0x10 0x18 (walk_at 6 0 1) (walk_at 7 0 2)
unfolding range_by
start_length = refl

start_length_renumbered : by supplier (0x17 ∷ 0x10 ∷ 0x00 ∷ 0x00 ∷ 0x00 ∷ 0x08 ∷ 0x10 ∷ []) 0 ≡ plain (0x07 ∷ 0x10 ∷ 0x00 ∷ 0x00 ∷ 0x00 ∷ 0x08 ∷ 0x00 ∷ []) 0
unfolding range_by ranges_in
start_length_renumbered = refl

-- an operand is no code, whether it would have a kind or not
operands : by supplier (0x14 ∷ 0x04 ∷ 0x05 ∷ 0x10 ∷ []) 0x1000 ≡ one 0x1004 0x1005 (walk_at 3 0x1000 1) (walk_at 4 0x1000 2)
unfolding range_by
operands = refl

operands_with_kinds : by supplier (0x14 ∷ 0x10 ∷ 0x14 ∷ 0x10 ∷ []) 0x1000 ≡ one 0x1010 0x1014 (walk_at 3 0x1000 1) (walk_at 4 0x1000 2)
unfolding range_by
operands_with_kinds = refl

-- behind the end mark nothing is read
behind_the_end : by supplier (0x10 ∷ 0x14 ∷ []) 0 ≡ gives (over (walk_at 2 0 1))
unfolding range_by
behind_the_end = refl

-- a code without a kind, though DWARF has one for it: refused with 3 and the code
no_end : by supplier (0x00 ∷ []) 0 ≡ unknown 0x00 1
unfolding range_by
no_end = refl

-- renumbered, such a code is ff, and this is refused
no_end_renumbered : plain (0xff ∷ []) 0 ≡ unknown 0xff 1
unfolding ranges_in
no_end_renumbered = refl

no_offsets : by supplier (0x04 ∷ 0x01 ∷ 0x05 ∷ 0x00 ∷ []) 0 ≡ unknown 0x04 4
unfolding range_by
no_offsets = refl

no_kind_behind : by supplier (0x14 ∷ 0x01 ∷ 0x05 ∷ 0x99 ∷ []) 0
    ≡ gives (handed (gives (item 1 5 tt)) (walk_at 3 0 1) (handed (refused 3 (0x99 ∷ [])) (walk_at 4 0 1) (over (walk_at 4 0 1))))
unfolding range_by
no_kind_behind = refl

no_kinds : map (λ code. by supplier (code ∷ 0x00 ∷ 0x01 ∷ []) 0) (0x02 ∷ 0x03 ∷ 0x0f ∷ 0x12 ∷ 0x13 ∷ 0x18 ∷ 0x94 ∷ 0xff ∷ [])
    ≡ unknown 0x02 3 ∷ unknown 0x03 3 ∷ unknown 0x0f 3 ∷ unknown 0x12 3 ∷ unknown 0x13 3 ∷ unknown 0x18 3 ∷ unknown 0x94 3 ∷ unknown 0xff 3 ∷ []
unfolding range_by
no_kinds = refl

-- the supplier's other kinds: a base by index, offsets, a base, offsets, start and end
bases : by supplier
    (0x11 ∷ 0x01 ∷ 0x14 ∷ 0x00 ∷ 0x08 ∷ 0x15 ∷ 0x00 ∷ 0x20 ∷ 0x00 ∷ 0x00 ∷ 0x14 ∷ 0x01 ∷ 0x02 ∷ 0x16 ∷ 0x30 ∷ 0x00 ∷ 0x00 ∷ 0x00 ∷ 0x40 ∷ 0x00 ∷ 0x00 ∷ 0x00 ∷ 0x10 ∷ []) 0
    ≡ gives
    (handed (gives (item 0x20 0x28 tt)) (walk_at 5 0x20 2)
    (handed (gives (item 0x2001 0x2002 tt)) (walk_at 13 0x2000 4)
    (handed (gives (item 0x30 0x40 tt)) (walk_at 22 0x2000 5) (over (walk_at 23 0x2000 6)))))
unfolding range_by
bases = refl

-- the codes the other way round: kind 7 by code 0, kind 2 by 5, a row that is not there, kind 3 by 4, kind 4 by 3 and the end by 7
turned : by reversed
    (0x00 ∷ 0x10 ∷ 0x00 ∷ 0x00 ∷ 0x00 ∷ 0x08 ∷ 0x05 ∷ 0x00 ∷ 0x01 ∷ 0x05 ∷ 0x00 ∷ 0x02 ∷ 0x04 ∷ 0x00 ∷ 0x08 ∷ 0x03 ∷ 0x01 ∷ 0x02 ∷ 0x07 ∷ 0x00 ∷ []) 0x1000
    ≡ gives
    (handed (gives (item 0x10 0x18 tt)) (walk_at 6 0x1000 1)
    (handed (gives (item 0x10 0x20 tt)) (walk_at 9 0x1000 2)
    (handed (refused 1 []) (walk_at 12 0x1000 3)
    (handed (gives (item 0x10 0x18 tt)) (walk_at 15 0x1000 4) (handed (gives (item 0x1001 0x1002 tt)) (walk_at 18 0x1000 5) (over (walk_at 20 0x1000 6)))))))
unfolding range_by
turned = refl

-- the last codes: a base by 80, offsets by fe, the end by ff
abbrev last : List ℕ
last = replicate 128 255 ++ 5 ∷ replicate 125 255 ++ 4 ∷ 0 ∷ []

last_codes : by last (0x80 ∷ 0x00 ∷ 0x20 ∷ 0x00 ∷ 0x00 ∷ 0xfe ∷ 0x01 ∷ 0x02 ∷ 0xff ∷ []) 0 ≡ one 0x2001 0x2002 (walk_at 8 0x2000 2) (walk_at 9 0x2000 3)
unfolding range_by
last_codes = refl

-- tables that are not loaded: a code past the end has no kind, 8 to 254 are no kinds, and a kind may have two codes
empty_table : by [] (0x00 ∷ []) 0 ≡ unknown 0x00 1
unfolding range_by
empty_table = refl

past_the_table : by (0 ∷ []) (0x01 ∷ 0x00 ∷ 0x00 ∷ []) 0 ≡ unknown 0x01 3
unfolding range_by
past_the_table = refl

no_numbers : map (λ b. by (0 ∷ b ∷ []) (0x01 ∷ 0x00 ∷ []) 0) (8 ∷ 9 ∷ 15 ∷ 128 ∷ 248 ∷ 254 ∷ [])
    ≡ unknown 0x01 2 ∷ unknown 0x01 2 ∷ unknown 0x01 2 ∷ unknown 0x01 2 ∷ unknown 0x01 2 ∷ unknown 0x01 2 ∷ []
unfolding range_by
no_numbers = refl

two_end_marks : by (0 ∷ 0 ∷ []) (0x01 ∷ 0x05 ∷ []) 0 ≡ gives (over (walk_at 2 0 1))
unfolding range_by
two_end_marks = refl

short_table : by (0 ∷ 1 ∷ 2 ∷ 3 ∷ 4 ∷ []) (0x04 ∷ 0x01 ∷ 0x05 ∷ 0x00 ∷ []) 0 ≡ one 1 5 (walk_at 3 0 1) (walk_at 4 0 2)
unfolding range_by
short_table = refl

past_the_short_table : by (0 ∷ 1 ∷ 2 ∷ 3 ∷ 4 ∷ []) (0x07 ∷ 0x10 ∷ 0x00 ∷ 0x00 ∷ 0x00 ∷ 0x08 ∷ 0x00 ∷ []) 0 ≡ unknown 0x07 7
unfolding range_by
past_the_short_table = refl

-- a byte behind the 256: no code asks for it
long_table : by (supplier ++ 0 ∷ []) (0x14 ∷ 0x01 ∷ 0x05 ∷ 0xff ∷ []) 0 ≡ by supplier (0x14 ∷ 0x01 ∷ 0x05 ∷ 0xff ∷ []) 0
unfolding range_by
long_table = refl

-- bare pairs have no use for a table; version 6 has, as version 5
bare_pairs : map (λ kinds. range_by kinds 4 2 (0x01 ∷ 0x00 ∷ 0x02 ∷ 0x00 ∷ 0x00 ∷ 0x00 ∷ 0x00 ∷ 0x00 ∷ []) 0) ([] ∷ supplier ∷ reversed ∷ fixed_table ∷ [])
    ≡ one 1 2 (walk_at 4 0 1) (walk_at 8 0 2) ∷ one 1 2 (walk_at 4 0 1) (walk_at 8 0 2) ∷ one 1 2 (walk_at 4 0 1) (walk_at 8 0 2) ∷ one 1 2 (walk_at 4 0 1) (walk_at 8 0 2) ∷ []
unfolding range_by fixed_table
bare_pairs = refl

version_6 : range_by supplier 6 4 (0x14 ∷ 0x01 ∷ 0x05 ∷ 0x10 ∷ []) 0 ≡ one 1 5 (walk_at 3 0 1) (walk_at 4 0 2)
unfolding range_by
version_6 = refl

-- DWARF's own table: every kind, and a code without one
abbrev every_kind : List ℕ
every_kind =
    0x01 ∷ 0x01 ∷ 0x02 ∷ 0x00 ∷ 0x01 ∷ 0x03 ∷ 0x00 ∷ 0x08 ∷ 0x04 ∷ 0x01 ∷ 0x02 ∷ 0x05 ∷ 0x00 ∷ 0x20 ∷ 0x00 ∷ 0x00 ∷ 0x06 ∷ 0x30 ∷ 0x00 ∷ 0x00 ∷ 0x00 ∷ 0x40 ∷ 0x00 ∷ 0x00 ∷ 0x00 ∷ 0x07 ∷ 0x10 ∷ 0x00 ∷ 0x00 ∷ 0x00 ∷ 0x08
    ∷ []

fixed_ends : by fixed_table (every_kind ++ 0x00 ∷ 0x04 ∷ []) 0 ≡ plain (every_kind ++ 0x00 ∷ 0x04 ∷ []) 0
unfolding range_by ranges_in fixed_table
fixed_ends = refl

fixed_refuses : map (λ code. by fixed_table (code ∷ []) 0) (0x08 ∷ 0x14 ∷ 0xff ∷ []) ≡ unknown 0x08 1 ∷ unknown 0x14 1 ∷ unknown 0xff 1 ∷ []
unfolding range_by fixed_table
fixed_refuses = refl

-- calls of a walk, by a table, address size, bytes and so many of them
calls : List ℕ → ℕ → List ℕ → ℕ → Walk → List (Next (Item Unit) Walk)
unfolding next range_by
calls kinds size s zero w = []
calls kinds size s (suc n) w =
    let r = next_range_by kinds (enc 5 size) Little s table (record { 0 = 8 }) w in r ∷ calls kinds size s n (left_by r)

raw : List ℕ → ℕ → ℕ → List ℕ → ℕ → Walk → List (Next (Noted RawRngListEntry) Walk)
unfolding next_raw range_part coded_padded number_at is_padded unsigned_in range_by
raw kinds version size s zero w = []
raw kinds version size s (suc n) w =
    let r = noted_range_by kinds (enc version size) Little s w in r ∷ raw kinds version size s n (left_by r)

abbrev fails : {A : Type 0} → ℕ → ℕ → Walk → Next A Walk
fails n v w = hands (refused n (v ∷ [])) w

abbrev entry : RawRngListEntry → Bool → ℕ → ℕ → Next (Noted RawRngListEntry) Walk
entry e padded at n = hands (gives (record { entry = e; padded = padded })) (walk_at at 0 n)

-- a refused code is not counted, and the walk is emptied
refused_call : calls supplier 4 (0x14 ∷ 0x01 ∷ 0x05 ∷ 0x04 ∷ 0x10 ∷ []) 3 (walk_at 0 0x1000 7)
    ≡ hands (gives (item 0x1001 0x1005 tt)) (walk_at 3 0x1000 8) ∷ fails 3 0x04 (walk_at 5 0x1000 8) ∷ ends (walk_at 5 0x1000 8) ∷ []
unfolding calls
refused_call = refl

refused_raw : raw supplier 5 4 (0x14 ∷ 0x01 ∷ 0x05 ∷ 0x04 ∷ 0x10 ∷ []) 3 (walk_at 0 0 7)
    ≡ entry (OffsetPair 1 5) false 3 8 ∷ fails 3 0x04 (walk_at 5 0 8) ∷ ends (walk_at 5 0 8) ∷ []
unfolding raw
refused_raw = refl

-- raw entries are those of their kinds, and their padding is that of their kinds' numbers, not of their codes': every kind of the table the
-- other way round, with numbers and addresses that end in 00
turned_raw : raw reversed 5 4
    (0x00 ∷ 0x10 ∷ 0x00 ∷ 0x00 ∷ 0x00 ∷ 0x88 ∷ 0x00 ∷ 0x01 ∷ 0x80 ∷ 0x00 ∷ 0x80 ∷ 0x00 ∷ 0x20 ∷ 0x00 ∷ 0x80 ∷ 0x00 ∷ 0x02 ∷ 0x80 ∷ 0x00 ∷ 0x80 ∷ 0x00 ∷ 0x03 ∷ 0x81 ∷ 0x00 ∷ 0x02 ∷ [])
    5 (walk_at 0 0 0)
    ≡ entry (StartLength 0x10 0x08) true 7 1 ∷ entry (StartEnd 0x800080 0x800020) false 16 2 ∷ entry (BaseAddress 0x800080) false 21 3
    ∷ entry (OffsetPair 1 2) true 25 4 ∷ ends (walk_at 25 0 4) ∷ []
unfolding raw
turned_raw = refl

turned_indexes : raw reversed 5 4 (0x04 ∷ 0x00 ∷ 0x88 ∷ 0x00 ∷ 0x05 ∷ 0x80 ∷ 0x00 ∷ 0x01 ∷ 0x06 ∷ 0x81 ∷ 0x00 ∷ 0x06 ∷ 0x01 ∷ 0x07 ∷ 0x80 ∷ 0x00 ∷ []) 5 (walk_at 0 0 0)
    ≡ entry (StartxLength (addr_index 0) 8) true 4 1 ∷ entry (StartxEndx (addr_index 0) (addr_index 1)) true 8 2 ∷ entry (BaseAddressx (addr_index 1)) true 11 3
    ∷ entry (BaseAddressx (addr_index 1)) false 13 4 ∷ ends (walk_at 16 0 5) ∷ []
unfolding raw
turned_indexes = refl

-- bytes of a bare pair that would be padded by their kind of the table
bare_raw : raw reversed 4 1 (0x05 ∷ 0x80 ∷ 0x00 ∷ 0x01 ∷ 0x00 ∷ 0x00 ∷ []) 3 (walk_at 0 0 0)
    ≡ entry (AddressOrOffsetPair 0x05 0x80) false 2 1 ∷ entry (AddressOrOffsetPair 0x00 0x01) false 4 2 ∷ ends (walk_at 6 0 3) ∷ []
unfolding raw
bare_raw = refl

-- another address size comes before all else: nothing is asked of any table
other_size : map (λ kinds. calls kinds 5 (0x00 ∷ 0x14 ∷ []) 1 (walk_at 0 0 7)) ([] ∷ supplier ∷ reversed ∷ [])
    ≡ (fails 6 5 (walk_at 2 0 7) ∷ []) ∷ (fails 6 5 (walk_at 2 0 7) ∷ []) ∷ (fails 6 5 (walk_at 2 0 7) ∷ []) ∷ []
unfolding calls
other_size = refl

other_size_raw : map (λ kinds. raw kinds 5 5 (0x00 ∷ 0x14 ∷ []) 1 (walk_at 0 0 7)) ([] ∷ supplier ∷ reversed ∷ [])
    ≡ (fails 6 5 (walk_at 2 0 7) ∷ []) ∷ (fails 6 5 (walk_at 2 0 7) ∷ []) ∷ (fails 6 5 (walk_at 2 0 7) ∷ []) ∷ []
unfolding raw
other_size_raw = refl

-- canonical lists: the supplier's list and the renumbered one have the same; the refusals are those of the walk
canonical_by : List ℕ → List ℕ → Result (List ℕ)
unfolding
    canonical_of coverage_of yielded_of yielded_in trace_of opened one_more trace trace_from convert raw_at range_entry_by coded kind_of range_kinds address uint skip is_size little unsigned unsigned_from inserts insert canonical_bytes entry_bytes
    little_bytes unsigned_in
canonical_by kinds s = canonical_of (source (range_list_by kinds) (enc 5 4) Little s 0 0 [] (record { 0 = 0 }))

canonical_plain : List ℕ → Result (List ℕ)
unfolding canonical_by
canonical_plain s = canonical_of (source range_list (enc 5 4) Little s 0 0 [] (record { 0 = 0 }))

-- start and length, start and end, the end mark
abbrev covering : ℕ → ℕ → ℕ → List ℕ
covering lengths starts end = lengths ∷ 0x20 ∷ 0 ∷ 0 ∷ 0 ∷ 0x10 ∷ starts ∷ 0x10 ∷ 0 ∷ 0 ∷ 0 ∷ 0x20 ∷ 0 ∷ 0 ∷ 0 ∷ end ∷ []

abbrev written : Result (List ℕ)
written = gives (0x07 ∷ 0x10 ∷ 0 ∷ 0 ∷ 0 ∷ 0 ∷ 0 ∷ 0 ∷ 0 ∷ 0x20 ∷ 0 ∷ [])

canonical : canonical_by supplier (covering 0x17 0x16 0x10) ∷ canonical_by reversed (covering 0x00 0x01 0x07) ∷ canonical_by fixed_table (covering 0x07 0x06 0x00)
    ∷ canonical_plain (covering 0x07 0x06 0x00) ∷ []
    ≡ written ∷ written ∷ written ∷ written ∷ []
unfolding canonical_by canonical_plain fixed_table
canonical = refl

canonical_refused : canonical_by supplier (covering 0x17 0x16 0x00) ∷ canonical_by supplier (covering 0x07 0x06 0x00) ∷ canonical_by [] (covering 0x07 0x06 0x00) ∷ []
    ≡ refused 3 (0x00 ∷ []) ∷ refused 3 (0x07 ∷ []) ∷ refused 3 (0x07 ∷ []) ∷ []
unfolding canonical_by
canonical_refused = refl

-- loading: 19, which has no value, or nothing to tell
load : List ℕ → Result Unit
unfolding loading is_table are_numbers none_twice codes_of
load t = loading t

-- bytes from code 0 on, then so many codes without a kind
abbrev filled : ℕ → List ℕ → List ℕ
filled n bs = bs ++ replicate n 255

abbrev eight : List ℕ
eight = 0 ∷ 1 ∷ 2 ∷ 3 ∷ 4 ∷ 5 ∷ 6 ∷ 7 ∷ []

abbrev bad : Result Unit
bad = refused 19 []

fixed_loads : load fixed_table ≡ gives tt
unfolding load fixed_table
fixed_loads = refl

-- the supplier's; the codes the other way round; the last codes; kind 0 alone, by the first code and by the last
loads : map load (supplier ∷ filled 248 reversed ∷ last ∷ filled 255 (0 ∷ []) ∷ (replicate 255 255 ++ 0 ∷ []) ∷ [])
    ≡ gives tt ∷ gives tt ∷ gives tt ∷ gives tt ∷ gives tt ∷ []
unfolding load
loads = refl

-- 255 bytes, 257, none
other_lengths : map load (filled 247 eight ∷ filled 249 eight ∷ [] ∷ []) ≡ bad ∷ bad ∷ bad ∷ []
unfolding load
other_lengths = refl

-- a byte 8 to 254
no_kind_loads : map (λ b. load (filled 247 (eight ++ b ∷ []))) (8 ∷ 9 ∷ 128 ∷ 254 ∷ []) ≡ bad ∷ bad ∷ bad ∷ bad ∷ []
unfolding load
no_kind_loads = refl

-- a second code for a kind, each in its turn
twice_loads : map (λ k. load (filled 247 (eight ++ k ∷ []))) eight ≡ bad ∷ bad ∷ bad ∷ bad ∷ bad ∷ bad ∷ bad ∷ bad ∷ []
unfolding load
twice_loads = refl

-- no code for kind 0; none for any kind
no_end_loads : load (filled 248 (255 ∷ 1 ∷ 2 ∷ 3 ∷ 4 ∷ 5 ∷ 6 ∷ 7 ∷ [])) ∷ load (replicate 256 255) ∷ [] ≡ bad ∷ bad ∷ []
unfolding load
no_end_loads = refl
