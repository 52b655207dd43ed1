-- Counts of raw entries, call after call: each walk is shown with its place, its base address and the entries that were read.
use Rattle.std.specs.Prelude.{◌≡◌, refl, false, List, [], ◌∷◌, map, ℕ, zero, suc, ◌-◌, ◌^◌}
use Rattle.section_bytes.specs.Read.{gives, refused}
use Rattle.section_bytes.specs.Endianity.{little}
use Rattle.section_bytes.specs.Leb128.{unsigned_from, unsigned}
use Rattle.section_bytes.specs.Reader.{skip, uint, is_size, address}
use Rattle.section_bytes.specs.declared.endianity.RunTimeEndian.TheVariants.{Little}
use Rattle.tables.specs.Row.{row_at}
use Rattle.tables.specs.Next.{Next, ends, hands}
use Rattle.tables.specs.Addr.{address_at}
use Rattle.entries.specs.Kinds.{range_kinds, kind_of, coded, range_entry_by, raw_at}
use Rattle.entries.specs.declared.RawRngListEntry.{RawRngListEntry}
use Rattle.entries.specs.declared.RawRngListEntry.TheVariants.{BaseAddress, StartxEndx, OffsetPair, StartLength}
use Rattle.lists.specs.Convert.{convert}
use Rattle.lists.specs.Open.{walk_at, one_more}
use Rattle.lists.specs.Counted.{entries_from, entries_before, left_after}
use Rattle.lists.specs.Walk.{ranges, Outcome, comes, nothing, item, over, handed, next, next_range, next_raw, next_raw_range, convert_raw, converted_range}
use Rattle.lists.specs.declared.Walk.{Walk}
use Rattle.cases.specs.Cases.{enc, table, range, ranges_in, location, expression, calls}

converts : Walk → RawRngListEntry → Outcome Unit
unfolding convert_raw convert address_at row_at address skip uint is_size little
converts w e = converted_range (enc 5 4) Little table (record { 0 = 8 }) w e

-- raw calls, with each entry converted before the next call
abbrev turned : Next RawRngListEntry Walk → Walk
turned (hands (gives e) w) = left_after (converts w e)
turned (hands (refused n vs) w) = w
turned (ends w) = w

raw_calls : List ℕ → ℕ → Walk → List (Next RawRngListEntry Walk)
unfolding converts next_raw one_more range_entry_by raw_at coded kind_of range_kinds address skip uint is_size little unsigned unsigned_from
raw_calls s zero w = []
raw_calls s (suc n) w =
    let r = next_raw_range (enc 5 4) Little s w in r ∷ raw_calls s n (turned r)

-- the end mark counts once
mark : calls (0x00 ∷ []) 2 (walk_at 0 0 0) ≡ ends (walk_at 1 0 1) ∷ ends (walk_at 1 0 1) ∷ []
unfolding calls
mark = refl

-- the section's end counts nothing
unmarked : calls (0x06 ∷ 0x10 ∷ 0x00 ∷ 0x00 ∷ 0x00 ∷ 0x20 ∷ 0x00 ∷ 0x00 ∷ 0x00 ∷ []) 2 (walk_at 0 0 0)
    ≡ hands (gives (item 0x10 0x20 tt)) (walk_at 9 0 1) ∷ ends (walk_at 9 0 1) ∷ []
unfolding calls
unmarked = refl

-- a base, a pair, an empty pair, a pair, the mark and a byte behind it: what yields no range counts too
abbrev based : List ℕ
based = 0x05 ∷ 0x00 ∷ 0x10 ∷ 0x00 ∷ 0x00 ∷ 0x04 ∷ 0x01 ∷ 0x02 ∷ 0x04 ∷ 0x03 ∷ 0x03 ∷ 0x04 ∷ 0x05 ∷ 0x06 ∷ 0x00 ∷ 0xff ∷ []

based_calls : calls based 3 (walk_at 0 0 0)
    ≡ hands (gives (item 0x1001 0x1002 tt)) (walk_at 8 0x1000 2) ∷ hands (gives (item 0x1005 0x1006 tt)) (walk_at 14 0x1000 4) ∷ ends (walk_at 16 0x1000 5) ∷ []
unfolding calls
based_calls = refl

based_raw : raw_calls based 6 (walk_at 0 0 0)
    ≡ hands (gives (BaseAddress 0x1000)) (walk_at 5 0 1) ∷ hands (gives (OffsetPair 1 2)) (walk_at 8 0x1000 2) ∷ hands (gives (OffsetPair 3 3)) (walk_at 11 0x1000 3)
    ∷ hands (gives (OffsetPair 5 6)) (walk_at 14 0x1000 4) ∷ ends (walk_at 16 0x1000 5) ∷ ends (walk_at 16 0x1000 5) ∷ []
unfolding raw_calls
based_raw = refl

-- a conversion counts nothing: of a base, a range, an entry that is skipped, a failed lookup (of which `by_calls` in Cases.antt has the walk)
conversions : converts (walk_at 5 0 1) (BaseAddress 0x1000) ∷ converts (walk_at 8 0x1000 2) (OffsetPair 1 2) ∷ converts (walk_at 11 0x1000 3) (OffsetPair 3 3)
    ∷ converts (walk_at 3 0 1) (StartxEndx (record { 0 = 0 }) (record { 0 = 2 })) ∷ []
    ≡ nothing (walk_at 5 0x1000 1) ∷ comes (gives (item 0x1001 0x1002 tt)) (walk_at 8 0x1000 2) ∷ nothing (walk_at 11 0x1000 3) ∷ comes (refused 1 []) (walk_at 3 0 1) ∷ []
unfolding converts
conversions = refl

-- what is refused was not read
abbrev broken : List ℕ
broken = 0x07 ∷ 0x10 ∷ 0x00 ∷ 0x00 ∷ 0x00 ∷ 0x01 ∷ 0x08 ∷ []

broken_calls : calls broken 3 (walk_at 0 0 0)
    ≡ hands (gives (item 0x10 0x11 tt)) (walk_at 6 0 1) ∷ hands (refused 3 (0x08 ∷ [])) (walk_at 7 0 1) ∷ ends (walk_at 7 0 1) ∷ []
unfolding calls
broken_calls = refl

broken_raw : raw_calls broken 3 (walk_at 0 0 0)
    ≡ hands (gives (StartLength 0x10 1)) (walk_at 6 0 1) ∷ hands (refused 3 (0x08 ∷ [])) (walk_at 7 0 1) ∷ ends (walk_at 7 0 1) ∷ []
unfolding raw_calls
broken_raw = refl

-- a walk handed in keeps its count and adds to it: up to 2^64 - 1, which stays
abbrev short : List ℕ
short = 0x07 ∷ 0x10 ∷ 0x00 ∷ 0x00 ∷ 0x00 ∷ 0x01 ∷ 0x00 ∷ []

handed_largest : calls short 2 (walk_at 0 0 (2 ^ 64 - 1)) ≡ hands (gives (item 0x10 0x11 tt)) (walk_at 6 0 (2 ^ 64 - 1)) ∷ ends (walk_at 7 0 (2 ^ 64 - 1)) ∷ []
unfolding calls
handed_largest = refl

handed_one_less : calls short 2 (walk_at 0 0 (2 ^ 64 - 2)) ≡ hands (gives (item 0x10 0x11 tt)) (walk_at 6 0 (2 ^ 64 - 1)) ∷ ends (walk_at 7 0 (2 ^ 64 - 1)) ∷ []
unfolding calls
handed_one_less = refl

raw_one_less : raw_calls short 2 (walk_at 0 0 (2 ^ 64 - 2)) ≡ hands (gives (StartLength 0x10 1)) (walk_at 6 0 (2 ^ 64 - 1)) ∷ ends (walk_at 7 0 (2 ^ 64 - 1)) ∷ []
unfolding raw_calls
raw_one_less = refl

-- past the section's end nothing is read; nor with address size 5, which empties the walk
past_the_end : calls short 1 (walk_at 99 0 7) ≡ ends (walk_at 99 0 7) ∷ []
unfolding calls
past_the_end = refl

other_size : next_range (enc 5 5) Little (0x00 ∷ []) [] (record { 0 = 0 }) (walk_at 0 0 7) ≡ hands (refused 6 (5 ∷ [])) (walk_at 1 0 7)
unfolding next is_size
other_size = refl

-- a list of version 4: a base, a pair of equal numbers, a pair
bare_pairs : range 4 2 (0xff ∷ 0xff ∷ 0x00 ∷ 0x20 ∷ 0x05 ∷ 0x00 ∷ 0x05 ∷ 0x00 ∷ 0x01 ∷ 0x00 ∷ 0x03 ∷ 0x00 ∷ []) 0 0
    ≡ gives (handed (gives (item 0x2001 0x2003 tt)) (walk_at 12 0x2000 3) (over (walk_at 12 0x2000 3)))
unfolding ranges_in
bare_pairs = refl

-- a list of address size 3: a base, a pair, a range past the last address, the mark
three_bytes : range 5 3 (0x05 ∷ 0x00 ∷ 0x10 ∷ 0x00 ∷ 0x04 ∷ 0x01 ∷ 0x02 ∷ 0x07 ∷ 0xf0 ∷ 0xff ∷ 0xff ∷ 0x10 ∷ 0x00 ∷ []) 0 0
    ≡ gives (handed (gives (item 0x1001 0x1002 tt)) (walk_at 7 0x1000 2) (over (walk_at 13 0x1000 4)))
unfolding ranges_in
three_bytes = refl

-- a location list: a base, a pair, a default location, the mark
locations : location false 5 4 (0x06 ∷ 0x00 ∷ 0x10 ∷ 0x00 ∷ 0x00 ∷ 0x04 ∷ 0x01 ∷ 0x02 ∷ 0x01 ∷ 0x50 ∷ 0x05 ∷ 0x01 ∷ 0x51 ∷ 0x00 ∷ []) 0 0
    ≡ gives
    (handed (gives (item 0x1001 0x1002 (expression 9 1))) (walk_at 10 0x1000 2)
    (handed (gives (item 0 (2 ^ 64 - 1) (expression 12 1))) (walk_at 13 0x1000 3) (over (walk_at 14 0x1000 4))))
unfolding location
locations = refl

-- the entries that the definition reads before places of these lists
before : List ℕ → List ℕ → List ℕ
unfolding entries_from range_entry_by raw_at coded kind_of range_kinds address skip uint is_size little unsigned unsigned_from
before s places = map (entries_before (ranges (enc 5 4) Little s) 0) places

before_based : before based (0 ∷ 5 ∷ 8 ∷ 11 ∷ 14 ∷ 16 ∷ []) ≡ 0 ∷ 1 ∷ 2 ∷ 3 ∷ 4 ∷ 5 ∷ []
unfolding before
before_based = refl

before_broken : before broken (0 ∷ 6 ∷ 7 ∷ []) ≡ 0 ∷ 1 ∷ 1 ∷ []
unfolding before
before_broken = refl
