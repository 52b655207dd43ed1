-- Addresses of three bytes, in either order: walks, an address table and headers, as docs/SCOPE.md has them for every size.
use Rattle.std.specs.Prelude.{◌≡◌, refl, true, false, List, [], ◌∷◌, ℕ, ◌-◌, ◌^◌}
use Rattle.section_bytes.specs.Read.{Result, gives, refused}
use Rattle.section_bytes.specs.Address.{add_sized, ones, min_tombstone}
use Rattle.section_bytes.specs.declared.endianity.RunTimeEndian.{RunTimeEndian}
use Rattle.section_bytes.specs.declared.endianity.RunTimeEndian.TheVariants.{Little, Big}
use Rattle.tables.specs.Lists.{parsed}
use Rattle.tables.specs.Next.{ends, hands}
use Rattle.lists.specs.Open.{walk_at}
use Rattle.lists.specs.Walk.{item, Trace, over, handed}
use Rattle.cases.specs.Cases.{enc, ranges_in, location, expression, row, entries, left, lists}

-- the bounds of the size, and a sum that passes it
largest : ones 3 ≡ 2 ^ 24 - 1
largest = refl

tombstone : min_tombstone 3 ≡ 2 ^ 24 - 2
tombstone = refl

sum : add_sized 0xffff00 0x110 3 ≡ 0x10
sum = refl

-- an address table of the size; its addresses start at 8
abbrev table : List ℕ
table = 0x0a ∷ 0x00 ∷ 0x00 ∷ 0x00 ∷ 0x05 ∷ 0x00 ∷ 0x03 ∷ 0x00 ∷ 0x10 ∷ 0x00 ∷ 0x00 ∷ 0x20 ∷ 0x00 ∷ 0x00 ∷ []

-- a list by its byte order, version, bytes and base address
abbrev range : RunTimeEndian → ℕ → List ℕ → ℕ → Result (Trace Unit)
range endian version s base = ranges_in endian table 8 version 3 s 0 base

start_end : range Little 5 (0x06 ∷ 0x10 ∷ 0x00 ∷ 0x00 ∷ 0x20 ∷ 0x00 ∷ 0x00 ∷ 0x00 ∷ []) 0
    ≡ gives (handed (gives (item 0x10 0x20 tt)) (walk_at 7 0 1) (over (walk_at 8 0 2)))
unfolding ranges_in
start_end = refl

start_end_big : range Big 5 (0x06 ∷ 0x00 ∷ 0x00 ∷ 0x10 ∷ 0x00 ∷ 0x00 ∷ 0x20 ∷ 0x00 ∷ []) 0
    ≡ gives (handed (gives (item 0x10 0x20 tt)) (walk_at 7 0 1) (over (walk_at 8 0 2)))
unfolding ranges_in
start_end_big = refl

-- each byte has its place
each_byte : range Little 5 (0x06 ∷ 0x01 ∷ 0x02 ∷ 0x03 ∷ 0x04 ∷ 0x05 ∷ 0x06 ∷ 0x00 ∷ []) 0
    ≡ gives (handed (gives (item 0x030201 0x060504 tt)) (walk_at 7 0 1) (over (walk_at 8 0 2)))
unfolding ranges_in
each_byte = refl

each_byte_big : range Big 5 (0x06 ∷ 0x01 ∷ 0x02 ∷ 0x03 ∷ 0x04 ∷ 0x05 ∷ 0x06 ∷ 0x00 ∷ []) 0
    ≡ gives (handed (gives (item 0x010203 0x040506 tt)) (walk_at 7 0 1) (over (walk_at 8 0 2)))
unfolding ranges_in
each_byte_big = refl

-- a base right below the tombstone bound, and at it; sums keep 24 bits
below_the_bound : range Little 5 (0x04 ∷ 0x00 ∷ 0x01 ∷ 0x00 ∷ []) 0xfffffd
    ≡ gives (handed (gives (item 0xfffffd 0xfffffe tt)) (walk_at 3 0xfffffd 1) (over (walk_at 4 0xfffffd 2)))
unfolding ranges_in
below_the_bound = refl

at_the_bound : range Little 5 (0x04 ∷ 0x00 ∷ 0x01 ∷ 0x00 ∷ []) 0xfffffe ≡ gives (over (walk_at 4 0xfffffe 2))
unfolding ranges_in
at_the_bound = refl

wrapped : range Little 5 (0x04 ∷ 0x80 ∷ 0x02 ∷ 0x90 ∷ 0x02 ∷ 0x00 ∷ []) 0xffff00
    ≡ gives (handed (gives (item 0 0x10 tt)) (walk_at 5 0xffff00 1) (over (walk_at 6 0xffff00 2)))
unfolding ranges_in
wrapped = refl

-- an end at the largest address, and one past it
to_the_end : range Little 5 (0x07 ∷ 0xf0 ∷ 0xff ∷ 0xff ∷ 0x0f ∷ 0x00 ∷ []) 0
    ≡ gives (handed (gives (item 0xfffff0 0xffffff tt)) (walk_at 5 0 1) (over (walk_at 6 0 2)))
unfolding ranges_in
to_the_end = refl

past_the_end : range Little 5 (0x07 ∷ 0xf0 ∷ 0xff ∷ 0xff ∷ 0x10 ∷ 0x00 ∷ []) 0 ≡ gives (over (walk_at 6 0 2))
unfolding ranges_in
past_the_end = refl

-- bare pairs: a base, whose begin has its 24 bits set, and a pair
bare_pairs : range Little 4
    (0xff ∷ 0xff ∷ 0xff ∷ 0x00 ∷ 0x20 ∷ 0x00 ∷ 0x01 ∷ 0x00 ∷ 0x00 ∷ 0x03 ∷ 0x00 ∷ 0x00 ∷ 0x00 ∷ 0x00 ∷ 0x00 ∷ 0x00 ∷ 0x00 ∷ 0x00 ∷ []) 0
    ≡ gives (handed (gives (item 0x2001 0x2003 tt)) (walk_at 12 0x2000 2) (over (walk_at 18 0x2000 3)))
unfolding ranges_in
bare_pairs = refl

cut : range Little 5 (0x06 ∷ 0x10 ∷ 0x00 ∷ []) 0 ≡ gives (handed (refused 1 []) (walk_at 3 0 0) (over (walk_at 3 0 0)))
unfolding ranges_in
cut = refl

past_the_section : ranges_in Little [] 0 5 3 [] 1 0 ≡ refused 1 []
unfolding ranges_in
past_the_section = refl

-- by index, from the table above; the row behind its last is not there
indexed : range Little 5 (0x02 ∷ 0x00 ∷ 0x01 ∷ 0x02 ∷ 0x00 ∷ 0x02 ∷ 0x00 ∷ []) 0
    ≡ gives (handed (gives (item 0x10 0x20 tt)) (walk_at 3 0 1) (handed (refused 1 []) (walk_at 6 0 2) (over (walk_at 7 0 3))))
unfolding ranges_in
indexed = refl

-- a split location list of version 4: a begin by its three bytes and a length
split_location : location true 4 3 (0x08 ∷ 0x10 ∷ 0x00 ∷ 0x01 ∷ 0x08 ∷ 0x01 ∷ 0x00 ∷ 0x50 ∷ 0x00 ∷ []) 0 0
    ≡ gives (handed (gives (item 0x010010 0x010018 (expression 7 1))) (walk_at 8 0 1) (over (walk_at 9 0 2)))
unfolding location
split_location = refl

-- a location list of bare pairs
bare_location : location false 4 3 (0x10 ∷ 0x00 ∷ 0x00 ∷ 0x20 ∷ 0x00 ∷ 0x00 ∷ 0x01 ∷ 0x00 ∷ 0x50 ∷ 0x00 ∷ 0x00 ∷ 0x00 ∷ 0x00 ∷ 0x00 ∷ 0x00 ∷ []) 0 0
    ≡ gives (handed (gives (item 0x10 0x20 (expression 8 1))) (walk_at 9 0 1) (over (walk_at 15 0 2)))
unfolding location
bare_location = refl

-- rows of the table, the product of an index and the size below 2^64 and from there on, and its entries one after the other
row_0 : row 3 8 0 table ≡ gives 0x10
unfolding row
row_0 = refl

row_1 : row 3 8 1 table ≡ gives 0x20
unfolding row
row_1 = refl

row_2 : row 3 8 2 table ≡ refused 1 []
unfolding row
row_2 = refl

largest_product : row 3 0 6148914691236517205 [] ≡ refused 1 []
unfolding row
largest_product = refl

product_too_large : row 3 0 6148914691236517206 [] ≡ refused 9 []
unfolding row
product_too_large = refl

entry_0 : entries table (left 3 8 6) ≡ hands (gives 0x10) (left 3 11 3)
unfolding entries
entry_0 = refl

entry_1 : entries table (left 3 11 3) ≡ hands (gives 0x20) (left 3 14 0)
unfolding entries
entry_1 = refl

no_more_entries : entries table (left 3 14 0) ≡ ends (left 3 14 0)
unfolding entries
no_more_entries = refl

-- a header of lists
header : lists (0x08 ∷ 0x00 ∷ 0x00 ∷ 0x00 ∷ 0x05 ∷ 0x00 ∷ 0x03 ∷ 0x00 ∷ 0x00 ∷ 0x00 ∷ 0x00 ∷ 0x00 ∷ [])
    ≡ gives (parsed (record { encoding = enc 5 3; offset_entry_count = 0 }) (record { offset = 12; len = 0 }))
unfolding lists
header = refl
