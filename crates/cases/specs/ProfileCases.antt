-- Lists in the profile (docs/SCOPE.md, "Profile"): what the calls answer up to the first end, each with the walk after it.
use Rattle.std.specs.Prelude.{◌≡◌, refl, Bool, true, false, List, [], ◌∷◌, ◌++◌, ℕ, zero, suc, ◌-◌, ◌^◌, length, replicate}
use Rattle.section_bytes.specs.Read.{gives, refused}
use Rattle.section_bytes.specs.Endianity.{little}
use Rattle.section_bytes.specs.Leb128.{unsigned_from, unsigned}
use Rattle.section_bytes.specs.Padded.{is_padded, number_at}
use Rattle.section_bytes.specs.Reader.{skip, split, uint, is_size, address}
use Rattle.section_bytes.specs.Written.{unsigned_in}
use Rattle.section_bytes.specs.declared.endianity.RunTimeEndian.{RunTimeEndian}
use Rattle.section_bytes.specs.declared.endianity.RunTimeEndian.TheVariants.{Little, Big}
use Rattle.tables.specs.Row.{row_at}
use Rattle.tables.specs.Next.{Next, ends, hands}
use Rattle.tables.specs.Addr.{address_at}
use Rattle.entries.specs.Forms.{versioned_length, block}
use Rattle.entries.specs.Kinds.{range_kinds, location_kinds, kind_of, coded, of_pair, bare, range_entry_by, location_entry, raw_at}
use Rattle.entries.specs.Padded.{coded_padded, range_part, location_part}
use Rattle.entries.specs.declared.Expression.{Expression}
use Rattle.lists.specs.Convert.{convert}
use Rattle.lists.specs.Open.{walk_at, one_more}
use Rattle.lists.specs.Walk.{Item, item}
use Rattle.lists.specs.declared.Walk.{Walk}
use Rattle.profile.specs.Profile.{tells, profile_from, profile, profile_next, profile_range, profile_range_by, profile_location}
use Rattle.cases.specs.Cases.{enc, table, expression}

-- calls up to the first end; before it a list has no more of them than bytes
abbrev onward : {D : Type 0} → Next (Item D) Walk → (Walk → List (Next (Item D) Walk)) → List (Next (Item D) Walk)
onward (hands r w) go = hands r w ∷ go w
onward (ends w) go = ends w ∷ []

abbrev to_end : {D : Type 0} → (Walk → Next (Item D) Walk) → ℕ → Walk → List (Next (Item D) Walk)
to_end call zero w = []
to_end call (suc n) w = onward (call w) (to_end call n)

-- a call on a range list by byte order, address table, version, address size and bytes; addresses start at 8
call : RunTimeEndian → List ℕ → ℕ → ℕ → List ℕ → Walk → Next (Item Unit) Walk
unfolding
    profile_next profile profile_from tells one_more convert address_at row_at range_entry_by raw_at coded bare of_pair kind_of range_kinds address skip uint is_size little unsigned unsigned_from range_part coded_padded number_at is_padded unsigned_in
call endian addresses version size s w = profile_range (enc version size) endian s addresses (record { 0 = 8 }) w

-- all calls from a walk on
ranges_in : RunTimeEndian → List ℕ → ℕ → ℕ → List ℕ → Walk → List (Next (Item Unit) Walk)
unfolding call
ranges_in endian addresses version size s w = to_end (call endian addresses version size s) (suc (length s)) w

-- from the start, by the base address; rows by index are those of docs/SCOPE.md
abbrev sized : RunTimeEndian → ℕ → ℕ → List ℕ → ℕ → List (Next (Item Unit) Walk)
sized endian version size s base = ranges_in endian table version size s (walk_at 0 base 0)

abbrev ranges : List ℕ → ℕ → List (Next (Item Unit) Walk)
ranges s base = sized Little 5 4 s base

-- by a table of kind numbers
ranges_by : List ℕ → List ℕ → ℕ → List (Next (Item Unit) Walk)
unfolding call
ranges_by kinds s base = to_end (profile_range_by kinds (enc 5 4) Little s table (record { 0 = 8 })) (suc (length s)) (walk_at 0 base 0)

-- of a location list, by whether it is split
locations_in : Bool → ℕ → ℕ → List ℕ → ℕ → List (Next (Item Expression) Walk)
unfolding
    profile_next profile profile_from tells one_more convert address_at row_at location_entry raw_at coded bare of_pair kind_of location_kinds versioned_length block split address skip uint is_size little unsigned unsigned_from location_part coded_padded number_at is_padded unsigned_in
locations_in dwo version size s base =
    to_end (profile_location dwo (enc version size) Little s table (record { 0 = 8 })) (suc (length s)) (walk_at 0 base 0)

abbrev locations : List ℕ → ℕ → List (Next (Item Expression) Walk)
locations s base = locations_in false 5 4 s base

-- a range, a location with its expression's place and length, a refusal without values; one of the three, after which the list is over
abbrev gave : ℕ → ℕ → Walk → Next (Item Unit) Walk
gave b e w = hands (gives (item b e tt)) w

abbrev located : ℕ → ℕ → ℕ → ℕ → Walk → Next (Item Expression) Walk
located b e offset len w = hands (gives (item b e (expression offset len))) w

abbrev lost : {D : Type 0} → ℕ → Walk → Next (Item D) Walk
lost n w = hands (refused n []) w

abbrev broken : {D : Type 0} → ℕ → Walk → List (Next (Item D) Walk)
broken n w = lost n w ∷ ends w ∷ []

-- 0x10 and a row at the tombstone bound; the same of three bytes, the high ones first
abbrev dead_row : List ℕ
dead_row = replicate 8 0x00 ++ 0x10 ∷ 0x00 ∷ 0x00 ∷ 0x00 ∷ 0xfe ∷ 0xff ∷ 0xff ∷ 0xff ∷ []

abbrev dead_row3 : List ℕ
dead_row3 = replicate 8 0x00 ++ 0x00 ∷ 0x00 ∷ 0x10 ∷ 0xff ∷ 0xff ∷ 0xfe ∷ []

-- the eight codes the other way round, kind 7 first
abbrev reversed : List ℕ
reversed = 7 ∷ 6 ∷ 5 ∷ 4 ∷ 3 ∷ 2 ∷ 1 ∷ 0 ∷ []

-- 15, a padded number: in an offset, before the lookup of an index, in both numbers and before a dead base, before a lookup that fails
padded : ranges (0x04 ∷ 0x01 ∷ 0x82 ∷ 0x00 ∷ 0x00 ∷ []) 0x1000 ≡ broken 15 (walk_at 5 0x1000 1)
unfolding ranges_in
padded = refl

padded_index : ranges (0x01 ∷ 0x82 ∷ 0x00 ∷ 0x07 ∷ 0x10 ∷ 0x00 ∷ 0x00 ∷ 0x00 ∷ 0x01 ∷ 0x00 ∷ []) 0 ≡ broken 15 (walk_at 10 0 1)
unfolding ranges_in
padded_index = refl

padded_both : ranges (0x04 ∷ 0x80 ∷ 0x00 ∷ 0x81 ∷ 0x00 ∷ 0x00 ∷ []) 0xfffffffe ≡ broken 15 (walk_at 6 0xfffffffe 1)
unfolding ranges_in
padded_both = refl

padded_failing : ranges (0x07 ∷ 0x10 ∷ 0x00 ∷ 0x00 ∷ 0x00 ∷ 0x01 ∷ 0x02 ∷ 0x00 ∷ 0x82 ∷ 0x00 ∷ 0x00 ∷ []) 0
    ≡ gave 0x10 0x11 (walk_at 6 0 1) ∷ broken 15 (walk_at 11 0 2)
unfolding ranges_in
padded_failing = refl

-- the bytes of an address are no number; an entry that can't be read is refused as ever; what is behind the end mark is not read
address_bytes_lem : ranges (0x06 ∷ 0x10 ∷ 0x00 ∷ 0x80 ∷ 0x00 ∷ 0x90 ∷ 0x00 ∷ 0x80 ∷ 0x00 ∷ 0x00 ∷ 0x04 ∷ 0x80 ∷ 0x00 ∷ 0x01 ∷ []) 0
    ≡ gave 0x800010 0x800090 (walk_at 9 0 1) ∷ ends (walk_at 14 0 2) ∷ []
unfolding ranges_in
address_bytes_lem = refl

unread : ranges (0x04 ∷ 0x80 ∷ 0x00 ∷ []) 0 ≡ lost 1 (walk_at 3 0 0) ∷ ends (walk_at 3 0 0) ∷ []
unfolding ranges_in
unread = refl

-- a row that the table doesn't have: the walk goes on after the entry, up to what breaks the profile
no_row : ranges (0x01 ∷ 0x02 ∷ 0x07 ∷ 0x10 ∷ 0x00 ∷ 0x00 ∷ 0x00 ∷ 0x01 ∷ 0x00 ∷ []) 0
    ≡ lost 1 (walk_at 2 0 1) ∷ gave 0x10 0x11 (walk_at 8 0 2) ∷ ends (walk_at 9 0 3) ∷ []
unfolding ranges_in
no_row = refl

no_row_then_backward : ranges (0x02 ∷ 0x00 ∷ 0x02 ∷ 0x06 ∷ 0x20 ∷ 0x00 ∷ 0x00 ∷ 0x00 ∷ 0x10 ∷ 0x00 ∷ 0x00 ∷ 0x00 ∷ 0x07 ∷ 0x10 ∷ 0x00 ∷ 0x00 ∷ 0x00 ∷ 0x01 ∷ 0x00 ∷ []) 0
    ≡ lost 1 (walk_at 3 0 1) ∷ broken 17 (walk_at 19 0 2)
unfolding ranges_in
no_row_then_backward = refl

no_begin : ranges (0x02 ∷ 0x02 ∷ 0x00 ∷ 0x07 ∷ 0x10 ∷ 0x00 ∷ 0x00 ∷ 0x00 ∷ 0x01 ∷ 0x00 ∷ []) 0
    ≡ lost 1 (walk_at 3 0 1) ∷ gave 0x10 0x11 (walk_at 9 0 2) ∷ ends (walk_at 10 0 3) ∷ []
unfolding ranges_in
no_begin = refl

index_overflow : ranges (0x03 ∷ 0x80 ∷ 0x80 ∷ 0x80 ∷ 0x80 ∷ 0x80 ∷ 0x80 ∷ 0x80 ∷ 0x80 ∷ 0x80 ∷ 0x01 ∷ 0x08 ∷ 0x04 ∷ 0x01 ∷ 0x02 ∷ 0x00 ∷ []) 0
    ≡ lost 9 (walk_at 12 0 1) ∷ gave 1 2 (walk_at 15 0 2) ∷ ends (walk_at 16 0 3) ∷ []
unfolding ranges_in
index_overflow = refl

-- 16, the base address of an offset pair: selected in the list, which is nothing by itself, or from the opening; at the bound, below it,
-- far above; where the sums wrap below it; where they are backward
dead_base : ranges (0x05 ∷ 0xfe ∷ 0xff ∷ 0xff ∷ 0xff ∷ 0x04 ∷ 0x00 ∷ 0x01 ∷ 0x00 ∷ []) 0 ≡ broken 16 (walk_at 9 0xfffffffe 2)
unfolding ranges_in
dead_base = refl

dead_base_unused : ranges (0x05 ∷ 0xfe ∷ 0xff ∷ 0xff ∷ 0xff ∷ 0x07 ∷ 0x10 ∷ 0x00 ∷ 0x00 ∷ 0x00 ∷ 0x01 ∷ 0x05 ∷ 0xff ∷ 0xff ∷ 0xff ∷ 0xff ∷ 0x00 ∷ []) 0
    ≡ gave 0x10 0x11 (walk_at 11 0xfffffffe 2) ∷ ends (walk_at 17 0xffffffff 4) ∷ []
unfolding ranges_in
dead_base_unused = refl

dead_base_other_kinds : ranges (0x05 ∷ 0xfe ∷ 0xff ∷ 0xff ∷ 0xff ∷ 0x02 ∷ 0x00 ∷ 0x01 ∷ 0x03 ∷ 0x00 ∷ 0x08 ∷ 0x06 ∷ 0x10 ∷ 0x00 ∷ 0x00 ∷ 0x00 ∷ 0x11 ∷ 0x00 ∷ 0x00 ∷ 0x00 ∷ 0x00 ∷ []) 0
    ≡ gave 0x10 0x20 (walk_at 8 0xfffffffe 2) ∷ gave 0x10 0x18 (walk_at 11 0xfffffffe 3) ∷ gave 0x10 0x11 (walk_at 20 0xfffffffe 4) ∷ ends (walk_at 21 0xfffffffe 5) ∷ []
unfolding ranges_in
dead_base_other_kinds = refl

dead_base_given : ranges (0x04 ∷ 0x00 ∷ 0x01 ∷ 0x00 ∷ []) 0xfffffffe ≡ broken 16 (walk_at 4 0xfffffffe 1)
unfolding ranges_in
dead_base_given = refl

live_base : ranges (0x04 ∷ 0x00 ∷ 0x01 ∷ 0x00 ∷ []) 0xfffffffd
    ≡ gave 0xfffffffd 0xfffffffe (walk_at 3 0xfffffffd 1) ∷ ends (walk_at 4 0xfffffffd 2) ∷ []
unfolding ranges_in
live_base = refl

dead_base_wrapped : ranges (0x04 ∷ 0x80 ∷ 0x02 ∷ 0x90 ∷ 0x02 ∷ 0x00 ∷ []) 0xfffffffe ≡ broken 16 (walk_at 6 0xfffffffe 1)
unfolding ranges_in
dead_base_wrapped = refl

dead_base_backward : ranges (0x04 ∷ 0x90 ∷ 0x02 ∷ 0x80 ∷ 0x02 ∷ 0x00 ∷ []) 0xffffffff ≡ broken 16 (walk_at 6 0xffffffff 1)
unfolding ranges_in
dead_base_backward = refl

wide_base : sized Little 5 1 (0x04 ∷ 0x00 ∷ 0x01 ∷ 0x00 ∷ []) 0x100 ≡ broken 16 (walk_at 4 0x100 1)
unfolding ranges_in
wide_base = refl

dead_base_by_index : ranges_in Little dead_row 5 4 (0x01 ∷ 0x01 ∷ 0x04 ∷ 0x00 ∷ 0x01 ∷ 0x00 ∷ []) (walk_at 0 0 0)
    ≡ broken 16 (walk_at 6 0xfffffffe 2)
unfolding ranges_in
dead_base_by_index = refl

-- 16, begin: at the bound, also of an empty range; below it; as a sum; as a row; where the range is backward; once all rows are there
dead_begin : ranges (0x06 ∷ 0xfe ∷ 0xff ∷ 0xff ∷ 0xff ∷ 0xff ∷ 0xff ∷ 0xff ∷ 0xff ∷ 0x00 ∷ []) 0 ≡ broken 16 (walk_at 10 0 1)
unfolding ranges_in
dead_begin = refl

dead_empty : ranges (0x06 ∷ 0xfe ∷ 0xff ∷ 0xff ∷ 0xff ∷ 0xfe ∷ 0xff ∷ 0xff ∷ 0xff ∷ 0x00 ∷ []) 0 ≡ broken 16 (walk_at 10 0 1)
unfolding ranges_in
dead_empty = refl

live_begin : ranges (0x06 ∷ 0xfd ∷ 0xff ∷ 0xff ∷ 0xff ∷ 0xfe ∷ 0xff ∷ 0xff ∷ 0xff ∷ 0x00 ∷ []) 0
    ≡ gave 0xfffffffd 0xfffffffe (walk_at 9 0 1) ∷ ends (walk_at 10 0 2) ∷ []
unfolding ranges_in
live_begin = refl

dead_sum : ranges (0x04 ∷ 0xfe ∷ 0x01 ∷ 0xff ∷ 0x01 ∷ 0x00 ∷ []) 0xffffff00 ≡ broken 16 (walk_at 6 0xffffff00 1)
unfolding ranges_in
dead_sum = refl

dead_backward : ranges (0x06 ∷ 0xff ∷ 0xff ∷ 0xff ∷ 0xff ∷ 0xfe ∷ 0xff ∷ 0xff ∷ 0xff ∷ 0x00 ∷ []) 0 ≡ broken 16 (walk_at 10 0 1)
unfolding ranges_in
dead_backward = refl

dead_row_lem : ranges_in Little dead_row 5 4 (0x02 ∷ 0x01 ∷ 0x00 ∷ 0x00 ∷ []) (walk_at 0 0 0) ≡ broken 16 (walk_at 4 0 1)
unfolding ranges_in
dead_row_lem = refl

dead_row_length : ranges_in Little dead_row 5 4 (0x03 ∷ 0x01 ∷ 0x01 ∷ 0x00 ∷ []) (walk_at 0 0 0) ≡ broken 16 (walk_at 4 0 1)
unfolding ranges_in
dead_row_length = refl

dead_row_no_end : ranges_in Little dead_row 5 4 (0x02 ∷ 0x01 ∷ 0x02 ∷ 0x04 ∷ 0x01 ∷ 0x02 ∷ 0x00 ∷ []) (walk_at 0 0 0)
    ≡ lost 1 (walk_at 3 0 1) ∷ gave 1 2 (walk_at 6 0 2) ∷ ends (walk_at 7 0 3) ∷ []
unfolding ranges_in
dead_row_no_end = refl

dead_end : ranges_in Little dead_row 5 4 (0x02 ∷ 0x00 ∷ 0x01 ∷ 0x00 ∷ []) (walk_at 0 0 0)
    ≡ gave 0x10 0xfffffffe (walk_at 3 0 1) ∷ ends (walk_at 4 0 2) ∷ []
unfolding ranges_in
dead_end = refl

-- 17, begin above end: by addresses, offsets, rows, an end that wraps; a begin that wraps below its base address is none
backward : ranges (0x06 ∷ 0x20 ∷ 0x00 ∷ 0x00 ∷ 0x00 ∷ 0x10 ∷ 0x00 ∷ 0x00 ∷ 0x00 ∷ 0x00 ∷ []) 0 ≡ broken 17 (walk_at 10 0 1)
unfolding ranges_in
backward = refl

backward_offsets : ranges (0x04 ∷ 0x01 ∷ 0x02 ∷ 0x04 ∷ 0x02 ∷ 0x01 ∷ 0x00 ∷ []) 0x1000
    ≡ gave 0x1001 0x1002 (walk_at 3 0x1000 1) ∷ broken 17 (walk_at 7 0x1000 2)
unfolding ranges_in
backward_offsets = refl

backward_rows : ranges (0x02 ∷ 0x01 ∷ 0x00 ∷ 0x00 ∷ []) 0 ≡ broken 17 (walk_at 4 0 1)
unfolding ranges_in
backward_rows = refl

backward_length : ranges (0x03 ∷ 0x00 ∷ 0xf8 ∷ 0xff ∷ 0xff ∷ 0xff ∷ 0x0f ∷ 0x00 ∷ []) 0 ≡ broken 17 (walk_at 8 0 1)
unfolding ranges_in
backward_length = refl

wrapped_length : sized Little 5 1 (0x07 ∷ 0xf0 ∷ 0x20 ∷ 0x00 ∷ []) 0 ≡ broken 17 (walk_at 4 0 1)
unfolding ranges_in
wrapped_length = refl

wrapped_end : ranges (0x04 ∷ 0x10 ∷ 0x90 ∷ 0x02 ∷ 0x00 ∷ []) 0xffffff00 ≡ broken 17 (walk_at 5 0xffffff00 1)
unfolding ranges_in
wrapped_end = refl

wrapped_both : ranges (0x04 ∷ 0x80 ∷ 0x02 ∷ 0x90 ∷ 0x02 ∷ 0x00 ∷ []) 0xffffff00
    ≡ gave 0 0x10 (walk_at 5 0xffffff00 1) ∷ ends (walk_at 6 0xffffff00 2) ∷ []
unfolding ranges_in
wrapped_both = refl

-- an empty range is passed over
empty : ranges (0x06 ∷ 0x10 ∷ 0x00 ∷ 0x00 ∷ 0x00 ∷ 0x10 ∷ 0x00 ∷ 0x00 ∷ 0x00 ∷ 0x04 ∷ 0x05 ∷ 0x05 ∷ 0x07 ∷ 0x10 ∷ 0x00 ∷ 0x00 ∷ 0x00 ∷ 0x01 ∷ 0x00 ∷ []) 0
    ≡ gave 0x10 0x11 (walk_at 18 0 3) ∷ ends (walk_at 19 0 4) ∷ []
unfolding ranges_in
empty = refl

-- bare pairs, of which no number is padded
bare_dead : sized Little 4 2 (0xfe ∷ 0xff ∷ 0xfe ∷ 0xff ∷ 0x00 ∷ 0x00 ∷ 0x00 ∷ 0x00 ∷ []) 0 ≡ broken 16 (walk_at 8 0 1)
unfolding ranges_in
bare_dead = refl

bare_backward : sized Little 4 2 (0x03 ∷ 0x00 ∷ 0x01 ∷ 0x00 ∷ 0x00 ∷ 0x00 ∷ 0x00 ∷ 0x00 ∷ []) 0 ≡ broken 17 (walk_at 8 0 1)
unfolding ranges_in
bare_backward = refl

bare_base : sized Little 4 2 (0xff ∷ 0xff ∷ 0xfe ∷ 0xff ∷ 0x10 ∷ 0x00 ∷ 0x20 ∷ 0x00 ∷ 0x00 ∷ 0x00 ∷ 0x00 ∷ 0x00 ∷ []) 0
    ≡ broken 16 (walk_at 12 0xfffe 2)
unfolding ranges_in
bare_base = refl

bare_sum : sized Little 4 2 (0xfe ∷ 0x00 ∷ 0xff ∷ 0x00 ∷ 0x00 ∷ 0x00 ∷ 0x00 ∷ 0x00 ∷ []) 0xff00 ≡ broken 16 (walk_at 8 0xff00 1)
unfolding ranges_in
bare_sum = refl

bare_base_unused : sized Little 4 2 (0xff ∷ 0xff ∷ 0xfe ∷ 0xff ∷ 0x00 ∷ 0x00 ∷ 0x00 ∷ 0x00 ∷ []) 0 ≡ ends (walk_at 8 0xfffe 2) ∷ []
unfolding ranges_in
bare_base_unused = refl

bare_kept : sized Little 4 2 (0x80 ∷ 0x00 ∷ 0x80 ∷ 0x00 ∷ 0x80 ∷ 0x00 ∷ 0x81 ∷ 0x00 ∷ 0x00 ∷ 0x00 ∷ 0x00 ∷ 0x00 ∷ []) 0
    ≡ gave 0x80 0x81 (walk_at 8 0 2) ∷ ends (walk_at 12 0 3) ∷ []
unfolding ranges_in
bare_kept = refl

-- the other sizes and the other order
three_bytes : sized Little 5 3 (0x06 ∷ 0xfd ∷ 0xff ∷ 0xff ∷ 0xfe ∷ 0xff ∷ 0xff ∷ 0x06 ∷ 0xfe ∷ 0xff ∷ 0xff ∷ 0xff ∷ 0xff ∷ 0xff ∷ 0x00 ∷ []) 0
    ≡ gave 0xfffffd 0xfffffe (walk_at 7 0 1) ∷ broken 16 (walk_at 15 0 2)
unfolding ranges_in
three_bytes = refl

three_bytes_big : ranges_in Big dead_row3 5 3 (0x02 ∷ 0x00 ∷ 0x01 ∷ 0x02 ∷ 0x01 ∷ 0x00 ∷ 0x00 ∷ []) (walk_at 0 0 0)
    ≡ gave 0x10 0xfffffe (walk_at 3 0 1) ∷ broken 16 (walk_at 7 0 2)
unfolding ranges_in
three_bytes_big = refl

eight_bytes : sized Little 5 8 (0x04 ∷ 0x01 ∷ 0x02 ∷ 0x00 ∷ []) (2 ^ 64 - 2) ≡ broken 16 (walk_at 4 (2 ^ 64 - 2) 1)
unfolding ranges_in
eight_bytes = refl

eight_bytes_kept : sized Little 5 8 (0x06 ∷ 0xfd ∷ 0xff ∷ 0xff ∷ 0xff ∷ 0xff ∷ 0xff ∷ 0xff ∷ 0xff ∷ 0xfe ∷ 0xff ∷ 0xff ∷ 0xff ∷ 0xff ∷ 0xff ∷ 0xff ∷ 0xff ∷ 0x00 ∷ []) 0
    ≡ gave 0xfffffffffffffffd (2 ^ 64 - 2) (walk_at 17 0 1) ∷ ends (walk_at 18 0 2) ∷ []
unfolding ranges_in
eight_bytes_kept = refl

-- a size that is not read is refused before all else
size_5 : call Little table 5 5 (0x04 ∷ 0x80 ∷ 0x00 ∷ 0x80 ∷ 0x00 ∷ 0x00 ∷ []) (walk_at 0 7 3) ≡ hands (refused 6 (5 ∷ [])) (walk_at 6 7 3)
unfolding call
size_5 = refl

size_5_over : call Little table 5 5 (0x00 ∷ []) (walk_at 1 0 0) ≡ hands (refused 6 (5 ∷ [])) (walk_at 1 0 0)
unfolding call
size_5_over = refl

-- a walk past the section; counts at their end
past_the_section : ranges_in Little table 5 4 (0x04 ∷ 0x02 ∷ 0x01 ∷ []) (walk_at 9 0 1) ≡ ends (walk_at 9 0 1) ∷ []
unfolding ranges_in
past_the_section = refl

last_count : ranges_in Little table 5 4 (0x04 ∷ 0x05 ∷ 0x05 ∷ 0x04 ∷ 0x02 ∷ 0x01 ∷ 0x00 ∷ []) (walk_at 0 0 (2 ^ 64 - 2))
    ≡ broken 17 (walk_at 7 0 (2 ^ 64 - 1))
unfolding ranges_in
last_count = refl

no_more_count : ranges_in Little table 5 4 (0x04 ∷ 0x80 ∷ 0x00 ∷ 0x01 ∷ 0x00 ∷ []) (walk_at 0 0 (2 ^ 64 - 1))
    ≡ broken 15 (walk_at 5 0 (2 ^ 64 - 1))
unfolding ranges_in
no_more_count = refl

-- locations: a default location has no bounds that break the profile, whatever the base address; a length may be padded
default : locations (0x05 ∷ 0x01 ∷ 0x50 ∷ 0x00 ∷ []) 0xfffffffe
    ≡ located 0 (2 ^ 64 - 1) 2 1 (walk_at 3 0xfffffffe 1) ∷ ends (walk_at 4 0xfffffffe 2) ∷ []
unfolding locations_in
default = refl

default_padded : locations (0x05 ∷ 0x81 ∷ 0x00 ∷ 0x50 ∷ 0x00 ∷ []) 0 ≡ broken 15 (walk_at 5 0 1)
unfolding locations_in
default_padded = refl

location_cut : locations (0x05 ∷ 0x81 ∷ 0x00 ∷ []) 0 ≡ lost 1 (walk_at 3 0 0) ∷ ends (walk_at 3 0 0) ∷ []
unfolding locations_in
location_cut = refl

location_padded : locations (0x07 ∷ 0x10 ∷ 0x00 ∷ 0x00 ∷ 0x00 ∷ 0x20 ∷ 0x00 ∷ 0x00 ∷ 0x00 ∷ 0x01 ∷ 0x51 ∷ 0x04 ∷ 0x01 ∷ 0x02 ∷ 0x81 ∷ 0x00 ∷ 0x50 ∷ 0x00 ∷ []) 0
    ≡ located 0x10 0x20 10 1 (walk_at 11 0 1) ∷ broken 15 (walk_at 18 0 2)
unfolding locations_in
location_padded = refl

location_dead : locations (0x06 ∷ 0xfe ∷ 0xff ∷ 0xff ∷ 0xff ∷ 0x04 ∷ 0x00 ∷ 0x01 ∷ 0x00 ∷ 0x00 ∷ []) 0 ≡ broken 16 (walk_at 10 0xfffffffe 2)
unfolding locations_in
location_dead = refl

location_backward : locations (0x08 ∷ 0x10 ∷ 0x00 ∷ 0x00 ∷ 0x00 ∷ 0x01 ∷ 0x00 ∷ 0x07 ∷ 0x20 ∷ 0x00 ∷ 0x00 ∷ 0x00 ∷ 0x10 ∷ 0x00 ∷ 0x00 ∷ 0x00 ∷ 0x01 ∷ 0x50 ∷ 0x00 ∷ []) 0
    ≡ located 0x10 0x11 7 0 (walk_at 7 0 1) ∷ broken 17 (walk_at 19 0 2)
unfolding locations_in
location_backward = refl

-- split, where lengths are of fixed width up to version 4; bare locations
split_kept : locations_in true 4 4 (0x03 ∷ 0x00 ∷ 0x08 ∷ 0x00 ∷ 0x00 ∷ 0x00 ∷ 0x01 ∷ 0x00 ∷ 0x50 ∷ 0x00 ∷ []) 0
    ≡ located 0x10 0x18 8 1 (walk_at 9 0 1) ∷ ends (walk_at 10 0 2) ∷ []
unfolding locations_in
split_kept = refl

split_padded : locations_in true 4 4 (0x03 ∷ 0x80 ∷ 0x00 ∷ 0x08 ∷ 0x00 ∷ 0x00 ∷ 0x00 ∷ 0x01 ∷ 0x00 ∷ 0x50 ∷ 0x00 ∷ []) 0
    ≡ broken 15 (walk_at 11 0 1)
unfolding locations_in
split_padded = refl

bare_location : locations_in false 4 2 (0x01 ∷ 0x00 ∷ 0x02 ∷ 0x00 ∷ 0x01 ∷ 0x00 ∷ 0x50 ∷ 0x03 ∷ 0x00 ∷ 0x01 ∷ 0x00 ∷ 0x00 ∷ 0x00 ∷ 0x00 ∷ 0x00 ∷ 0x00 ∷ 0x00 ∷ []) 0
    ≡ located 1 2 6 1 (walk_at 7 0 1) ∷ broken 17 (walk_at 17 0 2)
unfolding locations_in
bare_location = refl

-- by a table of kind numbers
by_table_padded : ranges_by reversed (0x00 ∷ 0x10 ∷ 0x00 ∷ 0x00 ∷ 0x00 ∷ 0x81 ∷ 0x00 ∷ 0x07 ∷ []) 0 ≡ broken 15 (walk_at 8 0 1)
unfolding ranges_by
by_table_padded = refl

by_table_dead : ranges_by reversed (0x02 ∷ 0xfe ∷ 0xff ∷ 0xff ∷ 0xff ∷ 0x00 ∷ 0x10 ∷ 0x00 ∷ 0x00 ∷ 0x00 ∷ 0x01 ∷ 0x03 ∷ 0x00 ∷ 0x01 ∷ 0x07 ∷ []) 0
    ≡ gave 0x10 0x11 (walk_at 11 0xfffffffe 2) ∷ broken 16 (walk_at 15 0xfffffffe 3)
unfolding ranges_by
by_table_dead = refl

by_table_refused : ranges_by reversed (0x08 ∷ 0x80 ∷ 0x00 ∷ []) 0 ≡ hands (refused 3 (8 ∷ [])) (walk_at 3 0 0) ∷ ends (walk_at 3 0 0) ∷ []
unfolding ranges_by
by_table_refused = refl
