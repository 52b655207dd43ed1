-- Lookups in location lists with default locations (docs/SCOPE.md, "Lookup").
use Rattle.std.specs.Prelude.{◌≡◌, refl, Bool, true, false, List, [], ◌∷◌, ◌++◌, ℕ, ◌-◌, ◌^◌, replicate}
use Rattle.section_bytes.specs.Read.{Result, gives, refused}
use Rattle.section_bytes.specs.Endianity.{little}
use Rattle.section_bytes.specs.Leb128.{unsigned_from, unsigned}
use Rattle.section_bytes.specs.Reader.{skip, split, uint, is_size, address}
use Rattle.section_bytes.specs.declared.endianity.RunTimeEndian.TheVariants.{Little}
use Rattle.tables.specs.Row.{row_at}
use Rattle.tables.specs.Addr.{address_at}
use Rattle.entries.specs.Forms.{versioned_length, block}
use Rattle.entries.specs.Kinds.{location_kinds, kind_of, coded, of_pair, bare, location_entry, raw_at}
use Rattle.entries.specs.declared.Expression.{Expression}
use Rattle.lists.specs.Convert.{convert}
use Rattle.lists.specs.Open.{one_more, opened}
use Rattle.lists.specs.Walk.{item, trace_from, trace}
use Rattle.lookups.specs.Lookup.{Found, found, not_there, lookup_in, location_in, lookup_location}
use Rattle.cases.specs.Cases.{enc, table, expression}

-- an address in a list by whether it is split, version, address size and bytes; rows by index are those of docs/SCOPE.md
looked_up : Bool → ℕ → ℕ → List ℕ → ℕ → Result (Found Expression)
unfolding
    opened one_more trace trace_from convert address_at row_at location_entry raw_at coded bare of_pair kind_of location_kinds versioned_length block split address skip uint is_size little unsigned unsigned_from lookup_in location_in
looked_up dwo version size s a = lookup_location dwo (enc version size) Little s table (record { 0 = 8 }) 0 0 a

-- a default location's answer, by its expression's place
abbrev default : ℕ → Result (Found Expression)
default offset = gives (found (item 0 (2 ^ 64 - 1) (expression offset 1)))

-- a default location first, and then 0x10 to 0x20
abbrev first : List ℕ
first = 0x05 ∷ 0x01 ∷ 0x50 ∷ 0x07 ∷ 0x10 ∷ 0x00 ∷ 0x00 ∷ 0x00 ∷ 0x20 ∷ 0x00 ∷ 0x00 ∷ 0x00 ∷ 0x01 ∷ 0x51 ∷ 0x00 ∷ []

bounded_behind : looked_up false 5 4 first 0x10 ≡ gives (found (item 0x10 0x20 (expression 13 1)))
unfolding looked_up
bounded_behind = refl

bounded_last : looked_up false 5 4 first 0x1f ≡ gives (found (item 0x10 0x20 (expression 13 1)))
unfolding looked_up
bounded_last = refl

below : looked_up false 5 4 first 0x0f ≡ default 2
unfolding looked_up
below = refl

behind : looked_up false 5 4 first 0x20 ≡ default 2
unfolding looked_up
behind = refl

highest_held : looked_up false 5 4 first (2 ^ 64 - 2) ≡ default 2
unfolding looked_up
highest_held = refl

highest : looked_up false 5 4 first (2 ^ 64 - 1) ≡ gives not_there
unfolding looked_up
highest = refl

-- what can't be read behind a default location is the answer
refused_behind : looked_up false 5 4 (0x05 ∷ 0x01 ∷ 0x50 ∷ 0x09 ∷ []) 0x10 ≡ refused 4 (9 ∷ [])
unfolding looked_up
refused_behind = refl

refused_highest : looked_up false 5 4 (0x05 ∷ 0x01 ∷ 0x50 ∷ 0x09 ∷ []) (2 ^ 64 - 1) ≡ refused 4 (9 ∷ [])
unfolding looked_up
refused_highest = refl

-- and behind the bounded entry found it isn't read
abbrev damaged : List ℕ
damaged = 0x07 ∷ 0x10 ∷ 0x00 ∷ 0x00 ∷ 0x00 ∷ 0x20 ∷ 0x00 ∷ 0x00 ∷ 0x00 ∷ 0x01 ∷ 0x51 ∷ 0x05 ∷ 0x01 ∷ 0x50 ∷ 0x09 ∷ []

damage_unread : looked_up false 5 4 damaged 0x10 ≡ gives (found (item 0x10 0x20 (expression 10 1)))
unfolding looked_up
damage_unread = refl

damage_read : looked_up false 5 4 damaged 0x30 ≡ refused 4 (9 ∷ [])
unfolding looked_up
damage_read = refl

-- the first of two
twice : looked_up false 5 4 (0x05 ∷ 0x01 ∷ 0x50 ∷ 0x05 ∷ 0x01 ∷ 0x52 ∷ 0x00 ∷ []) 5 ≡ default 2
unfolding looked_up
twice = refl

-- a row that the address table doesn't have, behind a default location; and behind the bounded entry found
failed_behind : looked_up false 5 4 (0x05 ∷ 0x01 ∷ 0x50 ∷ 0x02 ∷ 0x00 ∷ 0x02 ∷ 0x01 ∷ 0x51 ∷ 0x00 ∷ []) 5 ≡ refused 1 []
unfolding looked_up
failed_behind = refl

failed_unread : looked_up false 5 4 (0x05 ∷ 0x01 ∷ 0x50 ∷ 0x02 ∷ 0x00 ∷ 0x01 ∷ 0x01 ∷ 0x51 ∷ 0x01 ∷ 0x02 ∷ []) 0x1f ≡ gives (found (item 0x10 0x20 (expression 7 1)))
unfolding looked_up
failed_unread = refl

-- a bounded entry from 0 to 2^64 - 1 is no default location: it answers at once, before one and behind one
abbrev whole : List ℕ
whole = 0x07 ∷ replicate 8 0x00 ++ replicate 8 0xff ++ 0x01 ∷ 0x51 ∷ []

whole_behind : looked_up false 5 8 (0x05 ∷ 0x01 ∷ 0x50 ∷ whole ++ 0x00 ∷ []) 5 ≡ default 21
unfolding looked_up
whole_behind = refl

whole_at_once : looked_up false 5 8 (whole ++ 0x09 ∷ []) 5 ≡ default 18
unfolding looked_up
whole_at_once = refl

-- a list without its mark; split lists, where a default location has the same kind in every version, and its length two bytes up to 4
no_mark : looked_up false 5 4 (0x05 ∷ 0x01 ∷ 0x50 ∷ []) 7 ≡ default 2
unfolding looked_up
no_mark = refl

split_4 : looked_up true 4 4 (0x05 ∷ 0x01 ∷ 0x00 ∷ 0x50 ∷ 0x00 ∷ []) 7 ≡ default 3
unfolding looked_up
split_4 = refl

split_5 : looked_up true 5 4 first 0x10 ≡ gives (found (item 0x10 0x20 (expression 13 1)))
unfolding looked_up
split_5 = refl

-- a skipped entry holds nothing: 0x20 to 0x10
skipped : looked_up false 5 4 (0x07 ∷ 0x20 ∷ 0x00 ∷ 0x00 ∷ 0x00 ∷ 0x10 ∷ 0x00 ∷ 0x00 ∷ 0x00 ∷ 0x01 ∷ 0x51 ∷ 0x05 ∷ 0x01 ∷ 0x50 ∷ 0x00 ∷ []) 0x18 ≡ default 13
unfolding looked_up
skipped = refl
