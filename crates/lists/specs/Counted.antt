-- How many raw entries a walk has read, whatever the bytes: the statements of docs/SCOPE.md, "Counts". Their proofs are `ranges_counted`
-- and `locations_counted` in proofs/CountLaws.antt.
use Rattle.std.specs.Prelude.{ℕ, zero, suc, ◌+◌, ◌^◌, ◌≤◌, ◌<◌, List, ◌≡◌, leb, length}
use Rattle.section_bytes.specs.Read.{Result, gives, refused, got, Read, pick}
use Rattle.section_bytes.specs.declared.common.DebugAddrIndex.{DebugAddrIndex}
use Rattle.section_bytes.specs.declared.common.Encoding.{Encoding}
use Rattle.tables.specs.Next.{Next, ends, hands}
use Rattle.entries.specs.Forms.{Raw, stop, entry}
use Rattle.lists.specs.Open.{opened}
use Rattle.lists.specs.Walk.{Listing, next, next_raw, Outcome, comes, nothing, convert_raw}
use Rattle.lists.specs.declared.Walk.{Walk}

-- an entry is read and what follows it; the end mark is read, and nothing follows it; what is refused is not read
abbrev pub on_entry : {E : Type 0} → Read (Raw E) → (ℕ → ℕ) → ℕ
on_entry (gives (got (entry e) c)) go = suc (go c)
on_entry (gives (got stop c)) go = 1
on_entry (refused n vs) go = 0

-- the raw entries that are read from one place on before another, at most n: each takes a byte at least
unfoldable pub entries_from : Listing → ℕ → ℕ → ℕ → ℕ
entries_from l zero at to = 0
entries_from l (suc n) at to = pick (leb to at) 0 (on_entry (l.read at) (λ c. entries_from l n c to))

abbrev pub entries_before : Listing → ℕ → ℕ → ℕ
entries_before l at to = entries_from l to at to

-- the walk that a call hands back
abbrev pub left_by : {E : Type 0} → Next E Walk → Walk
left_by (hands r w) = w
left_by (ends w) = w

abbrev pub left_after : {D : Type 0} → Outcome D → Walk
left_after (comes r w) = w
left_after (nothing w) = w

-- the walks that come from the opening of a list by calls over its section, whatever address table each call is lent. One that a caller
-- keeps, and takes up again later, is one of them
pub data Reached (encoding : Encoding) (s : List ℕ) (l : Listing) (offset : ℕ) : Walk → Type 0 where
  by_opening : (base : ℕ) {w : Walk} → opened encoding s offset base ≡ gives w → Reached encoding s l offset w
  by_next : (table : DebugAddrIndex → Result ℕ) (w : Walk) → Reached encoding s l offset w → Reached encoding s l offset (left_by (next l table encoding.address_size (length s) w))
  by_next_raw : (w : Walk) → Reached encoding s l offset w → Reached encoding s l offset (left_by (next_raw l encoding.address_size (length s) w))
  by_convert_raw : (table : DebugAddrIndex → Result ℕ) (e : l.Entry) (w : Walk) → Reached encoding s l offset w → Reached encoding s l offset (left_after (convert_raw l table encoding.address_size w e))

-- what holds of the count of every such walk. A walk that is emptied stands at the section's end, before which all that can be read of the
-- list is read
pub record Counted (encoding : Encoding) (s : List ℕ) (l : Listing) (offset : ℕ) : Type 1 where
  -- it is the number of entries that the definition reads before the walk's place; every section that is lent is shorter than 2^64
  pub exact : length s < 2 ^ 64 → {w : Walk} → Reached encoding s l offset w → w.entries ≡ entries_before l offset w.at
  -- each entry takes a byte, so that this number is no larger than the bytes before the place, and below 2^64
  pub fits : {w : Walk} → Reached encoding s l offset w → (offset + entries_before l offset w.at ≤ w.at) × (w.at ≤ length s)
