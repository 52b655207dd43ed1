-- How many raw entries a walk has read that profile calls, too, carry on, whatever the bytes: the statements of docs/SCOPE.md, "Profile".
-- Their proofs are `counted_in_profile` and, for the two lists, `listed_counted_in_profile` in proofs/CarriedLaws.antt.
use Rattle.std.specs.Prelude.{Err}
use Rattle.std.specs.Prelude.{ℕ, ◌^◌, ◌<◌, Bool, List, ◌⊎◌, ◌≡◌, length}
use Rattle.section_bytes.specs.Read.{Result, gives, got}
use Rattle.section_bytes.specs.declared.common.DebugAddrIndex.{DebugAddrIndex}
use Rattle.section_bytes.specs.declared.common.Encoding.{Encoding}
use Rattle.section_bytes.specs.declared.error.Error.{Error}
use Rattle.entries.specs.Forms.{entry}
use Rattle.lists.specs.Counted.{entries_before, left_by, left_after, Reached}
use Rattle.lists.specs.Open.{opened}
use Rattle.lists.specs.Walk.{Listing, next, next_raw, convert_raw}
use Rattle.lists.specs.declared.Walk.{Walk}
use Rattle.profile.specs.Profile.{profile_next}
use Rattle.profile.specs.Profiled.{behind, held_at, held_behind, emptied_behind}

-- the walks that come from the opening of a list by calls over its section, as `Reached`, profile calls among them
pub data CarriedOn (encoding : Encoding) (s : List ℕ) (l : Listing) (padded : ℕ → Bool) (offset : ℕ) : Walk → Type 0 where
  by_opening : (base : ℕ) {w : Walk} → opened encoding s offset base ≡ gives w → CarriedOn encoding s l padded offset w
  by_next : (table : DebugAddrIndex → Result ℕ) (w : Walk) → CarriedOn encoding s l padded offset w → CarriedOn encoding s l padded offset (left_by (next l table encoding.address_size (length s) w))
  by_next_raw : (w : Walk) → CarriedOn encoding s l padded offset w → CarriedOn encoding s l padded offset (left_by (next_raw l encoding.address_size (length s) w))
  by_convert_raw : (table : DebugAddrIndex → Result ℕ) (e : l.Entry) (w : Walk) → CarriedOn encoding s l padded offset w → CarriedOn encoding s l padded offset (left_after (convert_raw l table encoding.address_size w e))
  by_profile : (table : DebugAddrIndex → Result ℕ) (w : Walk) → CarriedOn encoding s l padded offset w → CarriedOn encoding s l padded offset (left_by (profile_next l padded table encoding.address_size (length s) w))

-- a count that goes up to and with the entry at a place: this was read, and the count is the number of entries that the definition reads
-- before its end
pub record CountsWith (l : Listing) (offset at count : ℕ) : Type 0 where
  pub there : l.Entry
  pub end : ℕ
  pub read : l.read at ≡ gives (got (entry there) end)
  pub as_many : count ≡ entries_before l offset end

-- a walk that a profile call emptied, and that calls may have been lent since: its place is the section's length
pub record EmptiedAt (encoding : Encoding) (s : List ℕ) (l : Listing) (padded : ℕ → Bool) (offset : ℕ) (w : Walk) : Type 0 where
  pub place : w.at ≡ length s
  -- ordinary calls reach the walk that stood before the refused entry, and one of the three stands there
  pub met : Walk
  pub reached : Reached encoding s l offset met
  pub table : DebugAddrIndex → Result ℕ
  pub refused : Error
  pub stands : held_at l padded table encoding.address_size (length s) met ≡ Err refused
  -- the count goes up to and with this entry
  pub counted : CountsWith l offset met.at w.entries

-- what holds of the count of every such walk
pub record CountedInProfile (encoding : Encoding) (s : List ℕ) (l : Listing) (padded : ℕ → Bool) (offset : ℕ) : Type 1 where
  -- ordinary calls reach the walk, too, and it is the number of entries that the definition reads before its place; or a profile call
  -- emptied the walk, and it is their number up to and with the entry that was refused
  pub exact : length s < 2 ^ 64 → {w : Walk} → CarriedOn encoding s l padded offset w
      → (Reached encoding s l offset w × (w.entries ≡ entries_before l offset w.at)) ⊎ EmptiedAt encoding s l padded offset w
  -- wherever one of the three stands, the walk that is emptied there has counted it
  pub names : length s < 2 ^ 64 → {v : Walk} → Reached encoding s l offset v → (table : DebugAddrIndex → Result ℕ) (n : ℕ) (x : Error)
      → held_behind l padded table encoding.address_size (length s) n v ≡ Err x
      → CountsWith l offset (behind l table encoding.address_size (length s) n v).at (emptied_behind l table encoding.address_size (length s) n v).entries
