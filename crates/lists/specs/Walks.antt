-- What holds of every walk, whatever the bytes: the statements of docs/SCOPE.md, "Walks" and "Demand 2". Their
-- proofs are `ranges_walk`, `locations_walk` in proofs/Theorems.antt and `ranges_bounded`, `locations_bounded` in
-- proofs/Bounds.antt.
use Rattle.std.specs.Prelude.{ℕ, ◌-◌, ◌*◌, ◌^◌, ◌≤◌, ◌<◌, Bool, true, false, List, ◌≡◌}
use Rattle.section_bytes.specs.Read.{Result, gives, refused, got}
use Rattle.section_bytes.specs.Reader.{is_size}
use Rattle.section_bytes.specs.declared.common.DebugAddrIndex.{DebugAddrIndex}
use Rattle.tables.specs.Next.{Next, ends, hands}
use Rattle.entries.specs.Forms.{entry}
use Rattle.entries.specs.declared.RawLocListEntry.{RawLocListEntry}
use Rattle.entries.specs.declared.RawLocListEntry.TheVariants as loc
use Rattle.lists.specs.Open.{moved_to, read_to}
use Rattle.lists.specs.Convert.{convert}
use Rattle.lists.specs.Walk.{Listing, Item, item, Trace, over, trace, next, next_raw, handed}
use Rattle.lists.specs.declared.Walk.{Walk}

-- a walk handed back does what the list does from there on, and after the end it is over for ever
abbrev pub Hands : (l : Listing) → (DebugAddrIndex → Result ℕ) → ℕ → ℕ → Trace l.Carried → Type 0
Hands l table size len (over w) = trace l table size len w ≡ over w
Hands l table size len (handed r w t) = trace l table size len w ≡ t

-- what a raw call leaves: past its place, or emptied
abbrev pub Progress : {E : Type 0} → ℕ → ℕ → Next E Walk → Type 0
Progress at len (hands (gives e) w) = (at < w.at) × (w.at ≤ len)
Progress at len (ends w) = w.at ≡ len
Progress at len (hands (refused n vs) w) = w.at ≡ len

-- what holds of every walk of a list
pub record EveryWalk (l : Listing) (table : DebugAddrIndex → Result ℕ) (size len : ℕ) : Type 0 where
  -- it hands out exactly what the list does, one call at a time, and then the end for ever
  pub hands_out : (w : Walk) → Hands l table size len (trace l table size len w)
  -- a failed lookup loses nothing else: the base stays, and the walk goes on after the entry
  pub lookup_failed : (w : Walk) → w.at < len → {e : l.Entry} {c n : ℕ} {vs : List ℕ}
      → l.read w.at ≡ gives (got (entry e) c) → refused n vs ≡ convert table size w.base_address (l.bounds_of e)
      → trace l table size len w ≡ handed (refused n vs) (read_to c w) (trace l table size len (read_to c w))
  -- a raw refusal empties the walk, and then it is over
  pub raw_refused : (w : Walk) → w.at < len → {n : ℕ} {vs : List ℕ} → l.read w.at ≡ refused n vs
      → trace l table size len w ≡ handed (refused n vs) (moved_to len w) (over (moved_to len w))
  -- each raw call on a place before the section's end reads at least one byte or empties the walk
  pub raw_progress : (w : Walk) → w.at < len → Progress w.at len (next_raw l size len w)

-- begin below end and below the tombstone bound, end at most the largest address
abbrev pub InBounds : ℕ → ℕ → ℕ → Type 0
InBounds size b e = (b < e) × (b < 2 ^ (8 * size) - 2) × (e ≤ 2 ^ (8 * size) - 1)

abbrev pub is_default : RawLocListEntry → Bool
is_default (loc.AddressOrOffsetPair b e x) = false
is_default (loc.BaseAddress a) = false
is_default (loc.BaseAddressx i) = false
is_default (loc.StartxEndx i j x) = false
is_default (loc.StartxLength i n x) = false
is_default (loc.OffsetPair b e x) = false
is_default (loc.DefaultLocation x) = true
is_default (loc.StartEnd b e x) = false
is_default (loc.StartLength b n x) = false

abbrev pub InBoundsOr : Bool → ℕ → ℕ → ℕ → Type 0
InBoundsOr true size b e = (b ≡ 0) × (e ≡ 2 ^ 64 - 1)
InBoundsOr false size b e = InBounds size b e

-- of a location by its entry: a default location is 0 to 2^64 - 1, every other lies within its bounds
abbrev pub LocationInBounds : ℕ → RawLocListEntry → ℕ → ℕ → Type 0
LocationInBounds size x b e = InBoundsOr (is_default x) size b e

-- a list whose ranges carry something else that is made of the entries that they come from; or these entries themselves
abbrev pub carried_as : {D : Type 0} → (l : Listing) → (l.Entry → D) → Listing
carried_as {D} l f = record { Entry = l.Entry; Carried = D; read = l.read; bounds_of = l.bounds_of; carried = f }

abbrev pub with_entries : Listing → Listing
with_entries l = carried_as l (λ e. e)

-- what is carried, made into something else
abbrev pub carrying : {D C : Type 0} → (D → C) → Trace D → Trace C
carrying f (over w) = over w
carrying f (handed (gives (item b e d)) w t) = handed (gives (item b e (f d))) w (carrying f t)
carrying f (handed (refused n vs) w t) = handed (refused n vs) w (carrying f t)

abbrev pub call_carrying : {D C : Type 0} → (D → C) → Next (Item D) Walk → Next (Item C) Walk
call_carrying f (hands (gives (item b e d)) w) = hands (gives (item b e (f d))) w
call_carrying f (ends w) = ends w
call_carrying f (hands (refused n vs) w) = hands (refused n vs) w

-- of each range that a list hands out, with what it carries
abbrev pub Each : {D : Type 0} → (D → ℕ → ℕ → Type 0) → Trace D → Type 0
Each P (over w) = Unit
Each P (handed (gives (item b e d)) w t) = P d b e × Each P t
Each P (handed (refused n vs) w t) = Each P t

-- of the range that a call hands out
abbrev pub Yielded : {D : Type 0} → (D → ℕ → ℕ → Type 0) → Next (Item D) Walk → Type 0
Yielded P (hands (gives (item b e d)) w) = P d b e
Yielded P (ends w) = Unit
Yielded P (hands (refused n vs) w) = Unit

-- every range met by walking, by the entry that it comes from: a whole walk, and a single call. That the list with its entries is
-- the list is said beside it, so that no range can be put down to another entry
pub record Bounded (l : Listing) (P : l.Entry → ℕ → ℕ → Type 0) (table : DebugAddrIndex → Result ℕ) (size len : ℕ) (w : Walk) : Type 0 where
  pub same_walk : trace l table size len w ≡ carrying l.carried (trace (with_entries l) table size len w)
  pub walk : is_size size ≡ true → Each P (trace (with_entries l) table size len w)
  pub same_call : next l table size len w ≡ call_carrying l.carried (next (with_entries l) table size len w)
  pub call : Yielded P (next (with_entries l) table size len w)
