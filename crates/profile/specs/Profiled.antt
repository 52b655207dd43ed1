-- What the profile promises beyond a single call, whatever the bytes: the statements of docs/SCOPE.md, "Profile". Their proofs are
-- `every_profile` in proofs/UpToLaws.antt and `breaks` in proofs/TellLaws.antt, for the two lists `listed_profile`.
use Rattle.std.specs.Prelude.{ℕ, zero, suc, ◌-◌, ◌^◌, ◌≤◌, ◌<◌, Bool, true, ◌⊎◌, ◌≡◌, leb}
use Rattle.section_bytes.specs.Address.{min_tombstone}
use Rattle.section_bytes.specs.Error.{refusal}
use Rattle.section_bytes.specs.Read.{Result, gives, refused, got, Read, and_then, pick}
use Rattle.section_bytes.specs.Reader.{is_size}
use Rattle.section_bytes.specs.declared.common.DebugAddrIndex.{DebugAddrIndex}
use Rattle.section_bytes.specs.declared.error.Error.{Error}
use Rattle.entries.specs.Forms.{Raw, stop, entry}
use Rattle.entries.specs.declared.RawRngListEntry.{RawRngListEntry}
use Rattle.entries.specs.declared.RawRngListEntry.TheVariants.{StartEnd}
use Rattle.tables.specs.Next.{hands}
use Rattle.lists.specs.Convert.{Turn, range, rebase, skip, bounded, convert}
use Rattle.lists.specs.Open.{read_to, rebased}
use Rattle.lists.specs.Walk.{Listing, item, Trace, over, handed, trace, next}
use Rattle.lists.specs.declared.Walk.{Walk}
use Rattle.profile.specs.Profile.{kept, Tells, between, added, selects, tells, of_told, of_lookups, of_read, profile, profile_next}
use Rattle.std.specs.Prelude.{Err}
use Rattle.std.specs.declared.result.Result.{Result as Answer}
use Rattle.section_bytes.specs.declared.error.Error.{Error}

-- The ordinary walk an entry at a time. The walk behind an entry that was read; the end mark and what can't be read have none behind them
abbrev pub behind_turn : Result Turn → Walk → Walk
behind_turn (gives (range b e)) w = w
behind_turn (gives (rebase b)) w = rebased b w
behind_turn (gives skip) w = w
behind_turn (refused n vs) w = w

abbrev pub behind_read : (l : Listing) → (DebugAddrIndex → Result ℕ) → ℕ → Walk → Read (Raw l.Entry) → Walk
behind_read l table size w (gives (got (entry e) c)) = behind_turn (convert table size w.base_address (l.bounds_of e)) (read_to c w)
behind_read l table size w (gives (got stop c)) = w
behind_read l table size w (refused n vs) = w

abbrev pub behind_one : (l : Listing) → (DebugAddrIndex → Result ℕ) → ℕ → ℕ → Walk → Walk
behind_one l table size len w = pick (leb len w.at) w (behind_read l table size w (l.read w.at))

-- and behind n entries
unfoldable pub behind : (l : Listing) → (DebugAddrIndex → Result ℕ) → ℕ → ℕ → ℕ → Walk → Walk
behind l table size len zero w = w
behind l table size len (suc n) w = behind l table size len n (behind_one l table size len w)

-- what an entry hands out, and then what follows
abbrev pub turn_then : {D : Type 0} → Result Turn → D → Walk → Trace D → Trace D
turn_then (gives (range b e)) d w t = handed (gives (item b e d)) w t
turn_then (gives (rebase b)) d w t = t
turn_then (gives skip) d w t = t
turn_then (refused n vs) d w t = handed (refused n vs) w t

abbrev pub read_then : (l : Listing) → (DebugAddrIndex → Result ℕ) → ℕ → Walk → Read (Raw l.Entry) → Trace l.Carried → Trace l.Carried
read_then l table size w (gives (got (entry e) c)) t = turn_then (convert table size w.base_address (l.bounds_of e)) (l.carried e) (read_to c w) t
read_then l table size w (gives (got stop c)) t = t
read_then l table size w (refused n vs) t = t

abbrev pub one_then : (l : Listing) → (DebugAddrIndex → Result ℕ) → ℕ → ℕ → Walk → Trace l.Carried → Trace l.Carried
one_then l table size len w t = pick (leb len w.at) t (read_then l table size w (l.read w.at) t)

-- what n entries hand out, one after the other, and then what follows
unfoldable pub given_then : (l : Listing) → (DebugAddrIndex → Result ℕ) → ℕ → ℕ → ℕ → Walk → Trace l.Carried → Trace l.Carried
given_then l table size len zero w t = t
given_then l table size len (suc n) w t = one_then l table size len w (given_then l table size len n (behind_one l table size len w) t)

-- whether one of the three stands where a walk does
abbrev pub held_at : (l : Listing) → (ℕ → Bool) → (DebugAddrIndex → Result ℕ) → ℕ → ℕ → Walk → Answer Unit Error
held_at l padded table size len w = pick (leb len w.at) kept (of_read l padded table size w (l.read w.at))

-- and behind n entries of the ordinary walk
abbrev pub held_behind : (l : Listing) → (ℕ → Bool) → (DebugAddrIndex → Result ℕ) → ℕ → ℕ → ℕ → Walk → Answer Unit Error
held_behind l padded table size len n w = held_at l padded table size len (behind l table size len n w)

-- none of the three stands at the first n entries
abbrev pub KeptBefore : (l : Listing) → (ℕ → Bool) → (DebugAddrIndex → Result ℕ) → ℕ → ℕ → ℕ → Walk → Type 0
KeptBefore l padded table size len n w = (k : ℕ) → k < n → held_behind l padded table size len k w ≡ kept

-- the first of the three, behind n entries
pub record FirstBroken (l : Listing) (padded : ℕ → Bool) (table : DebugAddrIndex → Result ℕ) (size len n : ℕ) (w : Walk) (x : Error) : Type 0 where
  pub before : KeptBefore l padded table size len n w
  pub stands : held_behind l padded table size len n w ≡ Err x

-- a walk that is emptied at an entry, which was read
abbrev pub emptied_behind : (l : Listing) → (DebugAddrIndex → Result ℕ) → ℕ → ℕ → ℕ → Walk → Walk
emptied_behind l table size len n w = read_to len (behind l table size len n w)

-- a walk handed back does what the list does from there on, and after the end it is over for ever (as `Hands`, Walks of the lists)
abbrev pub HandsInProfile : (l : Listing) → (ℕ → Bool) → (DebugAddrIndex → Result ℕ) → ℕ → ℕ → Trace l.Carried → Type 0
HandsInProfile l padded table size len (over w) = profile l padded table size len w ≡ over w
HandsInProfile l padded table size len (handed r w t) = profile l padded table size len w ≡ t

-- what holds of every profile walk of a list
pub record EveryProfile (l : Listing) (padded : ℕ → Bool) (table : DebugAddrIndex → Result ℕ) (size len : ℕ) : Type 0 where
  -- it hands out exactly what the list does in the profile, one call at a time, and then the end for ever
  pub hands_out : (w : Walk) → HandsInProfile l padded table size len (profile l padded table size len w)
  -- the ordinary walk goes from entry to entry
  pub ordinary : (n : ℕ) (w : Walk) → trace l table size len w ≡ given_then l table size len n w (trace l table size len (behind l table size len n w))
  -- up to the first of the three the profile walk is the ordinary one; that is refused, and the walk is emptied
  pub up_to : (n : ℕ) (w : Walk) → KeptBefore l padded table size len n w
      → profile l padded table size len w ≡ given_then l table size len n w (profile l padded table size len (behind l table size len n w))
  pub broken : (n : ℕ) (w : Walk) (x : Error) → FirstBroken l padded table size len n w x
      → profile l padded table size len w
      ≡ given_then l table size len n w (handed (refusal x) (emptied_behind l table size len n w) (over (emptied_behind l table size len n w)))
  -- where none of the three stands the walks are equal
  pub same : (w : Walk) → ((n : ℕ) → held_behind l padded table size len n w ≡ kept) → profile l padded table size len w ≡ trace l table size len w
  -- none of the three gets past: where one stands there is a first, there or before it
  pub none_past : (n : ℕ) (w : Walk) (x : Error) → held_behind l padded table size len n w ≡ Err x
      → (m : ℕ) × (m ≤ n) × ((y : Error) × FirstBroken l padded table size len m w y)
  -- and a single call is the ordinary one, or meets the first of the three and refuses it
  pub call : is_size size ≡ true → (w : Walk)
      → (profile_next l padded table size len w ≡ next l table size len w)
      ⊎ ((n : ℕ) × ((x : Error) × (FirstBroken l padded table size len n w x × (profile_next l padded table size len w ≡ hands (refusal x) (emptied_behind l table size len n w)))))

-- what the ordinary walk makes of what an entry tells
abbrev pub turn_of : ℕ → Tells → Result Turn
turn_of size (between b e) = bounded size b e
turn_of size (added base b e) = pick (leb (min_tombstone size) base) (gives skip) (bounded size b e)
turn_of size (selects a) = gives (rebase a)

-- a range that holds no address, as an entry tells it
pub data Empty : Tells → Type 0 where
  between_same : (b : ℕ) → Empty (between b b)
  added_same : (base b : ℕ) → Empty (added base b b)

-- the three beside the ordinary conversion
pub record Breaks : Type 0 where
  -- what an entry tells is what is converted
  pub as_converted : (table : DebugAddrIndex → Result ℕ) (size base : ℕ) (e : RawRngListEntry)
      → convert table size base e ≡ and_then (tells table size base e) (turn_of size)
  -- the ordinary walk passes over an entry at which 16 or 17 stands: neither stands at a range that it hands out
  pub passed_over : (size : ℕ) (t : Tells) (x : Error) → of_told size t ≡ Err x → turn_of size t ≡ gives skip
  -- and what both pass over is empty
  pub empty : (size : ℕ) (t : Tells) → turn_of size t ≡ gives skip → of_told size t ≡ kept → Empty t
  -- a default location, 0 to 2^64 - 1, is neither
  pub default_location : (table : DebugAddrIndex → Result ℕ) (size base : ℕ) → is_size size ≡ true
      → of_lookups size (tells table size base (StartEnd 0 (2 ^ 64 - 1))) ≡ kept
