-- The step of one entry by what was read and what that comes to; and what it says of the list's trace. Assumes nothing.
use mathlib.Core.Bool.{Bool}
use mathlib.Core.List.{List}
use mathlib.Core.Logic.{⊎_elim}
use mathlib.Core.Path.{◌≡◌, refl, sym, ap, ◌∙◌, subst}
use Prim.Native.Nat.{ℕ, ◌≤◌, ◌<◌}
use native.Mathlib.Omega.{arith}
use borrow.Author.Tests.{le-leb, lt-leb}
use lib.Dec.{leb}
use Rattle.section_bytes.specs.Read.{Result, gives, refused, got, Read, pick}
use Rattle.section_bytes.specs.Error.{refusal}
use Rattle.section_bytes.specs.declared.common.DebugAddrIndex.{DebugAddrIndex}
use Rattle.section_bytes.specs.declared.error.Error.{Error}
use Rattle.section_bytes.proofs.Order.{lt_or_le}
use Rattle.entries.specs.Forms.{Raw, stop, entry}
use Rattle.entries.specs.Listed.{EntryIn, entry_in, read_in}
use Rattle.entries.specs.Numbers.{Coding}
use Rattle.entries.specs.Told as told
use Rattle.entries.specs.Told.{found, step_of}
use Rattle.entries.specs.declared.Expression.{Expression}
use Rattle.entries.specs.declared.RawLocListEntry.{RawLocListEntry}
use Rattle.entries.specs.declared.RawRngListEntry.{RawRngListEntry}
use Rattle.lists.specs.Open.{moved_to, read_to, rebased}
use Rattle.lists.specs.Convert.{Turn, range, rebase, skip, convert, table_in, bounds, expression_of}
use Rattle.lists.specs.Walk.{Listing, CarriedIn, bounds_in, data_in, listed, Item, Trace, over, handed, on_turn, on_read, trace}
use Rattle.lists.specs.Steps.{Step, yields, rebases, passes, fails, ended, turned, on_entry, step, step_in_unit, Located, is_default_in, located_in}
use Rattle.lists.specs.Walks.{carried_as}
use Rattle.lists.specs.declared.Unit.{Unit as DwarfUnit}
use Rattle.lists.specs.declared.Walk.{Walk}
use Rattle.lists.proofs.ListedLaws.{bounds_in_lem, carried_in_lem}
use Rattle.lists.proofs.WalkLaws.{Moved, trace_over, trace_step}

-- a step, by what the code reads there and what that comes to
module _ (l : Bool) (coding : Coding) (s : List ℕ) (u : DwarfUnit) (at base : ℕ) where
  abbrev taken : Result (told.Step (EntryIn l)) → Result (Step (Located (CarriedIn l)))
  taken (gives (found e c)) = gives (turned (convert (table_in u) u.encoding.address_size base (bounds_in l e)) (located_in l e) c)
  taken (gives told.ended) = gives ended
  taken (refused n vs) = refused n vs

  step_taken : (r : Read (Raw (EntryIn l))) → taken (step_of r) ≡ on_entry (carried_as (listed l coding u.encoding u.endian s) (located_in l)) (table_in u) u.encoding.address_size base r
  step_taken (gives (got (entry e) c)) = refl
  step_taken (gives (got stop c)) = refl
  step_taken (refused n vs) = refl

  pub step_told : {t : Result (told.Step (EntryIn l))} → t ≡ step_of (read_in l coding u.encoding u.endian s at) → taken t ≡ step_in_unit l coding s u at base
  unfolding step
  step_told q = ap taken q ∙ step_taken (read_in l coding u.encoding u.endian s at)

  pub step_refused : (e : Error) → refusal e ≡ step_of (read_in l coding u.encoding u.endian s at) → refusal e ≡ step_in_unit l coding s u at base
  step_refused e q = step_told q

  pub step_turned : (raw : RawLocListEntry) {c : ℕ} {b : RawRngListEntry} {t : Result Turn} {d : Located (CarriedIn l)}
      → gives (found (entry_in l raw) c) ≡ step_of (read_in l coding u.encoding u.endian s at) → b ≡ bounds raw → t ≡ convert (table_in u) u.encoding.address_size base b
      → d ≡ located_in l (entry_in l raw) → gives (turned t d c) ≡ step_in_unit l coding s u at base
  step_turned raw q f g h = rw (h, g, f, ← bounds_in_lem l raw) (step_told q)

pub located_is : (l : Bool) (e : RawLocListEntry) {x : Expression} {t : Bool} → x ≡ expression_of e → t ≡ is_default_in l (entry_in l e)
    → ◌≡◌ {A = Located (CarriedIn l)} (record { carries = data_in l x; by_default = t }) (located_in l (entry_in l e))
located_is l e f g = rw (f, g, carried_in_lem l e)

-- the step's place is past that of the walk, and in the section
abbrev pub Stepping : {D : Type 0} → ℕ → ℕ → Result (Step D) → Type 0
Stepping at len (gives (yields i c)) = (at < c) × (c ≤ len)
Stepping at len (gives (rebases b c)) = (at < c) × (c ≤ len)
Stepping at len (gives (passes c)) = (at < c) × (c ≤ len)
Stepping at len (gives (fails n vs c)) = (at < c) × (c ≤ len)
Stepping at len (gives ended) = Unit
Stepping at len (refused n vs) = Unit

-- what a list does from a walk on, by the step there
abbrev on_step : {D : Type 0} → ℕ → Walk → Result (Step D) → (Walk → Trace D) → Trace D
on_step len w (gives (yields i c)) go = handed (gives i) (read_to c w) (go (read_to c w))
on_step len w (gives (rebases b c)) go = go (rebased b (read_to c w))
on_step len w (gives (passes c)) go = go (read_to c w)
on_step len w (gives (fails n vs c)) go = handed (refused n vs) (read_to c w) (go (read_to c w))
on_step len w (gives ended) go = over (read_to len w)
on_step len w (refused n vs) go = handed (refused n vs) (moved_to len w) (over (moved_to len w))

-- for a list that ends at and past its section's end
module _ (l : Listing) (table : DebugAddrIndex → Result ℕ) (size len : ℕ) (past : (at : ℕ) → at < len → Moved at len (l.read at)) (ends : (at : ℕ) → len ≤ at → l.read at ≡ gives (got stop at)) where
  turn_stepping : {at c : ℕ} (t : Result Turn) (d : l.Carried) → (at < c) × (c ≤ len) → Stepping at len (gives (turned t d c))
  turn_stepping (gives (range b e)) d h = h
  turn_stepping (gives (rebase b)) d h = h
  turn_stepping (gives skip) d h = h
  turn_stepping (refused n vs) d h = h

  entry_stepping : (at base : ℕ) (r : Read (Raw l.Entry)) → Moved at len r → Stepping at len (on_entry l table size base r)
  entry_stepping at base (gives (got (entry e) c)) h = turn_stepping (convert table size base (l.bounds_of e)) (l.carried e) h
  entry_stepping at base (gives (got stop c)) h = tt
  entry_stepping at base (refused n vs) h = tt

  pub stepping : (at base : ℕ) → Stepping at len (step l table size at base)
  unfolding step
  stepping at base =
      ⊎_elim (λ h. entry_stepping at base (l.read at) (past at h)) (λ h. subst (λ (r : Read (Raw l.Entry)). Stepping at len (on_entry l table size base r)) (sym (ends at h)) tt) (lt_or_le at len)

  turn_on : (c : ℕ) (t : Result Turn) (d : l.Carried) (w : Walk) (go : Walk → Trace l.Carried) → on_turn t d (read_to c w) go ≡ on_step len w (gives (turned t d c)) go
  turn_on c (gives (range b e)) d w go = refl
  turn_on c (gives (rebase b)) d w go = refl
  turn_on c (gives skip) d w go = refl
  turn_on c (refused n vs) d w go = refl

  read_on : (w : Walk) (r : Read (Raw l.Entry)) (go : Walk → Trace l.Carried) → on_read l table size len w r go ≡ on_step len w (on_entry l table size w.base_address r) go
  read_on w (gives (got (entry e) c)) go = turn_on c (convert table size w.base_address (l.bounds_of e)) (l.carried e) w go
  read_on w (gives (got stop c)) go = refl
  read_on w (refused n vs) go = refl

  -- a step before the section's end is what the list does first; past it there is none but the end
  step_on : (w : Walk) {s : Result (Step l.Carried)} → w.at < len → step l table size w.at w.base_address ≡ s → trace l table size len w ≡ on_step len w s (λ v. trace l table size len v)
  unfolding step
  step_on w h q = trace_step l table size len past w h ∙ read_on w (l.read w.at) (λ v. trace l table size len v) ∙ ap (λ (r : Result (Step l.Carried)). on_step len w r (λ v. trace l table size len v)) q

  step_none : (at base : ℕ) → len ≤ at → step l table size at base ≡ gives ended
  unfolding step
  step_none at base h = ap (on_entry l table size base) (ends at h)

  module _ (w : Walk) where
    step_met : {s : Result (Step l.Carried)} → step l table size w.at w.base_address ≡ s → (s ≡ gives ended → ⊥) → trace l table size len w ≡ on_step len w s (λ v. trace l table size len v)
    step_met q other = ⊎_elim (λ h. step_on w h q) (λ h. absurd (other (sym q ∙ step_none w.at w.base_address h))) (lt_or_le w.at len)

    pub stepped_item : {i : Item l.Carried} {c : ℕ} → step l table size w.at w.base_address ≡ gives (yields i c)
        → trace l table size len w ≡ handed (gives i) (read_to c w) (trace l table size len (read_to c w))
    stepped_item q = step_met q (λ e. let z : ◌≡◌ {A = ℕ} 0 1 = cc in omega arith)

    pub stepped_base : {b c : ℕ} → step l table size w.at w.base_address ≡ gives (rebases b c)
        → trace l table size len w ≡ trace l table size len (rebased b (read_to c w))
    stepped_base q = step_met q (λ e. let z : ◌≡◌ {A = ℕ} 0 1 = cc in omega arith)

    pub stepped_nothing : {c : ℕ} → step l table size w.at w.base_address ≡ gives (passes c)
        → trace l table size len w ≡ trace l table size len (read_to c w)
    stepped_nothing q = step_met q (λ e. let z : ◌≡◌ {A = ℕ} 0 1 = cc in omega arith)

    pub stepped_failed : {n : ℕ} {vs : List ℕ} {c : ℕ} → step l table size w.at w.base_address ≡ gives (fails n vs c)
        → trace l table size len w ≡ handed (refused n vs) (read_to c w) (trace l table size len (read_to c w))
    stepped_failed q = step_met q (λ e. let z : ◌≡◌ {A = ℕ} 0 1 = cc in omega arith)

    pub stepped_refused : {n : ℕ} {vs : List ℕ} → step l table size w.at w.base_address ≡ refused n vs
        → trace l table size len w ≡ handed (refused n vs) (moved_to len w) (over (moved_to len w))
    stepped_refused q = step_met q (λ e. let z : ◌≡◌ {A = ℕ} 0 1 = cc in omega arith)

    pub stepped_end : step l table size w.at w.base_address ≡ gives ended → (v : Walk) × (trace l table size len w ≡ over v)
    stepped_end q = ⊎_elim (λ h. (read_to len w, step_on w h q)) (λ h. (w, trace_over l table size len past w h)) (lt_or_le w.at len)

    -- before the section's end its end mark is read, and at or past it nothing is
    pub stepped_end_at : step l table size w.at w.base_address ≡ gives ended → trace l table size len w ≡ over (pick (leb len w.at) w (read_to len w))
    stepped_end_at q = ⊎_elim (λ h. rw (lt-leb len w.at h) (step_on w h q)) (λ h. rw (le-leb len w.at h) (trace_over l table size len past w h)) (lt_or_le w.at len)
