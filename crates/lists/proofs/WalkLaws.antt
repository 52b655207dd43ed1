-- The trace an entry at a time, for any listing whose entries end past their place: fuel does not show any more.
use mathlib.Core.Path.{◌≡◌, refl, sym, ap, ◌∙◌}
use mathlib.Core.Bool.{Bool, true, false}
use mathlib.Core.List.{List}
use mathlib.Core.Logic.{⊎_elim}
use Prim.Native.Nat.{ℕ, zero, suc, ◌+◌, ◌≤◌, ◌<◌}
use native.Mathlib.Omega.{arith}
use lib.Dec.{leb}
use borrow.Author.Tests.{le-leb, lt-leb, leb-false}
use Rattle.section_bytes.specs.Error.{refusal}
use Rattle.section_bytes.specs.Read.{Result, gives, refused, got, Read, pick}
use Rattle.section_bytes.specs.Reader.{is_size}
use Rattle.section_bytes.specs.declared.common.DebugAddrIndex.{DebugAddrIndex}
use Rattle.section_bytes.specs.declared.error.Error.TheVariants.{UnsupportedAddressSize}
use Rattle.section_bytes.proofs.Order.{lt_or_le}
use Rattle.tables.specs.Next.{hands}
use Rattle.entries.specs.Forms.{Raw, stop, entry}
use Rattle.lists.specs.Open.{moved_to, read_to, rebased}
use Rattle.lists.specs.Convert.{Turn, range, rebase, skip, convert}
use Rattle.lists.specs.Walk.{Listing, item, Trace, over, on_turn, on_read, trace_from, trace, first, next, handed}
use Rattle.lists.specs.declared.Walk.{Walk}

-- what was read ends past its place and in the section
abbrev pub Moved : {A : Type 0} → ℕ → ℕ → Read A → Type 0
Moved at len (gives (got v c)) = (at < c) × (c ≤ len)
Moved at len (refused n vs) = Unit

pub pick_else : {A : Type 0} (t : Bool) (x : A) {y z : A} → (t ≡ false → y ≡ z) → pick t x y ≡ pick t x z
pick_else true x h = refl
pick_else false x h = h refl

pub turn_cong : {D : Type 0} (t : Result Turn) (d : D) (w : Walk) (f g : Walk → Trace D) → ((v : Walk) → v.at ≡ w.at → f v ≡ g v) → on_turn t d w f ≡ on_turn t d w g
turn_cong (gives (range b e)) d w f g h = ap (handed (gives (item b e d)) w) (h w refl)
turn_cong (gives (rebase b)) d w f g h = h (rebased b w) refl
turn_cong (gives skip) d w f g h = h w refl
turn_cong (refused n vs) d w f g h = ap (handed (refused n vs) w) (h w refl)

module _ (l : Listing) (table : DebugAddrIndex → Result ℕ) (size len : ℕ) (past : (at : ℕ) → at < len → Moved at len (l.read at)) where
  pub read_cong : (w : Walk) (r : Read (Raw l.Entry)) (f g : Walk → Trace l.Carried) → Moved w.at len r → ((v : Walk) → w.at < v.at → f v ≡ g v)
      → on_read l table size len w r f ≡ on_read l table size len w r g
  read_cong w (gives (got (entry e) c)) f g p h =
      turn_cong (convert table size w.base_address (l.bounds_of e)) (l.carried e) (read_to c w) f g (λ v q. h v (omega (arith, p.0)))
  read_cong w (gives (got stop c)) f g p h = refl
  read_cong w (refused n vs) f g p h = refl

  -- more fuel changes nothing, once there is as much as there are bytes left
  pub enough : (n m : ℕ) (w : Walk) → len ≤ w.at + n → len ≤ w.at + m → trace_from l table size len n w ≡ trace_from l table size len m w
  unfolding trace_from
  enough zero zero w h k = refl
  enough zero (suc m) w h k = let q : len ≤ w.at = omega arith in simp (le-leb _ _ q)
  enough (suc n) zero w h k = let q : len ≤ w.at = omega arith in simp (le-leb _ _ q)
  enough (suc n) (suc m) w h k =
      pick_else (leb len w.at) (over w) (λ f.
      read_cong w (l.read w.at) (trace_from l table size len n) (trace_from l table size len m) (past w.at (leb-false len w.at f)) (λ v d. enough n m v (omega arith) (omega arith)))

  module _ (w : Walk) where
    pub trace_over : len ≤ w.at → trace l table size len w ≡ over w
    unfolding trace trace_from
    trace_over h = enough len zero w (omega arith) (omega arith)

    -- the definition with no fuel
    pub trace_step : w.at < len → trace l table size len w ≡ on_read l table size len w (l.read w.at) (λ v. trace l table size len v)
    unfolding trace trace_from
    trace_step h = enough len (suc len) w (omega arith) (omega arith) ∙ simp (lt-leb _ _ h)

    module _ (h : w.at < len) where
      pub met_end : {c : ℕ} → l.read w.at ≡ gives (got stop c) → trace l table size len w ≡ over (read_to len w)
      met_end q = trace_step h ∙ ap (λ (r : Read (Raw l.Entry)). on_read l table size len w r (λ v. trace l table size len v)) q

      pub met_refusal : {n : ℕ} {vs : List ℕ} → l.read w.at ≡ refused n vs → trace l table size len w ≡ handed (refused n vs) (moved_to len w) (over (moved_to len w))
      met_refusal q = trace_step h ∙ ap (λ (r : Read (Raw l.Entry)). on_read l table size len w r (λ v. trace l table size len v)) q

      pub met_entry : {e : l.Entry} {c : ℕ} {t : Result Turn} → l.read w.at ≡ gives (got (entry e) c) → t ≡ convert table size w.base_address (l.bounds_of e)
          → trace l table size len w ≡ on_turn t (l.carried e) (read_to c w) (λ v. trace l table size len v)
      met_entry {e} {c} q p =
          trace_step h
          ∙ ap (λ (r : Read (Raw l.Entry)). on_read l table size len w r (λ v. trace l table size len v)) q
          ∙ ap (λ (x : Result Turn). on_turn x (l.carried e) (read_to c w) (λ v. trace l table size len v)) (sym p)

-- what holds of a list that is over, and of an entry and what follows it where it holds of all that may follow, holds of every walk
module _ (l : Listing) (table : DebugAddrIndex → Result ℕ) (size len : ℕ) (past : (at : ℕ) → at < len → Moved at len (l.read at))
    (P : Walk → Trace l.Carried → Type 0) (none : (w : Walk) → len ≤ w.at → P w (over w))
    (more : (w : Walk) → w.at < len → ((v : Walk) → w.at < v.at → P v (trace l table size len v))
    → P w (on_read l table size len w (l.read w.at) (λ v. trace l table size len v))) where
  from_ind : (n : ℕ) (w : Walk) → len ≤ w.at + n → P w (trace l table size len w)
  from_ind zero w h = rw (trace_over l table size len past w (omega arith)) (none w (omega arith))
  from_ind (suc n) w h =
      ⊎_elim
      (λ k. rw (trace_step l table size len past w k) (more w k (λ v d. from_ind n v (omega arith))))
      (λ k. rw (trace_over l table size len past w k) (none w k))
      (lt_or_le w.at len)

  pub trace_ind : (w : Walk) → P w (trace l table size len w)
  trace_ind w = from_ind len w (omega arith)

module _ (l : Listing) (table : DebugAddrIndex → Result ℕ) (size len : ℕ) (w : Walk) where
  pub next_first : is_size size ≡ true → next l table size len w ≡ first (trace l table size len w)
  unfolding next
  next_first h = simp h

  pub next_other : is_size size ≡ false → next l table size len w ≡ hands (refusal (UnsupportedAddressSize size)) (moved_to len w)
  unfolding next
  next_other h = simp h
