-- The profile's trace an entry at a time, for any listing whose entries end past their place: fuel does not show any more. Assumes
-- nothing.
use mathlib.Core.Path.{◌≡◌, refl, sym, ap, ◌∙◌}
use mathlib.Core.Bool.{Bool, true, false}
use mathlib.Core.List.{List}
use mathlib.Core.Logic.{⊎_elim}
use Prim.Native.Nat.{ℕ, zero, suc, ◌+◌, ◌≤◌, ◌<◌}
use native.Mathlib.Omega.{arith}
use lib.Dec.{leb}
use borrow.Author.Tests.{le-leb, lt-leb, leb-false}
use Rattle.std.specs.Prelude.{Err}
use Rattle.std.specs.declared.result.Result.{Result as Answer}
use Rattle.section_bytes.specs.Error.{refusal}
use Rattle.section_bytes.specs.Read.{Result, gives, refused, got, Read}
use Rattle.section_bytes.specs.Reader.{is_size}
use Rattle.section_bytes.specs.declared.common.DebugAddrIndex.{DebugAddrIndex}
use Rattle.section_bytes.specs.declared.error.Error.{Error}
use Rattle.section_bytes.specs.declared.error.Error.TheVariants.{UnsupportedAddressSize}
use Rattle.section_bytes.proofs.Order.{lt_or_le}
use Rattle.tables.specs.Next.{hands}
use Rattle.entries.specs.Forms.{Raw, stop, entry}
use Rattle.lists.specs.Open.{moved_to, read_to}
use Rattle.lists.specs.Convert.{Turn, convert}
use Rattle.lists.specs.Walk.{Listing, Trace, over, handed, on_turn, on_read, first}
use Rattle.lists.specs.declared.Walk.{Walk}
use Rattle.lists.proofs.WalkLaws.{Moved, pick_else, read_cong}
use Rattle.profile.specs.Profile.{kept, of_entry, of_read, unless, profile_from, profile, profile_next}

module _ (l : Listing) (padded : ℕ → Bool) (table : DebugAddrIndex → Result ℕ) (size len : ℕ) (past : (at : ℕ) → at < len → Moved at len (l.read at)) where
  -- more fuel changes nothing, once there is as much as there are bytes left
  pub enough : (n m : ℕ) (w : Walk) → len ≤ w.at + n → len ≤ w.at + m → profile_from l padded table size len n w ≡ profile_from l padded table size len m w
  unfolding profile_from
  enough zero zero w h k = refl
  enough zero (suc m) w h k = let q : len ≤ w.at = omega arith in simp (le-leb _ _ q)
  enough (suc n) zero w h k = let q : len ≤ w.at = omega arith in simp (le-leb _ _ q)
  enough (suc n) (suc m) w h k =
      pick_else (leb len w.at) (over w) (λ f.
      ap (unless (of_read l padded table size w (l.read w.at)) (read_to len w))
      (read_cong l table size len past w (l.read w.at) (profile_from l padded table size len n) (profile_from l padded table size len m) (past w.at (leb-false len w.at f))
      (λ v d. enough n m v (omega arith) (omega arith))))

  module _ (w : Walk) where
    pub profile_over : len ≤ w.at → profile l padded table size len w ≡ over w
    unfolding profile profile_from
    profile_over h = enough len zero w (omega arith) (omega arith)

    -- the definition with no fuel
    pub profile_step : w.at < len
        → profile l padded table size len w
        ≡ unless (of_read l padded table size w (l.read w.at)) (read_to len w) (on_read l table size len w (l.read w.at) (λ v. profile l padded table size len v))
    unfolding profile profile_from
    profile_step h = enough len (suc len) w (omega arith) (omega arith) ∙ simp (lt-leb _ _ h)

    module _ (h : w.at < len) where
      -- by what was read
      read_as : {r : Read (Raw l.Entry)} → l.read w.at ≡ r
          → profile l padded table size len w ≡ unless (of_read l padded table size w r) (read_to len w) (on_read l table size len w r (λ v. profile l padded table size len v))
      read_as q =
          profile_step h
          ∙ ap (λ (r : Read (Raw l.Entry)). unless (of_read l padded table size w r) (read_to len w) (on_read l table size len w r (λ v. profile l padded table size len v))) q

      pub met_end : {c : ℕ} → l.read w.at ≡ gives (got stop c) → profile l padded table size len w ≡ over (read_to len w)
      met_end q = read_as q

      pub met_refusal : {n : ℕ} {vs : List ℕ} → l.read w.at ≡ refused n vs → profile l padded table size len w ≡ handed (refused n vs) (moved_to len w) (over (moved_to len w))
      met_refusal q = read_as q

      module _ {e : l.Entry} {c : ℕ} (q : l.read w.at ≡ gives (got (entry e) c)) where
        held_as : {x : Answer Unit Error} → of_entry (padded w.at) table size w.base_address (l.bounds_of e) ≡ x
            → profile l padded table size len w ≡ unless x (read_to len w) (on_read l table size len w (gives (got (entry e) c)) (λ v. profile l padded table size len v))
        held_as k = read_as q ∙ ap (λ (x : Answer Unit Error). unless x (read_to len w) (on_read l table size len w (gives (got (entry e) c)) (λ v. profile l padded table size len v))) k

        pub met_entry : {t : Result Turn} → of_entry (padded w.at) table size w.base_address (l.bounds_of e) ≡ kept → t ≡ convert table size w.base_address (l.bounds_of e)
            → profile l padded table size len w ≡ on_turn t (l.carried e) (read_to c w) (λ v. profile l padded table size len v)
        met_entry k p = held_as k ∙ ap (λ (x : Result Turn). on_turn x (l.carried e) (read_to c w) (λ v. profile l padded table size len v)) (sym p)

        -- one of the three is refused, and the walk is emptied
        pub met_broken : {x : Error} → of_entry (padded w.at) table size w.base_address (l.bounds_of e) ≡ Err x
            → profile l padded table size len w ≡ handed (refusal x) (read_to len w) (over (read_to len w))
        met_broken k = held_as k

-- what holds of a list that is over, and of an entry and what follows it where it holds of all that may follow, holds of every walk
module _ (l : Listing) (padded : ℕ → Bool) (table : DebugAddrIndex → Result ℕ) (size len : ℕ) (past : (at : ℕ) → at < len → Moved at len (l.read at))
    (P : Walk → Trace l.Carried → Type 0) (none : (w : Walk) → len ≤ w.at → P w (over w))
    (more : (w : Walk) → w.at < len → ((v : Walk) → w.at < v.at → P v (profile l padded table size len v))
    → P w (unless (of_read l padded table size w (l.read w.at)) (read_to len w) (on_read l table size len w (l.read w.at) (λ v. profile l padded table size len v)))) where
  from_ind : (n : ℕ) (w : Walk) → len ≤ w.at + n → P w (profile l padded table size len w)
  from_ind zero w h = rw (profile_over l padded table size len past w (omega arith)) (none w (omega arith))
  from_ind (suc n) w h =
      ⊎_elim
      (λ k. rw (profile_step l padded table size len past w k) (more w k (λ v d. from_ind n v (omega arith))))
      (λ k. rw (profile_over l padded table size len past w k) (none w k))
      (lt_or_le w.at len)

  pub profile_ind : (w : Walk) → P w (profile l padded table size len w)
  profile_ind w = from_ind len w (omega arith)

module _ (l : Listing) (padded : ℕ → Bool) (table : DebugAddrIndex → Result ℕ) (size len : ℕ) (w : Walk) where
  pub next_first : is_size size ≡ true → profile_next l padded table size len w ≡ first (profile l padded table size len w)
  unfolding profile_next
  next_first h = simp h

  pub next_other : is_size size ≡ false → profile_next l padded table size len w ≡ hands (refusal (UnsupportedAddressSize size)) (moved_to len w)
  unfolding profile_next
  next_other h = simp h
