-- A higher limit changes no answer but refusal 10: step by step of the trace, either there is room for both, or the lower limit is
-- met first. Assumes nothing.
use Rattle.std.proofs.Common.{◌≡◌, ℕ, zero, suc, ◌≤◌, ◌⊎◌, List, ◌∷◌, sym, refl, ap, ◌∙◌, inl, inr, ⊎_elim, arith}
use Rattle.section_bytes.specs.Read.{Result, gives, refused, and_then}
use Rattle.section_bytes.specs.Error.{refusal}
use Rattle.section_bytes.specs.declared.error.Error.TheVariants.{TooManyRanges}
use Rattle.lists.specs.Walk.{item, Trace, over, handed}
use Rattle.lists.specs.declared.Walk.{Walk}
use Rattle.coverage.specs.Ranges.{Range}
use Rattle.coverage.specs.Covered.{Source, opening, trace_of, yielded_in, yielded_of}
use Rattle.coverage.specs.Raised.{yielded_within, Raised}

-- the lower of two limits gives 10, or both give the same
abbrev Met : Result (List Range) → Result (List Range) → Type 0
Met r s = (r ≡ refusal TooManyRanges) ⊎ (r ≡ s)

walked : {D : Type 0} (m k : ℕ) → m ≤ k → (t : Trace D) → Met (yielded_in m t) (yielded_in k t)
unfolding yielded_in
walked m k h (over w) = inr refl
walked m k h (handed (refused n vs) w t) = inr refl
walked zero k h (handed (gives i) w t) = inl refl
walked (suc m) zero h (handed (gives i) w t) = absurd (omega arith)
walked (suc m) (suc k) h (handed (gives (item b e d)) w t) =
    let one : Result (List Range) → Result (List Range) = λ r. and_then r (λ rs. gives ((b, e) ∷ rs)) in
    ⊎_elim (λ p. inl (ap one p)) (λ p. inr (ap one p)) (walked m k (omega arith) t)

module _ (m k : ℕ) (h : m ≤ k) (x : Source) where
  met : Met (yielded_within m x) (yielded_within k x)
  met = from (opening x)
    where
      from : (r : Result Walk) → Met (and_then r (λ w. yielded_in m (trace_of x w))) (and_then r (λ w. yielded_in k (trace_of x w)))
      from (gives w) = walked m k h (trace_of x w)
      from (refused n vs) = inr refl

pub raised : Raised
unfolding yielded_of
raised =
    record {
      today = λ x. refl;
      stays = λ m k x h e.
          ⊎_elim (λ p. absurd (no_room (sym p ∙ e))) (λ p. sym p ∙ e) (met m k h x);
      differ = λ m k x h n. ⊎_elim (λ p. p) (λ p. absurd (n p)) (met m k h x);
    }
  where
    no_room : {rs : List Range} → refusal TooManyRanges ≡ gives rs → ⊥
    no_room {rs} e =
        let f : refusal TooManyRanges ≡ gives rs = e in
        let z : ◌≡◌ {A = ℕ} 0 1 = cc in
        absurd (omega arith)
