-- The test of a coverage's ranges one by one: what is left decides as all of them do. Assumes nothing.
use Rattle.std.proofs.Common.{◌≡◌, ℕ, suc, ◌+◌, ◌<◌, ◌≤◌, Bool, true, false, T, List, ◌∷◌, length, get_or, drop, sym, refl, ap, ◌∙◌, subst, ⊎_elim, arith}
use Rattle.section_bytes.specs.Address.{min_tombstone}
use Rattle.coverage.specs.Ranges.{Range, Apart, limit}
use Rattle.coverage.specs.Kept.{firsts, ranges_of, lawful_from, is_lawful}
use Rattle.coverage.specs.declared.Coverage.{Coverage}
use Rattle.section_bytes.proofs.Order.{lt_or_le}
use Rattle.coverage.proofs.KeptLaws.{next_range, no_range, lawful_first, not_above, not_proper, not_below, lawful_from_lem, sheet_many, sheet_test}

pub record Checked (bs es : List ℕ) (n i last : ℕ) : Type 0 where
  pub lo : ℕ
  pub start : i ≡ 0 → lo ≡ 0
  pub next : 0 < i → lo ≡ suc last
  pub same : lawful_from 0 (firsts n bs es) ≡ lawful_from lo (drop i (firsts n bs es))
  pub within : i ≤ n
  pub room : ℕ
  pub few : n ≤ room
  pub lb : length bs ≡ room
  pub le : length es ≡ room

pub checked_start : {bs es : List ℕ} {n room : ℕ} → n ≤ room → length bs ≡ room → length es ≡ room → Checked bs es n 0 0
checked_start {bs} {es} {n} {room} h k l =
    record {
      lo = 0;
      start = λ _. refl;
      next = λ h. absurd (omega arith);
      same = refl;
      within = omega arith;
      room = room;
      few = h;
      lb = k;
      le = l;
    }

module _ {bs es : List ℕ} {n i last : ℕ} (t : Checked bs es n i last) where
  rest : List Range
  rest = drop (i + 1) (firsts n bs es)

  at_first : i < n → lawful_from 0 (firsts n bs es) ≡ lawful_from t.lo ((get_or bs i 0, get_or es i 0) ∷ rest)
  unfolding rest
  at_first w = t.same ∙ ap (lawful_from t.lo) (next_range bs es n t.few t.lb t.le i w)

  pub checked_step : i < n
      → (0 < i → last < get_or bs i 0) → get_or bs i 0 < get_or es i 0 → get_or bs i 0 < min_tombstone 8 → Checked bs es n (i + 1) (get_or es i 0)
  unfolding rest
  checked_step w a h k =
      record {
        lo = suc (get_or es i 0);
        start = λ e. absurd (omega arith);
        next = λ e. refl;
        same = at_first w ∙ lawful_first t.lo (get_or bs i 0, get_or es i 0) rest low h k;
        within = omega arith;
        room = t.room;
        few = t.few;
        lb = t.lb;
        le = t.le;
      }
    where
      low : t.lo ≤ get_or bs i 0
      low =
          ⊎_elim
          (λ p. let e = t.next p in let f = a p in omega arith)
          (λ p. let z : i ≡ 0 = omega arith in let e = t.start z in omega arith)
          (lt_or_le 0 i)

  pub checked_low : i < n → 0 < i → get_or bs i 0 ≤ last → false ≡ lawful_from 0 (firsts n bs es)
  checked_low w p h = let e = t.next p in sym (at_first w ∙ not_above t.lo (get_or bs i 0, get_or es i 0) rest (omega arith))

  pub checked_empty : i < n → get_or es i 0 ≤ get_or bs i 0 → false ≡ lawful_from 0 (firsts n bs es)
  checked_empty w h = sym (at_first w ∙ not_proper t.lo (get_or bs i 0, get_or es i 0) rest h)

  pub checked_high : i < n → min_tombstone 8 ≤ get_or bs i 0 → false ≡ lawful_from 0 (firsts n bs es)
  checked_high w h = sym (at_first w ∙ not_below t.lo (get_or bs i 0, get_or es i 0) rest h)

  pub checked_end : n ≤ i → true ≡ lawful_from 0 (firsts n bs es)
  unfolding lawful_from
  checked_end h = sym (t.same ∙ ap (lawful_from t.lo) (no_range bs es n t.few t.lb t.le i h))

-- the count and the ranges of a coverage that makes a lawful sheet
module _ (c : Coverage) (law : is_lawful c ≡ true) where
  pub lawful_few : c.n ≤ limit
  lawful_few =
      ⊎_elim (λ h. let e = sheet_many c h in let z : ◌≡◌ {A = Bool} false true = cc in absurd (subst T (sym z) tt)) (λ h. h) (lt_or_le limit c.n)

  pub lawful_apart : Apart (firsts c.n c.begins c.ends)
  unfolding ranges_of
  lawful_apart = lawful_from_lem 0 (ranges_of c) (sym (sheet_test c lawful_few) ∙ law)
