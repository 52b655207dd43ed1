-- Canonical form told piece by piece: what is left of the bytes is in form exactly where all of them are. Assumes nothing.
use mathlib.Core.Bool.{true, false}
use mathlib.Core.List.{List, [], ◌∷◌, ◌++◌}
use mathlib.Core.Logic.{◌↔◌, ⊎_elim}
use mathlib.Core.Path.{◌≡◌, refl, sym, ap, subst, ◌∙◌}
use Prim.Native.Nat.{ℕ, suc, ◌+◌, ◌≤◌, ◌<◌}
use native.Mathlib.Omega.{arith}
use lib.Dec.{T}
use lib.ListN.{length, drop}
use Rattle.section_bytes.specs.Read.{gives}
use Rattle.section_bytes.proofs.Order.{lt_or_le}
use Rattle.lists.specs.Walks.{InBounds}
use Rattle.coverage.specs.Ranges.{Range, From, limit}
use Rattle.coverage.specs.Kept.{ranges_of, kept_as}
use Rattle.coverage.proofs.Small.{Small}
use Rattle.coverage.proofs.KeptLaws.{Lawful, sheet_lawful, ranges_kept, kept_lawful, kept_numbers}
use Rattle.canonical.specs.Canonical.{entry_bytes, canonical_bytes}
use Rattle.canonical.specs.Form.{CanonicalForm, Neither}
use Rattle.canonical.proofs.CanonicalLaws.{entry_once, entry_no_mark}
use Rattle.canonical.proofs.Sources.{kept_bytes, kept_ranges}

-- bytes that list lawful ranges from lo on, which with n before them are not too many
pub record Tail (n lo : ℕ) (l : List ℕ) : Type 0 where
  pub ranges : List Range
  pub apart : From lo ranges
  pub small : Small ranges
  pub few : n + length ranges ≤ limit
  pub listed : l ≡ canonical_bytes ranges

form_tail : {s : List ℕ} → CanonicalForm s → Tail 0 0 s
form_tail f =
    let k = kept_ranges f.coverage f.written in
    let l = sheet_lawful f.coverage f.numbers k.0 in
    record { ranges = ranges_of f.coverage; apart = l.apart; small = l.small; few = omega (arith, l.few); listed = sym k.1 }

tail_form : {s : List ℕ} → Tail 0 0 s → CanonicalForm s
tail_form t =
    let l : Lawful t.ranges = record { apart = t.apart; small = t.small; few = omega (arith, t.few) } in
    record {
      coverage = kept_as t.ranges;
      numbers = kept_numbers t.ranges t.small;
      written =
          kept_bytes (kept_as t.ranges) (kept_lawful t.ranges l)
          ∙ ap (λ (rs : List Range). gives (canonical_bytes rs)) (ranges_kept t.ranges) ∙ ap gives (sym t.listed);
    }

-- the end mark alone lists no range
tail_end : {n lo : ℕ} {l : List ℕ} → n ≤ limit → l ≡ 0 ∷ [] → Tail n lo l
unfolding canonical_bytes
tail_end h e = record { ranges = []; apart = tt; small = tt; few = omega arith; listed = e }

tail_neither : {n lo : ℕ} {l : List ℕ} → Neither l → Tail n lo l → ⊥
unfolding canonical_bytes
tail_neither {n} {lo} {l} k t = cases t.ranges t.small t.listed
  where
    cases : (rs : List Range) → Small rs → l ≡ canonical_bytes rs → ⊥
    cases [] s e = k.mark e
    cases (r ∷ rs) s e = k.entry r (canonical_bytes rs) s.0 e

-- an entry with a tail behind it, and the tail behind an entry
module _ {n lo b e : ℕ} {l rest : List ℕ} (small : InBounds 8 b e) (split : l ≡ entry_bytes (b, e) ++ rest) where
  tail_more : lo ≤ b → Tail (n + 1) (suc e) rest → Tail n lo l
  unfolding canonical_bytes
  tail_more h t =
      record {
        ranges = (b, e) ∷ t.ranges;
        apart = (h, small.0, t.apart);
        small = (small, t.small);
        few = omega (arith, t.few);
        listed = split ∙ ap (λ (x : List ℕ). entry_bytes (b, e) ++ x) t.listed;
      }

  tail_less : Tail n lo l → (lo ≤ b) × Tail (n + 1) (suc e) rest
  unfolding canonical_bytes
  tail_less t = cases t.ranges t.apart t.small t.few t.listed
    where
      cases : (rs : List Range) → From lo rs → Small rs → n + length rs ≤ limit → l ≡ canonical_bytes rs → (lo ≤ b) × Tail (n + 1) (suc e) rest
      cases [] a s f d = absurd (entry_no_mark (b, e) rest (sym split ∙ d))
      cases (r ∷ rs) a s f d =
          let o = entry_once (b, e) r rest (canonical_bytes rs) small s.0 (sym split ∙ d) in
          let p : r.0 ≡ b = o.0 in
          let q : r.1 ≡ e = o.1 in
          (omega (arith, a.0), record { ranges = rs; apart = rw q at a.2; small = s.1; few = omega (arith, f); listed = o.2 })

-- the bytes from a place on, behind n ranges of which the last ends at `last`, are in form exactly where all of them are
pub record Forming (s : List ℕ) (at n last : ℕ) : Type 0 where
  pub lo : ℕ
  pub start : n ≡ 0 → lo ≡ 0
  pub next : 0 < n → lo ≡ suc last
  pub within : n ≤ suc limit
  pub left : Tail 0 0 s → Tail n lo (drop at s)
  pub whole : Tail n lo (drop at s) → Tail 0 0 s

pub forming_none : (s : List ℕ) → Forming s 0 0 0
forming_none s = record { lo = 0; start = λ _. refl; next = λ h. absurd (omega arith); within = omega arith; left = λ t. t; whole = λ t. t }

-- false told of what is not in form
no_form : {s : List ℕ} → (Tail 0 0 s → ⊥) → (false ≡ true) ↔ CanonicalForm s
no_form k = (λ e. absurd (subst T (sym e) tt), λ f. absurd (k (form_tail f)))

module _ {s : List ℕ} {at n last : ℕ} (f : Forming s at n last) where
  pub forming_end : n ≤ limit → drop at s ≡ 0 ∷ [] → (true ≡ true) ↔ CanonicalForm s
  forming_end h e = (λ _. tail_form (f.whole (tail_end h e)), λ _. refl)

  pub forming_other : Neither (drop at s) → (false ≡ true) ↔ CanonicalForm s
  forming_other k = no_form (λ t. tail_neither k (f.left t))

  pub forming_many : limit < n → (false ≡ true) ↔ CanonicalForm s
  forming_many h = no_form (λ t. omega (arith, (f.left t).few))

  module _ {b e : ℕ} (c : ℕ) (small : InBounds 8 b e) (split : drop at s ≡ entry_bytes (b, e) ++ drop c s) where
    pub forming_low : 0 < n → b ≤ last → (false ≡ true) ↔ CanonicalForm s
    forming_low p h = no_form (λ t. let k = (tail_less small split (f.left t)).0 in omega (arith, f.next p))

    pub forming_step : n ≤ limit → (0 < n → last < b) → Forming s c (n + 1) e
    forming_step h k =
        record {
          lo = suc e;
          start = λ z. absurd (omega arith);
          next = λ _. refl;
          within = omega arith;
          left = λ t. (tail_less small split (f.left t)).1;
          whole = λ t. f.whole (tail_more small split low t);
        }
      where
        low : f.lo ≤ b
        low =
            ⊎_elim
            (λ p. let q = f.next p in let r = k p in omega arith)
            (λ p. let z : n ≡ 0 = omega arith in let q = f.start z in omega arith)
            (lt_or_le 0 n)
