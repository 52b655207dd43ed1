-- Exactly the lawful tables are loaded, and DWARF's own among them. Assumes nothing.
use mathlib.Core.Path.{◌≡◌, refl, sym, ap, ◌∙◌}
use mathlib.Core.Logic.{◌⊎◌, inl, inr, ⊎_elim}
use mathlib.Core.Bool.{Bool, true, false, ◌&&◌, ◌||◌, and-eq-true_iff}
use mathlib.Core.List.{List, [], ◌∷◌}
use Prim.Native.Nat.{ℕ, zero, suc, ◌≤◌, ◌<◌}
use native.Mathlib.Omega.{arith}
use lib.Dec.{eqb, ltb}
use lib.ListN.{length, get_or, replicate}
use borrow.Author.Tests.{ltb-true, eqb-true, lt-ltb, eq-eqb}
use Rattle.entries.specs.Numbers.{by_table, are_numbers, codes_of, none_twice, is_table}
use Rattle.entries.specs.Kinds.{unknown, range_kinds, kind_of}
use Rattle.entries.specs.Loaded.{Lawful, fixed_table, LoadedExactly}
use Rattle.entries.proofs.KindLaws.{no_range_kind}
use Rattle.entries.proofs.TableLaws.{same_or_other, number_front, code_front, other_front, none_below, below_once}

-- ---- every byte is a number

Number : ℕ → Type 0
Number b = (b < 8) ⊎ (b ≡ 255)

all_numbers : (t : List ℕ) → ((i : ℕ) → i < length t → Number (get_or t i 255)) → are_numbers t ≡ true
unfolding are_numbers Number
all_numbers [] h = refl
all_numbers (b ∷ t) h = number_front b t (h zero (omega arith)) ∙ all_numbers t (λ i l. h (suc i) (omega arith))

is_number : (b : ℕ) → (ltb b 8 || eqb b 255) ≡ true → Number b
unfolding Number
is_number b e = by (ltb b 8) refl e
  where
    by : (t : Bool) → ltb b 8 ≡ t → (t || eqb b 255) ≡ true → (b < 8) ⊎ (b ≡ 255)
    by true q e = inl (ltb-true b 8 q)
    by false q e = inr (eqb-true b 255 e)

each_number : (t : List ℕ) → are_numbers t ≡ true → (i : ℕ) → Number (get_or t i 255)
unfolding are_numbers Number
each_number [] e i = inr refl
each_number (b ∷ t) e zero = is_number b ((and-eq-true_iff (ltb b 8 || eqb b 255) (are_numbers t)).0 e).0
each_number (b ∷ t) e (suc i) = each_number t ((and-eq-true_iff (ltb b 8 || eqb b 255) (are_numbers t)).0 e).1 i

-- ---- the codes of a kind

module _ (k : ℕ) where
  -- one at least where it has one
  some_code : (t : List ℕ) (i : ℕ) → i < length t → get_or t i 255 ≡ k → 0 < codes_of k t
  some_code [] i l e = absurd (omega arith)
  some_code (b ∷ t) zero l e = omega (arith, code_front k b t e)
  some_code (b ∷ t) (suc i) l e =
      let n = some_code t i (omega arith) e in
      ⊎_elim (λ q. omega (arith, code_front k b t q)) (λ q. omega (arith, other_front k b t q)) (same_or_other b k)

  the_code : (t : List ℕ) → 0 < codes_of k t → (i : ℕ) × (i < length t) × (get_or t i 255 ≡ k)
  unfolding codes_of
  the_code [] n = absurd (omega arith)
  the_code (b ∷ t) n =
      ⊎_elim
      (λ q. (zero, omega arith, q))
      (λ q. let r = the_code t (omega (arith, other_front k b t q)) in (suc r.0, omega (arith, r.1), r.2))
      (same_or_other b k)

  no_code : (t : List ℕ) → ((i : ℕ) → i < length t → get_or t i 255 ≡ k → ⊥) → codes_of k t ≡ 0
  unfolding codes_of
  no_code [] h = refl
  no_code (b ∷ t) h = other_front k b t (h zero (omega arith)) ∙ no_code t (λ i l. h (suc i) (omega arith))

  -- one at most where no two are it
  one_at_most : (t : List ℕ) → ((a b : ℕ) → a < length t → b < length t → get_or t a 255 ≡ k → get_or t b 255 ≡ k → a ≡ b) → codes_of k t ≤ 1
  unfolding codes_of
  one_at_most [] h = omega arith
  one_at_most (x ∷ t) h =
      ⊎_elim
      (λ q.
      let z = no_code t (λ i l e. let s = h zero (suc i) (omega arith) (omega arith) q e in omega arith) in
      omega (arith, code_front k x t q))
      (λ q.
      let z = one_at_most t (λ a b l m e f. let s = h (suc a) (suc b) (omega arith) (omega arith) e f in omega arith) in
      omega (arith, other_front k x t q))
      (same_or_other x k)

  only_code : (t : List ℕ) (a b : ℕ) → codes_of k t ≤ 1 → a < length t → b < length t → get_or t a 255 ≡ k → get_or t b 255 ≡ k → a ≡ b
  only_code [] a b n l m e f = absurd (omega arith)
  only_code (x ∷ t) zero zero n l m e f = refl
  only_code (x ∷ t) zero (suc b) n l m e f = absurd (omega (arith, code_front k x t e, some_code t b (omega arith) f))
  only_code (x ∷ t) (suc a) zero n l m e f = absurd (omega (arith, code_front k x t f, some_code t a (omega arith) e))
  only_code (x ∷ t) (suc a) (suc b) n l m e f =
      ap suc (only_code t a b (⊎_elim (λ q. omega (arith, code_front k x t q)) (λ q. omega (arith, other_front k x t q)) (same_or_other x k)) (omega arith) (omega arith) e f)

-- ---- the tables

loads : (t : List ℕ) → Lawful t → is_table t ≡ true
unfolding is_table Number
loads t w =
    let s = w.size in
    simp (eq-eqb (length t) 256 s, all_numbers t (λ i l. w.bytes i (omega arith)), none_below t 8 once, lt-ltb 0 (codes_of 0 t) end)
  where
    once : (k : ℕ) → k < 8 → codes_of k t ≤ 1
    once k l = let s = w.size in one_at_most k t (λ a b m n e f. w.one_code a b (omega arith) (omega arith) (omega arith) (e ∙ sym f))

    end : 0 < codes_of 0 t
    end = let s = w.size in some_code 0 t w.end_code (omega (arith, w.ends.0)) w.ends.1

lawful : (t : List ℕ) → is_table t ≡ true → Lawful t
unfolding is_table Number
lawful t e =
    let p = (and-eq-true_iff (eqb (length t) 256 && are_numbers t && none_twice 8 t) (ltb 0 (codes_of 0 t))).0 e in
    let q = (and-eq-true_iff (eqb (length t) 256 && are_numbers t) (none_twice 8 t)).0 p.0 in
    let r = (and-eq-true_iff (eqb (length t) 256) (are_numbers t)).0 q.0 in
    let s = eqb-true (length t) 256 r.0 in
    let z = the_code 0 t (ltb-true 0 (codes_of 0 t) p.1) in
    record {
      size = s;
      bytes = λ code l. each_number t r.1 code;
      one_code = λ a b l m n f. only_code (get_or t a 255) t a b (below_once t 8 q.1 (get_or t a 255) n) (omega arith) (omega arith) refl (sym f);
      end_code = z.0;
      ends = (omega (arith, z.1), z.2);
    }

fixed : is_table fixed_table ≡ true
unfolding is_table are_numbers codes_of none_twice fixed_table
fixed = refl

no_kind : (code : ℕ) → 8 ≤ code → kind_of range_kinds code ≡ unknown
no_kind code h =
    no_range_kind code (λ e. omega arith) (λ e. omega arith) (λ e. omega arith) (λ e. omega arith) (λ e. omega arith) (λ e. omega arith) (λ e. omega arith) (λ e. omega arith)

-- n times 255 has 255 everywhere, and past its end
all_none : (n i : ℕ) → ◌≡◌ {A = ℕ} (get_or (replicate n 255) i 255) 255
all_none zero i = refl
all_none (suc n) zero = refl
all_none (suc n) (suc i) = all_none n i

same : (code : ℕ) → kind_of range_kinds (by_table fixed_table code) ≡ kind_of range_kinds code
unfolding fixed_table
same zero = refl
same (suc zero) = refl
same (suc (suc zero)) = refl
same (suc (suc (suc zero))) = refl
same (suc (suc (suc (suc zero)))) = refl
same (suc (suc (suc (suc (suc zero))))) = refl
same (suc (suc (suc (suc (suc (suc zero)))))) = refl
same (suc (suc (suc (suc (suc (suc (suc zero))))))) = refl
same (suc (suc (suc (suc (suc (suc (suc (suc i)))))))) =
    ap (kind_of range_kinds) (all_none 248 i) ∙ no_kind 255 (omega arith) ∙ sym (no_kind (suc (suc (suc (suc (suc (suc (suc (suc i)))))))) (omega arith))

pub loaded_exactly : LoadedExactly
loaded_exactly = record { loads = loads; lawful = lawful; fixed = fixed; same = same }
