-- Ranges at the front of what a caller lends, and a coverage in two arrays written whole. Assumes nothing.
use Rattle.std.proofs.Common.{◌≡◌, ℕ, suc, ◌+◌, ◌-◌, ◌<◌, ◌≤◌, leb, List, [], ◌++◌, length, take, drop, set, replicate, sym, refl, ap, ◌∙◌, ap₂, append-nil, add-one, arith, length-set, drop_of_length-le, length-take-le, take_at, le-leb}
use mathlib.Core.Bool.{and-false}
use lib.ListN.{length-map, length-replicate}
use lib.Seq.{sets, sets-eq}
use borrow.Author.Tests.{lt-leb}
use Rattle.section_bytes.specs.Read.{Result, gives, refused}
use Rattle.section_bytes.specs.Error.{refusal}
use Rattle.section_bytes.specs.declared.error.Error.{Error}
use Rattle.section_bytes.specs.declared.error.Error.TheVariants.{NoSpace}
use Rattle.section_bytes.proofs.ReaderLaws.{is_refusal}
use Rattle.coverage.specs.Ranges.{Range, limit, runs}
use Rattle.coverage.specs.Covered.{Source, yielded_of, coverage_of}
use Rattle.coverage.specs.Kept.{firsts, begins, ends, counted, padded, kept_as}
use Rattle.coverage.specs.Sorted.{Sized, AtLeast}
use Rattle.coverage.specs.Told.{answer, made, Placed, placed, placing, putting}
use Rattle.coverage.proofs.RangeLaws.{runs_length}
use Rattle.coverage.proofs.CoveredLaws.{mapped, Given, yielded_few}
use Rattle.coverage.proofs.SortLaws.{length_first}
use Rattle.coverage.proofs.KeptLaws.{take_paired, begins_paired, ends_paired}

-- ---- ranges at the front of what a caller lends
module _ (bs es : List ℕ) (n : ℕ) (h : AtLeast n bs es) where
  counts : length (firsts n bs es) ≡ n
  counts = length_first bs es n h.0 h.1

  alike : length (take n bs) ≡ length (take n es)
  alike = length-take-le n bs h.0 ∙ sym (length-take-le n es h.1)

  first_begins : begins (firsts n bs es) ≡ take n bs
  first_begins = ap begins (take_paired n bs es) ∙ begins_paired (take n bs) (take n es) alike

  first_ends : ends (firsts n bs es) ≡ take n es
  first_ends = ap ends (take_paired n bs es) ∙ ends_paired (take n bs) (take n es) alike

  module _ (xs ys : List ℕ) where
    pub front_short : length xs < n → placed (refusal NoSpace) xs ys ≡ putting (gives (firsts n bs es)) xs ys
    unfolding putting
    front_short k = rw (lt-leb (length (firsts n bs es)) (length xs) (omega (arith, counts, k)))

    pub front_short_ends : length ys < n → placed (refusal NoSpace) xs ys ≡ putting (gives (firsts n bs es)) xs ys
    unfolding putting
    front_short_ends k =
        rw (lt-leb (length (firsts n bs es)) (length ys) (omega (arith, counts, k)), and-false (leb (length (firsts n bs es)) (length xs)))

    pub front_put : {us zs : List ℕ} → n ≤ length xs → n ≤ length ys → us ≡ take n bs → zs ≡ take n es
        → placed (gives n) (us ++ drop n xs) (zs ++ drop n ys) ≡ putting (gives (firsts n bs es)) xs ys
    unfolding putting
    front_put k l p q = rw (p, q, counts, le-leb n (length xs) k, le-leb n (length ys) l, first_begins, first_ends)

module _ (c : Result (List Range)) (xs ys : List ℕ) where
  pub front_got : {p : Placed} {rs : List Range} → c ≡ gives rs → p ≡ putting (gives rs) xs ys → p ≡ putting c xs ys
  front_got q e = e ∙ ap (λ (c : Result (List Range)). putting c xs ys) (sym q)

  pub front_refused : (e : Error) → c ≡ refusal e → placed (refusal e) xs ys ≡ putting c xs ys
  unfolding putting
  front_refused e q = rw q

-- ---- 0 at the places past the first n
abbrev zeros : ℕ → List ℕ
zeros k = replicate k 0

pub record Clearing (n : ℕ) (to₀ to : List ℕ) (i : ℕ) : Type 0 where
  pub same : sets to i (zeros (limit - i)) ≡ sets to₀ n (zeros (limit - n))
  pub begun : n ≤ i
  pub within : i ≤ limit
  pub sized : (length to₀ ≡ limit) × (length to ≡ limit)

pub clearing_none : {n : ℕ} {to : List ℕ} → n ≤ limit → length to ≡ limit → Clearing n to to n
clearing_none h l = record { same = refl; begun = omega arith; within = h; sized = (l, l) }

module _ {n : ℕ} {to₀ to : List ℕ} {i : ℕ} (t : Clearing n to₀ to i) where
  pub clearing_more : i < limit → Clearing n to₀ (set to i 0) (i + 1)
  clearing_more h =
      let e : limit - i ≡ suc (limit - (i + 1)) = omega arith in
      let s : sets (set to i 0) (i + 1) (zeros (limit - (i + 1))) ≡ sets to i (zeros (limit - i)) = rw (e, add-one) in
      record { same = s ∙ t.same; begun = omega (arith, t.begun); within = omega arith; sized = (t.sized.0, length-set to i 0 ∙ t.sized.1) }

  pub clearing_done : limit ≤ i → to ≡ padded (take n to₀)
  unfolding padded
  clearing_done h =
      let e : limit - i ≡ 0 = omega arith in
      let few : n ≤ length to₀ = omega (arith, t.begun, t.within, t.sized) in
      let c = length-take-le n to₀ few in
      let r = length-replicate {A = ℕ} (limit - n) 0 in
      let s : to ≡ sets to₀ n (zeros (limit - n)) = rw e at t.same in
      let d : drop (n + length (zeros (limit - n))) to₀ ≡ [] = drop_of_length-le to₀ {i = n + length (zeros (limit - n))} (omega (arith, r, few, t.sized)) in
      s
      ∙ sets-eq (zeros (limit - n)) to₀ n (omega (arith, r, few, t.sized))
      ∙ ap (λ (l : List ℕ). take n to₀ ++ zeros (limit - n) ++ l) d
      ∙ append-nil (take n to₀ ++ zeros (limit - n))
      ∙ ap (λ (k : ℕ). take n to₀ ++ zeros (limit - k)) (sym c)

-- ---- a coverage in two arrays written whole
coverage_few : (x : Source) → Given (λ rs. length rs ≤ limit) (coverage_of x)
unfolding coverage_of
coverage_few x = few (yielded_of x) (yielded_few x)
  where
    few : (r : Result (List Range)) → Given (λ rs. length rs ≤ limit) r → Given (λ rs. length rs ≤ limit) (mapped runs r)
    few (gives rs) h = omega (arith, h, runs_length rs)
    few (refused n vs) h = tt

module _ (bs es : List ℕ) (s : Sized limit bs es) where
  abbrev front : List Range → Placed
  front rs = placed (gives (length rs)) (begins rs ++ drop (length rs) bs) (ends rs ++ drop (length rs) es)

  all_fit : (rs : List Range) → length rs ≤ limit → putting (gives rs) bs es ≡ front rs
  unfolding putting
  all_fit rs h = rw (le-leb (length rs) (length bs) (omega (arith, h, s.0)), le-leb (length rs) (length es) (omega (arith, h, s.1)))

  -- what was put at their front, and cleared past it, is the coverage; a refusal is the coverage's own
  put_few : (c : Result (List Range)) → Given (λ rs. length rs ≤ limit) c → {n : ℕ} {xs ys : List ℕ} → placed (gives n) xs ys ≡ putting c bs es → n ≤ limit
  unfolding putting
  put_few (gives rs) f {n} e =
      let t : gives n ≡ gives (length rs) = ap (λ (p : Placed). p.answer) (e ∙ all_fit rs f) in
      let k : n ≡ length rs = cc in
      omega (arith, k, f)
  put_few (refused m vs) f {n} e =
      let t : gives n ≡ refused m vs = ap (λ (p : Placed). p.answer) e in
      let z : ◌≡◌ {A = ℕ} 0 1 = cc in
      absurd (omega arith)

  put_whole : (c : Result (List Range)) → Given (λ rs. length rs ≤ limit) c → {n : ℕ} {xs ys us zs : List ℕ} → placed (gives n) xs ys ≡ putting c bs es
      → us ≡ padded (take n xs) → zs ≡ padded (take n ys) → placed (gives n) us zs ≡ placing c bs es
  unfolding putting kept_as
  put_whole (gives rs) f {n} {xs} {ys} {us} {zs} e p q =
      let t = e ∙ all_fit rs f in
      let u : gives n ≡ gives (length rs) = ap (λ (p : Placed). p.answer) t in
      let k : n ≡ length rs = cc in
      let b : take n xs ≡ begins rs = ap (λ (p : Placed). take n p.begins) t ∙ take_at (begins rs) (drop (length rs) bs) n (length-map rs (λ (r : Range). r.0) ∙ sym k) in
      let d : take n ys ≡ ends rs = ap (λ (p : Placed). take n p.ends) t ∙ take_at (ends rs) (drop (length rs) es) n (length-map rs (λ (r : Range). r.1) ∙ sym k) in
      ap₂ (placed (gives n)) (p ∙ ap padded b) (q ∙ ap padded d) ∙ ap (λ (m : ℕ). placed (gives m) (padded (begins rs)) (padded (ends rs))) k
  put_whole (refused m vs) f {n} e p q =
      let t : gives n ≡ refused m vs = ap (λ (p : Placed). p.answer) e in
      let z : ◌≡◌ {A = ℕ} 0 1 = cc in
      absurd (omega arith)

  put_lost : (c : Result (List Range)) → Given (λ rs. length rs ≤ limit) c → (r : Error) {xs ys : List ℕ} → placed (refusal r) xs ys ≡ putting c bs es
      → placed (refusal r) xs ys ≡ placing c bs es
  unfolding putting
  put_lost (gives rs) f r e =
      let t : refusal r ≡ gives (length rs) = ap (λ (p : Placed). p.answer) (e ∙ all_fit rs f) in
      let z : ◌≡◌ {A = ℕ} 0 1 = cc in
      absurd (omega arith)
  put_lost (refused m vs) f r e = e

  module _ (x : Source) {xs ys : List ℕ} where
    module _ {n : ℕ} (e : placed (gives n) xs ys ≡ putting (coverage_of x) bs es) where
      pub whole_few : n ≤ limit
      whole_few = put_few (coverage_of x) (coverage_few x) e

      pub whole_got : {us zs : List ℕ} → us ≡ padded (take n xs) → zs ≡ padded (take n ys) → placed (gives n) us zs ≡ placing (coverage_of x) bs es
      whole_got p q = put_whole (coverage_of x) (coverage_few x) e p q

    pub whole_refused : (r : Error) → placed (refusal r) xs ys ≡ putting (coverage_of x) bs es → placed (refusal r) xs ys ≡ placing (coverage_of x) bs es
    whole_refused r e = put_lost (coverage_of x) (coverage_few x) r e

-- a coverage by value of what was put into two arrays of zeros
pub made_got : (c : Result (List Range)) {n : ℕ} {xs ys : List ℕ} → placed (gives n) xs ys ≡ placing c (replicate limit 0) (replicate limit 0) → answer (gives tt) (counted n xs ys) ≡ made c
unfolding kept_as
made_got (gives rs) {n} e =
    let t : gives n ≡ gives (length rs) = ap (λ (p : Placed). p.answer) e in
    let k : n ≡ length rs = cc in
    ap (λ (p : Placed). answer (gives tt) (counted n p.begins p.ends)) e ∙ ap (λ (m : ℕ). answer (gives tt) (counted m (padded (begins rs)) (padded (ends rs)))) k
made_got (refused m vs) {n} e =
    let t : gives n ≡ refused m vs = ap (λ (p : Placed). p.answer) e in
    let z : ◌≡◌ {A = ℕ} 0 1 = cc in
    absurd (omega arith)

pub made_lost : (c : Result (List Range)) (r : Error) {xs ys : List ℕ} (us zs : List ℕ) → placed (refusal r) xs ys ≡ placing c us zs → answer (refusal r) (kept_as []) ≡ made c
made_lost (gives rs) r us zs e =
    let t : refusal r ≡ gives (length rs) = ap (λ (p : Placed). p.answer) e in
    let z : ◌≡◌ {A = ℕ} 0 1 = cc in
    absurd (omega arith)
made_lost (refused m vs) r us zs e = ap (λ (p : Placed). answer (refused_in p.answer) (kept_as [])) e
  where
    refused_in : Result ℕ → Result Unit
    refused_in (gives n) = gives tt
    refused_in (refused n vs) = refused n vs

-- for functions that hand on the refusal
pub ruleset making = (made_lost, is_refusal)
