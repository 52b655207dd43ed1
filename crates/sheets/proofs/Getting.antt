-- Addresses read one after another: those still to be read, over the numbers that stand there now, are the same all along.
-- Assumes nothing.
use mathlib.Core.Path.{◌≡◌, refl, sym, ap, ◌∙◌}
use mathlib.Core.List.{List, [], ◌∷◌, ◌++◌}
use Prim.Native.Nat.{ℕ, zero, suc, ◌+◌, ◌-◌, ◌*◌, ◌≤◌, ◌<◌}
use native.Mathlib.Numerals.{add-one}
use native.Mathlib.Omega.{arith}
use lib.ListN.{length, take, drop, set, replicate, length-set, length-replicate}
use lib.Seq.{sets, sets-eq, drop-drop}
use Rattle.section_bytes.specs.Endianity.{little}
use Rattle.coverage.specs.Ranges.{limit}
use Rattle.coverage.specs.Kept.{padded}
use Rattle.coverage.proofs.KeptLaws.{padded_is}
use Rattle.sheets.specs.Sheet.{addresses_in}
use Rattle.sheets.proofs.SheetLaws.{length_in}

abbrev zeros : ℕ → List ℕ
zeros k = replicate k 0

addresses_first : (n : ℕ) (bs : List ℕ) → addresses_in (suc n) bs ≡ little (take 8 bs) ∷ addresses_in n (drop 8 bs)
unfolding addresses_in
addresses_first n bs = refl

addresses_none : (bs : List ℕ) → addresses_in 0 bs ≡ []
unfolding addresses_in
addresses_none bs = refl

drop_zeros : (n k : ℕ) → drop n (zeros k) ≡ zeros (k - n)
drop_zeros zero k = let e : k - 0 ≡ k = omega arith in rw e
drop_zeros (suc n) zero = let e : 0 - suc n ≡ 0 = omega arith in rw e
drop_zeros (suc n) (suc k) = let e : suc k - suc n ≡ k - n = omega arith in rw e (drop_zeros n k)

pub record Getting (bs : List ℕ) (at n : ℕ) (l : List ℕ) (i p : ℕ) : Type 0 where
  pub same : sets l i (addresses_in (n - i) (drop p bs)) ≡ sets (zeros limit) 0 (addresses_in n (drop at bs))
  pub place : p ≡ at + 8 * i
  pub within : i ≤ n
  pub few : n ≤ limit
  pub long : length l ≡ limit
  pub room : at + 8 * n ≤ length bs

pub getting_start : {bs : List ℕ} {at n : ℕ} → n ≤ limit → at + 8 * n ≤ length bs → Getting bs at n (zeros limit) 0 at
getting_start {bs} {at} {n} h r =
    let e : n - 0 ≡ n = omega arith in
    record { same = rw e; place = omega arith; within = omega arith; few = h; long = length-replicate {A = ℕ} limit 0; room = r }

module _ {bs : List ℕ} {at n : ℕ} {l : List ℕ} {i p : ℕ} (t : Getting bs at n l i p) where
  pub getting_step : {v : ℕ} → i < n → v ≡ little (take 8 (drop p bs)) → Getting bs at n (set l i v) (i + 1) (p + 8)
  getting_step {v} w q =
      record {
        same = stored ∙ t.same;
        place = omega (arith, t.place);
        within = omega arith;
        few = t.few;
        long = length-set l i v ∙ t.long;
        room = t.room;
      }
    where
      stored : sets (set l i v) (i + 1) (addresses_in (n - (i + 1)) (drop (p + 8) bs)) ≡ sets l i (addresses_in (n - i) (drop p bs))
      stored =
          let e : n - i ≡ suc (n - (i + 1)) = omega arith in
          rw (e, addresses_first, drop-drop, q, add-one)

  pub getting_end : n ≤ i → l ≡ padded (addresses_in n (drop at bs))
  getting_end h =
      let e : n - i ≡ 0 = omega arith in
      let c = length_in n (drop at bs) in
      let z : 0 + n ≡ n = omega arith in
      let s : l ≡ sets (zeros limit) 0 (addresses_in n (drop at bs)) = rw (e, addresses_none (drop p bs)) at t.same in
      let d : drop (0 + length (addresses_in n (drop at bs))) (zeros limit) ≡ replicate (limit - length (addresses_in n (drop at bs))) 0 = rw (c, z) (drop_zeros n limit) in
      s ∙ sets-eq (addresses_in n (drop at bs)) (zeros limit) 0 (omega (arith, t.few, length-replicate {A = ℕ} limit 0))
      ∙ ap (λ (m : List ℕ). addresses_in n (drop at bs) ++ m) d ∙ sym (padded_is (addresses_in n (drop at bs)))
