-- An unsigned LEB128 form written byte by byte: what is left of it, with what is done, is the same all along. Assumes nothing.
use mathlib.Core.Path.{◌≡◌, refl, ◌∙◌}
use mathlib.Core.List.{List}
use Prim.Native.Nat.{ℕ, suc, ◌+◌, ◌*◌, ◌/◌, ◌%◌, ◌^◌, ◌≤◌, ◌<◌}
use native.Mathlib.Numerals.{add-one}
use native.Mathlib.Omega.{arith}
use lib.ListN.{length, set, length-set}
use lib.Seq.{sets}
use Rattle.section_bytes.specs.Written.{unsigned_in, unsigned_bytes}
use Rattle.section_bytes.proofs.WrittenLaws.{unsigned_last, unsigned_length, unsigned_more}

-- at p are still to be written the bytes of rest
pub record Left (l₀ : List ℕ) (at x : ℕ) (l : List ℕ) (p rest : ℕ) : Type 0 where
  pub k : ℕ
  pub small : rest < 2 * 128 ^ k
  pub same : sets l p (unsigned_in k rest) ≡ sets l₀ at (unsigned_bytes x)
  pub place : p + length (unsigned_in k rest) ≡ at + length (unsigned_bytes x)
  pub long : length l ≡ length l₀
  pub room : at + length (unsigned_bytes x) ≤ length l₀
  pub here : p < length l

pub left_start : {l : List ℕ} {at x : ℕ} → x < 2 ^ 64 → at + length (unsigned_bytes x) ≤ length l → Left l at x l at x
left_start {x = x} h r =
    let u = unsigned_length 9 x in
    record { k = 9; small = h; same = refl; place = refl; long = refl; room = r; here = omega arith }

module _ {l₀ l : List ℕ} {at x p rest : ℕ} (t : Left l₀ at x l p rest) where
  pub left_step : 128 ≤ rest → Left l₀ at x (set l p (rest % 128 + 128)) (p + 1) (rest / 128)
  left_step h =
      let m = unsigned_more t.k rest h t.small in
      let u = unsigned_length m.0 (rest / 128) in
      let q : p + suc (length (unsigned_in m.0 (rest / 128))) ≡ at + length (unsigned_bytes x) = rw m.1 at t.place in
      record {
        k = m.0;
        small = m.2;
        same = rw add-one (rw m.1 at t.same);
        place = omega arith;
        long = length-set l p (rest % 128 + 128) ∙ t.long;
        room = t.room;
        here = omega (arith, length-set l p (rest % 128 + 128), t.long, t.room);
      }

  pub left_end : rest < 128 → (p + 1 ≡ at + length (unsigned_bytes x)) × (set l p rest ≡ sets l₀ at (unsigned_bytes x))
  left_end h = (rw (unsigned_last t.k rest h) at t.place, rw (unsigned_last t.k rest h) at t.same)
