-- Bytes put into an output, one after another or as a part of it. Assumes nothing.
use Rattle.std.proofs.Common.{◌≡◌, ℕ, zero, suc, ◌+◌, ◌-◌, ◌/◌, ◌%◌, ◌^◌, ◌≤◌, leb, List, [], ◌∷◌, ◌++◌, length, set, refl, ap, ◌∙◌, pow-suc, arith, append_assoc, drop-drop, le-leb}
use lib.Seq.{sets, sets-eq}
use borrow.Rule.Slice.PartMut.{put_mid}
use Rattle.std.proofs.Math.Nat.{div-div-eq-div-mul}
use Rattle.std.specs.Int.{w64, byte_at, bytes_low_first, to_le_bytes}
use Rattle.section_bytes.specs.Read.{pick}
use Rattle.section_bytes.specs.Written.{little_bytes}
use Rattle.section_bytes.proofs.WrittenLaws.{length_little}

pub sets_append : (l : List ℕ) (i : ℕ) (vs ws : List ℕ) → sets l i (vs ++ ws) ≡ sets (sets l i vs) (i + length vs) ws
sets_append l i [] ws = let e : i + 0 ≡ i = omega arith in rw e
sets_append l i (v ∷ vs) ws =
    let e : i + suc (length vs) ≡ suc i + length vs = omega arith in rw e (sets_append (set l i v) (suc i) vs ws)

-- the library's bytes of a number, from one of them on
module _ (x : ℕ) where
  byte : (i : ℕ) → byte_at i x ≡ x / 256 ^ i % 256
  byte zero = omega arith
  byte (suc i) = refl

  bytes_from : (k i : ℕ) → bytes_low_first i k x ≡ little_bytes k (x / 256 ^ i)
  unfolding little_bytes
  bytes_from zero i = refl
  bytes_from (suc k) i = rw (byte i, bytes_from k (suc i), pow-suc, div-div-eq-div-mul)

  pub bytes_are : to_le_bytes w64 x ≡ little_bytes 8 x
  bytes_are = bytes_from 8 0 ∙ ap (little_bytes 8) (omega arith)

-- a part of the output that was written over with them
pub part_put : (l : List ℕ) (at x : ℕ) {bs m : List ℕ} → m ≡ bs → bs ≡ to_le_bytes w64 x → at + 8 ≤ length l
    → put_mid at (at + 8 - at) l m ≡ sets l at (little_bytes 8 x)
part_put l at x {m = m} p q h =
    let e : at + 8 - at ≡ 8 = omega arith in
    let w : m ≡ little_bytes 8 x = p ∙ q ∙ bytes_are x in
    rw (e, w, sets-eq (little_bytes 8 x) l at (rw length_little h), length_little, drop-drop, append_assoc)

-- bytes put where there is room for them
pub put_room : (l : List ℕ) (at n : ℕ) (m : List ℕ) → at + n ≤ length l → pick (leb (at + n) (length l)) m l ≡ m
put_room l at n m h = rw (le-leb (at + n) (length l) h)
