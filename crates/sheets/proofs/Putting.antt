-- Addresses written one after another: those still to be written, over the bytes that stand there now, are the same all along.
-- Assumes nothing.
use mathlib.Core.Path.{◌≡◌, refl, sym, ap, ap₂, ◌∙◌}
use mathlib.Core.List.{List, ◌∷◌, ◌++◌}
use Prim.Native.Nat.{ℕ, ◌+◌, ◌*◌, ◌/◌, ◌%◌, ◌≤◌, ◌<◌}
use native.Mathlib.Numerals.{add-one}
use native.Mathlib.Omega.{arith}
use lib.Dec.{leb}
use lib.ListN.{length, take, drop, get_or, set, length-append, drop_of_length-le}
use lib.Seq.{sets, length-sets, drop-cons, get_or-take, length-take-le}
use Rattle.section_bytes.specs.Read.{pick}
use Rattle.coverage.specs.Kept.{paired, firsts}
use Rattle.coverage.specs.Sorted.{AtLeast}
use Rattle.section_bytes.specs.Written.{little_bytes}
use Rattle.sheets.specs.Sheet.{address_bytes, sheet_bytes, sheet_length}
use Rattle.coverage.proofs.KeptLaws.{take_paired, length_paired, begins_paired, ends_paired}
use Rattle.sheets.proofs.SheetLaws.{length_addresses, sheet_spread}
use Rattle.section_bytes.proofs.WrittenLaws.{length_little}
use Rattle.section_bytes.proofs.PutLaws.{sets_append, put_room}

addresses_first : (a : ℕ) (l : List ℕ) → address_bytes (a ∷ l) ≡ little_bytes 8 a ++ address_bytes l
unfolding address_bytes
addresses_first a l = refl

-- at p are still to be written the addresses from the i-th on
pub record Putting (l₀ : List ℕ) (at n : ℕ) (xs l : List ℕ) (i p : ℕ) : Type 0 where
  pub same : sets l p (address_bytes (drop i (take n xs))) ≡ sets l₀ at (address_bytes (take n xs))
  pub place : p ≡ at + 8 * i
  pub within : i ≤ n
  pub long : length l ≡ length l₀
  pub room : at + 8 * n ≤ length l₀
  pub few : n ≤ length xs

pub putting_start : {l : List ℕ} {at n : ℕ} {xs : List ℕ} → n ≤ length xs → at + 8 * n ≤ length l → Putting l at n xs l 0 at
putting_start h r = record { same = refl; place = omega arith; within = omega arith; long = refl; room = r; few = h }

module _ {l₀ : List ℕ} {at n : ℕ} {xs l : List ℕ} {i p : ℕ} (t : Putting l₀ at n xs l i p) where
  count : length (take n xs) ≡ n
  count = length-take-le n xs t.few

  next_address : i < n → drop i (take n xs) ≡ get_or xs i 0 ∷ drop (i + 1) (take n xs)
  next_address w =
      drop-cons (take n xs) i 0 (omega (arith, count))
      ∙ ap₂ ◌∷◌ (get_or-take n xs i 0 w) (rw add-one)

  pub putting_step : {l' : List ℕ} → i < n
      → l' ≡ pick (leb (p + 8) (length l)) (sets l p (little_bytes 8 (get_or xs i 0))) l
      → Putting l₀ at n xs l' (i + 1) (p + 8)
  putting_step {l'} w q =
      record {
        same = stored ∙ t.same;
        place = omega (arith, t.place);
        within = omega arith;
        long = ap length put ∙ length-sets l p (little_bytes 8 (get_or xs i 0)) ∙ t.long;
        room = t.room;
        few = t.few;
      }
    where
      put : l' ≡ sets l p (little_bytes 8 (get_or xs i 0))
      put = q ∙ put_room l p 8 (sets l p (little_bytes 8 (get_or xs i 0))) (omega (arith, t.place, t.long, t.room))

      stored : sets l' (p + 8) (address_bytes (drop (i + 1) (take n xs))) ≡ sets l p (address_bytes (drop i (take n xs)))
      stored = rw (next_address w, addresses_first, sets_append, length_little, put)

  pub putting_end : n ≤ i → l ≡ sets l₀ at (address_bytes (take n xs))
  unfolding address_bytes
  putting_end h = rw (drop_of_length-le (take n xs) {i = i} (omega (arith, count))) at t.same

-- a sheet's bytes: its head, then both rows of addresses
module _ (bs es : List ℕ) (n : ℕ) (h : AtLeast n bs es) where
  taken_begins : length (take n bs) ≡ n
  taken_begins = length-take-le n bs h.0

  taken_ends : length (take n es) ≡ n
  taken_ends = length-take-le n es h.1

  head_spread : sheet_bytes (firsts n bs es) ≡ n % 256 ∷ n / 256 % 256 ∷ 8 ∷ 0 ∷ (address_bytes (take n bs) ++ address_bytes (take n es))
  head_spread =
      let k : length (take n bs) ≡ length (take n es) = taken_begins ∙ sym taken_ends in
      rw (take_paired n bs es)
      (sheet_spread (paired (take n bs) (take n es))
      ∙ rw (begins_paired (take n bs) (take n es) k, ends_paired (take n bs) (take n es) k, length_paired (take n bs) (take n es) k, taken_begins))

  pub sheet_length_lem : length (sheet_bytes (firsts n bs es)) ≡ sheet_length n
  sheet_length_lem =
      rw (head_spread, length-append, length_addresses (take n bs), length_addresses (take n es), taken_begins, taken_ends) (omega arith)

  pub sheet_put : (l : List ℕ) {l₁ l₂ : List ℕ}
      → l₁ ≡ sets (set (set (set (set l 0 (n % 256)) 1 (n / 256 % 256)) 2 8) 3 0) 4 (address_bytes (take n bs))
      → l₂ ≡ sets l₁ (4 + 8 * n) (address_bytes (take n es))
      → l₂ ≡ sets l 0 (sheet_bytes (firsts n bs es))
  sheet_put l p q = rw (head_spread, sets_append, length_addresses, taken_begins, q, p)
