-- A read of bytes is never refused with the number of a code without a kind; and from a place behind a section's first byte it doesn't
-- look at that byte. Assumes nothing.
use Rattle.std.proofs.Common.{◌≡◌, ℕ, suc, ◌+◌, ◌&&◌, eqb, ltb, leb, List, [], ◌∷◌, length, refl, arith}
use Rattle.section_bytes.specs.Read.{gives, refused, got, Read, read_then}
use Rattle.section_bytes.specs.Reader.{skip, uint, split, is_size, address}
use Rattle.section_bytes.specs.Leb128.{unsigned_from, unsigned}
use Rattle.section_bytes.specs.declared.endianity.RunTimeEndian.{RunTimeEndian}
use Rattle.section_bytes.proofs.Took.{pick_ind}

abbrev pub NoCode : {A : Type 0} → Read A → Type 0
NoCode (gives x) = Unit
NoCode (refused n vs) = n ≡ 3 → ⊥

pub then_no_code : {A B : Type 0} (r : Read A) (f : A → ℕ → Read B) → NoCode r → ((v : A) (c : ℕ) → NoCode (f v c)) → NoCode (read_then r f)
then_no_code (gives (got v c)) f h k = k v c
then_no_code (refused n vs) f h k = h

module _ (s : List ℕ) where
  skip_no_code : (n at : ℕ) → NoCode (skip n s at)
  unfolding skip
  skip_no_code n at = pick_ind NoCode (leb (at + n) (length s)) (λ _. tt) (λ _ e. omega arith)

  pub split_no_code : (n at : ℕ) → NoCode (split n s at)
  unfolding split
  split_no_code n at = then_no_code (skip n s at) _ (skip_no_code n at) (λ v c. tt)

  pub uint_no_code : (endian : RunTimeEndian) (n at : ℕ) → NoCode (uint endian n s at)
  unfolding uint
  uint_no_code endian n at = then_no_code (skip n s at) _ (skip_no_code n at) (λ v c. tt)

  pub address_no_code : (endian : RunTimeEndian) (n at : ℕ) → NoCode (address endian n s at)
  unfolding address
  address_no_code endian n at = pick_ind NoCode (is_size n) (λ _. uint_no_code endian n at) (λ _ e. omega arith)

from_no_code : (k : ℕ) (bs : List ℕ) (at : ℕ) → NoCode (unsigned_from k bs at)
unfolding unsigned_from
from_no_code k [] at = λ e. omega arith
from_no_code k (b ∷ bs) at =
    pick_ind NoCode (eqb k 9 && ltb 1 b) (λ _ e. omega arith)
    (λ _. pick_ind NoCode (ltb b 128) (λ _. tt) (λ _. then_no_code (unsigned_from (k + 1) bs (at + 1)) _ (from_no_code (k + 1) bs (at + 1)) (λ v c. tt)))

pub unsigned_no_code : (s : List ℕ) (at : ℕ) → NoCode (unsigned s at)
unfolding unsigned
unsigned_no_code s at = from_no_code 0 _ at

module _ (a b : ℕ) (t : List ℕ) where
  -- a part is told by its place, and no byte is looked at
  pub split_front : (n at : ℕ) → split n (a ∷ t) at ≡ split n (b ∷ t) at
  unfolding split skip
  split_front n at = refl

  pub uint_front : (endian : RunTimeEndian) (n k : ℕ) → uint endian n (a ∷ t) (suc k) ≡ uint endian n (b ∷ t) (suc k)
  unfolding uint skip
  uint_front endian n k = refl

  pub address_front : (endian : RunTimeEndian) (n k : ℕ) → address endian n (a ∷ t) (suc k) ≡ address endian n (b ∷ t) (suc k)
  unfolding address uint skip
  address_front endian n k = refl

  pub unsigned_front : (k : ℕ) → unsigned (a ∷ t) (suc k) ≡ unsigned (b ∷ t) (suc k)
  unfolding unsigned
  unsigned_front k = refl
