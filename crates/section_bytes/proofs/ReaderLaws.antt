-- What the definitions of reading say, case by case. Callers' proofs cite these and do not open the definitions.
use Rattle.std.proofs.Common.{◌≡◌, ℕ, zero, suc, ◌+◌, ◌-◌, ◌*◌, ◌/◌, ◌%◌, ◌^◌, ◌<◌, ◌≤◌, Bool, true, false, ◌||◌, eqb, ltb, ◌⊎◌, List, [], length, get_or, take, drop, sym, refl, ap, ◌∙◌, inl, inr, ⊎_elim, arith, drop-cons, le-ltb, ne_eqb, eqb-true, le-leb}
use lib.Bits.{bit_and, bit_or, or_add_and, and_le_l}
use borrow.Author.Tests.{lt-leb}
use Rattle.section_bytes.proofs.AddressLaws.{under}
use Rattle.std.specs.Prelude.{Ok, Err, IsErrAnd}
use Rattle.std.proofs.lemmas.Result.{err_from_is_err_and}
use Rattle.std.specs.declared.result.Result.{Result as Answer}
use Rattle.section_bytes.specs.Read.{Result, gives, got, Read, read_then}
use Rattle.section_bytes.specs.Error.{refusal, told}
use Rattle.section_bytes.specs.Endianity.{little, value}
use Rattle.section_bytes.specs.Reader.{skip, uint, part_of, is_size, address}
use Rattle.section_bytes.specs.declared.endianity.RunTimeEndian.{RunTimeEndian}
use Rattle.section_bytes.specs.declared.endianity.RunTimeEndian.TheVariants.{Little}
use Rattle.section_bytes.specs.declared.error.Error.{Error}
use Rattle.section_bytes.specs.declared.error.Error.TheVariants.{UnexpectedEof}

-- an answer that was taken apart: its value goes on, or its refusal is the answer
module _ {A B : Type 0} {r : Answer (A × ℕ) Error} {d : Read A} (f : A → ℕ → Result B) (p : told r ≡ d) where
  pub got_then : {v : A} {c : ℕ} → r ≡ Ok (v, c) → read_then d f ≡ f v c
  got_then q = rw (← p, q)

  pub refused_then : {e : Error} → r ≡ Err e → read_then d f ≡ refusal e
  refused_then q = rw (← p, q)

-- a `?` on a read: what was read goes on, or the refusal is the answer
module _ {A B : Type 0} {d : Read A} (f : A → ℕ → Result B) where
  pub goes_on : {v : A} {c : ℕ} → gives (got v c) ≡ d → read_then d f ≡ f v c
  goes_on p = rw (← p) refl

  pub stops : (e : Error) → refusal e ≡ d → read_then d f ≡ refusal e
  stops e p = rw (← p) refl

-- what a `?` hands on is that refusal, whatever the answer is told as
pub is_refusal : {A : Type 0} (q : Answer A Error) (e : Error) → IsErrAnd q (λ y. y ≡ e) → q ≡ Err e
is_refusal q e h = let p = err_from_is_err_and q h in rw (p.1, p.2) refl

pub handed_on : {A : Type 0} (q : Answer (A × ℕ) Error) (e : Error) → IsErrAnd q (λ y. y ≡ e) → told q ≡ refusal e
handed_on q e h = ap told (is_refusal q e h)

-- for functions whose steps are reads under `?`
pub ruleset reading = (goes_on, stops, is_refusal)

module _ (n : ℕ) (s : List ℕ) (at : ℕ) where
  pub skip_short : length s < at + n → skip n s at ≡ refusal UnexpectedEof
  unfolding skip
  skip_short h = simp (lt-leb _ _ h)

  pub skip_got : at + n ≤ length s → skip n s at ≡ gives (got tt (at + n))
  unfolding skip
  skip_got h = simp (le-leb _ _ h)

  pub part_inside : at + n ≤ length s → part_of s at n ≡ take n (drop at s)
  unfolding part_of
  part_inside h = simp (le-leb _ _ h)

  pub part_outside : length s < at + n → part_of s at n ≡ []
  unfolding part_of
  part_outside h = simp (lt-leb _ _ h)

module _ (endian : RunTimeEndian) (n : ℕ) (s : List ℕ) (at : ℕ) where
  pub uint_short : length s < at + n → uint endian n s at ≡ refusal UnexpectedEof
  unfolding uint
  uint_short h = rw (skip_short n s at h)

  pub uint_got : at + n ≤ length s → uint endian n s at ≡ gives (got (value endian (take n (drop at s))) (at + n))
  unfolding uint
  uint_got h = rw (skip_got n s at h)

  pub address_size : is_size n ≡ true → address endian n s at ≡ uint endian n s at
  unfolding address
  address_size h = simp h

-- one byte is its own number
pub byte_got : (s : List ℕ) (at : ℕ) → at < length s → uint Little 1 s at ≡ gives (got (get_or s at 0) (at + 1))
unfolding little
byte_got s at h =
    uint_got Little 1 s at (omega arith)
    ∙ ap (λ (v : ℕ). gives (got v (at + 1))) (ap (λ (l : List ℕ). little (take 1 l)) (drop-cons s at 0 h) ∙ omega arith)

or_cases : (a b : Bool) → (a || b) ≡ true → (a ≡ true) ⊎ (b ≡ true)
or_cases true b e = inl refl
or_cases false b e = inr e

-- the sizes, one by one
pub size_cases : {P : Type 0} (n : ℕ) → is_size n ≡ true → (n ≡ 1 → P) → (n ≡ 2 → P) → (n ≡ 3 → P) → (n ≡ 4 → P) → (n ≡ 8 → P) → P
unfolding is_size
size_cases n e a b c d f =
    ⊎_elim (λ p. ⊎_elim (λ q. ⊎_elim (λ r. ⊎_elim (λ t. a (eqb-true n 1 t)) (λ t. b (eqb-true n 2 t)) (or_cases (eqb n 1) (eqb n 2) r))
    (λ r. c (eqb-true n 3 r)) (or_cases (eqb n 1 || eqb n 2) (eqb n 3) q))
    (λ q. d (eqb-true n 4 q)) (or_cases (eqb n 1 || eqb n 2 || eqb n 3) (eqb n 4) p))
    (λ p. f (eqb-true n 8 p)) (or_cases (eqb n 1 || eqb n 2 || eqb n 3 || eqb n 4) (eqb n 8) e)

-- an address has one to eight bytes
pub size_range : (n : ℕ) → is_size n ≡ true → (0 < n) × (n ≤ 8)
size_range n e = size_cases n e (λ q. omega arith) (λ q. omega arith) (λ q. omega arith) (λ q. omega arith) (λ q. omega arith)

-- what is left after the even ones
pub odd_size : (n : ℕ) → is_size n ≡ true → (n ≡ 8 → ⊥) → (n ≡ 4 → ⊥) → (n ≡ 2 → ⊥) → (n % 2 ≡ 1) × (n ≤ 3)
odd_size n e a b c = size_cases n e (λ q. omega arith) (λ q. absurd (c q)) (λ q. omega arith) (λ q. absurd (b q)) (λ q. absurd (a q))

-- the sizes by one comparison: of a number and the one below it
bits : (n : ℕ) → 0 < n → n ≤ 8 → ltb (bit_or (bit_and n (n - 1)) ((n - 1) / 8 * 8)) 3 ≡ is_size n
unfolding is_size
bits zero z h = absurd (omega arith)
bits (suc zero) z h = refl
bits (suc (suc zero)) z h = refl
bits (suc (suc (suc zero))) z h = refl
bits (suc (suc (suc (suc zero)))) z h = refl
bits (suc (suc (suc (suc (suc zero))))) z h = refl
bits (suc (suc (suc (suc (suc (suc zero)))))) z h = refl
bits (suc (suc (suc (suc (suc (suc (suc zero))))))) z h = refl
bits (suc (suc (suc (suc (suc (suc (suc (suc zero)))))))) z h = refl
bits (suc (suc (suc (suc (suc (suc (suc (suc (suc n))))))))) z h = absurd (omega arith)

no_size_past : (n : ℕ) → 8 < n → is_size n ≡ false
unfolding is_size
no_size_past n h =
    simp (ne_eqb n 1 (λ e. omega arith), ne_eqb n 2 (λ e. omega arith), ne_eqb n 3 (λ e. omega arith), ne_eqb n 4 (λ e. omega arith), ne_eqb n 8 (λ e. omega arith))

-- a part that alone is too large
too_large : (a b : ℕ) → 3 ≤ b → ltb (bit_or a b) 3 ≡ false
too_large a b h = le-ltb (bit_or a b) 3 (omega (arith, or_add_and a b, and_le_l a b))

pub by_bits : (n below : ℕ) → below < 2 ^ 64 → (below + 1) % 2 ^ 64 ≡ n → ltb (bit_or (bit_and n below) (below / 8 * 8)) 3 ≡ is_size n
unfolding is_size
by_bits zero below l e = too_large (bit_and zero below) (below / 8 * 8) (omega arith)
by_bits (suc n) below l e =
    let b : below ≡ suc n - 1 = omega arith in
    ⊎_elim (λ h. rw (too_large (bit_and (suc n) below) (below / 8 * 8) (omega arith)) (sym (no_size_past (suc n) h)))
    (λ h. rw b (bits (suc n) (omega arith) (omega arith))) (under 8 (suc n))

pub size_8 : is_size 8 ≡ true
unfolding is_size
size_8 = refl
