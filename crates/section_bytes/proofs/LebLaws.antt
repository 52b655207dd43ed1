-- The loop of an unsigned LEB128 number: what is known before each byte, that the number's answer is that for the bytes left
-- with the bits gathered, and one byte more. Assumes nothing.
use Rattle.std.proofs.Common.{◌≡◌, ℕ, ◌+◌, ◌-◌, ◌*◌, ◌%◌, ◌^◌, ◌<◌, ◌≤◌, Bool, true, false, ◌&&◌, eqb, ltb, ◌⊎◌, List, length, get_or, drop, sym, refl, ap, ◌∙◌, ap₂, inr, ⊎_elim, mod-eq_of_lt, mul_assoc, mul_comm, add-mul, add-one, arith, drop_of_length-le, drop-cons, pow-add, shl_exact, ltb-true, le-ltb, lt-ltb, eq-eqb, ne_eqb}
use mathlib.Core.Bool.{and-false, and-eq-true_iff}
use native.Mathlib.Nat.{sub_self}
use lib.Arith.{digits_lt}
use lib.Bits.{bit_and, bit_or, and_mask, or_shifted_r}
use Rattle.section_bytes.specs.Read.{gives, refused, got, Read, pick}
use Rattle.section_bytes.specs.Error.{refusal}
use Rattle.section_bytes.specs.Leb128.{below, unsigned_from, unsigned, one_byte, no_byte, single}
use Rattle.section_bytes.specs.declared.error.Error.TheVariants.{UnexpectedEof, BadUnsignedLeb128}

-- an answer for the bytes that are left, joined with the low bits that were gathered
pub onto : ℕ → ℕ → Read ℕ → Read ℕ
onto acc sh (gives (got v c)) = gives (got (v * 2 ^ sh + acc) c)
onto acc sh (refused n vs) = refused n vs

-- before a byte: `result` holds the low `shift` bits, and the definition's answer is that for the bytes left, with them
pub record Gathered (s : List ℕ) (at result shift i : ℕ) : Type 0 where
  pub past : at ≤ i
  pub seven : shift ≡ 7 * (i - at)
  pub top : shift ≤ 63
  pub low : result < 2 ^ shift
  pub says : unsigned s at ≡ onto result shift (unsigned_from (i - at) (drop i s) i)

-- a byte that may stand at its place: it is no tenth byte, or is at most 1
abbrev pub Lawful : ℕ → ℕ → Type 0
Lawful b sh = (b ≤ 1) ⊎ (sh ≤ 56)

-- the code's join is a sum, and nothing is shifted out
joined : (acc b sh : ℕ) → acc < 2 ^ sh → sh ≤ 63 → Lawful b sh → bit_or acc ((bit_and b 127 * 2 ^ sh) % 2 ^ 64) ≡ (b % 128) * 2 ^ sh + acc
joined acc b sh h t l =
    let e : (b % 128 * 2 ^ sh) % 2 ^ 64 ≡ b % 128 * 2 ^ sh =
    ⊎_elim (λ q. shl_exact 1 sh 64 (omega arith) (omega arith)) (λ q. shl_exact 7 sh 64 (omega arith) (omega arith)) l in
    rw (and_mask b 7, e, or_shifted_r (b % 128) sh acc h)

joined_lt : (acc b sh : ℕ) → acc < 2 ^ sh → (b % 128) * 2 ^ sh + acc < 2 ^ (sh + 7)
joined_lt acc b sh h = rw (pow-add 2 sh 7, mul_comm (2 ^ sh) 128) (digits_lt {q = b % 128} {m = 128} (omega arith) h)

-- one byte moves from what is left to what was gathered
onto_more : (acc sh b : ℕ) (r : Read ℕ) → onto acc sh (below b r) ≡ onto ((b % 128) * 2 ^ sh + acc) (sh + 7) r
unfolding onto
onto_more acc sh b (gives (got v c)) = ap (λ (n : ℕ). gives (got n c)) (rw (pow-add 2 sh 7, add-mul, mul_assoc 128 v) (omega (arith, mul_assoc v (2 ^ sh) 128)))
onto_more acc sh b (refused n vs) = refl

onto_none : (r : Read ℕ) → r ≡ onto 0 0 r
unfolding onto
onto_none (gives (got v c)) = ap (λ (n : ℕ). gives (got n c)) (omega arith)
onto_none (refused n vs) = refl

gathered_none : (s : List ℕ) (at : ℕ) → Gathered s at 0 0 at
unfolding unsigned
gathered_none s at = record {
  past = omega arith;
  seven = omega arith;
  top = omega arith;
  low = omega arith;
  says = rw sub_self (onto_none _);
}

-- what the definition says of the byte at i, the k-th of the number
module _ (s : List ℕ) (i k : ℕ) where
  from_end : length s ≤ i → unsigned_from k (drop i s) i ≡ refusal UnexpectedEof
  unfolding unsigned_from
  from_end h = rw (drop_of_length-le s h)

  from_bad : i < length s → k ≡ 9 → 1 < get_or s i 0 → unsigned_from k (drop i s) i ≡ refusal BadUnsignedLeb128
  unfolding unsigned_from
  from_bad h e l = rw (drop-cons s i 0 h) (simp (eq-eqb k 9 e, lt-ltb 1 (get_or s i 0) l))

  lawful_test : k ≤ 9 → Lawful (get_or s i 0) (7 * k) → (eqb k 9 && ltb 1 (get_or s i 0)) ≡ false
  lawful_test h l = ⊎_elim (λ q. rw (le-ltb 1 (get_or s i 0) q) (and-false (eqb k 9))) (λ q. rw (ne_eqb k 9 (λ e. omega arith))) l

  from_last : i < length s → k ≤ 9 → Lawful (get_or s i 0) (7 * k) → get_or s i 0 < 128 → unsigned_from k (drop i s) i ≡ gives (got (get_or s i 0) (i + 1))
  unfolding unsigned_from
  from_last h hk l b = rw (drop-cons s i 0 h) (simp (lawful_test hk l, lt-ltb (get_or s i 0) 128 b))

  from_more : i < length s → k ≤ 9 → Lawful (get_or s i 0) (7 * k) → 128 ≤ get_or s i 0
      → unsigned_from k (drop i s) i ≡ below (get_or s i 0) (unsigned_from (k + 1) (drop (i + 1) s) (i + 1))
  unfolding unsigned_from
  from_more h hk l b = rw (drop-cons s i 0 h, add-one i) (simp (lawful_test hk l, le-ltb (get_or s i 0) 128 b))

module _ {s : List ℕ} {at result shift i : ℕ} (g : Gathered s at result shift i) where
  pub ended : length s ≤ i → refusal UnexpectedEof ≡ unsigned s at
  unfolding onto
  ended h = sym (g.says ∙ ap (onto result shift) (from_end s i (i - at) h))

  pub bad : i < length s → shift ≡ 63 → 1 < get_or s i 0 → refusal BadUnsignedLeb128 ≡ unsigned s at
  unfolding onto
  bad h e l = sym (g.says ∙ ap (onto result shift) (from_bad s i (i - at) h (omega arith) l))

  pub last : i < length s → Lawful (get_or s i 0) shift → get_or s i 0 < 128
      → gives (got (bit_or result ((bit_and (get_or s i 0) 127 * 2 ^ shift) % 2 ^ 64)) (i + 1)) ≡ unsigned s at
  unfolding onto
  last h l b = sym (g.says ∙ ap (onto result shift) (from_last s i (i - at) h (omega arith) (rw g.seven at l) b)
      ∙ ap (λ (n : ℕ). gives (got n (i + 1))) (rw (joined result (get_or s i 0) shift g.low g.top l, mod-eq_of_lt b)))

  pub next : i < length s → Lawful (get_or s i 0) shift → 128 ≤ get_or s i 0
      → Gathered s at (bit_or result ((bit_and (get_or s i 0) 127 * 2 ^ shift) % 2 ^ 64)) (shift + 7) (i + 1)
  next h l b =
      let j = joined result (get_or s i 0) shift g.low g.top l in
      let u : shift ≤ 56 = ⊎_elim (λ q. omega arith) (λ q. q) l in
      let k : i + 1 - at ≡ i - at + 1 = omega arith in
      let f = from_more s i (i - at) h (omega arith) (rw g.seven at l) b in
      record {
        past = omega arith;
        seven = omega arith;
        top = omega arith;
        low = rw j (joined_lt result (get_or s i 0) shift g.low);
        says = rw (j, k) (g.says ∙ ap (onto result shift) f ∙ onto_more result shift (get_or s i 0) (unsigned_from (i - at + 1) (drop (i + 1) s) (i + 1)));
      }

-- after the first byte, which another follows
pub begun : (s : List ℕ) (at : ℕ) → at < length s → 128 ≤ get_or s at 0 → Gathered s at (bit_and (get_or s at 0) 127) 7 (at + 1)
begun s at h b =
    let l : Lawful (get_or s at 0) 0 = inr (omega arith) in
    let j : bit_or 0 ((bit_and (get_or s at 0) 127 * 2 ^ 0) % 2 ^ 64) ≡ bit_and (get_or s at 0) 127 =
    joined 0 (get_or s at 0) 0 (omega arith) (omega arith) l ∙ rw (and_mask (get_or s at 0) 7) (omega arith) in
    rw j at (next (gathered_none s at) h l b)

-- a number of one byte, and one of none
pub one : (s : List ℕ) (at : ℕ) → at < length s → get_or s at 0 < 128 → gives (got (get_or s at 0) (at + 1)) ≡ unsigned s at
unfolding unsigned
one s at h b = sym (from_last s at 0 h (omega arith) (inr (omega arith)) b)

-- a number of two bytes
pub two : (s : List ℕ) (at : ℕ) → at + 1 < length s → 128 ≤ get_or s at 0 → get_or s (at + 1) 0 < 128
    → gives (got (bit_or (bit_and (get_or s at 0) 127) ((bit_and (get_or s (at + 1) 0) 127 * 2 ^ 7) % 2 ^ 64)) (at + 1 + 1)) ≡ unsigned s at
two s at h b l = last (begun s at (omega arith) b) h (inr (omega arith)) l

pub none : (s : List ℕ) (at : ℕ) → length s ≤ at → refusal UnexpectedEof ≡ unsigned s at
none s at h = ended (gathered_none s at) h

-- a number of one byte is the number there
single_picked : (t : Bool) (b at : ℕ) {v c : ℕ} → pick t (one_byte b (at + 1)) no_byte ≡ one_byte v c → (t ≡ true) × (b ≡ v) × (at + 1 ≡ c)
single_picked true b at h = (refl, cc, cc)
single_picked false b at h = let z : ◌≡◌ {A = ℕ} 0 1 = cc in absurd (omega arith)

pub single_is : (s : List ℕ) (at : ℕ) {v c : ℕ} → single s at ≡ one_byte v c → unsigned s at ≡ gives (got v c)
unfolding single
single_is s at h =
    let p = single_picked (ltb at (length s) && ltb (get_or s at 0) 128) (get_or s at 0) at h in
    let t = (and-eq-true_iff (ltb at (length s)) (ltb (get_or s at 0) 128)).0 p.0 in
    sym (one s at (ltb-true at (length s) t.0) (ltb-true (get_or s at 0) 128 t.1)) ∙ ap₂ (λ x d. gives (got x d)) p.1 p.2
