-- When a LEB128 number has a shorter form: by induction on the bytes that are read. Assumes nothing.
use Rattle.std.proofs.Common.{◌≡◌, ℕ, zero, suc, ◌+◌, ◌-◌, ◌*◌, ◌/◌, ◌%◌, ◌^◌, ◌<◌, ◌≤◌, true, false, ◌&&◌, eqb, ltb, ◌⊎◌, List, [], ◌∷◌, length, get_or, drop, sym, refl, ap, ◌∙◌, subst, inl, inr, ⊎_elim, append-nil, arith, get_or-drop, ltb-false, ltb-true, le-ltb, lt-ltb, eq-eqb, ne_eqb}
use Rattle.section_bytes.specs.Read.{gives, refused, got, Read, read_then}
use Rattle.section_bytes.specs.Leb128.{below, unsigned_from, unsigned}
use Rattle.section_bytes.specs.Padded.{is_padded, number_from, number_at, value_only, Form, PaddedNumbers}
use Rattle.section_bytes.specs.Written.{unsigned_in, unsigned_bytes}
use Rattle.section_bytes.specs.declared.leb128.Number.{Number}
use Rattle.section_bytes.proofs.Took.{pick_ind}
use Rattle.section_bytes.proofs.Order.{lt_or_le}
use Rattle.section_bytes.proofs.LebTook.{unsigned_lt}
use Rattle.section_bytes.proofs.Inside.{unsigned_inside}
use Rattle.section_bytes.proofs.WrittenLaws.{unsigned_short, unsigned_long, unsigned_last, unsigned_length, unsigned_there, unsigned_bytes_lem, shortest}

-- by the last byte of what is read as the number's last k + 1 bytes: 0 adds nothing, and stands alone or could be left out; any other
-- has bits of the number, which then has no shorter form
pub record ByLast (k at v c last : ℕ) : Type 0 where
  pub moves : at + 1 ≤ c
  pub room : c ≤ at + suc k
  pub adds_nothing : last ≡ 0 → ((v ≡ 0) × (c ≡ at + 1)) ⊎ (at + length (unsigned_in k v) < c)
  pub has_bits : 0 < last → (0 < v) × (at + length (unsigned_in k v) ≡ c)

abbrev Lasts : ℕ → ℕ → List ℕ → Read ℕ → Type 0
Lasts k at l (gives (got v c)) = ByLast k at v c (get_or l (c - (at + 1)) 0)
Lasts k at l (refused n vs) = Unit

only_byte : (k at b : ℕ) (bs : List ℕ) → b < 128 → Lasts k at (b ∷ bs) (gives (got b (at + 1)))
only_byte k at b bs h =
    let z : at + 1 - (at + 1) ≡ 0 = omega arith in
    rw z (record { moves = omega arith; room = omega arith; adds_nothing = λ e. inl (e, refl); has_bits = λ e. (e, rw (unsigned_last k b h) refl) })

below_lasts : (k at b : ℕ) (bs : List ℕ) (r : Read ℕ) → 128 ≤ b → Lasts k (at + 1) bs r → Lasts (suc k) at (b ∷ bs) (below b r)
below_lasts k at b bs (refused n vs) l p = tt
below_lasts k at b bs (gives (got v c)) l p =
    let m = p.moves in
    let n = p.room in
    let x = b % 128 + 128 * v in
    let d : x / 128 ≡ v = omega arith in
    let i : c - (at + 1) ≡ suc (c - (at + 1 + 1)) = omega arith in
    rw i (record {
      moves = omega arith;
      room = omega arith;
      adds_nothing = λ e. inr (⊎_elim
          (λ (q : x < 128). rw (unsigned_short k x q) (omega arith))
          (λ (q : 128 ≤ x). rw (unsigned_long k x q, d) (⊎_elim (λ w. absurd (omega (arith, w.0))) (λ w. omega (arith, w)) (p.adds_nothing e)))
          (lt_or_le x 128));
      has_bits = λ e.
          let w = p.has_bits e in
          let q : 128 ≤ x = omega (arith, w.0) in
          (omega (arith, w.0), rw (unsigned_long k x q, d) (omega (arith, w.1)));
    })

lasts_from : (l : List ℕ) (j k at : ℕ) → j + k ≡ 9 → Lasts k at l (unsigned_from j l at)
unfolding unsigned_from
lasts_from [] j k at e = tt
lasts_from (b ∷ bs) j zero at e =
    pick_ind (Lasts zero at (b ∷ bs)) (eqb j 9 && ltb 1 b) (λ x. tt)
    (λ x. pick_ind (Lasts zero at (b ∷ bs)) (ltb b 128) (λ y. only_byte zero at b bs (ltb-true b 128 y))
    (λ y. let z : (eqb j 9 && ltb 1 b) ≡ true = rw (eq-eqb j 9 (omega arith)) (lt-ltb 1 b (omega (arith, ltb-false b 128 y))) in
    let f : ◌≡◌ {A = ℕ} 0 1 = cc in absurd (omega arith)))
lasts_from (b ∷ bs) j (suc k) at e =
    pick_ind (Lasts (suc k) at (b ∷ bs)) (eqb j 9 && ltb 1 b) (λ x. tt)
    (λ x. pick_ind (Lasts (suc k) at (b ∷ bs)) (ltb b 128) (λ y. only_byte (suc k) at b bs (ltb-true b 128 y))
    (λ y. below_lasts k at b bs (unsigned_from (j + 1) bs (at + 1)) (ltb-false b 128 y) (lasts_from bs (j + 1) k (at + 1) (omega arith))))

zero_or_more : (n : ℕ) → (n ≡ 0) ⊎ (0 < n)
zero_or_more zero = inl refl
zero_or_more (suc n) = inr (omega arith)

-- a number that was read
module _ (s : List ℕ) (at : ℕ) {v c : ℕ} (e : unsigned s at ≡ gives (got v c)) where
  by_last : ByLast 9 at v c (get_or s (c - 1) 0)
  unfolding unsigned
  by_last =
      let p : Lasts 9 at (drop at s) (gives (got v c)) = subst (Lasts 9 at (drop at s)) e (lasts_from (drop at s) 0 9 at refl) in
      let m = p.moves in
      let i : at + (c - (at + 1)) ≡ c - 1 = omega arith in
      subst (ByLast 9 at v c) (get_or-drop at s (c - (at + 1)) 0 ∙ ap (λ (n : ℕ). get_or s n 0) i) p

  pub number_moves : (at + 1 ≤ c) × (c ≤ at + 10)
  number_moves = (by_last.moves, by_last.room)

  pub number_is : number_at s at ≡ gives (got (number_from at v c) c)
  unfolding number_at
  number_is = rw e

  pub one_byte : c - at ≤ 1 → is_padded v (c - at) ≡ false
  unfolding is_padded
  one_byte h = le-ltb (length (unsigned_bytes v)) (c - at) (omega (arith, (unsigned_length 9 v).0))

  ends_in_00 : 1 < c - at → get_or s (c - 1) 0 ≡ 0 → is_padded v (c - at) ≡ true
  unfolding is_padded
  ends_in_00 h z =
      lt-ltb (length (unsigned_bytes v)) (c - at)
      (⊎_elim (λ w. absurd (omega (arith, w.1))) (λ w. omega (arith, w)) (by_last.adds_nothing z))

  ends_in_bits : 0 < get_or s (c - 1) 0 → is_padded v (c - at) ≡ false
  unfolding is_padded
  ends_in_bits h = le-ltb (length (unsigned_bytes v)) (c - at) (omega (arith, (by_last.has_bits h).1))

  -- the code's two ways: one byte, as above, and more
  pub by_last_bits : 1 < c - at → is_padded v (c - at) ≡ eqb (get_or s (c - 1) 0) 0
  by_last_bits l =
      ⊎_elim (λ z. rw (eq-eqb (get_or s (c - 1) 0) 0 z) (ends_in_00 l z)) (λ z. rw (ne_eqb (get_or s (c - 1) 0) 0 (λ y. omega arith)) (ends_in_bits z))
      (zero_or_more (get_or s (c - 1) 0))

-- what the code goes by
module _ (s : List ℕ) (at : ℕ) {v c : ℕ} (p : gives (got v c) ≡ unsigned s at) where
  pub moves : at + 1 ≤ c
  moves = (number_moves s at (sym p)).0

  pub ends_inside : c ≤ length s
  ends_inside = unsigned_inside s at (sym p)

  pub padded_by_last : 1 < c - at → is_padded v (c - at) ≡ eqb (get_or s (c - 1) 0) 0
  padded_by_last l = by_last_bits s at (sym p) l

  pub single_unpadded : c - at ≤ 1 → is_padded v (c - at) ≡ false
  single_unpadded l = one_byte s at (sym p) l

value_as : (at : ℕ) (r : Read ℕ) → value_only (read_then r (λ v c. gives (got (number_from at v c) c))) ≡ r
value_as at (gives (got v c)) = refl
value_as at (refused n vs) = refl

value_is : (s : List ℕ) (at : ℕ) → value_only (number_at s at) ≡ unsigned s at
unfolding number_at
value_is s at = value_as at (unsigned s at)

-- a shortest form by itself
read_alone : {v : ℕ} → v < 2 ^ 64 → unsigned (unsigned_bytes v) 0 ≡ gives (got v (length (unsigned_bytes v)))
read_alone {v} l = unsigned_there (unsigned_bytes v) 0 v [] l (sym (append-nil (unsigned_bytes v))) ∙ ap (λ (n : ℕ). gives (got v n)) (omega arith)

-- a number that was read with its length
abbrev Numbered : ℕ → Read Number → Read ℕ → Type 0
Numbered at (gives (got x c)) r = (r ≡ gives (got x.value c)) × (x.len ≡ c - at) × (x.padded ≡ is_padded x.value (c - at))
Numbered at (refused n vs) r = Unit

numbered : (at : ℕ) (r : Read ℕ) → Numbered at (read_then r (λ v c. gives (got (number_from at v c) c))) r
numbered at (gives (got v c)) = (refl, refl, refl)
numbered at (refused n vs) = tt

module _ (s : List ℕ) (at : ℕ) {x : Number} {c : ℕ} (e : number_at s at ≡ gives (got x c)) where
  pub number_read : (unsigned s at ≡ gives (got x.value c)) × (x.len ≡ c - at) × (x.padded ≡ is_padded x.value (c - at))
  unfolding number_at
  number_read = subst (λ (r : Read Number). Numbered at r (unsigned s at)) e (numbered at (unsigned s at))

  length_is : (at + x.len ≡ c) × (1 ≤ x.len) × (x.len ≤ 10)
  length_is = let m = number_moves s at number_read.0 in let l = number_read.1 in (omega (arith, m.0), omega (arith, m.0), omega (arith, m.1))

  shorter_form : x.padded ≡ true → (bytes : List ℕ) × Form x.value bytes × (length bytes < x.len)
  unfolding is_padded
  shorter_form p =
      let r = number_read in
      let v = x.value in
      let b = unsigned_bytes v in
      let l : v < 2 ^ 64 = unsigned_lt s at r.0 in (
        b,
        record { each = λ i. unsigned_bytes_lem 9 v i (omega arith); reads = read_alone l },
        omega (arith, r.1, ltb-true (length b) (c - at) (sym r.2 ∙ p)),
      )

  shorter_padded : (bytes : List ℕ) → unsigned bytes 0 ≡ gives (got x.value (length bytes)) → length bytes < x.len → x.padded ≡ true
  unfolding is_padded
  shorter_padded b f l =
      let r = number_read in
      r.2 ∙ lt-ltb (length (unsigned_bytes x.value)) (c - at) (omega (arith, r.1, shortest b 0 f))

  last_byte : x.padded ≡ (ltb 1 x.len && eqb (get_or s (c - 1) 0) 0)
  last_byte = number_read.2 ∙ rw number_read.1 (⊎_elim several (λ l. rw (le-ltb 1 (c - at) l) (one_byte s at f l)) (lt_or_le 1 (c - at)))
    where
      f : unsigned s at ≡ gives (got x.value c)
      f = number_read.0

      several : 1 < c - at → is_padded x.value (c - at) ≡ (ltb 1 (c - at) && eqb (get_or s (c - 1) 0) 0)
      several l = rw (lt-ltb 1 (c - at) l) (by_last_bits s at f l)

pub padded_numbers : PaddedNumbers
padded_numbers =
    record {
      as_before = value_is;
      length_taken = λ s at e. length_is s at e;
      shorter = λ s at e. shorter_form s at e;
      no_shorter = λ s at e. shorter_padded s at e;
      by_last_byte = λ s at e. last_byte s at e;
    }
