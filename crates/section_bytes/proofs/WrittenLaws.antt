-- Numbers written are read back, and bytes read are those written: by induction on the bytes. Assumes nothing.
use Rattle.std.proofs.Common.{◌≡◌, ℕ, zero, suc, ◌+◌, ◌*◌, ◌/◌, ◌%◌, ◌^◌, ◌<◌, ◌≤◌, true, ◌&&◌, eqb, ltb, List, [], ◌∷◌, ◌++◌, length, get_or, drop, refl, ap, ◌∙◌, subst, ap₂, ⊎_elim, pow-suc, arith, ltb-false, ltb-true, le-ltb, lt-ltb, eq-eqb, ne_eqb}
use Rattle.section_bytes.specs.Read.{gives, refused, got, Read}
use Rattle.section_bytes.specs.Endianity.{little}
use Rattle.section_bytes.specs.Leb128.{below, unsigned_from, unsigned}
use Rattle.section_bytes.proofs.Took.{pick_ind}
use Rattle.section_bytes.specs.Written.{little_bytes, unsigned_in, unsigned_bytes}
use Rattle.section_bytes.proofs.Order.{lt_or_le}

pub length_little : (k x : ℕ) → length (little_bytes k x) ≡ k
unfolding little_bytes
length_little zero x = refl
length_little (suc k) x = ap suc (length_little k (x / 256))

pub little_pair : (x : ℕ) → little_bytes 2 x ≡ x % 256 ∷ x / 256 % 256 ∷ []
unfolding little_bytes
little_pair x = refl

-- a number of k bytes
pub little_back : (k x : ℕ) → x < 256 ^ k → little (little_bytes k x) ≡ x
unfolding little little_bytes
little_back zero x h = omega arith
little_back (suc k) x h =
    let l : x < 256 ^ k * 256 = rw pow-suc at h in
    rw (little_back k (x / 256) (omega arith)) (omega arith)

-- bytes are those of their number
pub little_written : (bs : List ℕ) → ((i : ℕ) → get_or bs i 0 < 256) → little_bytes (length bs) (little bs) ≡ bs
unfolding little little_bytes
little_written [] h = refl
little_written (b ∷ bs) h =
    let l : b < 256 = h 0 in
    let m : (b + 256 * little bs) % 256 ≡ b = omega arith in
    let d : (b + 256 * little bs) / 256 ≡ little bs = omega arith in
    ap₂ ◌∷◌ m (ap (little_bytes (length bs)) d ∙ little_written bs (λ i. h (suc i)))

-- what was read as the k-th byte of a number and the bytes after it
module _ (j at x : ℕ) (rest : List ℕ) where
  last_byte : j ≤ 8 → x < 128 → unsigned_from j (x ∷ rest) at ≡ gives (got x (at + 1))
  unfolding unsigned_from
  last_byte h l = simp (ne_eqb j 9 (λ e. omega arith), lt-ltb x 128 l)

  more_bytes : j ≤ 8 → 128 ≤ x → unsigned_from j (x ∷ rest) at ≡ below x (unsigned_from (j + 1) rest (at + 1))
  unfolding unsigned_from
  more_bytes h l = simp (ne_eqb j 9 (λ e. omega arith), le-ltb x 128 l)

  tenth_byte : j ≡ 9 → x ≤ 1 → unsigned_from j (x ∷ rest) at ≡ gives (got x (at + 1))
  unfolding unsigned_from
  tenth_byte h l = let m : x < 128 = omega arith in simp (eq-eqb j 9 h, le-ltb 1 x l, lt-ltb x 128 m)

module _ (k x : ℕ) where
  pub unsigned_short : x < 128 → unsigned_in (suc k) x ≡ x ∷ []
  unfolding unsigned_in
  unsigned_short h = rw (lt-ltb x 128 h)

  pub unsigned_long : 128 ≤ x → unsigned_in (suc k) x ≡ (x % 128 + 128) ∷ unsigned_in k (x / 128)
  unfolding unsigned_in
  unsigned_long h = rw (le-ltb x 128 h)

pub unsigned_last : (k x : ℕ) → x < 128 → unsigned_in k x ≡ x ∷ []
unfolding unsigned_in
unsigned_last zero x h = refl
unsigned_last (suc k) x h = unsigned_short k x h

-- a form has a byte at least, and at most as many as there is room for
pub unsigned_length : (k x : ℕ) → (1 ≤ length (unsigned_in k x)) × (length (unsigned_in k x) ≤ suc k)
unfolding unsigned_in
unsigned_length zero x = omega arith
unsigned_length (suc k) x =
    let rest = unsigned_length k (x / 128) in
    ⊎_elim (λ h. rw (unsigned_short k x h) (omega arith)) (λ h. rw (unsigned_long k x h) (omega arith)) (lt_or_le x 128)

below_back : (x at n : ℕ) → below (x % 128 + 128) (gives (got (x / 128) (at + 1 + n))) ≡ gives (got x (at + suc n))
below_back x at n =
    let v : (x % 128 + 128) % 128 + 128 * (x / 128) ≡ x = omega arith in
    let c : at + 1 + n ≡ at + suc n = omega arith in
    ap₂ (λ x d. gives (got x d)) v c

-- a number from its k-th byte from the end on
pub unsigned_back : (j k x at : ℕ) (rest : List ℕ) → j + k ≡ 9 → x < 2 * 128 ^ k → unsigned_from j (unsigned_in k x ++ rest) at ≡ gives (got x (at + length (unsigned_in k x)))
unfolding unsigned_in
unsigned_back j zero x at rest e h = tenth_byte j at x rest (omega arith) (omega arith)
unsigned_back j (suc k) x at rest e h =
    let l : x < 2 * (128 ^ k * 128) = rw pow-suc at h in
    ⊎_elim
    (λ s. rw (unsigned_short k x s) (last_byte j at x rest (omega arith) s))
    (λ s. rw (unsigned_long k x s)
    (more_bytes j at (x % 128 + 128) (unsigned_in k (x / 128) ++ rest) (omega arith) (omega arith)
    ∙ ap (below (x % 128 + 128)) (unsigned_back (j + 1) k (x / 128) (at + 1) rest (omega arith) (omega arith))
    ∙ below_back x at (length (unsigned_in k (x / 128)))))
    (lt_or_le x 128)

-- a number that was written at a place is read there
pub unsigned_there : (s : List ℕ) (at x : ℕ) (rest : List ℕ) → x < 2 ^ 64 → drop at s ≡ unsigned_bytes x ++ rest
    → unsigned s at ≡ gives (got x (at + length (unsigned_bytes x)))
unfolding unsigned
unsigned_there s at x rest h d = ap (λ (l : List ℕ). unsigned_from 0 l at) d ∙ unsigned_back 0 9 x at rest refl (omega arith)

-- the number of bytes is below as many powers of 256
pub little_lt : (bs : List ℕ) → ((i : ℕ) → get_or bs i 0 < 256) → little bs < 256 ^ length bs
unfolding little
little_lt [] h = omega arith
little_lt (b ∷ bs) h = let l : b < 256 = h 0 in let k = little_lt bs (λ i. h (suc i)) in rw pow-suc (omega arith)

-- no form of a number is shorter, and one that is as short is the shortest: by induction on the bytes that are read
abbrev ReadAs : ℕ → ℕ → List ℕ → Read ℕ → Type 0
ReadAs k at l (gives (got v c)) =
    (at + length (unsigned_in k v) ≤ c)
    × (((i : ℕ) → get_or l i 0 < 256) → c ≡ at + length (unsigned_in k v) → l ≡ unsigned_in k v ++ drop (length (unsigned_in k v)) l)
ReadAs k at l (refused n vs) = Unit

last_read : (k at b : ℕ) (bs : List ℕ) → b < 128 → ReadAs k at (b ∷ bs) (gives (got b (at + 1)))
last_read k at b bs h = rw (unsigned_last k b h) ((omega arith, λ i e. refl))

below_read : (k at b : ℕ) (bs : List ℕ) (r : Read ℕ) → 128 ≤ b → ReadAs k (at + 1) bs r → ReadAs (suc k) at (b ∷ bs) (below b r)
below_read k at b bs (refused n vs) l p = tt
below_read k at b bs (gives (got v c)) l p =
    let x = b % 128 + 128 * v in
    let d : x / 128 ≡ v = omega arith in
    let s = (unsigned_length k v).0 in
    ⊎_elim
    (λ q. rw (unsigned_short k x q) ((omega (arith, p.0), λ i e. absurd (omega (arith, p.0)))))
    (λ q. rw (unsigned_long k x q, d)
    ((
      omega (arith, p.0),
      λ i e.
          let h : b < 256 = i 0 in
          let m : x % 128 + 128 ≡ b = omega arith in
          rw m (ap (λ (t : List ℕ). b ∷ t) (p.1 (λ j. i (suc j)) (omega arith))),
    )))
    (lt_or_le x 128)

read_from : (l : List ℕ) (j k at : ℕ) → j + k ≡ 9 → ReadAs k at l (unsigned_from j l at)
unfolding unsigned_from
read_from [] j k at e = tt
read_from (b ∷ bs) j zero at e =
    pick_ind (ReadAs zero at (b ∷ bs)) (eqb j 9 && ltb 1 b) (λ x. tt)
    (λ x. pick_ind (ReadAs zero at (b ∷ bs)) (ltb b 128) (λ y. last_read zero at b bs (ltb-true b 128 y))
    (λ y. let z : (eqb j 9 && ltb 1 b) ≡ true = rw (eq-eqb j 9 (omega arith)) (lt-ltb 1 b (omega (arith, ltb-false b 128 y))) in
    let f : ◌≡◌ {A = ℕ} 0 1 = cc in absurd (omega arith)))
read_from (b ∷ bs) j (suc k) at e =
    pick_ind (ReadAs (suc k) at (b ∷ bs)) (eqb j 9 && ltb 1 b) (λ x. tt)
    (λ x. pick_ind (ReadAs (suc k) at (b ∷ bs)) (ltb b 128) (λ y. last_read (suc k) at b bs (ltb-true b 128 y))
    (λ y. below_read k at b bs (unsigned_from (j + 1) bs (at + 1)) (ltb-false b 128 y) (read_from bs (j + 1) k (at + 1) (omega arith))))

module _ (s : List ℕ) (at : ℕ) {v c : ℕ} (e : unsigned s at ≡ gives (got v c)) where
  read_as : ReadAs 9 at (drop at s) (gives (got v c))
  unfolding unsigned
  read_as = subst (ReadAs 9 at (drop at s)) e (read_from (drop at s) 0 9 at refl)

  pub shortest : at + length (unsigned_bytes v) ≤ c
  shortest = read_as.0

  pub shortest_form : ((i : ℕ) → get_or (drop at s) i 0 < 256) → c ≡ at + length (unsigned_bytes v)
      → drop at s ≡ unsigned_bytes v ++ drop (length (unsigned_bytes v)) (drop at s)
  shortest_form h q = read_as.1 h q

-- what is written is bytes
pub append_bytes : (xs ys : List ℕ) → ((i : ℕ) → get_or xs i 0 < 256) → ((i : ℕ) → get_or ys i 0 < 256) → (i : ℕ) → get_or (xs ++ ys) i 0 < 256
append_bytes [] ys h k i = k i
append_bytes (x ∷ xs) ys h k zero = h 0
append_bytes (x ∷ xs) ys h k (suc i) = append_bytes xs ys (λ j. h (suc j)) k i

pub little_bytes_lem : (k x i : ℕ) → get_or (little_bytes k x) i 0 < 256
unfolding little_bytes
little_bytes_lem zero x i = omega arith
little_bytes_lem (suc k) x zero = omega arith
little_bytes_lem (suc k) x (suc i) = little_bytes_lem k (x / 256) i

one_bytes : (x i : ℕ) → x < 256 → get_or (x ∷ []) i 0 < 256
one_bytes x zero h = h
one_bytes x (suc i) h = omega arith

pub unsigned_bytes_lem : (k x i : ℕ) → x < 2 * 128 ^ k → get_or (unsigned_in k x) i 0 < 256
unfolding unsigned_in
unsigned_bytes_lem zero x i h = one_bytes x i (omega arith)
unsigned_bytes_lem (suc k) x i h =
    let l : x < 2 * (128 ^ k * 128) = rw pow-suc at h in
    ⊎_elim
    (λ s. rw (unsigned_short k x s) (one_bytes x i (omega arith)))
    (λ s. rw (unsigned_long k x s) (append_bytes ((x % 128 + 128) ∷ []) (unsigned_in k (x / 128)) (λ j. one_bytes (x % 128 + 128) j (omega arith)) (λ j. unsigned_bytes_lem k (x / 128) j (omega arith)) i))
    (lt_or_le x 128)

-- a byte and those after it, of a number that k bytes and one more hold
pub unsigned_more : (k x : ℕ) → 128 ≤ x → x < 2 * 128 ^ k
    → (j : ℕ) × (unsigned_in k x ≡ (x % 128 + 128) ∷ unsigned_in j (x / 128)) × (x / 128 < 2 * 128 ^ j)
unsigned_more zero x h s = absurd (omega arith)
unsigned_more (suc k) x h s = let l : x < 2 * (128 ^ k * 128) = rw pow-suc at s in (k, unsigned_long k x h, omega arith)

-- so a number told has at most ten bytes
pub few_bytes : (x : ℕ) {r : ℕ} → r ≡ length (unsigned_bytes x) → r ≤ 10
few_bytes x e = omega (arith, (unsigned_length 9 x).1)

-- a form counted byte by byte: of x are left the bytes of rest, of which n counts the first
pub record Counted (x n rest : ℕ) : Type 0 where
  pub k : ℕ
  pub small : rest < 2 * 128 ^ k
  pub same : n + length (unsigned_in k rest) ≡ 1 + length (unsigned_bytes x)
  pub few : n ≤ 10

pub counted_start : {x : ℕ} → x < 2 ^ 64 → Counted x 1 x
counted_start {x} h = record { k = 9; small = h; same = refl; few = omega arith }

module _ {x n rest : ℕ} (t : Counted x n rest) where
  pub counted_step : 128 ≤ rest → Counted x (n + 1) (rest / 128)
  counted_step h =
      let m = unsigned_more t.k rest h t.small in
      let u = unsigned_length m.0 (rest / 128) in
      let w = unsigned_length 9 x in
      let q : n + suc (length (unsigned_in m.0 (rest / 128))) ≡ 1 + length (unsigned_bytes x) = rw m.1 at t.same in
      record { k = m.0; small = m.2; same = omega arith; few = omega arith }

  pub counted_end : rest < 128 → n ≡ length (unsigned_bytes x)
  counted_end h =
      let q : n + 1 ≡ 1 + length (unsigned_bytes x) = rw (unsigned_last t.k rest h) at t.same in
      omega arith
