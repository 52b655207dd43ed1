-- What a read took: it moves on, stays in the section, and looks at no byte outside those it took.
use Rattle.std.proofs.Common.{◌≡◌, ℕ, ◌<◌, ◌≤◌, Bool, true, false, List, length, get_or, refl, ap, arith}
use Rattle.section_bytes.specs.Error.{number}
use Rattle.section_bytes.specs.declared.error.Error.TheVariants.{UnexpectedEof}
use Rattle.section_bytes.specs.Read.{gives, refused, got, Read, read_then, pick}

-- two sections of one length whose bytes from a place to another are the same
pub record Agree (from to : ℕ) (s t : List ℕ) : Type 0 where
  pub size : length s ≡ length t
  pub same : (k : ℕ) → from ≤ k → k < to → get_or s k 0 ≡ get_or t k 0

pub narrow : {a b c d : ℕ} {s t : List ℕ} → a ≤ c → d ≤ b → Agree a b s t → Agree c d s t
narrow h l g = record { size = g.size; same = λ k p q. g.same k (omega arith) (omega arith) }

-- the bytes of s from a place to another stand at the same places of t, whatever else t holds and however long it is
pub record Stands (from to : ℕ) (s t : List ℕ) : Type 0 where
  pub fits : to ≤ length t
  pub same : (k : ℕ) → from ≤ k → k < to → get_or s k 0 ≡ get_or t k 0

pub within : {a b c d : ℕ} {s t : List ℕ} → a ≤ c → d ≤ b → Stands a b s t → Stands c d s t
within h l g = record { fits = let f = g.fits in omega arith; same = λ k p q. g.same k (omega arith) (omega arith) }

pub agree_stands : {a b c d : ℕ} {s t : List ℕ} → a ≤ c → d ≤ b → d ≤ length s → Agree a b s t → Stands c d s t
agree_stands h l m g = record { fits = omega (arith, g.size); same = λ k p q. g.same k (omega arith) (omega arith) }

-- of the answers r from s and q from t: where r is a value, the place after it is at least lo and lies in the section, and q
-- is the same wherever the bytes taken stand in t; where r is a refusal other than of missing bytes, q is the same wherever all
-- that is left of s stands in t, whatever follows it there
abbrev pub Took : {A : Type 0} → ℕ → ℕ → List ℕ → List ℕ → Read A → Read A → Type 0
Took lo at s t (gives (got v c)) q = (lo ≤ c) × (c ≤ length s) × (Stands at c s t → q ≡ gives (got v c))
Took lo at s t (refused n vs) q = (n ≡ number UnexpectedEof → ⊥) → Stands at (length s) s t → q ≡ refused n vs

module _ (s t : List ℕ) where
  pub lower : {A : Type 0} (lo hi at : ℕ) (r q : Read A) → lo ≤ hi → Took hi at s t r q → Took lo at s t r q
  lower lo hi at (gives (got v c)) q h k = (omega arith, k.1, k.2)
  lower lo hi at (refused n vs) q h k = k

  followed : {A B : Type 0} (lo at c : ℕ) (v : A) (q : Read A) (g : A → ℕ → Read B) (w : Read B) → at ≤ lo → Took lo at s t (gives (got v c)) q
      → Took c c s t w (g v c) → Took lo at s t w (read_then q g)
  followed lo at c v q g (gives (got w d)) l h j =
      (omega arith, j.1, λ a. rw (h.2 (within (omega arith) j.0 a)) (j.2 (within (omega arith) (omega arith) a)))
  followed lo at c v q g (refused n vs) l h j =
      λ z a. rw (h.2 (within (omega arith) h.1 a)) (j z (within (omega arith) (omega arith) a))

  -- a read, and what follows it
  pub then_took : {A B : Type 0} (lo at : ℕ) (r q : Read A) (f g : A → ℕ → Read B) → at ≤ lo → Took lo at s t r q
      → ((v : A) (c : ℕ) → lo ≤ c → c ≤ length s → Took c c s t (f v c) (g v c)) → Took lo at s t (read_then r f) (read_then q g)
  then_took lo at (gives (got v c)) q f g l h k = followed lo at c v q g (f v c) l h (k v c h.0 h.1)
  then_took lo at (refused n vs) q f g l h k = λ z a. ap (λ (x : Read _). read_then x g) (h z a)

  pub pick_took : {A : Type 0} (lo at : ℕ) (b : Bool) (x y u v : Read A) → (b ≡ true → Took lo at s t x u) → (b ≡ false → Took lo at s t y v)
      → Took lo at s t (pick b x y) (pick b u v)
  pick_took lo at true x y u v p q = p refl
  pick_took lo at false x y u v p q = q refl

-- what holds in both cases of a test holds of the choice
pub pick_ind : {A : Type 0} (P : A → Type 0) (t : Bool) {x y : A} → (t ≡ true → P x) → (t ≡ false → P y) → P (pick t x y)
pick_ind P true p q = p refl
pick_ind P false p q = q refl
