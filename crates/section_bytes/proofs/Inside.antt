-- What a read that was not refused says of the places it reached: for the layers above, which do not open the definitions.
-- Assumes nothing.
use Rattle.std.proofs.Common.{◌≡◌, ℕ, ◌+◌, ◌≤◌, Bool, true, false, eqb, ltb, leb, List, length, drop, refl, arith, length-drop, drop_of_length-le, length-take-le, leb-false, leb-true}
use Rattle.section_bytes.specs.Read.{Result, gives, refused, got, Read, read_then}
use Rattle.section_bytes.specs.Leb128.{unsigned, unsigned_from}
use Rattle.section_bytes.specs.Common.{initial_length_size}
use Rattle.section_bytes.specs.Reader.{skip, uint, split, truncate, part_of, is_size, address_size_at, initial_length}
use Rattle.section_bytes.specs.declared.Span.{Span}
use Rattle.section_bytes.specs.declared.UnitLength.{UnitLength}
use Rattle.section_bytes.specs.declared.endianity.RunTimeEndian.{RunTimeEndian}
use Rattle.section_bytes.specs.declared.endianity.RunTimeEndian.TheVariants.{Little}
use Rattle.section_bytes.proofs.Took.{pick_ind}
use Rattle.section_bytes.proofs.ReaderTook.{uint_moves}
use Rattle.section_bytes.proofs.LebTook.{unsigned_took}

-- what holds of a refusal, and of all that may follow a value that was read, holds of the whole
pub then_ind : {A B : Type 0} (P : Result B → Type 0) (r : Read A) (f : A → ℕ → Result B) → ((n : ℕ) (vs : List ℕ) → P (refused n vs))
    → ((v : A) (c : ℕ) → r ≡ gives (got v c) → P (f v c)) → P (read_then r f)
then_ind P (gives (got v c)) f n g = g v c refl
then_ind P (refused k vs) f n g = n k vs

-- of a value that was read and the place after it
abbrev pub Given : {A : Type 0} → (A → ℕ → Type 0) → Read A → Type 0
Given P (gives (got v c)) = P v c
Given P (refused k vs) = Unit

module _ (n : ℕ) (s : List ℕ) (at : ℕ) where
  skips : Given (λ _ c. (c ≡ at + n) × (c ≤ length s)) (skip n s at)
  unfolding skip
  skips = pick_ind (Given (λ _ c. (c ≡ at + n) × (c ≤ length s))) (leb (at + n) (length s)) (λ h. (refl, leb-true _ _ h)) (λ h. tt)

  pub skip_inside : {v : Unit} {c : ℕ} → skip n s at ≡ gives (got v c) → (c ≡ at + n) × (c ≤ length s)
  skip_inside e = rw e at skips

  -- a part that was cut off: where it starts, its length, and that it lies in the section
  splits : Given (λ x c. (x.offset ≡ at) × (x.len ≡ n) × (c ≡ at + n) × (c ≤ length s)) (split n s at)
  unfolding split
  splits =
      then_ind (Given (λ x c. (x.offset ≡ at) × (x.len ≡ n) × (c ≡ at + n) × (c ≤ length s))) (skip n s at) _ (λ k vs. tt)
      (λ v c e. (refl, refl, (skip_inside e).0, (skip_inside e).1))

  pub split_inside : {x : Span} {c : ℕ} → split n s at ≡ gives (got x c) → (x.offset ≡ at) × (x.len ≡ n) × (c ≡ at + n) × (c ≤ length s)
  split_inside e = rw e at splits

  -- a section that was cut after n bytes
  cuts : Given (λ end c. (end ≡ at + n) × (end ≤ length s) × (c ≡ at)) (truncate n s at)
  unfolding truncate
  cuts = then_ind (Given (λ end c. (end ≡ at + n) × (end ≤ length s) × (c ≡ at))) (skip n s at) _ (λ k vs. tt) (λ v c e. ((skip_inside e).0, (skip_inside e).1, refl))

  pub truncate_inside : {end c : ℕ} → truncate n s at ≡ gives (got end c) → (end ≡ at + n) × (end ≤ length s) × (c ≡ at)
  truncate_inside e = rw e at cuts

-- an initial length has the bytes of its format
module _ (endian : RunTimeEndian) (s : List ℕ) (at : ℕ) where
  lengths : Given (λ u c. c ≡ at + initial_length_size u.format) (initial_length endian s at)
  unfolding initial_length
  lengths =
      then_ind (Given (λ u c. c ≡ at + initial_length_size u.format)) (uint endian 4 s at) _ (λ k vs. tt) (λ n c e.
      pick_ind (Given (λ u c. c ≡ at + initial_length_size u.format)) (ltb n 0xfffffff0) (λ h. uint_moves endian 4 s at e) (λ h.
      pick_ind (Given (λ u c. c ≡ at + initial_length_size u.format)) (eqb n 0xffffffff) (λ g.
      then_ind (Given (λ u c. c ≡ at + initial_length_size u.format)) (uint endian 8 s c) _ (λ k vs. tt)
      (λ m d z. omega (arith, uint_moves endian 4 s at e, uint_moves endian 8 s c z))) (λ g. tt)))

  pub initial_moves : {u : UnitLength} {c : ℕ} → initial_length endian s at ≡ gives (got u c) → c ≡ at + initial_length_size u.format
  initial_moves e = rw e at lengths

-- an address size that was read is one that is read
module _ (s : List ℕ) (at : ℕ) where
  sizes : Given (λ n c. (is_size n ≡ true) × (c ≡ at + 1)) (address_size_at s at)
  unfolding address_size_at
  sizes =
      then_ind (Given (λ n c. (is_size n ≡ true) × (c ≡ at + 1))) (uint Little 1 s at) _ (λ k vs. tt)
      (λ v c e. pick_ind (Given (λ n c. (is_size n ≡ true) × (c ≡ at + 1))) (is_size v) (λ h. (h, uint_moves Little 1 s at e)) (λ h. tt))

  pub address_size_is : {n c : ℕ} → address_size_at s at ≡ gives (got n c) → is_size n ≡ true
  address_size_is e = (rw e at sizes).0

  pub address_size_moves : {n c : ℕ} → address_size_at s at ≡ gives (got n c) → c ≡ at + 1
  address_size_moves e = (rw e at sizes).1

-- a number that was read ends in its section, wherever the reading began
module _ (s : List ℕ) (at : ℕ) {v c : ℕ} (e : unsigned s at ≡ gives (got v c)) where
  ended : (t : Bool) → leb at (length s) ≡ t → c ≤ length s
  unfolding unsigned unsigned_from
  ended true h = let k = rw e at (unsigned_took s s at (leb-true at (length s) h)) in k.1
  ended false h =
      let l = leb-false at (length s) h in
      let n = rw (drop_of_length-le s {i = at} (omega arith)) at e in
      let z : ◌≡◌ {A = ℕ} 0 1 = cc in
      absurd (omega arith)

  pub unsigned_inside : c ≤ length s
  unsigned_inside = ended (leb at (length s)) refl

-- a part that is not empty lies in the section
pub part_fits : (s : List ℕ) (offset len : ℕ) → (length (part_of s offset len) ≡ 0 → ⊥)
    → (offset + len ≤ length s) × (length (part_of s offset len) ≡ len)
unfolding part_of
part_fits s offset len =
    pick_ind (λ (l : List ℕ). (length l ≡ 0 → ⊥) → (offset + len ≤ length s) × (length l ≡ len)) (leb (offset + len) (length s))
    (λ h z. let i = leb-true _ _ h in (i, length-take-le len (drop offset s) (rw (length-drop offset s) (omega arith))))
    (λ h z. absurd (z refl))
