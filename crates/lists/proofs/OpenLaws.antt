-- A list that opens has an address size that is read and lies in its section. Assumes nothing.
use mathlib.Core.Path.{◌≡◌, refl, subst}
use mathlib.Core.Bool.{Bool, true, false}
use mathlib.Core.List.{List}
use Prim.Native.Nat.{ℕ, ◌≤◌}
use native.Mathlib.Omega.{arith}
use lib.Dec.{leb}
use borrow.Author.Tests.{leb-true}
use lib.ListN.{length}
use Rattle.section_bytes.specs.Error.{refusal}
use Rattle.section_bytes.specs.Read.{Result, gives, refused, pick}
use Rattle.section_bytes.specs.Reader.{is_size}
use Rattle.section_bytes.specs.declared.common.Encoding.{Encoding}
use Rattle.section_bytes.specs.declared.error.Error.TheVariants.{UnexpectedEof}
use Rattle.lists.specs.Open.{walk_at, opened}
use Rattle.lists.specs.declared.Walk.{Walk}

pub opened_size : (encoding : Encoding) (s : List ℕ) (offset base : ℕ) {w : Walk} → opened encoding s offset base ≡ gives w → is_size encoding.address_size ≡ true
unfolding opened
opened_size encoding s offset base {w} q = chosen (is_size encoding.address_size) _ _ _ q
  where
    chosen : (t : Bool) (x : Result Walk) (n : ℕ) (vs : List ℕ) → pick t x (refused n vs) ≡ gives w → t ≡ true
    chosen true x n vs f = refl
    chosen false x n vs f = let z : ◌≡◌ {A = ℕ} 0 1 = cc in absurd (omega arith)

-- the walk of a list that opens, which stands in its section
pub opened_as : (encoding : Encoding) (s : List ℕ) (offset base : ℕ) {w : Walk} → opened encoding s offset base ≡ gives w → (walk_at offset base 0 ≡ w) × (offset ≤ length s)
unfolding opened
opened_as encoding s offset base {w} q = chosen (is_size encoding.address_size) _ _ q
  where
    inner : (t : Bool) → leb offset (length s) ≡ t → (n : ℕ) (vs : List ℕ) → pick t (gives (walk_at offset base 0)) (refused n vs) ≡ gives w → (walk_at offset base 0 ≡ w) × (offset ≤ length s)
    inner true e n vs f = let z : walk_at offset base 0 ≡ w = cc in (z, leb-true offset (length s) e)
    inner false e n vs f = let z : ◌≡◌ {A = ℕ} 0 1 = cc in absurd (omega arith)

    chosen : (t : Bool) (n : ℕ) (vs : List ℕ) → pick t (pick (leb offset (length s)) (gives (walk_at offset base 0)) (refusal UnexpectedEof)) (refused n vs) ≡ gives w → (walk_at offset base 0 ≡ w) × (offset ≤ length s)
    chosen true n vs f = inner (leb offset (length s)) refl _ _ f
    chosen false n vs f = let z : ◌≡◌ {A = ℕ} 0 1 = cc in absurd (omega arith)

pub opened_inside : (encoding : Encoding) (s : List ℕ) (offset base : ℕ) {w : Walk} → opened encoding s offset base ≡ gives w → w.at ≤ length s
opened_inside encoding s offset base q = let k = opened_as encoding s offset base q in subst (λ (v : Walk). v.at ≤ length s) k.0 k.1
