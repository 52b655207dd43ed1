-- The operands of an entry, one at a time: each is there and the others follow, or its refusal is the answer.
-- Assumes nothing.
use mathlib.Core.Path.{◌≡◌, refl, sym}
use mathlib.Core.List.{List}
use Prim.Native.Nat.{ℕ, ◌≤◌, ◌<◌}
use native.Mathlib.Omega.{arith}
use lib.ListN.{length}
use Rattle.section_bytes.specs.Read.{gives, refused, got, Read, read_then}
use borrow.Author.Tests.{lt-leb}
use Rattle.section_bytes.specs.declared.common.Encoding.{Encoding}
use Rattle.section_bytes.specs.declared.endianity.RunTimeEndian.{RunTimeEndian}
use Rattle.entries.specs.declared.Expression.{Expression}
use Rattle.section_bytes.specs.Error.{refusal}
use Rattle.section_bytes.specs.Reader.{split, uint}
use Rattle.section_bytes.specs.declared.common.DebugAddrIndex.{DebugAddrIndex}
use Rattle.section_bytes.specs.declared.error.Error.{Error}
use Rattle.section_bytes.specs.declared.Span.{Span}
use Rattle.section_bytes.proofs.Inside.{split_inside}
use Rattle.entries.specs.Forms.{addr_index, indexed, expression, expression_at, versioned_length, block, operand}

-- an index that was read, or its refusal
module _ {B : Type 0} {d : Read ℕ} (f : DebugAddrIndex → ℕ → Read B) where
  pub index_goes_on : {v c : ℕ} → gives (got v c) ≡ d → read_then (indexed d) f ≡ f (addr_index v) c
  index_goes_on p = rw (← p) refl

  pub index_stops : (x : Error) → refusal x ≡ d → read_then (indexed d) f ≡ refusal x
  index_stops x p = rw (← p) refl

-- a part that was cut off starts in what it was cut from
pub cut_within : (n : ℕ) (s : List ℕ) (c : ℕ) {x : Span} {d : ℕ} → gives (got x d) ≡ split n s c → x.offset ≤ length s
cut_within n s c h = let i = split_inside n s c (sym h) in omega arith

-- an expression ends in what it was read from, wherever its length comes from
module _ (start : ℕ) (s : List ℕ) {x : Expression} {d : ℕ} where
  cut_ends : (n c : ℕ) (r : Read Span) → split n s c ≡ r → gives (got x d) ≡ read_then r (λ y e. gives (got (expression_at start y) e)) → d ≤ length s
  cut_ends n c (gives (got y e)) p h = let i = split_inside n s c p in let j : d ≡ e = cc in omega (arith, j, i)
  cut_ends n c (refused k vs) p h = let z : ◌≡◌ {A = ℕ} 0 1 = cc in absurd (omega arith)

  pub expression_ends : (r : Read ℕ) → gives (got x d) ≡ read_then r (block start s) → d ≤ length s
  unfolding block
  expression_ends (gives (got n c)) h = cut_ends n c (split n s c) refl h
  expression_ends (refused n vs) h = let z : ◌≡◌ {A = ℕ} 0 1 = cc in absurd (omega arith)

-- up to version 4 an expression's length has two bytes
pub short_is : (encoding : Encoding) (endian : RunTimeEndian) (start : ℕ) (s : List ℕ) (c : ℕ) → encoding.version < 5
    → read_then (uint endian 2 s c) (block start s) ≡ operand encoding endian start s expression c
unfolding versioned_length
short_is encoding endian start s c v = rw (lt-leb _ _ v) refl
