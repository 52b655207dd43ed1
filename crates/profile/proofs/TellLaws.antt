-- What an entry tells, beside its conversion, and beside the code's tests. Assumes nothing.
use Prim.Native.Nat.{ℕ, ◌-◌, ◌^◌, ◌≤◌, ◌<◌}
use mathlib.Core.Bool.{Bool, true, false}
use mathlib.Core.List.{List}
use mathlib.Core.Path.{◌≡◌, refl, sym, ◌∙◌}
use native.Mathlib.Omega.{arith}
use lib.Dec.{leb, ltb}
use borrow.Author.Tests.{le-leb, lt-leb, lt-ltb, le-ltb, leb-true, ltb-true, ltb-false}
use Rattle.std.specs.Prelude.{Ok, Err}
use Rattle.std.specs.declared.result.Result.{Result as Answer}
use Rattle.section_bytes.specs.Address.{min_tombstone}
use Rattle.section_bytes.specs.Read.{Result, gives, refused, and_then, pick}
use Rattle.section_bytes.specs.Reader.{is_size}
use Rattle.section_bytes.specs.declared.common.DebugAddrIndex.{DebugAddrIndex}
use Rattle.section_bytes.specs.declared.error.Error.{Error}
use Rattle.section_bytes.specs.declared.error.Error.TheVariants.{Tombstone, BackwardRange}
use Rattle.section_bytes.proofs.ReaderLaws.{size_cases}
use Rattle.entries.specs.declared.RawRngListEntry.{RawRngListEntry}
use Rattle.entries.specs.declared.RawRngListEntry.TheVariants.{
  AddressOrOffsetPair,
  BaseAddress,
  BaseAddressx,
  StartxEndx,
  StartxLength,
  OffsetPair,
  StartEnd,
  StartLength,
}
use Rattle.lists.specs.Convert.{Turn, range, rebase, skip, bounded, convert}
use Rattle.profile.specs.Profile.{kept, Tells, between, added, selects, tells, of_range, of_told, of_lookups, of_entry}
use Rattle.profile.specs.Profiled.{turn_of, Empty, between_same, added_same, Breaks}

-- the tombstone bound t as the code has it
module _ (size : ℕ) {t : ℕ} (f : t ≡ min_tombstone size) where
  pub begin_broken : (b e : ℕ) → t ≤ b → Err Tombstone ≡ of_range size b e
  begin_broken b e h = rw (← f) (simp (le-leb _ _ h))

  pub backward_broken : (b e : ℕ) → b < t → e < b → Err BackwardRange ≡ of_range size b e
  backward_broken b e h l = rw (← f) (simp (lt-leb _ _ h, lt-ltb _ _ l))

  pub range_kept : (b e : ℕ) → b < t → b ≤ e → kept ≡ of_range size b e
  range_kept b e h l = rw (← f) (simp (lt-leb _ _ h, le-ltb _ _ l))

  pub base_broken : (base b e : ℕ) → t ≤ base → Err Tombstone ≡ of_told size (added base b e)
  base_broken base b e h = rw (← f) (simp (le-leb _ _ h))

  pub base_lives : (base b e : ℕ) → base < t → of_range size b e ≡ of_told size (added base b e)
  base_lives base b e h = rw (← f) (simp (lt-leb _ _ h))

-- what is told, by what an entry tells
module _ (size : ℕ) {r : Result Tells} where
  pub told_of : {t : Tells} {h : Answer Unit Error} → r ≡ gives t → h ≡ of_told size t → h ≡ of_lookups size r
  told_of q k = rw q k

  pub failed_kept : {n : ℕ} {vs : List ℕ} → r ≡ refused n vs → kept ≡ of_lookups size r
  failed_kept q = rw q

-- another base address by its index is none of the three, whether its lookup fails or not
pub selects_kept : (size : ℕ) {r : Result Tells} (d : Result ℕ) → r ≡ and_then d (λ a. gives (selects a)) → kept ≡ of_lookups size r
selects_kept size (gives a) q = rw q
selects_kept size (refused n vs) q = rw q

-- one thing after another
then_then : {A B C : Type 0} (r : Result A) (f : A → Result B) (g : B → Result C) (h : A → Result C) → ((a : A) → and_then (f a) g ≡ h a) → and_then (and_then r f) g ≡ and_then r h
then_then (gives a) f g h q = q a
then_then (refused n vs) f g h q = refl

as_converted : (table : DebugAddrIndex → Result ℕ) (size base : ℕ) (e : RawRngListEntry) → convert table size base e ≡ and_then (tells table size base e) (turn_of size)
unfolding convert tells
as_converted table size base (AddressOrOffsetPair b e) = refl
as_converted table size base (BaseAddress a) = refl
as_converted table size base (BaseAddressx i) = sym (then_then (table i) _ _ _ (λ a. refl))
as_converted table size base (StartxEndx i j) = sym (then_then (table i) _ _ _ (λ b. then_then (table j) _ _ _ (λ e. refl)))
as_converted table size base (StartxLength i n) = sym (then_then (table i) _ _ _ (λ b. refl))
as_converted table size base (OffsetPair b e) = refl
as_converted table size base (StartEnd b e) = refl
as_converted table size base (StartLength b n) = refl

kept_broken : {A : Type 0} {x : Error} → kept ≡ Err x → A
kept_broken h = let z : ◌≡◌ {A = ℕ} 0 1 = cc in absurd (omega arith)

-- by the tests of begin against the bound, and of end against begin in two ways
tested_passed : (p q r : Bool) (t : Result Turn) → (q ≡ true → r ≡ true) → {x : Error} → pick p (Err Tombstone) (pick q (Err BackwardRange) kept) ≡ Err x → pick p (gives skip) (pick r (gives skip) t) ≡ gives skip
tested_passed true q r t h k = refl
tested_passed false true r t h k = rw (h refl) refl
tested_passed false false r t h k = kept_broken k

range_passed : (size b e : ℕ) {x : Error} → of_range size b e ≡ Err x → bounded size b e ≡ gives skip
range_passed size b e k = tested_passed (leb (min_tombstone size) b) (ltb e b) (leb e b) (gives (range b e)) (λ q. le-leb e b (omega (arith, ltb-true e b q))) k

picked_passed : (p : Bool) {h : Answer Unit Error} {x : Error} {t : Result Turn} → (h ≡ Err x → t ≡ gives skip) → pick p (Err Tombstone) h ≡ Err x → pick p (gives skip) t ≡ gives skip
picked_passed true f k = refl
picked_passed false f k = f k

passed_over : (size : ℕ) (t : Tells) (x : Error) → of_told size t ≡ Err x → turn_of size t ≡ gives skip
passed_over size (between b e) x k = range_passed size b e k
passed_over size (added base b e) x k = picked_passed (leb (min_tombstone size) base) (range_passed size b e) k
passed_over size (selects a) x k = kept_broken k

tested_empty : (p q r : Bool) (b e : ℕ) → pick p (Err Tombstone) (pick q (Err BackwardRange) kept) ≡ kept → pick p (gives skip) (pick r (gives skip) (gives (range b e))) ≡ gives skip → (q ≡ false) × (r ≡ true)
tested_empty true q r b e h k = kept_broken (sym h)
tested_empty false true r b e h k = kept_broken (sym h)
tested_empty false false true b e h k = (refl, refl)
tested_empty false false false b e h k = let z : ◌≡◌ {A = ℕ} 0 1 = cc in absurd (omega arith)

range_empty : (size b e : ℕ) → of_range size b e ≡ kept → bounded size b e ≡ gives skip → e ≡ b
range_empty size b e h k =
    let t = tested_empty (leb (min_tombstone size) b) (ltb e b) (leb e b) b e h k in
    omega (arith, ltb-false e b t.0, leb-true e b t.1)

picked_empty : (p : Bool) {h : Answer Unit Error} {t : Result Turn} → pick p (Err Tombstone) h ≡ kept → pick p (gives skip) t ≡ gives skip → (h ≡ kept) × (t ≡ gives skip)
picked_empty true h k = kept_broken (sym h)
picked_empty false h k = (h, k)

empty : (size : ℕ) (t : Tells) → turn_of size t ≡ gives skip → of_told size t ≡ kept → Empty t
empty size (between b e) k h = rw (range_empty size b e h k) (between_same b)
empty size (added base b e) k h =
    let p = picked_empty (leb (min_tombstone size) base) h k in
    rw (range_empty size b e p.0 p.1) (added_same base b)
empty size (selects a) k h = let z : ◌≡◌ {A = ℕ} 0 1 = cc in absurd (omega arith)

default_location : (table : DebugAddrIndex → Result ℕ) (size base : ℕ) → is_size size ≡ true → of_lookups size (tells table size base (StartEnd 0 (2 ^ 64 - 1))) ≡ kept
unfolding tells
default_location table size base h = size_cases size h (λ q. rw q refl) (λ q. rw q refl) (λ q. rw q refl) (λ q. rw q refl) (λ q. rw q refl)

pub breaks : Breaks
breaks = record { as_converted = as_converted; passed_over = passed_over; empty = empty; default_location = default_location }

-- what the ordinary conversion came to says of 16 and 17
module _ (table : DebugAddrIndex → Result ℕ) (size base : ℕ) (e : RawRngListEntry) where
  told_kept : (r : Result Tells) (t : Result Turn) → (t ≡ gives skip → ⊥) → t ≡ and_then r (turn_of size) → of_lookups size r ≡ kept
  told_kept (refused n vs) t f q = refl
  told_kept (gives x) t f q = by (of_told size x) refl
    where
      by : (h : Answer Unit Error) → of_told size x ≡ h → of_told size x ≡ kept
      by (Ok x) p = p
      by (Err y) p = absurd (f (q ∙ passed_over size x y p))

  -- neither stands at an entry that is not passed over
  pub converted_kept : (t : Result Turn) → (t ≡ gives skip → ⊥) → t ≡ convert table size base e → of_entry false table size base e ≡ kept
  converted_kept t f q = told_kept (tells table size base e) t f (q ∙ as_converted table size base e)

-- what is not passed over
pub range_not_skip : {b e : ℕ} → gives (range b e) ≡ gives skip → ⊥
range_not_skip q = let z : ◌≡◌ {A = ℕ} 0 1 = cc in absurd (omega arith)

pub rebase_not_skip : {b : ℕ} → gives (rebase b) ≡ gives skip → ⊥
rebase_not_skip q = let z : ◌≡◌ {A = ℕ} 0 1 = cc in absurd (omega arith)

pub refused_not_skip : {n : ℕ} {vs : List ℕ} → ◌≡◌ {A = Result Turn} (refused n vs) (gives skip) → ⊥
refused_not_skip q = let z : ◌≡◌ {A = ℕ} 0 1 = cc in absurd (omega arith)
