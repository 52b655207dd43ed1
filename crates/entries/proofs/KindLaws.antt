-- The raw entry at a place, a step of the reader at a time. Assumes nothing.
use mathlib.Core.Path.{◌≡◌, ap, fun_ext}
use mathlib.Core.List.{List, [], ◌∷◌}
use Prim.Native.Nat.{ℕ, ◌-◌, ◌≤◌, ◌<◌}
use native.Mathlib.Omega.{arith}
use lib.ListN.{length, take, drop, length-drop}
use lib.Seq.{take_all}
use borrow.Author.Tests.{le-leb, lt-leb, ne_eqb}
use Rattle.section_bytes.specs.Read.{gives, got, Read}
use Rattle.section_bytes.specs.Reader.{uint}
use Rattle.section_bytes.specs.declared.common.Encoding.{Encoding}
use Rattle.section_bytes.specs.declared.endianity.RunTimeEndian.{RunTimeEndian}
use Rattle.section_bytes.specs.declared.endianity.RunTimeEndian.TheVariants.{Little}
use Rattle.section_bytes.specs.declared.error.Error.{Error}
use Rattle.entries.specs.Forms.{address, number, Raw, stop, operands}
use Rattle.entries.specs.declared.RawRngListEntry.TheVariants.{StartLength}
use Rattle.entries.specs.Kinds.{Kind, unknown, range_kinds, location_kinds, kind_of, coded, coded_range_by, coded_range, bare_range, range_entry_by, moved, raw_at}

-- an entry by its code: a start and a length, or the end mark
module _ (encoding : Encoding) (endian : RunTimeEndian) (s : List ℕ) {c : ℕ} where
  pub start_length_range : uint Little 1 s 0 ≡ gives (got 7 c) → coded_range encoding endian s ≡ operands encoding endian 0 s (address ∷ number ∷ []) StartLength c
  unfolding coded kind_of range_kinds
  start_length_range q = rw q

  pub end_of_ranges : uint Little 1 s 0 ≡ gives (got 0 c) → coded_range encoding endian s ≡ gives (got stop c)
  unfolding coded kind_of range_kinds
  end_of_ranges q = rw q

-- codes without a kind
pub no_range_kind : (k : ℕ) → (k ≡ 0 → ⊥) → (k ≡ 1 → ⊥) → (k ≡ 2 → ⊥) → (k ≡ 3 → ⊥) → (k ≡ 4 → ⊥) → (k ≡ 5 → ⊥) → (k ≡ 6 → ⊥) → (k ≡ 7 → ⊥)
    → kind_of range_kinds k ≡ unknown
unfolding kind_of range_kinds
no_range_kind k a b c d e f g h =
    simp (ne_eqb k 0 a, ne_eqb k 1 b, ne_eqb k 2 c, ne_eqb k 3 d, ne_eqb k 4 e, ne_eqb k 5 f, ne_eqb k 6 g, ne_eqb k 7 h)

pub no_location_kind : (k : ℕ) → (k ≡ 0 → ⊥) → (k ≡ 1 → ⊥) → (k ≡ 2 → ⊥) → (k ≡ 3 → ⊥) → (k ≡ 4 → ⊥) → (k ≡ 5 → ⊥) → (k ≡ 6 → ⊥) → (k ≡ 7 → ⊥) → (k ≡ 8 → ⊥)
    → kind_of location_kinds k ≡ unknown
unfolding kind_of location_kinds
no_location_kind k a b c d e f g h i =
    simp (ne_eqb k 0 a, ne_eqb k 1 b, ne_eqb k 2 c, ne_eqb k 3 d, ne_eqb k 4 e, ne_eqb k 5 f, ne_eqb k 6 g, ne_eqb k 7 h, ne_eqb k 8 i)

-- where the list's form is chosen; bare pairs have no codes
module _ (encoding : Encoding) (endian : RunTimeEndian) (s : List ℕ) where
  pub range_coded : (number_of : ℕ → ℕ) → 5 ≤ encoding.version → range_entry_by number_of encoding endian s ≡ coded_range_by number_of encoding endian s
  unfolding range_entry_by
  range_coded number_of v = simp (le-leb _ _ v)

  pub range_bare : (number_of : ℕ → ℕ) → encoding.version < 5 → range_entry_by number_of encoding endian s ≡ bare_range encoding endian s
  unfolding range_entry_by
  range_bare number_of v = simp (lt-leb _ _ v)

-- where a place lies in the section, and where it does not
module _ {E : Type 0} (read : List ℕ → Read (Raw E)) (s : List ℕ) (at : ℕ) where
  pub raw_end : length s ≤ at → raw_at read s at ≡ gives (got stop at)
  unfolding raw_at
  raw_end h = simp (le-leb _ _ h)

  pub raw_there : at < length s → raw_at read s at ≡ moved at (read (drop at s))
  unfolding raw_at
  raw_there h = simp (lt-leb _ _ h)

-- the part from a place on, as the code hands it over
pub part_is : (s : List ℕ) (at : ℕ) → take (length s - at) (drop at s) ≡ drop at s
part_is s at = take_all (length s - at) (drop at s) (omega (arith, length-drop at s))

-- maps that agree on every code read alike: a loaded table that says what the fixed one says changes nothing
pub same_kinds : {E : Type 0} (encoding : Encoding) (endian : RunTimeEndian) (start : ℕ) (s : List ℕ) (unknownEntry : ℕ → Error) (f g : ℕ → Kind E) → ((code : ℕ) → f code ≡ g code)
    → coded encoding endian start s unknownEntry f ≡ coded encoding endian start s unknownEntry g
same_kinds encoding endian start s unknownEntry f g h = ap (λ (k : ℕ → Kind _). coded encoding endian start s unknownEntry k) (fun_ext h)
