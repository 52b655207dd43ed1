-- The padding of an entry depends on the bytes that the entry took, and on nothing else: neither where they stand nor what stands around
-- them. Assumes nothing.
use mathlib.Core.Path.{◌≡◌, refl, sym, ap, ◌∙◌}
use mathlib.Core.Bool.{Bool, true, false, ◌&&◌, ◌||◌}
use mathlib.Core.List.{List, [], ◌∷◌}
use Prim.Native.Nat.{ℕ, ◌-◌, ◌≤◌, min}
use native.Mathlib.Nat.{min-le_right}
use lib.ListN.{length, get_or, take, drop, length-take}
use lib.Seq.{get_or-take, length-take-le}
use Rattle.section_bytes.specs.Read.{gives, refused, got, Read, read_then}
use Rattle.section_bytes.specs.Reader.{uint, split}
use Rattle.section_bytes.specs.declared.Span.{Span}
use Rattle.section_bytes.specs.declared.common.Encoding.{Encoding}
use Rattle.section_bytes.specs.declared.endianity.RunTimeEndian.{RunTimeEndian}
use Rattle.section_bytes.specs.declared.endianity.RunTimeEndian.TheVariants.{Little}
use Rattle.section_bytes.proofs.Took.{Stands, Took}
use Rattle.entries.specs.Forms.{Form, index, number, rangeLength, address, expression, entry, versioned_length, expression_at, block, operand, is_unsigned}
use Rattle.entries.specs.Kinds.{Kind, endOfList, unknown, kind, kind_of, location_kinds, has_kinds, range_entry_by, location_entry}
use Rattle.entries.specs.Numbers.{Coding}
use Rattle.entries.specs.Listed.{EntryIn, read_in}
use Rattle.entries.specs.Padded.{if_read, padded_at, some_padded, kind_padded, coded_padded, range_part, location_part, padded_in, PaddedByEntry}
use Rattle.entries.proofs.EntryTook.{range_entry_took, location_entry_took}
use Rattle.entries.proofs.PaddedLaws.{raw_part, range_longer_lem, location_longer_lem, padded_longer}

if_same : {A : Type 0} (r : Read A) (f g : A → ℕ → Bool) → ((v : A) (c : ℕ) → f v c ≡ g v c) → if_read r f ≡ if_read r g
if_same (gives (got v c)) f g h = h v c
if_same (refused n vs) f g h = refl

-- where a part starts in its section changes no place
module _ (encoding : Encoding) (endian : RunTimeEndian) (s : List ℕ) (a b : ℕ) where
  block_start : (f g : ℕ → Bool) → ((c : ℕ) → f c ≡ g c) → (r : Read ℕ)
      → if_read (read_then r (block a s)) (λ v c. f c) ≡ if_read (read_then r (block b s)) (λ v c. g c)
  unfolding block
  block_start f g h (gives (got n c)) = by (split n s c)
    where
      by : (r : Read Span) → if_read (read_then r (λ x d. gives (got (expression_at a x) d))) (λ v c. f c) ≡ if_read (read_then r (λ x d. gives (got (expression_at b x) d))) (λ v c. g c)
      by (gives (got x d)) = h d
      by (refused n vs) = refl
  block_start f g h (refused n vs) = refl

  operand_start : (f : Form) (at : ℕ) (g h : ℕ → Bool) → ((c : ℕ) → g c ≡ h c)
      → if_read (operand encoding endian a s f at) (λ v c. g c) ≡ if_read (operand encoding endian b s f at) (λ v c. h c)
  operand_start index at g h e = if_same (operand encoding endian a s index at) _ _ (λ v c. e c)
  operand_start number at g h e = if_same (operand encoding endian a s number at) _ _ (λ v c. e c)
  operand_start rangeLength at g h e = if_same (operand encoding endian a s rangeLength at) _ _ (λ v c. e c)
  operand_start address at g h e = if_same (operand encoding endian a s address at) _ _ (λ v c. e c)
  operand_start expression at g h e = block_start g h e (versioned_length 2 encoding endian s at)

  some_start : (fs : List Form) (at : ℕ) → some_padded encoding endian a s fs at ≡ some_padded encoding endian b s fs at
  some_start [] at = refl
  some_start (f ∷ fs) at =
      ap (λ (x : Bool). (is_unsigned encoding f && padded_at s at) || x) (operand_start f at _ _ (λ c. some_start fs c))

  kind_start : {E : Type 0} (k : Kind E) (at : ℕ) → kind_padded encoding endian a s k at ≡ kind_padded encoding endian b s k at
  kind_start endOfList at = refl
  kind_start unknown at = refl
  kind_start (kind fs e) at = some_start fs at

  part_start : (split : Bool) → location_part split encoding endian a s ≡ location_part split encoding endian b s
  unfolding location_part coded_padded
  part_start split =
      ap (λ (x : Bool). has_kinds split encoding.version && x) (if_same (uint Little 1 s 0) _ _ (λ code c. kind_start (kind_of location_kinds code) c))

-- the same bytes first are the same bytes at the same places
same_front : (n : ℕ) (s t : List ℕ) → n ≤ length s → take n s ≡ take n t → Stands 0 n s t
same_front n s t h e =
    record {
      fits = let q : n ≡ min n (length t) = sym (length-take-le n s h) ∙ ap length e ∙ length-take n t in rw (← q) at (min-le_right n (length t));
      same = λ k l m. sym (get_or-take n s k 0 m) ∙ ap (λ (x : List ℕ). get_or x k 0) e ∙ get_or-take n t k 0 m;
    }

module _ (encoding : Encoding) (endian : RunTimeEndian) (s t : List ℕ) (n : ℕ) (e : take n s ≡ take n t) where
  again : {A : Type 0} (r q : Read A) {v : A} → Took 1 0 s t r q → r ≡ gives (got v n) → q ≡ gives (got v n)
  again r q k f = let j = rw f at k in j.2 (same_front n s t j.1 e)

  range_front : (number_of : ℕ → ℕ) {x : EntryIn false} → range_entry_by number_of encoding endian s ≡ gives (got (entry x) n)
      → range_part number_of encoding endian t ≡ range_part number_of encoding endian s
  range_front number_of g =
      range_longer_lem encoding endian number_of t (again (range_entry_by number_of encoding endian s) (range_entry_by number_of encoding endian t) (range_entry_took number_of encoding endian s t) g)
      ∙ sym (range_longer_lem encoding endian number_of s g)

  location_front : (split : Bool) (start : ℕ) {x : EntryIn true} → location_entry split encoding endian start s ≡ gives (got (entry x) n)
      → location_part split encoding endian start t ≡ location_part split encoding endian start s
  location_front split start g =
      location_longer_lem encoding endian split start t
      (again (location_entry split encoding endian start s) (location_entry split encoding endian start t) (location_entry_took split encoding endian start s t) g)
      ∙ sym (location_longer_lem encoding endian split start s g)

by_bytes : (l : Bool) (coding : Coding) (encoding : Encoding) (endian : RunTimeEndian) (s t : List ℕ) (at to : ℕ) {e : EntryIn l} {c : ℕ}
    → read_in l coding encoding endian s at ≡ gives (got (entry e) c) → take (c - at) (drop at s) ≡ take (c - at) (drop to t)
    → padded_in l coding encoding endian t to ≡ padded_in l coding encoding endian s at
by_bytes true coding encoding endian s t at to {c = c} g q =
    part_start encoding endian (drop to t) to at coding.split
    ∙ location_front encoding endian (drop at s) (drop to t) (c - at) q coding.split at (raw_part (location_entry coding.split encoding endian at) s at g).1
by_bytes false coding encoding endian s t at to {c = c} g q =
    range_front encoding endian (drop at s) (drop to t) (c - at) q coding.number (raw_part (range_entry_by coding.number encoding endian) s at g).1

pub padded_by_entry : PaddedByEntry
padded_by_entry =
    record {
      by_length = λ l coding encoding endian s at g. (padded_longer l coding encoding endian s at g).1;
      by_bytes = λ l coding encoding endian s t at to g q. by_bytes l coding encoding endian s t at to g q;
    }
