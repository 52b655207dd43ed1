-- An entry read by a table is DWARF's entry behind the kind byte that the table has for its own: its operands don't look at the kind byte,
-- and are never refused with the number of a code without a kind. By DWARF's own table every code has its kind. Assumes nothing.
use mathlib.Core.Bool.{Bool, true, false}
use mathlib.Core.List.{List, [], ◌∷◌}
use mathlib.Core.Path.{◌≡◌, refl, sym, ap, ap₂, ◌∙◌, fun_ext}
use Prim.Native.Nat.{ℕ, zero, suc, ◌+◌, ◌≤◌, ◌<◌}
use native.Mathlib.Omega.{arith}
use lib.Dec.{leb, ltb, eqb}
use lib.ListN.{length}
use borrow.Author.Tests.{ltb-false, ne_eqb}
use Rattle.section_bytes.specs.Read.{gives, refused, got, Read, read_then, pick}
use Rattle.section_bytes.specs.Reader.{split}
use Rattle.section_bytes.specs.Leb128.{unsigned}
use Rattle.section_bytes.specs.Address.{ones}
use Rattle.section_bytes.specs.declared.common.Encoding.{Encoding}
use Rattle.section_bytes.specs.declared.endianity.RunTimeEndian.{RunTimeEndian}
use Rattle.section_bytes.specs.declared.error.Error.TheVariants.{UnknownRangeListsEntry}
use Rattle.section_bytes.specs.declared.Span.{Span}
use Rattle.section_bytes.proofs.ReaderLaws.{byte_got}
use Rattle.section_bytes.proofs.Took.{Took, pick_ind}
use Rattle.section_bytes.proofs.NoCode.{NoCode, then_no_code, split_no_code, uint_no_code, address_no_code, unsigned_no_code, split_front, uint_front, address_front, unsigned_front}
use Rattle.entries.specs.Numbers.{itself, by_table, number_by, named}
use Rattle.entries.specs.Loaded.{fixed_table}
use Rattle.entries.specs.Forms.{Form, index, number, rangeLength, address, expression, Takes, indexed, expression_at, versioned_length, block, operand, operands}
use Rattle.entries.specs.Kinds.{Kind, endOfList, unknown, kind, range_kinds, kind_of, of_kind, coded, is_end, of_pair, bare, has_kinds, numbered, bare_range, range_entry_by}
use Rattle.entries.specs.declared.RawRngListEntry.{RawRngListEntry}
use Rattle.entries.proofs.KindLaws.{no_range_kind, range_coded, range_bare}
use Rattle.entries.proofs.EntryTook.{operand_took}
use Rattle.entries.proofs.LoadedLaws.{loaded_exactly}

named_same : {A : Type 0} (code : ℕ) (r : Read A) → NoCode r → named code r ≡ r
named_same code (gives x) h = refl
named_same code (refused n vs) h = rw (ne_eqb n 3 h)

module _ (encoding : Encoding) (endian : RunTimeEndian) (s : List ℕ) where
  length_no_code : (n at : ℕ) → NoCode (versioned_length n encoding endian s at)
  unfolding versioned_length
  length_no_code n at = pick_ind NoCode (leb 5 encoding.version) (λ _. unsigned_no_code s at) (λ _. uint_no_code s endian n at)

  block_no_code : (n c : ℕ) → NoCode (block 0 s n c)
  unfolding block
  block_no_code n c = then_no_code (split n s c) _ (split_no_code s n c) (λ x d. tt)

  operand_no_code : (f : Form) (at : ℕ) → NoCode (operand encoding endian 0 s f at)
  operand_no_code index at = then_no_code (unsigned s at) _ (unsigned_no_code s at) (λ v c. tt)
  operand_no_code number at = unsigned_no_code s at
  operand_no_code rangeLength at = length_no_code 4 at
  operand_no_code address at = address_no_code s endian encoding.address_size at
  operand_no_code expression at = then_no_code (versioned_length 2 encoding endian s at) _ (length_no_code 2 at) block_no_code

  operands_no_code : (E : Type 0) (fs : List Form) (e : Takes fs E) (at : ℕ) → NoCode (operands encoding endian 0 s fs e at)
  operands_no_code E [] e at = tt
  operands_no_code E (f ∷ fs) e at = then_no_code (operand encoding endian 0 s f at) _ (operand_no_code f at) (λ v c. operands_no_code E fs (e v) c)

  bare_no_code : NoCode (bare_range encoding endian s)
  unfolding bare of_pair
  bare_no_code =
      then_no_code (operand encoding endian 0 s address 0) _ (operand_no_code address 0)
      (λ b c. then_no_code (operand encoding endian 0 s address c) _ (operand_no_code address c)
      (λ e d. pick_ind NoCode (is_end b e) (λ _. tt) (λ _. pick_ind NoCode (eqb b (ones encoding.address_size)) (λ _. tt) (λ _. tt))))

-- operands behind the kind byte don't look at it
module _ (encoding : Encoding) (endian : RunTimeEndian) (a b : ℕ) (t : List ℕ) where
  length_front : (n k : ℕ) → versioned_length n encoding endian (a ∷ t) (suc k) ≡ versioned_length n encoding endian (b ∷ t) (suc k)
  unfolding versioned_length
  length_front n k = ap₂ (pick (leb 5 encoding.version)) (unsigned_front a b t k) (uint_front a b t endian n k)

  block_front : (n c : ℕ) → block 0 (a ∷ t) n c ≡ block 0 (b ∷ t) n c
  unfolding block
  block_front n c = ap (λ (r : Read Span). read_then r (λ x d. gives (got (expression_at 0 x) d))) (split_front a b t n c)

  operand_front : (f : Form) (k : ℕ) → operand encoding endian 0 (a ∷ t) f (suc k) ≡ operand encoding endian 0 (b ∷ t) f (suc k)
  operand_front index k = ap indexed (unsigned_front a b t k)
  operand_front number k = unsigned_front a b t k
  operand_front rangeLength k = length_front 4 k
  operand_front address k = address_front a b t endian encoding.address_size k
  operand_front expression k = ap₂ read_then (length_front 2 k) (fun_ext (λ n. fun_ext (block_front n)))

  then_front : {A B : Type 0} (lo at : ℕ) (r : Read A) (f g : A → ℕ → Read B) → Took lo at (a ∷ t) (a ∷ t) r r
      → ((v : A) (c : ℕ) → lo ≤ c → c ≤ length (a ∷ t) → f v c ≡ g v c) → read_then r f ≡ read_then r g
  then_front lo at (gives (got v c)) f g h k = k v c h.0 h.1
  then_front lo at (refused n vs) f g h k = refl

  operands_front : (E : Type 0) (fs : List Form) (e : Takes fs E) (at : ℕ) → 1 ≤ at → at ≤ length (a ∷ t)
      → operands encoding endian 0 (a ∷ t) fs e at ≡ operands encoding endian 0 (b ∷ t) fs e at
  operands_front E [] e at h l = refl
  operands_front E (f ∷ fs) e zero h l = absurd (omega arith)
  operands_front E (f ∷ fs) e (suc k) h l =
      then_front (suc k + 1) (suc k) (operand encoding endian 0 (a ∷ t) f (suc k)) _ _ (operand_took encoding endian 0 (a ∷ t) (a ∷ t) f (suc k) l)
      (λ v c p q. operands_front E fs (e v) c (omega arith) q)
      ∙ ap (λ (r : Read _). read_then r (λ v c. operands encoding endian 0 (b ∷ t) fs (e v) c)) (operand_front f k)

-- numbers from 8 on have no kind
none_from_8 : (n : ℕ) → 8 ≤ n → kind_of range_kinds n ≡ unknown
none_from_8 n h =
    no_range_kind n (λ e. omega arith) (λ e. omega arith) (λ e. omega arith) (λ e. omega arith) (λ e. omega arith) (λ e. omega arith) (λ e. omega arith)
    (λ e. omega arith)

kind_told : (n : ℕ) → kind_of range_kinds n ≡ kind_of range_kinds (pick (ltb n 8) n 255)
kind_told n = by (ltb n 8) refl
  where
    by : (x : Bool) → ltb n 8 ≡ x → kind_of range_kinds n ≡ kind_of range_kinds (pick x n 255)
    by true e = refl
    by false e = none_from_8 n (ltb-false n 8 e) ∙ sym (none_from_8 255 (omega arith))

module _ (kinds : List ℕ) (encoding : Encoding) (endian : RunTimeEndian) where
  -- at the front of a part, the kind byte and what is behind it
  front_is : (number_of : ℕ → ℕ) (b : ℕ) (t : List ℕ)
      → coded encoding endian 0 (b ∷ t) UnknownRangeListsEntry (numbered number_of) ≡ of_kind encoding endian 0 (b ∷ t) UnknownRangeListsEntry b (kind_of range_kinds (number_of b)) 1
  unfolding coded
  front_is number_of b t = rw (byte_got (b ∷ t) 0 (omega arith))

  of_told : (b c : ℕ) (t : List ℕ) (k : Kind RawRngListEntry)
      → of_kind encoding endian 0 (b ∷ t) UnknownRangeListsEntry b k 1 ≡ named b (of_kind encoding endian 0 (c ∷ t) UnknownRangeListsEntry c k 1)
  of_told b c t endOfList = refl
  of_told b c t unknown = refl
  of_told b c t (kind fs e) =
      operands_front encoding endian b c t RawRngListEntry fs e 1 (omega arith) (omega arith)
      ∙ sym (named_same b (operands encoding endian 0 (c ∷ t) fs e 1) (operands_no_code encoding endian (c ∷ t) RawRngListEntry fs e 1))

  -- the entry at the front of a part
  pub front_told : 5 ≤ encoding.version → (b : ℕ) (t : List ℕ)
      → range_entry_by (by_table kinds) encoding endian (b ∷ t) ≡ named b (range_entry_by itself encoding endian (number_by kinds b ∷ t))
  front_told v b t =
      range_coded encoding endian (b ∷ t) (by_table kinds) v
      ∙ front_is (by_table kinds) b t
      ∙ ap (λ (k : Kind RawRngListEntry). of_kind encoding endian 0 (b ∷ t) UnknownRangeListsEntry b k 1) (kind_told (by_table kinds b))
      ∙ of_told b (number_by kinds b) t (kind_of range_kinds (number_by kinds b))
      ∙ ap (named b) (sym (front_is itself (number_by kinds b) t) ∙ sym (range_coded encoding endian (number_by kinds b ∷ t) itself v))

  -- a bare pair has no kind byte
  pub bare_told : encoding.version < 5 → (code : ℕ) (s : List ℕ) → range_entry_by (by_table kinds) encoding endian s ≡ named code (range_entry_by itself encoding endian s)
  bare_told v code s =
      range_bare encoding endian s (by_table kinds) v
      ∙ sym (named_same code (bare_range encoding endian s) (bare_no_code encoding endian s))
      ∙ ap (named code) (sym (range_bare encoding endian s itself v))

-- by DWARF's own table an entry is read as without one
pub fixed_told : (encoding : Encoding) (endian : RunTimeEndian) (s : List ℕ) → range_entry_by (by_table fixed_table) encoding endian s ≡ range_entry_by itself encoding endian s
unfolding range_entry_by
fixed_told encoding endian s =
    ap (λ (k : ℕ → Kind RawRngListEntry). pick (has_kinds false encoding.version) (coded encoding endian 0 s UnknownRangeListsEntry k) (bare_range encoding endian s))
    (fun_ext loaded_exactly.same)
