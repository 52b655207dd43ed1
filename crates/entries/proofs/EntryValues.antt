-- The numbers of a raw entry are those of its address size, and an expression lies in its section: by induction on the
-- operands' forms, and so for every kind whose operands are handed on. Bytes are below 256. Assumes nothing.
use mathlib.Core.Path.{◌≡◌, refl}
use mathlib.Core.Bool.{Bool, ◌||◌}
use mathlib.Core.List.{List, [], ◌∷◌}
use Prim.Native.Nat.{ℕ, ◌+◌, ◌*◌, ◌^◌, ◌≤◌, ◌<◌}
use native.Mathlib.Omega.{arith}
use lib.ListN.{length, get_or, drop, length-drop}
use lib.Seq.{get_or-drop}
use lib.Dec.{leb, eqb}
use borrow.Author.Tests.{leb-false}
use Rattle.section_bytes.specs.Read.{gives, refused, got, Read, read_then}
use Rattle.section_bytes.specs.Reader.{uint, split, address as address_at}
use Rattle.section_bytes.specs.Address.{ones}
use Rattle.section_bytes.specs.Leb128.{unsigned}
use Rattle.section_bytes.specs.declared.common.Encoding.{Encoding}
use Rattle.section_bytes.specs.declared.endianity.RunTimeEndian.{RunTimeEndian}
use Rattle.section_bytes.specs.declared.endianity.RunTimeEndian.TheVariants.{Little}
use Rattle.section_bytes.specs.declared.error.Error.{Error}
use Rattle.section_bytes.proofs.Took.{pick_ind}
use Rattle.section_bytes.proofs.ReaderTook.{uint_lt, address_lt}
use Rattle.section_bytes.proofs.LebTook.{unsigned_lt}
use Rattle.section_bytes.proofs.Inside.{split_inside}
use Rattle.entries.specs.declared.Expression.{Expression}
use Rattle.entries.specs.declared.RawRngListEntry.{RawRngListEntry}
use Rattle.entries.specs.declared.RawRngListEntry.TheVariants as rng
use Rattle.entries.specs.declared.RawLocListEntry.{RawLocListEntry}
use Rattle.entries.specs.declared.RawLocListEntry.TheVariants as loc
use Rattle.entries.specs.Forms.{Form, index, number, rangeLength, address, expression, Value, versioned_length, block, operand, Takes, Raw, stop, entry, operands}
use Rattle.entries.specs.Kinds.{Kind, endOfList, unknown, kind, Row, row, range_kinds, location_kinds, kind_of, of_kind, coded, is_end, of_pair, bare, numbered, range_entry_by, location_entry, moved, raw_at, raw_range_by, raw_location}

-- of what is read, if anything is
abbrev pub Gives : {A : Type 0} → (A → Type 0) → Read A → Type 0
Gives P (gives (got v c)) = P v
Gives P (refused n vs) = Unit

gives_all : {A : Type 0} (P : A → Type 0) (r : Read A) → ((v : A) (c : ℕ) → r ≡ gives (got v c) → P v) → Gives P r
gives_all P (gives (got v c)) h = h v c refl
gives_all P (refused n vs) h = tt

then_gives : {A B : Type 0} (P : A → Type 0) (Q : B → Type 0) (r : Read A) (f : A → ℕ → Read B) → Gives P r → ((v : A) (c : ℕ) → P v → Gives Q (f v c))
    → Gives Q (read_then r f)
then_gives P Q (gives (got v c)) f h k = k v c h
then_gives P Q (refused n vs) f h k = tt

-- what holds of an operand by its form: the address size bounds addresses, the section's length an expression
abbrev pub Small : ℕ → ℕ → (f : Form) → Value f → Type 0
Small size len index i = i.0 < 2 ^ 64
Small size len number v = v < 2 ^ 64
Small size len rangeLength v = v < 2 ^ 64
Small size len address a = a < 2 ^ (8 * size)
Small size len expression x = x.offset + x.len ≤ len

-- an entry that has a property wherever its operands are small
abbrev pub Meets : {E : Type 0} → ℕ → ℕ → (E → Type 0) → (fs : List Form) → Takes fs E → Type 0
Meets size len P [] e = P e
Meets size len P (f ∷ fs) e = (v : Value f) → Small size len f v → Meets size len P fs (e v)

abbrev pub MeetsKind : {E : Type 0} → ℕ → ℕ → (E → Type 0) → Kind E → Type 0
MeetsKind size len P endOfList = Unit
MeetsKind size len P unknown = Unit
MeetsKind size len P (kind fs e) = Meets size len P fs e

abbrev pub MeetsRows : {E : Type 0} → ℕ → ℕ → (E → Type 0) → List (Row E) → Type 0
MeetsRows size len P [] = Unit
MeetsRows size len P (row n k ∷ rows) = MeetsKind size len P k × MeetsRows size len P rows

abbrev pub OfEntry : {E : Type 0} → (E → Type 0) → Raw E → Type 0
OfEntry P stop = Unit
OfEntry P (entry e) = P e

module _ (encoding : Encoding) (endian : RunTimeEndian) (start : ℕ) (s : List ℕ) (bytes : (i : ℕ) → get_or s i 0 < 256) where
  number_small : (at : ℕ) → Gives (λ v. v < 2 ^ 64) (unsigned s at)
  number_small at = gives_all _ (unsigned s at) (λ v c e. unsigned_lt s at e)

  version_small : (k at : ℕ) → 2 ^ (8 * k) ≤ 2 ^ 64 → Gives (λ v. v < 2 ^ 64) (versioned_length k encoding endian s at)
  unfolding versioned_length
  version_small k at h =
      pick_ind (Gives (λ v. v < 2 ^ 64)) (leb 5 encoding.version) (λ _. number_small at)
      (λ _. gives_all _ (uint endian k s at) (λ v c e. omega (arith, uint_lt endian k s at bytes e)))

  split_small : (n c : ℕ) → Gives (λ x. x.offset + x.len ≤ length s) (split n s c)
  split_small n c = gives_all _ (split n s c) (λ x d e. let i = split_inside n s c e in omega arith)

  block_small : (n c : ℕ) → Gives (λ x. x.offset + x.len ≤ start + length s) (block start s n c)
  unfolding block
  block_small n c = then_gives (λ x. x.offset + x.len ≤ length s) _ (split n s c) _ (split_small n c) (λ x d h. omega arith)

  pub operand_small : (f : Form) (at : ℕ) → Gives (Small encoding.address_size (start + length s) f) (operand encoding endian start s f at)
  operand_small index at = then_gives _ _ (unsigned s at) _ (number_small at) (λ v c h. h)
  operand_small number at = number_small at
  operand_small rangeLength at = version_small 4 at (omega arith)
  operand_small address at = gives_all _ (address_at endian encoding.address_size s at) (λ v c e. address_lt endian encoding.address_size s at bytes e)
  operand_small expression at = then_gives (λ _. Unit) _ (versioned_length 2 encoding endian s at) (block start s) (gives_all _ (versioned_length 2 encoding endian s at) (λ _ _ _. tt)) (λ n c _. block_small n c)

  module _ (E : Type 0) (P : E → Type 0) where
    pub operands_meet : (fs : List Form) (e : Takes fs E) (at : ℕ) → Meets encoding.address_size (start + length s) P fs e
        → Gives (OfEntry P) (operands encoding endian start s fs e at)
    operands_meet [] e at h = h
    operands_meet (f ∷ fs) e at h = then_gives _ _ (operand encoding endian start s f at) _ (operand_small f at) (λ v c k. operands_meet fs (e v) c (h v k))

    kind_meets : (unknownEntry : ℕ → Error) (code : ℕ) (k : Kind E) (at : ℕ) → MeetsKind encoding.address_size (start + length s) P k
        → Gives (OfEntry P) (of_kind encoding endian start s unknownEntry code k at)
    kind_meets unknownEntry code endOfList at h = tt
    kind_meets unknownEntry code unknown at h = tt
    kind_meets unknownEntry code (kind fs e) at h = operands_meet fs e at h

    pub coded_meets : (unknownEntry : ℕ → Error) (kinds : ℕ → Kind E) → ((code : ℕ) → MeetsKind encoding.address_size (start + length s) P (kinds code))
        → Gives (OfEntry P) (coded encoding endian start s unknownEntry kinds)
    unfolding coded
    coded_meets unknownEntry kinds h =
        then_gives (λ _. Unit) _ (uint Little 1 s 0) _ (gives_all _ (uint Little 1 s 0) (λ _ _ _. tt)) (λ code c _. kind_meets unknownEntry code (kinds code) c (h code))

    pub bare_meets : (base : ℕ → E) (fs : List Form) (pair : ℕ → ℕ → Takes fs E)
        → ((b e : ℕ) → b < 2 ^ (8 * encoding.address_size) → e < 2 ^ (8 * encoding.address_size) → P (base e) × Meets encoding.address_size (start + length s) P fs (pair b e))
        → Gives (OfEntry P) (bare encoding endian start s base fs pair)
    unfolding bare of_pair
    bare_meets base fs pair h =
        then_gives _ _ (operand encoding endian start s address 0) _ (operand_small address 0)
        (λ b c i. then_gives _ _ (operand encoding endian start s address c) _ (operand_small address c)
        (λ e d j. pick_ind (Gives (OfEntry P)) (is_end b e) (λ _. tt)
        (λ _. pick_ind (Gives (OfEntry P)) (eqb b (ones encoding.address_size)) (λ _. (h b e i j).0) (λ _. operands_meet fs (pair b e) d (h b e i j).1))))

-- the kinds of a table of which each row meets the property
pub rows_meet : {E : Type 0} (size len : ℕ) (P : E → Type 0) (rows : List (Row E)) (code : ℕ) → MeetsRows size len P rows → MeetsKind size len P (kind_of rows code)
unfolding kind_of
rows_meet size len P [] code h = tt
rows_meet size len P (row n k ∷ rows) code h = pick_ind (MeetsKind size len P) (eqb code n) (λ _. h.0) (λ _. rows_meet size len P rows code h.1)

-- what is read at a place of a section has what is read at the front of the part there
module _ {E : Type 0} (P : E → Type 0) (read : List ℕ → Read (Raw E)) (s : List ℕ) (at : ℕ) where
  moved_gives : (r : Read (Raw E)) → Gives (OfEntry P) r → Gives (OfEntry P) (moved at r)
  moved_gives (gives (got v n)) h = h
  moved_gives (refused n vs) h = tt

  raw_gives : (at < length s → Gives (OfEntry P) (read (drop at s))) → Gives (OfEntry P) (raw_at read s at)
  unfolding raw_at
  raw_gives h = pick_ind (Gives (OfEntry P)) (leb (length s) at) (λ _. tt) (λ q. moved_gives (read (drop at s)) (h (leb-false (length s) at q)))

  raw_has : {e : E} {c : ℕ} → raw_at read s at ≡ gives (got (entry e) c) → Gives (OfEntry P) (raw_at read s at) → P e
  raw_has q h = rw q at h

drop_bytes : (s : List ℕ) (at : ℕ) → ((i : ℕ) → get_or s i 0 < 256) → (i : ℕ) → get_or (drop at s) i 0 < 256
drop_bytes s at h i = rw get_or-drop (h (at + i))

-- the numbers of a range entry: addresses of the size, and LEB128 numbers of 64 bits
abbrev pub Sized : ℕ → RawRngListEntry → Type 0
Sized size (rng.AddressOrOffsetPair b e) = (b < 2 ^ (8 * size)) × (e < 2 ^ (8 * size))
Sized size (rng.BaseAddress a) = a < 2 ^ (8 * size)
Sized size (rng.BaseAddressx i) = i.0 < 2 ^ 64
Sized size (rng.StartxEndx i j) = (i.0 < 2 ^ 64) × (j.0 < 2 ^ 64)
Sized size (rng.StartxLength i n) = (i.0 < 2 ^ 64) × (n < 2 ^ 64)
Sized size (rng.OffsetPair b e) = (b < 2 ^ 64) × (e < 2 ^ 64)
Sized size (rng.StartEnd b e) = (b < 2 ^ (8 * size)) × (e < 2 ^ (8 * size))
Sized size (rng.StartLength b n) = (b < 2 ^ (8 * size)) × (n < 2 ^ 64)

-- the same of a location's numbers
abbrev pub SizedLocation : ℕ → RawLocListEntry → Type 0
SizedLocation size (loc.AddressOrOffsetPair b e x) = Sized size (rng.AddressOrOffsetPair b e)
SizedLocation size (loc.BaseAddress a) = Sized size (rng.BaseAddress a)
SizedLocation size (loc.BaseAddressx i) = Sized size (rng.BaseAddressx i)
SizedLocation size (loc.StartxEndx i j x) = Sized size (rng.StartxEndx i j)
SizedLocation size (loc.StartxLength i n x) = Sized size (rng.StartxLength i n)
SizedLocation size (loc.OffsetPair b e x) = Sized size (rng.OffsetPair b e)
SizedLocation size (loc.DefaultLocation x) = Unit
SizedLocation size (loc.StartEnd b e x) = Sized size (rng.StartEnd b e)
SizedLocation size (loc.StartLength b n x) = Sized size (rng.StartLength b n)

-- a location's expression lies in a section of some length
abbrev Inside : ℕ → Expression → Type 0
Inside len x = x.offset + x.len ≤ len

abbrev pub Within : ℕ → RawLocListEntry → Type 0
Within len (loc.AddressOrOffsetPair b e x) = Inside len x
Within len (loc.BaseAddress a) = Unit
Within len (loc.BaseAddressx i) = Unit
Within len (loc.StartxEndx i j x) = Inside len x
Within len (loc.StartxLength i n x) = Inside len x
Within len (loc.OffsetPair b e x) = Inside len x
Within len (loc.DefaultLocation x) = Inside len x
Within len (loc.StartEnd b e x) = Inside len x
Within len (loc.StartLength b n x) = Inside len x

abbrev Lawful : ℕ → ℕ → RawLocListEntry → Type 0
Lawful size len e = SizedLocation size e × Within len e

range_rows : (size len : ℕ) → MeetsRows size len (Sized size) range_kinds
unfolding range_kinds
range_rows size len =
    (tt, (λ i h. h, (λ i h j k. (h, k), (λ i h n k. (h, k), (λ b h e k. (h, k), (λ a h. h, (λ b h e k. (h, k), (λ b h n k. (h, k), tt))))))))

location_rows : (size len : ℕ) → MeetsRows size len (Lawful size len) location_kinds
unfolding location_kinds
location_rows size len = (
  tt,
  (
    λ i h. (h, tt),
    (
      λ i h j k x l. ((h, k), l),
      (
        λ i h n k x l. ((h, k), l),
        (
          λ b h e k x l. ((h, k), l),
          (
            λ x l. (tt, l),
            (λ a h. (h, tt), (λ b h e k x l. ((h, k), l), (λ b h n k x l. ((h, k), l), tt))),
          ),
        ),
      ),
    ),
  ),
)

range_entry_sized : (number_of : ℕ → ℕ) (encoding : Encoding) (endian : RunTimeEndian) (s : List ℕ) → ((i : ℕ) → get_or s i 0 < 256) → Gives (OfEntry (Sized encoding.address_size)) (range_entry_by number_of encoding endian s)
unfolding range_entry_by
range_entry_sized number_of encoding endian s bytes =
    pick_ind (Gives (OfEntry (Sized encoding.address_size))) (leb 5 encoding.version)
    (λ _. coded_meets encoding endian 0 s bytes _ (Sized encoding.address_size) _ (numbered number_of)
    (λ code. rows_meet encoding.address_size (0 + length s) (Sized encoding.address_size) range_kinds (number_of code) (range_rows encoding.address_size (0 + length s))))
    (λ _. bare_meets encoding endian 0 s bytes _ (Sized encoding.address_size) _ _ _ (λ b e h k. (k, (h, k))))

location_entry_lawful : (split : Bool) (encoding : Encoding) (endian : RunTimeEndian) (start : ℕ) (s : List ℕ) → ((i : ℕ) → get_or s i 0 < 256)
    → Gives (OfEntry (Lawful encoding.address_size (start + length s))) (location_entry split encoding endian start s)
unfolding location_entry
location_entry_lawful split encoding endian start s bytes =
    pick_ind (Gives (OfEntry (Lawful encoding.address_size (start + length s)))) (split || leb 5 encoding.version)
    (λ _. coded_meets encoding endian start s bytes _ (Lawful encoding.address_size (start + length s)) _ (kind_of location_kinds)
    (λ code. rows_meet encoding.address_size (start + length s) (Lawful encoding.address_size (start + length s)) location_kinds code (location_rows encoding.address_size (start + length s))))
    (λ _. bare_meets encoding endian start s bytes _ (Lawful encoding.address_size (start + length s)) _ _ _ (λ b e h k. ((k, tt), λ x l. ((h, k), l))))

-- for the two lists
pub range_sized : (number_of : ℕ → ℕ) (encoding : Encoding) (endian : RunTimeEndian) (s : List ℕ) (at : ℕ) → ((i : ℕ) → get_or s i 0 < 256) → {e : RawRngListEntry} {c : ℕ}
    → raw_range_by number_of encoding endian s at ≡ gives (got (entry e) c) → Sized encoding.address_size e
range_sized number_of encoding endian s at bytes q =
    raw_has (Sized encoding.address_size) (range_entry_by number_of encoding endian) s at q
    (raw_gives (Sized encoding.address_size) (range_entry_by number_of encoding endian) s at (λ _. range_entry_sized number_of encoding endian (drop at s) (drop_bytes s at bytes)))

location_lawful : (split : Bool) (encoding : Encoding) (endian : RunTimeEndian) (s : List ℕ) (at : ℕ) → ((i : ℕ) → get_or s i 0 < 256) → {e : RawLocListEntry} {c : ℕ}
    → raw_location split encoding endian s at ≡ gives (got (entry e) c) → Lawful encoding.address_size (length s) e
location_lawful split encoding endian s at bytes q =
    raw_has (Lawful encoding.address_size (length s)) (location_entry split encoding endian at) s at q
    (raw_gives (Lawful encoding.address_size (length s)) (location_entry split encoding endian at) s at
    (λ l. let n : at + length (drop at s) ≡ length s = omega (arith, length-drop at s) in
    rw n at (location_entry_lawful split encoding endian at (drop at s) (drop_bytes s at bytes))))

pub location_sized : (split : Bool) (encoding : Encoding) (endian : RunTimeEndian) (s : List ℕ) (at : ℕ) → ((i : ℕ) → get_or s i 0 < 256) → {e : RawLocListEntry} {c : ℕ}
    → raw_location split encoding endian s at ≡ gives (got (entry e) c) → SizedLocation encoding.address_size e
location_sized split encoding endian s at bytes q = (location_lawful split encoding endian s at bytes q).0

pub location_within : (split : Bool) (encoding : Encoding) (endian : RunTimeEndian) (s : List ℕ) (at : ℕ) → ((i : ℕ) → get_or s i 0 < 256) → {e : RawLocListEntry} {c : ℕ}
    → raw_location split encoding endian s at ≡ gives (got (entry e) c) → Within (length s) e
location_within split encoding endian s at bytes q = (location_lawful split encoding endian s at bytes q).1
