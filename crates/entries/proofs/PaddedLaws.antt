-- An entry has a padded LEB128 number exactly where it took more bytes than it had to: by induction on the operands' forms, for every
-- kind that the tables have. Assumes nothing.
use mathlib.Core.Path.{◌≡◌, refl, sym, ap, ◌∙◌, subst}
use mathlib.Core.Bool.{Bool, true, false, ◌&&◌, ◌||◌}
use mathlib.Core.List.{List, [], ◌∷◌}
use mathlib.Core.Logic.{◌⊎◌, inl, inr, ⊎_elim}
use Prim.Native.Nat.{ℕ, zero, suc, ◌+◌, ◌-◌, ◌≤◌}
use native.Mathlib.Nat.{add_comm, add_assoc, add-zero, zero-add}
use native.Mathlib.Omega.{arith}
use lib.Dec.{leb, ltb, eqb}
use lib.ListN.{length, drop}
use borrow.Author.Tests.{lt-ltb, le-ltb}
use Rattle.section_bytes.specs.Read.{Result, gives, refused, got, Read, read_then, pick}
use Rattle.section_bytes.specs.Address.{ones}
use Rattle.section_bytes.specs.Leb128.{unsigned}
use Rattle.section_bytes.specs.Padded.{is_padded}
use Rattle.section_bytes.specs.Reader.{uint, split}
use Rattle.section_bytes.specs.Written.{unsigned_bytes}
use Rattle.section_bytes.specs.declared.common.DebugAddrIndex.{DebugAddrIndex}
use Rattle.section_bytes.specs.declared.common.Encoding.{Encoding}
use Rattle.section_bytes.specs.declared.endianity.RunTimeEndian.{RunTimeEndian}
use Rattle.section_bytes.specs.declared.endianity.RunTimeEndian.TheVariants.{Little}
use Rattle.section_bytes.specs.declared.leb128.Number.{Number}
use Rattle.section_bytes.specs.declared.error.Error.{Error}
use Rattle.section_bytes.specs.declared.error.Error.TheVariants.{UnknownRangeListsEntry, UnknownLocListsEntry}
use Rattle.section_bytes.proofs.Order.{lt_or_le}
use Rattle.section_bytes.proofs.PaddedLaws.{number_is, number_moves}
use Rattle.section_bytes.proofs.Inside.{then_ind, split_inside}
use Rattle.section_bytes.proofs.ReaderTook.{uint_moves, address_uint}
use Rattle.section_bytes.proofs.Took.{pick_ind}
use Rattle.section_bytes.proofs.WrittenLaws.{shortest}
use Rattle.entries.proofs.StepLaws.{step_found}
use Rattle.entries.specs.Forms.{Form, index, number, rangeLength, address, expression, Value, Takes, Raw, stop, entry, versioned_length, block, operand, operands, is_unsigned}
use Rattle.entries.specs.Kinds.{Kind, endOfList, unknown, kind, Row, row, kind_of, range_kinds, location_kinds, of_kind, coded, is_end, of_pair, bare, has_kinds, numbered, coded_range_by, coded_location, bare_range, bare_location, range_entry_by, location_entry, moved, raw_at}
use Rattle.entries.specs.Numbers.{Coding}
use Rattle.entries.specs.Listed.{EntryIn, read_in}
use Rattle.entries.specs.Told.{Step, found, ended, step_of}
use Rattle.entries.specs.Padded.{Noted, if_read, padded_at, some_padded, kind_padded, coded_padded, range_part, location_part, padded_in, noted, noted_step_in}
use Rattle.entries.specs.Shortest.{least_length, least_of, range_longer, location_longer, longer_in}
use Rattle.entries.specs.declared.Expression.{Expression}
use Rattle.entries.specs.declared.RawRngListEntry.{RawRngListEntry}
use Rattle.entries.specs.declared.RawRngListEntry.TheVariants as rng
use Rattle.entries.specs.declared.RawLocListEntry.{RawLocListEntry}
use Rattle.entries.specs.declared.RawLocListEntry.TheVariants as loc

-- what an operand's bytes say: it takes as many as it has to or more, and more where it is padded
pub record Taken (at least c : ℕ) (padded : Bool) : Type 0 where
  pub enough : at + least ≤ c
  pub more : padded ≡ ltb (at + least) c

exactly : (at least c : ℕ) → c ≡ at + least → Taken at least c false
exactly at least c e = record { enough = omega arith; more = sym (le-ltb (at + least) c (omega arith)) }

-- both sides are counted from another place
pub later : (a k c d : ℕ) → d ≡ c + a → ltb k c ≡ ltb (k + a) d
later a k c d e = ⊎_elim (λ h. lt-ltb k c h ∙ sym (lt-ltb (k + a) d (omega arith))) (λ h. le-ltb k c h ∙ sym (le-ltb (k + a) d (omega arith))) (lt_or_le k c)

-- the value that is read first, and what follows it
pub then_got : {A B : Type 0} (r : Read A) (f : A → ℕ → Read B) {w : B} {d : ℕ} → read_then r f ≡ gives (got w d)
    → (v : A) × (c : ℕ) × (r ≡ gives (got v c)) × (f v c ≡ gives (got w d))
then_got (gives (got v c)) f e = (v, c, refl, e)
then_got (refused n vs) f e = let z : ◌≡◌ {A = ℕ} 0 1 = cc in absurd (omega arith)

module _ (s : List ℕ) (at : ℕ) {v c : ℕ} where
  number_taken : unsigned s at ≡ gives (got v c) → Taken at (length (unsigned_bytes v)) c (padded_at s at)
  unfolding is_padded
  number_taken e =
      let m = (number_moves s at e).0 in
      let k = length (unsigned_bytes v) in
      record {
        enough = shortest s at e;
        more =
            ap (λ (r : Read Number). if_read r (λ x c. x.padded)) (number_is s at e)
            ∙ later at k (c - at) c (omega arith)
            ∙ ap (λ (n : ℕ). ltb n c) (add_comm k at);
      }

module _ (encoding : Encoding) (endian : RunTimeEndian) (start : ℕ) (s : List ℕ) where
  length_taken : (size at : ℕ) {v c : ℕ} → versioned_length size encoding endian s at ≡ gives (got v c)
      → Taken at (least_length (leb 5 encoding.version) size v) c (leb 5 encoding.version && padded_at s at)
  unfolding versioned_length
  length_taken size at {v} {c} e = by (leb 5 encoding.version) e
    where
      by : (t : Bool) → pick t (unsigned s at) (uint endian size s at) ≡ gives (got v c) → Taken at (least_length t size v) c (t && padded_at s at)
      by true e = number_taken s at e
      by false e = exactly at size c (uint_moves endian size s at e)

  len_in : Read Expression → ℕ
  len_in (gives (got y d)) = y.len
  len_in (refused n vs) = 0

  place_in : Read Expression → ℕ
  place_in (gives (got y d)) = d
  place_in (refused n vs) = 0

  -- the length, and as many bytes
  block_taken : (n c : ℕ) {x : Expression} {d : ℕ} → block start s n c ≡ gives (got x d) → (x.len ≡ n) × (d ≡ c + n)
  unfolding block len_in place_in
  block_taken n c e =
      let (y, m, q, f) = then_got (split n s c) _ e in
      let i = split_inside n s c q in
      (sym (ap len_in f) ∙ i.1, sym (ap place_in f) ∙ i.2)

  expression_taken : (at : ℕ) {x : Expression} {d : ℕ} → operand encoding endian start s expression at ≡ gives (got x d)
      → Taken at (least_of encoding expression x) d (is_unsigned encoding expression && padded_at s at)
  expression_taken at {x} {d} e =
      let (n, c, q, f) = then_got (versioned_length 2 encoding endian s at) (block start s) e in
      let t = length_taken 2 at q in
      let (len, place) = block_taken n c f in
      let k = least_length (leb 5 encoding.version) 2 n in
      rw len (record {
        enough = omega (arith, t.enough);
        more = t.more ∙ later n (at + k) c d place ∙ ap (λ (m : ℕ). ltb m d) (add_assoc at k n);
      })

  index_taken : (at : ℕ) (i : DebugAddrIndex) (c : ℕ) → operand encoding endian start s index at ≡ gives (got i c)
      → Taken at (length (unsigned_bytes i.0)) c (padded_at s at)
  index_taken at i c e = let (v, d, q, f) = then_got (unsigned s at) _ e in subst told f (number_taken s at q)
    where
      told : Read DebugAddrIndex → Type 0
      told (gives (got j d)) = Taken at (length (unsigned_bytes j.0)) d (padded_at s at)
      told (refused n vs) = Unit

  operand_taken : (f : Form) (at : ℕ) {v : Value f} {c : ℕ} → operand encoding endian start s f at ≡ gives (got v c)
      → Taken at (least_of encoding f v) c (is_unsigned encoding f && padded_at s at)
  operand_taken index at {v} {c} e = index_taken at v c e
  operand_taken number at e = number_taken s at e
  operand_taken rangeLength at e = length_taken 4 at e
  operand_taken address at {v} {c} e =
      let size = encoding.address_size in exactly at size c (uint_moves endian size s at (address_uint endian size s at e).1)
  operand_taken expression at e = expression_taken at e

-- an entry of which k bytes and then n - at were read, and what is said of its length
pub record Whole (longer : ℕ → Bool) (k at n : ℕ) (padded : Bool) : Type 0 where
  pub least : ℕ
  pub moves : at ≤ n
  pub fits : least ≤ k + (n - at)
  pub says : padded ≡ ltb least (k + (n - at))
  pub known : (m : ℕ) → longer m ≡ ltb least m

one_more : (w m d : ℕ) {p q : Bool} → w ≤ m → p ≡ ltb 0 d → q ≡ ltb w m → (p || q) ≡ ltb w (m + d)
one_more w m zero h e f = rw (e, f) (ap (ltb w) (sym (add-zero m)))
one_more w m (suc d) h e f = rw (e, lt-ltb 0 (suc d) (omega arith)) (sym (lt-ltb w (m + suc d) (omega arith)))

joined : {longer : ℕ → Bool} {k least at c n : ℕ} {p q : Bool} → Taken at least c p → Whole longer (k + least) c n q → Whole longer k at n (p || q)
joined {k = k} {least = least} {at = at} {c = c} {n = n} t r =
    let a = t.enough in
    let b = r.moves in
    let d = c - (at + least) in
    let m = k + least + (n - c) in
    let e : k + (n - at) ≡ m + d = omega arith in
    record {
      least = r.least;
      moves = omega arith;
      fits = omega (arith, r.fits);
      says =
          rw e
          (one_more r.least m d r.fits (t.more ∙ sym (later (at + least) 0 d c (omega arith) ∙ ap (λ (x : ℕ). ltb x c) (zero-add (at + least)))) r.says);
      known = r.known;
    }

if_none : {A : Type 0} (r : Read A) (f : A → ℕ → Bool) → ((v : A) (c : ℕ) → f v c ≡ false) → if_read r f ≡ false
if_none (gives (got v c)) f h = h v c
if_none (refused n vs) f h = refl

-- addresses alone
abbrev Addresses : List Form → Type 0
Addresses [] = Unit
Addresses (address ∷ fs) = Addresses fs
Addresses (index ∷ fs) = ⊥
Addresses (number ∷ fs) = ⊥
Addresses (rangeLength ∷ fs) = ⊥
Addresses (expression ∷ fs) = ⊥

module _ (encoding : Encoding) (endian : RunTimeEndian) (start : ℕ) (s : List ℕ) {E : Type 0} (longer : E → ℕ → Bool) where
  -- an entry of these operands is longer where it has more bytes than they need, with k before them; or never
  abbrev Weighs : (fs : List Form) → Takes fs E → ℕ → Type 0
  Weighs [] e k = (n : ℕ) → longer e n ≡ ltb k n
  Weighs (f ∷ fs) e k = (v : Value f) → Weighs fs (e v) (k + least_of encoding f v)

  abbrev Never : (fs : List Form) → Takes fs E → Type 0
  Never [] e = (n : ℕ) → longer e n ≡ false
  Never (f ∷ fs) e = (v : Value f) → Never fs (e v)

  abbrev WholeIn : ℕ → ℕ → Bool → Read (Raw E) → Type 0
  WholeIn k at p (gives (got (entry x) n)) = Whole (longer x) k at n p
  WholeIn k at p (gives (got stop n)) = Unit
  WholeIn k at p (refused n vs) = Unit

  abbrev NeverIn : Read (Raw E) → Type 0
  NeverIn (gives (got (entry x) n)) = (m : ℕ) → longer x m ≡ false
  NeverIn (gives (got stop n)) = Unit
  NeverIn (refused n vs) = Unit

  nothing_left : (e : E) (k at : ℕ) → ((m : ℕ) → longer e m ≡ ltb k m) → Whole (longer e) k at at false
  nothing_left e k at h =
      record { least = k; moves = omega arith; fits = omega arith; says = sym (le-ltb k (k + (at - at)) (omega arith)); known = h }

  operands_taken : (fs : List Form) (e : Takes fs E) (k at : ℕ) → Weighs fs e k → {x : E} {n : ℕ} → operands encoding endian start s fs e at ≡ gives (got (entry x) n)
      → Whole (longer x) k at n (some_padded encoding endian start s fs at)
  operands_taken [] e k at h g = subst (WholeIn k at false) g (nothing_left e k at h)
  operands_taken (f ∷ fs) e k at h g =
      let (v, c, q, r) = then_got (operand encoding endian start s f at) _ g in
      let t = joined (operand_taken encoding endian start s f at q) (operands_taken fs (e v) (k + least_of encoding f v) c (h v) r) in
      rw q t

  operands_never : (fs : List Form) (e : Takes fs E) (at : ℕ) → Never fs e → NeverIn (operands encoding endian start s fs e at)
  operands_never [] e at h = h
  operands_never (f ∷ fs) e at h = then_ind NeverIn (operand encoding endian start s f at) _ (λ n vs. tt) (λ v c q. operands_never fs (e v) c (h v))

  addresses_plain : (fs : List Form) (at : ℕ) → Addresses fs → some_padded encoding endian start s fs at ≡ false
  addresses_plain [] at h = refl
  addresses_plain (address ∷ fs) at h = if_none (operand encoding endian start s address at) _ (λ v c. addresses_plain fs c h)
  addresses_plain (index ∷ fs) at h = absurd h
  addresses_plain (number ∷ fs) at h = absurd h
  addresses_plain (rangeLength ∷ fs) at h = absurd h
  addresses_plain (expression ∷ fs) at h = absurd h

  abbrev KindSays : Kind E → Type 0
  KindSays endOfList = Unit
  KindSays unknown = Unit
  KindSays (kind fs e) = Weighs fs e 1 ⊎ (Addresses fs × Never fs e)

  of_kind_lem : (unknownEntry : ℕ → Error) (code : ℕ) (k : Kind E) → KindSays k → {x : E} {n : ℕ} → of_kind encoding endian start s unknownEntry code k 1 ≡ gives (got (entry x) n)
      → kind_padded encoding endian start s k 1 ≡ longer x n
  of_kind_lem unknownEntry code endOfList h g = let z : ◌≡◌ {A = ℕ} 0 1 = cc in absurd (omega arith)
  of_kind_lem unknownEntry code unknown h g = let z : ◌≡◌ {A = ℕ} 0 1 = cc in absurd (omega arith)
  of_kind_lem unknownEntry code (kind fs e) h {x} {n} g =
      ⊎_elim
      (λ a. let t = operands_taken fs e 1 1 a g in let q : 1 + (n - 1) ≡ n = omega (arith, t.moves) in t.says ∙ ap (ltb t.least) q ∙ sym (t.known n))
      (λ b. addresses_plain fs 1 b.0 ∙ sym (subst NeverIn g (operands_never fs e 1 b.1) n))
      h

  -- by any map from codes to kinds of which that is so
  pub coded_longer : (unknownEntry : ℕ → Error) (kinds : ℕ → Kind E) → ((code : ℕ) → KindSays (kinds code)) → {x : E} {n : ℕ} → coded encoding endian start s unknownEntry kinds ≡ gives (got (entry x) n)
      → coded_padded encoding endian start s kinds ≡ longer x n
  unfolding coded coded_padded
  coded_longer unknownEntry kinds h {x} {n} g =
      let (code, c, q, f) = then_got (uint Little 1 s 0) _ g in
      let p : c ≡ 1 = uint_moves Little 1 s 0 q in
      rw (q, p) (of_kind_lem unknownEntry code (kinds code) (h code) (rw p at f))

  -- a bare pair
  pub bare_never : (base : ℕ → E) (fs : List Form) (pair : ℕ → ℕ → Takes fs E) → ((a n : ℕ) → longer (base a) n ≡ false) → ((b e : ℕ) → Never fs (pair b e))
      → NeverIn (bare encoding endian start s base fs pair)
  unfolding bare of_pair
  bare_never base fs pair f g = begin (operand encoding endian start s address 0)
    where
      tests : (t u : Bool) (b e d : ℕ) → NeverIn (pick t (gives (got stop d)) (pick u (gives (got (entry (base e)) d)) (operands encoding endian start s fs (pair b e) d)))
      tests true u b e d = tt
      tests false true b e d = f e
      tests false false b e d = operands_never fs (pair b e) d (g b e)

      end : (b : ℕ) (r : Read ℕ) → NeverIn (read_then r (λ e d. of_pair encoding endian start s base fs pair b e d))
      end b (gives (got e d)) = tests (is_end b e) (eqb b (ones encoding.address_size)) b e d
      end b (refused n vs) = tt

      begin : (r : Read ℕ) → NeverIn (read_then r (λ b c. read_then (operand encoding endian start s address c) (λ e d. of_pair encoding endian start s base fs pair b e d)))
      begin (gives (got b c)) = end b (operand encoding endian start s address c)
      begin (refused n vs) = tt

-- what holds of every row, and of no kind, holds of the kind of every code
abbrev Rows : {E : Type 0} → (Kind E → Type 0) → List (Row E) → Type 0
Rows P [] = P unknown
Rows P (row n k ∷ rows) = P k × Rows P rows

kind_all : {E : Type 0} (P : Kind E → Type 0) (rows : List (Row E)) → Rows P rows → (code : ℕ) → P (kind_of rows code)
unfolding kind_of
kind_all P [] h code = h
kind_all P (row n k ∷ rows) h code = pick_ind P (eqb code n) (λ _. h.0) (λ _. kind_all P rows h.1 code)

module _ (encoding : Encoding) (endian : RunTimeEndian) where
  range_rows : (s : List ℕ) → Rows (KindSays encoding endian 0 s (range_longer encoding)) range_kinds
  unfolding range_kinds
  range_rows s = (
    tt,
    (
      inl (λ i n. refl),
      (
        inl (λ i j n. refl),
        (
          inl (λ i k n. refl),
          (
            inl (λ b e n. refl),
            (
              inr (tt, λ a n. refl),
              (
                inr (tt, λ b e n. refl),
                (
                  inl (λ b k n. refl),
                  tt,
                ),
              ),
            ),
          ),
        ),
      ),
    ),
  )

  location_rows : (start : ℕ) (s : List ℕ) → Rows (KindSays encoding endian start s (location_longer encoding)) location_kinds
  unfolding location_kinds
  location_rows start s = (
    tt,
    (
      inl (λ i n. refl),
      (
        inl (λ i j x n. refl),
        (
          inl (λ i k x n. refl),
          (
            inl (λ b e x n. refl),
            (
              inl (λ x n. refl),
              (
                inr (tt, λ a n. refl),
                (
                  inl (λ b e x n. refl),
                  (
                    inl (λ b k x n. refl),
                    tt,
                  ),
                ),
              ),
            ),
          ),
        ),
      ),
    ),
  )

  -- the entry at the front of a part
  pub range_longer_lem : (number_of : ℕ → ℕ) (s : List ℕ) {e : RawRngListEntry} {n : ℕ} → range_entry_by number_of encoding endian s ≡ gives (got (entry e) n)
      → range_part number_of encoding endian s ≡ range_longer encoding e n
  unfolding range_entry_by range_part
  range_longer_lem number_of s {e} {n} g = by (has_kinds false encoding.version) g
    where
      by : (t : Bool) → pick t (coded_range_by number_of encoding endian s) (bare_range encoding endian s) ≡ gives (got (entry e) n)
          → (t && coded_padded encoding endian 0 s (numbered number_of)) ≡ range_longer encoding e n
      by true f = coded_longer encoding endian 0 s (range_longer encoding) UnknownRangeListsEntry (numbered number_of) (λ code. kind_all (KindSays encoding endian 0 s (range_longer encoding)) range_kinds (range_rows s) (number_of code)) f
      by false f =
          sym (subst (NeverIn encoding endian 0 s (range_longer encoding)) f
          (bare_never encoding endian 0 s (range_longer encoding) rng.BaseAddress [] rng.AddressOrOffsetPair (λ a n. refl) (λ b e n. refl)) n)

  pub location_longer_lem : (split : Bool) (start : ℕ) (s : List ℕ) {e : RawLocListEntry} {n : ℕ} → location_entry split encoding endian start s ≡ gives (got (entry e) n)
      → location_part split encoding endian start s ≡ location_longer encoding e n
  unfolding location_entry location_part
  location_longer_lem split start s {e} {n} g = by (has_kinds split encoding.version) g
    where
      by : (t : Bool) → pick t (coded_location encoding endian start s) (bare_location encoding endian start s) ≡ gives (got (entry e) n)
          → (t && coded_padded encoding endian start s (kind_of location_kinds)) ≡ location_longer encoding e n
      by true f = coded_longer encoding endian start s (location_longer encoding) UnknownLocListsEntry (kind_of location_kinds) (kind_all (KindSays encoding endian start s (location_longer encoding)) location_kinds (location_rows start s)) f
      by false f =
          sym (subst (NeverIn encoding endian start s (location_longer encoding)) f
          (bare_never encoding endian start s (location_longer encoding) loc.BaseAddress (expression ∷ []) loc.AddressOrOffsetPair (λ a n. refl) (λ b e x n. refl)) n)

abbrev Fronted : {E : Type 0} → ℕ → Read (Raw E) → Read (Raw E) → Type 0
Fronted at r (gives (got (entry x) d)) = (at ≤ d) × (r ≡ gives (got (entry x) (d - at)))
Fronted at r (gives (got stop d)) = Unit
Fronted at r (refused n vs) = Unit

fronted : {E : Type 0} (at : ℕ) (r : Read (Raw E)) → Fronted at r (moved at r)
fronted at (gives (got (entry x) n)) = (omega arith, ap (λ (m : ℕ). gives (got (entry x) m)) (omega arith))
fronted at (gives (got stop n)) = tt
fronted at (refused n vs) = tt

-- an entry at a place was read at the front of the part from there on
pub raw_part : {E : Type 0} (read : List ℕ → Read (Raw E)) (s : List ℕ) (at : ℕ) {e : E} {c : ℕ} → raw_at read s at ≡ gives (got (entry e) c)
    → (at ≤ c) × (read (drop at s) ≡ gives (got (entry e) (c - at)))
unfolding raw_at
raw_part read s at {e} {c} g = by (leb (length s) at) g
  where
    by : (t : Bool) → pick t (gives (got stop at)) (moved at (read (drop at s))) ≡ gives (got (entry e) c) → (at ≤ c) × (read (drop at s) ≡ gives (got (entry e) (c - at)))
    by true f = let z : ◌≡◌ {A = ℕ} 0 1 = cc in absurd (omega arith)
    by false f = subst (Fronted at (read (drop at s))) f (fronted at (read (drop at s)))

-- the entry at a place of a section
pub padded_longer : (l : Bool) (coding : Coding) (encoding : Encoding) (endian : RunTimeEndian) (s : List ℕ) (at : ℕ) {e : EntryIn l} {c : ℕ} → read_in l coding encoding endian s at ≡ gives (got (entry e) c)
    → (at ≤ c) × (padded_in l coding encoding endian s at ≡ longer_in l encoding e (c - at))
padded_longer true coding encoding endian s at g =
    let (h, q) = raw_part (location_entry coding.split encoding endian at) s at g in (h, location_longer_lem encoding endian coding.split at (drop at s) q)
padded_longer false coding encoding endian s at g =
    let (h, q) = raw_part (range_entry_by coding.number encoding endian) s at g in (h, range_longer_lem encoding endian coding.number (drop at s) q)

-- an answer of the code with its padding
module _ {E : Type 0} (p : Bool) where
  pub noted_found : {e : E} {c : ℕ} {q : Bool} {t : Result (Step E)} → gives (found e c) ≡ t → q ≡ p → gives (found (record { entry = e; padded = q }) c) ≡ noted p t
  noted_found h f = rw (← h, f)

  pub noted_ended : {t : Result (Step E)} → gives ended ≡ t → gives ended ≡ noted p t
  noted_ended h = rw (← h)

  pub noted_refused : {n : ℕ} {vs : List ℕ} {t : Result (Step E)} → refused n vs ≡ t → refused n vs ≡ noted p t
  noted_refused h = rw (← h)

pub noted_same : (q : Result (Step (Noted RawLocListEntry))) → noted_step_in true q ≡ q
noted_same (gives (found x c)) = refl
noted_same (gives ended) = refl
noted_same (refused n vs) = refl

pub step_padded : (l : Bool) (coding : Coding) (encoding : Encoding) (endian : RunTimeEndian) (s : List ℕ) (at : ℕ) {e : EntryIn l} {c : ℕ} → gives (found e c) ≡ step_of (read_in l coding encoding endian s at)
    → (at ≤ c) × (padded_in l coding encoding endian s at ≡ longer_in l encoding e (c - at))
step_padded l coding encoding endian s at h = padded_longer l coding encoding endian s at (step_found (read_in l coding encoding endian s at) h)
