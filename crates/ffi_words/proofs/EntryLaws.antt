-- An entry is told by one code and one row of numbers, by the tables of kinds, so that a raw call's contract leaves one answer. Assumes
-- nothing.
use mathlib.Core.List.{List}
use mathlib.Core.Path.{◌≡◌, refl, sym, ap, ap₂, ◌∙◌}
use Prim.Native.Nat.{ℕ}
use Rattle.section_bytes.specs.Read.{Result, gives, refused}
use Rattle.tables.specs.Next.{Next, ends, hands}
use Rattle.entries.specs.Filled.{Filled, whole}
use Rattle.entries.specs.Listed.{no_expression}
use Rattle.entries.specs.Padded.{Noted}
use Rattle.entries.specs.declared.RawRngListEntry.{RawRngListEntry}
use Rattle.entries.specs.declared.RawLocListEntry.{RawLocListEntry}
use Rattle.entries.proofs.FilledLaws.{ranges_of, locations_of, Numbers, range_numbers_lem, location_numbers_lem}
use Rattle.lists.specs.declared.Walk.{Walk}
use Rattle.ffi_words.specs.Common.{Left, left}
use Rattle.ffi_words.specs.Entries.{range_in, expression_in, expression_told, location_in, no_range_entry, no_location_entry, RawTold, with_entry, raw_range_told, raw_location_told, raw_next, raw_range_next, raw_location_next}
use Rattle.ffi_words.specs.declared.common.YzDone.{YzDone}
use Rattle.ffi_words.specs.declared.ranges.YzRangeEntry.{YzRangeEntry}
use Rattle.ffi_words.specs.declared.ranges.YzRawRange.{YzRawRange}
use Rattle.ffi_words.specs.declared.locations.YzLocationEntry.{YzLocationEntry}
use Rattle.ffi_words.specs.declared.locations.YzRawLocation.{YzRawLocation}

-- numbers that are an entry, with what is over: no others are it
abbrev range_entry_of : Numbers → YzRangeEntry
range_entry_of n = record { kind = n.code; first = n.first; second = n.second }

pub range_numbers_once : (t u : YzRangeEntry) (f : Filled RawRngListEntry) → range_in t ≡ gives f → range_in u ≡ gives f → t ≡ u
range_numbers_once t u f p q =
    ap range_entry_of (sym (range_numbers_lem t.kind t.first t.second p) ∙ range_numbers_lem u.kind u.first u.second q)

abbrev location_entry_of : Numbers → YzLocationEntry
location_entry_of n = record { kind = n.code; first = n.first; second = n.second; expression = expression_told n.with }

pub location_numbers_once : (t u : YzLocationEntry) (f : Filled RawLocListEntry) → location_in t ≡ gives f → location_in u ≡ gives f → t ≡ u
location_numbers_once t u f p q =
    ap location_entry_of
    (sym (location_numbers_lem t.kind t.first t.second (expression_in t.expression) p) ∙ location_numbers_lem u.kind u.first u.second (expression_in u.expression) q)

-- what a raw call tells is an entry whatever the walk hands out, so its equation leaves one answer, and one way to leave the words
module _ {T E : Type 0} (handedIn : T → Result (Filled E)) (once : (t u : T) (f : Filled E) → handedIn t ≡ gives f → handedIn u ≡ gives f → t ≡ u)
    (none : T) (without : Filled E) (k : handedIn none ≡ gives without) (ws : List ℕ) where
  abbrev entryTold : Next (Noted E) Walk → Filled E
  entryTold (hands (gives x) w) = whole x.entry
  entryTold (ends w) = without
  entryTold (hands (refused n vs) w) = without

  entry_told : (n : Next (Noted E) Walk) → (raw_next (handedIn none) ws n).answer.entry ≡ gives (entryTold n)
  entry_told (hands (gives x) w) = refl
  entry_told (ends w) = k
  entry_told (hands (refused n vs) w) = k

  raw_once : (n : Next (Noted E) Walk) (c d : YzDone) (t u : T) (x y : ℕ) (us vs : List ℕ) → left (with_entry c (handedIn t) x) us ≡ raw_next (handedIn none) ws n
      → left (with_entry d (handedIn u) y) vs ≡ raw_next (handedIn none) ws n → (c ≡ d) × (t ≡ u) × (x ≡ y) × (us ≡ vs)
  raw_once n c d t u x y us vs p q =
      let e = p ∙ sym q in (
        ap (λ (l : Left (RawTold E)). l.answer.done) e,
        once t u (entryTold n) (ap (λ (l : Left (RawTold E)). l.answer.entry) p ∙ entry_told n) (ap (λ (l : Left (RawTold E)). l.answer.entry) q ∙ entry_told n),
        ap (λ (l : Left (RawTold E)). l.answer.padded) e,
        ap (λ (l : Left (RawTold E)). l.lent) e,
      )

abbrev raw_range : ℕ → YzDone → YzRangeEntry → YzRawRange
raw_range x d t = record { done = d; entry = t; padded = x }

pub raw_range_once : (ws : List ℕ) (n : Next (Noted RawRngListEntry) Walk) (a b : YzRawRange) (us vs : List ℕ) → left (raw_range_told a) us ≡ raw_range_next ws n
    → left (raw_range_told b) vs ≡ raw_range_next ws n → (a ≡ b) × (us ≡ vs)
raw_range_once ws n a b us vs p q =
    let o = raw_once range_in range_numbers_once no_range_entry _ (ranges_of 0 0).pair ws n a.done b.done a.entry b.entry a.padded b.padded us vs p q in
    (ap₂ (raw_range a.padded) o.0 o.1 ∙ ap (λ (x : ℕ). raw_range x b.done b.entry) o.2, o.3)

abbrev raw_location : ℕ → YzDone → YzLocationEntry → YzRawLocation
raw_location x d t = record { done = d; entry = t; padded = x }

pub raw_location_once : (ws : List ℕ) (n : Next (Noted RawLocListEntry) Walk) (a b : YzRawLocation) (us vs : List ℕ) → left (raw_location_told a) us ≡ raw_location_next ws n
    → left (raw_location_told b) vs ≡ raw_location_next ws n → (a ≡ b) × (us ≡ vs)
raw_location_once ws n a b us vs p q =
    let o = raw_once location_in location_numbers_once no_location_entry _ (locations_of 0 0 no_expression).pair ws n a.done b.done a.entry b.entry a.padded b.padded us vs p q in
    (ap₂ (raw_location a.padded) o.0 o.1 ∙ ap (λ (x : ℕ). raw_location x b.done b.entry) o.2, o.3)
