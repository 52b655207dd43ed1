-- What the code answers for both lists, told as each list's. Assumes nothing.
use mathlib.Core.Bool.{Bool, true, false}
use mathlib.Core.List.{List}
use mathlib.Core.Path.{◌≡◌, refl, ap, ◌∙◌}
use Prim.Native.Nat.{ℕ, ◌≤◌, ◌<◌}
use native.Mathlib.Omega.{arith}
use lib.ListN.{length}
use borrow.Author.Tests.{le-leb, lt-leb}
use Rattle.std.specs.Prelude.{Some, None, Ok, Err}
use Rattle.std.specs.declared.option.Option.{Option}
use Rattle.std.specs.declared.result.Result.{Result as Answer}
use Rattle.section_bytes.specs.Read.{Result, gives, refused, got, Read, pick}
use Rattle.section_bytes.specs.Error.{refusal}
use Rattle.section_bytes.specs.Reader.{is_size}
use Rattle.section_bytes.specs.declared.common.DebugAddrIndex.{DebugAddrIndex}
use Rattle.section_bytes.specs.declared.common.Encoding.{Encoding}
use Rattle.section_bytes.specs.declared.endianity.RunTimeEndian.{RunTimeEndian}
use Rattle.section_bytes.specs.declared.error.Error.{Error}
use Rattle.section_bytes.specs.declared.error.Error.TheVariants.{UnsupportedAddressSize}
use Rattle.tables.specs.Next.{Next, ends, hands}
use Rattle.entries.specs.Forms.{Raw, stop, entry}
use Rattle.entries.specs.Listed.{EntryIn, entry_in, read_in}
use Rattle.entries.specs.Numbers.{Coding}
use Rattle.entries.specs.Padded.{Noted, noted as notedStep, padded_in}
use Rattle.entries.specs.Told.{Step, found, ended, step_of}
use Rattle.entries.specs.declared.Expression.{Expression}
use Rattle.entries.specs.declared.RawRngListEntry.{RawRngListEntry}
use Rattle.entries.specs.declared.RawLocListEntry.{RawLocListEntry}
use Rattle.lists.specs.Open.{moved_to, read_to}
use Rattle.lists.specs.Convert.{Turn, range, rebase, skip, convert, bounds, expression_of}
use Rattle.lists.specs.Walk.{ranges, Item, item, comes, outcome, converted, convert_raw, told_converted_location, told_converted_range, range_only, on_raw, next_raw, next_in, bounds_in, carried_in, data_in, noted, noted_in, noted_of, outcome_in}
use Rattle.lists.specs.Walks.{is_default}
use Rattle.lists.specs.Steps.{Step as OneStep, yields, rebases, passes, fails, ended as over, Located, is_default_in, stepped_in}
use Rattle.lists.specs.declared.Walk.{Walk}
use Rattle.lists.specs.declared.LocationListEntry.{LocationListEntry}

-- an answer for a location is the code's own
pub next_same : (q : Next (Item Expression) Walk) → next_in true q ≡ q
next_same (hands (gives (item b e x)) w) = refl
next_same (ends w) = refl
next_same (hands (refused n vs) w) = refl

pub noted_same : (q : Next (Noted RawLocListEntry) Walk) → noted_in true q ≡ q
noted_same (hands (gives x) w) = refl
noted_same (ends w) = refl
noted_same (hands (refused n vs) w) = refl

pub stepped_same : (q : Result (OneStep (Located Expression))) → stepped_in true q ≡ q
stepped_same (gives (yields (item b e d) c)) = refl
stepped_same (gives (rebases b c)) = refl
stepped_same (gives (passes c)) = refl
stepped_same (gives (fails n vs c)) = refl
stepped_same (gives over) = refl
stepped_same (refused n vs) = refl

-- a default location is one of a location list
pub default_in : (l : Bool) (e : RawLocListEntry) → l ≡ true → is_default e ≡ is_default_in l (entry_in l e)
default_in true e h = refl
default_in false e h = let z : ◌≡◌ {A = ℕ} 0 1 = cc in absurd (omega arith)

-- what a raw reader answers, without the padding; and the padding of what it answers
module _ {E : Type 0} where
  abbrev pub plain : Result (Step (Noted E)) → Result (Step E)
  plain (gives (found x c)) = gives (found x.entry c)
  plain (gives ended) = gives ended
  plain (refused n vs) = refused n vs

  plain_noted : (p : Bool) (t : Result (Step E)) → plain (notedStep p t) ≡ t
  plain_noted p (gives (found e c)) = refl
  plain_noted p (gives ended) = refl
  plain_noted p (refused n vs) = refl

  abbrev padded_of : Bool → Result (Step (Noted E)) → Bool
  padded_of p (gives (found x c)) = x.padded
  padded_of p (gives ended) = p
  padded_of p (refused n vs) = p

  padded_noted : (p : Bool) (t : Result (Step E)) → padded_of p (notedStep p t) ≡ p
  padded_noted p (gives (found e c)) = refl
  padded_noted p (gives ended) = refl
  padded_noted p (refused n vs) = refl

  pub plain_is : {t : Result (Step (Noted E))} (p : Bool) (r : Result (Step E)) → t ≡ notedStep p r → plain t ≡ r
  plain_is p r h = ap plain h ∙ plain_noted p r

  pub padding_is : {x : Noted E} {c : ℕ} (p : Bool) (r : Result (Step E)) → gives (found x c) ≡ notedStep p r → x.padded ≡ p
  padding_is p r h = ap (padded_of p) h ∙ padded_noted p r

-- what a raw call answers, by what the raw reader does
abbrev pub raw_by : {E : Type 0} → ℕ → Walk → Result (Step (Noted E)) → Next (Noted E) Walk
raw_by len w (gives (found x c)) = hands (gives x) (read_to c w)
raw_by len w (gives ended) = ends (read_to len w)
raw_by len w (refused n vs) = hands (refused n vs) (moved_to len w)

raw_noted : {E : Type 0} (len : ℕ) (w : Walk) (p : Bool) (r : Read (Raw E)) → raw_by len w (notedStep p (step_of r)) ≡ noted p (on_raw len w r)
raw_noted len w p (gives (got (entry e) c)) = refl
raw_noted len w p (gives (got stop c)) = refl
raw_noted len w p (refused n vs) = refl

module _ (l : Bool) (coding : Coding) (encoding : Encoding) (endian : RunTimeEndian) (s : List ℕ) (w : Walk) where
  pub raw_other : is_size encoding.address_size ≡ false → hands (refusal (UnsupportedAddressSize encoding.address_size)) (moved_to (length s) w) ≡ noted_of l coding encoding endian s w
  unfolding next_raw
  raw_other h = simp h

  pub raw_over : is_size encoding.address_size ≡ true → length s ≤ w.at → ends w ≡ noted_of l coding encoding endian s w
  unfolding next_raw
  raw_over h k = simp (h, le-leb _ _ k)

  pub raw_told : is_size encoding.address_size ≡ true → w.at < length s → {t : Result (Step (Noted (EntryIn l)))}
      → t ≡ notedStep (padded_in l coding encoding endian s w.at) (step_of (read_in l coding encoding endian s w.at))
      → raw_by (length s) w t ≡ noted_of l coding encoding endian s w
  unfolding next_raw
  raw_told h k q = rw (h, lt-leb (length s) w.at k) (ap (raw_by (length s) w) q ∙ raw_noted (length s) w (padded_in l coding encoding endian s w.at) (read_in l coding encoding endian s w.at))

-- the code's entry has its list's bounds, and carries what its list's does
pub bounds_in_lem : (l : Bool) (e : RawLocListEntry) → bounds_in l (entry_in l e) ≡ bounds e
bounds_in_lem true e = refl
bounds_in_lem false e = refl

pub carried_in_lem : (l : Bool) (e : RawLocListEntry) → data_in l (expression_of e) ≡ carried_in l (entry_in l e)
carried_in_lem true e = refl
carried_in_lem false e = refl

-- a conversion of bounds, told as a range's
outcome_range : (w : Walk) (d : Expression) (t : Result Turn) → outcome_in false (outcome w d t) ≡ outcome w tt t
outcome_range w d (gives (range b e)) = refl
outcome_range w d (gives (rebase b)) = refl
outcome_range w d (gives skip) = refl
outcome_range w d (refused n vs) = refl

told_range : (r : Answer (Option LocationListEntry) Error) (w : Walk) → told_converted_range (range_only r) w ≡ outcome_in false (told_converted_location r w)
told_range (Ok (Some x)) w = refl
told_range (Ok None) w = refl
told_range (Err e) w = refl

-- a conversion of bounds for a range list
module _ (table : DebugAddrIndex → Result ℕ) (size : ℕ) (w : Walk) (d : Expression) (b : RawRngListEntry) where
  bounds_only : outcome_in false (converted table size w d b) ≡ converted table size w tt b
  bounds_only = by (is_size size)
    where
      by : (t : Bool) → outcome_in false (pick t (outcome w d (convert table size w.base_address b)) (comes (refusal (UnsupportedAddressSize size)) w))
          ≡ pick t (outcome w tt (convert table size w.base_address b)) (comes (refusal (UnsupportedAddressSize size)) w)
      by true = outcome_range w d (convert table size w.base_address b)
      by false = refl

  pub converted_range : (encoding : Encoding) (endian : RunTimeEndian) (s : List ℕ) → outcome_in false (converted table size w d b) ≡ convert_raw (ranges encoding endian s) table size w b
  unfolding convert_raw
  converted_range encoding endian s = bounds_only

pub converted_ranges : (r : Answer (Option LocationListEntry) Error) (v : Walk) (table : DebugAddrIndex → Result ℕ) (size : ℕ) (w : Walk) (d : Expression) (b : RawRngListEntry)
    → told_converted_location r v ≡ converted table size w d b → told_converted_range (range_only r) v ≡ converted table size w tt b
converted_ranges r v table size w d b q = told_range r v ∙ ap (outcome_in false) q ∙ bounds_only table size w d b
