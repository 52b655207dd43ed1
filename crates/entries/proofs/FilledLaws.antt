-- What the tables of kinds say of entries by their codes, row by row; a code that no row has; and that an entry, with what is
-- over, tells its code and its numbers: by the rows. Assumes nothing.
use mathlib.Core.Path.{◌≡◌, refl, sym, ap, ◌∙◌}
use mathlib.Core.List.{List, [], ◌∷◌}
use Prim.Native.Nat.{ℕ}
use native.Mathlib.Omega.{arith}
use lib.Dec.{eqb}
use borrow.Author.Tests.{eqb-true}
use Rattle.section_bytes.specs.Read.{Result, gives, refused}
use Rattle.section_bytes.specs.Error.{refusal}
use Rattle.section_bytes.specs.declared.error.Error.{Error}
use Rattle.section_bytes.specs.declared.error.Error.TheVariants.{UnknownRangeListsEntry, UnknownLocListsEntry}
use Rattle.section_bytes.proofs.Took.{pick_ind}
use Rattle.entries.specs.Forms.{Form, address, expression, Takes, addr_index}
use Rattle.entries.specs.Kinds.{Kind, unknown, Row, row, kind_of, range_kinds, location_kinds}
use Rattle.entries.specs.Listed.{no_expression}
use Rattle.entries.specs.Filled.{Filled, filled, whole, entry_by, range_of, location_of}
use Rattle.entries.specs.declared.Expression.{Expression}
use Rattle.entries.specs.declared.RawRngListEntry.{RawRngListEntry}
use Rattle.entries.specs.declared.RawRngListEntry.TheVariants as rng
use Rattle.entries.specs.declared.RawLocListEntry.{RawLocListEntry}
use Rattle.entries.specs.declared.RawLocListEntry.TheVariants as loc

-- the range entry of each code
pub record RangesOf (a b : ℕ) : Type 0 where
  pub pair : range_of 0 a b ≡ gives (whole (rng.AddressOrOffsetPair a b))
  pub base_addressx : range_of 1 a b ≡ gives (filled (rng.BaseAddressx (addr_index a)) b 0 no_expression)
  pub startx_endx : range_of 2 a b ≡ gives (whole (rng.StartxEndx (addr_index a) (addr_index b)))
  pub startx_length : range_of 3 a b ≡ gives (whole (rng.StartxLength (addr_index a) b))
  pub offset_pair : range_of 4 a b ≡ gives (whole (rng.OffsetPair a b))
  pub base_address : range_of 5 a b ≡ gives (filled (rng.BaseAddress a) b 0 no_expression)
  pub start_end : range_of 6 a b ≡ gives (whole (rng.StartEnd a b))
  pub start_length : range_of 7 a b ≡ gives (whole (rng.StartLength a b))

pub ranges_of : (a b : ℕ) → RangesOf a b
unfolding range_of kind_of range_kinds
ranges_of a b =
    record {
      pair = refl;
      base_addressx = refl;
      startx_endx = refl;
      startx_length = refl;
      offset_pair = refl;
      base_address = refl;
      start_end = refl;
      start_length = refl;
    }

pub no_range_of : (code a b : ℕ) → kind_of range_kinds code ≡ unknown → range_of code a b ≡ refusal (UnknownRangeListsEntry code)
unfolding range_of
no_range_of code a b h = rw h

-- the location entry of each code
pub record LocationsOf (a b : ℕ) (x : Expression) : Type 0 where
  pub pair : location_of 0 a b x ≡ gives (whole (loc.AddressOrOffsetPair a b x))
  pub base_addressx : location_of 1 a b x ≡ gives (filled (loc.BaseAddressx (addr_index a)) b 0 x)
  pub startx_endx : location_of 2 a b x ≡ gives (whole (loc.StartxEndx (addr_index a) (addr_index b) x))
  pub startx_length : location_of 3 a b x ≡ gives (whole (loc.StartxLength (addr_index a) b x))
  pub offset_pair : location_of 4 a b x ≡ gives (whole (loc.OffsetPair a b x))
  pub default_location : location_of 5 a b x ≡ gives (filled (loc.DefaultLocation x) a b no_expression)
  pub base_address : location_of 6 a b x ≡ gives (filled (loc.BaseAddress a) b 0 x)
  pub start_end : location_of 7 a b x ≡ gives (whole (loc.StartEnd a b x))
  pub start_length : location_of 8 a b x ≡ gives (whole (loc.StartLength a b x))

pub locations_of : (a b : ℕ) (x : Expression) → LocationsOf a b x
unfolding location_of kind_of location_kinds
locations_of a b x =
    record {
      pair = refl;
      base_addressx = refl;
      startx_endx = refl;
      startx_length = refl;
      offset_pair = refl;
      default_location = refl;
      base_address = refl;
      start_end = refl;
      start_length = refl;
    }

pub no_location_of : (code a b : ℕ) (x : Expression) → kind_of location_kinds code ≡ unknown → location_of code a b x ≡ refusal (UnknownLocListsEntry code)
unfolding location_of
no_location_of code a b x h = rw h

-- a code, two numbers and an expression
pub record Numbers : Type 0 where
  pub code : ℕ
  pub first : ℕ
  pub second : ℕ
  pub with : Expression

abbrev pub numbers : ℕ → ℕ → ℕ → Expression → Numbers
numbers code a b x = record { code = code; first = a; second = b; with = x }

-- those of an entry, with what is over
abbrev range_numbers : RawRngListEntry → ℕ → ℕ → Numbers
range_numbers (rng.AddressOrOffsetPair a b) c d = numbers 0 a b no_expression
range_numbers (rng.BaseAddressx i) c d = numbers 1 i.0 c no_expression
range_numbers (rng.StartxEndx i j) c d = numbers 2 i.0 j.0 no_expression
range_numbers (rng.StartxLength i b) c d = numbers 3 i.0 b no_expression
range_numbers (rng.OffsetPair a b) c d = numbers 4 a b no_expression
range_numbers (rng.BaseAddress a) c d = numbers 5 a c no_expression
range_numbers (rng.StartEnd a b) c d = numbers 6 a b no_expression
range_numbers (rng.StartLength a b) c d = numbers 7 a b no_expression

abbrev pub numbers_of_range : Filled RawRngListEntry → Numbers
numbers_of_range f = range_numbers f.entry f.first f.second

abbrev location_numbers : RawLocListEntry → ℕ → ℕ → Expression → Numbers
location_numbers (loc.AddressOrOffsetPair a b x) c d y = numbers 0 a b x
location_numbers (loc.BaseAddressx i) c d y = numbers 1 i.0 c y
location_numbers (loc.StartxEndx i j x) c d y = numbers 2 i.0 j.0 x
location_numbers (loc.StartxLength i b x) c d y = numbers 3 i.0 b x
location_numbers (loc.OffsetPair a b x) c d y = numbers 4 a b x
location_numbers (loc.DefaultLocation x) c d y = numbers 5 c d x
location_numbers (loc.BaseAddress a) c d y = numbers 6 a c y
location_numbers (loc.StartEnd a b x) c d y = numbers 7 a b x
location_numbers (loc.StartLength a b x) c d y = numbers 8 a b x

abbrev pub numbers_of_location : Filled RawLocListEntry → Numbers
numbers_of_location f = location_numbers f.entry f.first f.second f.over

-- of an answer, those of its entry
abbrev answered : {E : Type 0} → (Filled E → Numbers) → Result (Filled E) → Numbers
answered f (gives g) = f g
answered f (refused n vs) = numbers 0 0 0 no_expression

-- what a table makes of a code and numbers tells them where each row's entry tells its own code
module _ {E : Type 0} (back : Filled E → Numbers) (unknownEntry : ℕ → Error) (fs : List Form) (pair : Takes fs E) (code a b : ℕ) (x : Expression) (f : Filled E) where
  abbrev RowsTell : List (Row E) → Type 0
  RowsTell [] = Unit
  RowsTell (row n k ∷ rows) = (answered back (entry_by unknownEntry fs pair code k a b x) ≡ numbers n a b x) × RowsTell rows

  abbrev Tells : Kind E → Type 0
  Tells k = entry_by unknownEntry fs pair code k a b x ≡ gives f → back f ≡ numbers code a b x

  rows_tell : (rows : List (Row E)) → RowsTell rows → Tells (kind_of rows code)
  unfolding kind_of
  rows_tell [] h = λ e. let z : ◌≡◌ {A = ℕ} 0 1 = cc in absurd (omega arith)
  rows_tell (row n k ∷ rows) (h, t) =
      pick_ind Tells (eqb code n)
      (λ c e. sym (ap (answered back) e) ∙ h ∙ ap (λ (m : ℕ). numbers m a b x) (sym (eqb-true code n c)))
      (λ c. rows_tell rows t)

pub range_numbers_lem : (code a b : ℕ) {f : Filled RawRngListEntry} → range_of code a b ≡ gives f → numbers_of_range f ≡ numbers code a b no_expression
unfolding range_of range_kinds
range_numbers_lem code a b {f} e =
    rows_tell numbers_of_range UnknownRangeListsEntry (address ∷ address ∷ []) rng.AddressOrOffsetPair code a b no_expression f range_kinds
    (refl, (refl, (refl, (refl, (refl, (refl, (refl, (refl, tt)))))))) e

pub location_numbers_lem : (code a b : ℕ) (x : Expression) {f : Filled RawLocListEntry} → location_of code a b x ≡ gives f → numbers_of_location f ≡ numbers code a b x
unfolding location_of location_kinds
location_numbers_lem code a b x {f} e =
    rows_tell numbers_of_location UnknownLocListsEntry (address ∷ address ∷ expression ∷ []) loc.AddressOrOffsetPair code a b x f location_kinds
    (refl, (refl, (refl, (refl, (refl, (refl, (refl, (refl, (refl, tt))))))))) e
