-- Whether some LEB128 number of a raw entry is padded: a definition beside that of the entry, over the same kinds and forms. What it
-- depends on is stated below; its proof is `padded_by_entry` in proofs/PaddedTook.antt.
use Rattle.std.specs.Prelude.{ℕ, ◌-◌, Bool, true, false, ◌&&◌, ◌||◌, List, [], ◌∷◌, ◌≡◌, take, drop, Some, None, Ok, Err}
use Rattle.std.specs.declared.option.Option.{Option}
use Rattle.std.specs.declared.result.Result.{Result as Answer}
use Rattle.section_bytes.specs.declared.error.Error.{Error}
use Rattle.section_bytes.specs.Read.{Result, gives, refused, got, Read}
use Rattle.section_bytes.specs.Error.{refusal}
use Rattle.section_bytes.specs.Reader.{uint}
use Rattle.section_bytes.specs.Padded.{number_at}
use Rattle.section_bytes.specs.declared.common.Encoding.{Encoding}
use Rattle.section_bytes.specs.declared.endianity.RunTimeEndian.{RunTimeEndian}
use Rattle.section_bytes.specs.declared.endianity.RunTimeEndian.TheVariants.{Little}
use Rattle.entries.specs.Forms.{Form, operand, is_unsigned, entry}
use Rattle.entries.specs.Numbers.{Coding, itself}
use Rattle.entries.specs.Kinds.{Kind, endOfList, unknown, kind, kind_of, location_kinds, has_kinds, numbered}
use Rattle.entries.specs.Listed.{EntryIn, entry_in, read_in}
use Rattle.entries.specs.Shortest.{longer_in}
use Rattle.entries.specs.Told.{Step, found, ended}
use Rattle.entries.specs.declared.Noted as code
use Rattle.entries.specs.declared.RawLocListEntry.{RawLocListEntry}

-- a raw entry, and whether some LEB128 number of it is padded
pub record Noted (E : Type 0) : Type 0 where
  pub entry : E
  pub padded : Bool

-- what holds of a value that is read and the place after it; of a refusal nothing does
abbrev pub if_read : {A : Type 0} → Read A → (A → ℕ → Bool) → Bool
if_read (gives (got v c)) f = f v c
if_read (refused n vs) f = false

-- whether the number at a place is padded
abbrev pub padded_at : List ℕ → ℕ → Bool
padded_at s at = if_read (number_at s at) (λ x c. x.padded)

-- whether one of the operands of these forms, one after the other from a place on, is padded
abbrev pub some_padded : Encoding → RunTimeEndian → ℕ → List ℕ → List Form → ℕ → Bool
some_padded encoding endian start s [] at = false
some_padded encoding endian start s (f ∷ fs) at =
    (is_unsigned encoding f && padded_at s at)
    || if_read (operand encoding endian start s f at) (λ v c. some_padded encoding endian start s fs c)

abbrev pub kind_padded : {E : Type 0} → Encoding → RunTimeEndian → ℕ → List ℕ → Kind E → ℕ → Bool
kind_padded encoding endian start s endOfList at = false
kind_padded encoding endian start s unknown at = false
kind_padded encoding endian start s (kind fs e) at = some_padded encoding endian start s fs at

-- at the front of a part, by any map from codes to kinds; the code is a byte, and no LEB128 number
unfoldable pub coded_padded : {E : Type 0} → Encoding → RunTimeEndian → ℕ → List ℕ → (ℕ → Kind E) → Bool
coded_padded encoding endian start s kinds =
    if_read (uint Little 1 s 0) (λ code c. kind_padded encoding endian start s (kinds code) c)

-- the entry at the front of a part. Bare pairs have no LEB128 number, nor has what follows them up to version 4
unfoldable pub range_part : (ℕ → ℕ) → Encoding → RunTimeEndian → List ℕ → Bool
range_part number_of encoding endian s = has_kinds false encoding.version && coded_padded encoding endian 0 s (numbered number_of)

unfoldable pub location_part : Bool → Encoding → RunTimeEndian → ℕ → List ℕ → Bool
location_part split encoding endian start s =
    has_kinds split encoding.version && coded_padded encoding endian start s (kind_of location_kinds)

-- the entry at a place of a section
abbrev pub range_padded_by : (ℕ → ℕ) → Encoding → RunTimeEndian → List ℕ → ℕ → Bool
range_padded_by number_of encoding endian s at = range_part number_of encoding endian (drop at s)

abbrev pub range_padded : Encoding → RunTimeEndian → List ℕ → ℕ → Bool
range_padded encoding endian s at = range_padded_by itself encoding endian s at

abbrev pub location_padded : Bool → Encoding → RunTimeEndian → List ℕ → ℕ → Bool
location_padded split encoding endian s at = location_part split encoding endian at (drop at s)

abbrev pub padded_in : Bool → Coding → Encoding → RunTimeEndian → List ℕ → ℕ → Bool
padded_in true coding encoding endian s at = location_padded coding.split encoding endian s at
padded_in false coding encoding endian s at = range_padded_by coding.number encoding endian s at

-- it goes with an entry; the end and a refusal have none
abbrev pub noted : {E : Type 0} → Bool → Result (Step E) → Result (Step (Noted E))
noted p (gives (found e c)) = gives (found (record { entry = e; padded = p }) c)
noted p (gives ended) = gives ended
noted p (refused n vs) = refused n vs

-- what the raw readers answer
abbrev pub noted_as : {E : Type 0} → code.Noted E → Noted E
noted_as n = record { entry = n.entry; padded = n.padded }

abbrev pub told_noted : {E : Type 0} → Answer (Option (code.Noted E × ℕ)) Error → Result (Step (Noted E))
told_noted (Ok (Some p)) = gives (found (noted_as p.0) p.1)
told_noted (Ok None) = gives ended
told_noted (Err e) = refusal e

abbrev pub noted_step_in : (l : Bool) → Result (Step (Noted RawLocListEntry)) → Result (Step (Noted (EntryIn l)))
noted_step_in l (gives (found x c)) = gives (found (record { entry = entry_in l x.entry; padded = x.padded }) c)
noted_step_in l (gives ended) = gives ended
noted_step_in l (refused n vs) = refused n vs

pub record PaddedByEntry : Type 0 where
  -- some number of an entry is padded exactly where the entry took more bytes than its kind and its values need
  pub by_length : (l : Bool) (coding : Coding) (encoding : Encoding) (endian : RunTimeEndian) (s : List ℕ) (at : ℕ) {e : EntryIn l} {c : ℕ}
      → read_in l coding encoding endian s at ≡ gives (got (entry e) c) → padded_in l coding encoding endian s at ≡ longer_in l encoding e (c - at)
  -- wherever the bytes that an entry took stand, in whatever section, what stands there has the same padding
  pub by_bytes : (l : Bool) (coding : Coding) (encoding : Encoding) (endian : RunTimeEndian) (s t : List ℕ) (at to : ℕ) {e : EntryIn l} {c : ℕ}
      → read_in l coding encoding endian s at ≡ gives (got (entry e) c) → take (c - at) (drop at s) ≡ take (c - at) (drop to t)
      → padded_in l coding encoding endian t to ≡ padded_in l coding encoding endian s at
