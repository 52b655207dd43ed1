-- What stands before an entry's expression, and what the entry is by it: the numbers of a location's kinds, and a bare pair of either
-- list. For the contracts of private functions, and nothing above them. The kinds themselves are in Kinds.
use Rattle.std.specs.Prelude.{ℕ, Bool, true, false, List, [], ◌∷◌, Ok, Err}
use Rattle.std.specs.declared.result.Result.{Result as Answer}
use Rattle.section_bytes.specs.declared.error.Error.{Error}
use Rattle.section_bytes.specs.Read.{gives, got, Read, read_then, pick}
use Rattle.section_bytes.specs.Error.{refusal}
use Rattle.section_bytes.specs.Leb128.{unsigned}
use Rattle.section_bytes.specs.declared.common.Encoding.{Encoding}
use Rattle.section_bytes.specs.declared.endianity.RunTimeEndian.{RunTimeEndian}
use Rattle.entries.specs.Forms.{Form, index, number, rangeLength, address, expression, operand, operands, Takes, Raw, stop, entry}
use Rattle.entries.specs.Filled.{fill}
use Rattle.entries.specs.Kinds.{Kind, endOfList, unknown, kind, kind_of, location_kinds, bare}
use Rattle.entries.specs.Listed.{EntryIn, entry_in}
use Rattle.entries.specs.declared.Expression.{Expression}
use Rattle.entries.specs.declared.RawRngListEntry.TheVariants as rng
use Rattle.entries.specs.declared.RawLocListEntry.{RawLocListEntry}
use Rattle.entries.specs.declared.RawLocListEntry.TheVariants as loc
use Rattle.entries.specs.declared.raw.Pair.{Pair}
use Rattle.entries.specs.declared.raw.Pair.TheVariants as pair

-- whether an expression is among the operands
abbrev pub has_expression : List Form → Bool
has_expression [] = false
has_expression (index ∷ fs) = has_expression fs
has_expression (number ∷ fs) = has_expression fs
has_expression (rangeLength ∷ fs) = has_expression fs
has_expression (address ∷ fs) = has_expression fs
has_expression (expression ∷ fs) = true

-- the location that a kind makes of two numbers and an expression; a kind without an expression makes none, and a start-length
-- entry stands for it
abbrev pub located_by : Kind RawLocListEntry → ℕ → ℕ → Expression → RawLocListEntry
located_by endOfList a b x = loc.StartLength a b x
located_by unknown a b x = loc.StartLength a b x
located_by (kind fs e) a b x = pick (has_expression fs) (fill fs e a b x).entry (loc.StartLength a b x)

-- the entry of a code, two numbers and an expression; a code without an expression has no numbers
unfoldable pub located_as : ℕ → ℕ → ℕ → Expression → RawLocListEntry
located_as code a b x = located_by (kind_of location_kinds code) a b x

-- what two numbers after a code come to: an expression follows them
abbrev pub followed : Encoding → RunTimeEndian → ℕ → List ℕ → ℕ → ℕ → ℕ → ℕ → Read (Raw RawLocListEntry)
followed encoding endian start s code a b c =
    read_then (operand encoding endian start s expression c) (λ x d. gives (got (entry (located_as code a b x)) d))

-- what is read after a code at the front of a part, by the numbers that were read there
abbrev pub with_numbers : Encoding → RunTimeEndian → ℕ → List ℕ → ℕ → Answer (ℕ × ℕ × ℕ) Error → Read (Raw RawLocListEntry)
with_numbers encoding endian start s code (Ok (a, b, c)) = followed encoding endian start s code a b c
with_numbers encoding endian start s code (Err e) = refusal e

-- two LEB128 numbers after a code
abbrev pub number_pair : Encoding → RunTimeEndian → ℕ → List ℕ → ℕ → ℕ → Read (Raw RawLocListEntry)
number_pair encoding endian start s code at =
    read_then (unsigned s at) (λ a c. read_then (unsigned s c) (λ b d. followed encoding endian start s code a b d))

-- a LEB128 number and a length after a code
abbrev pub startx_length : Encoding → RunTimeEndian → ℕ → List ℕ → ℕ → ℕ → Read (Raw RawLocListEntry)
startx_length encoding endian start s code at =
    read_then (unsigned s at) (λ a c. read_then (operand encoding endian start s rangeLength c) (λ b d. followed encoding endian start s code a b d))

-- a bare pair, with what follows it
abbrev pub forms_in : Bool → List Form
forms_in true = expression ∷ []
forms_in false = []

abbrev pub pair_in : (l : Bool) → ℕ → ℕ → Takes (forms_in l) (EntryIn l)
pair_in true b e = loc.AddressOrOffsetPair b e
pair_in false b e = rng.AddressOrOffsetPair b e

abbrev pub bare_in : (l : Bool) → Encoding → RunTimeEndian → ℕ → List ℕ → Read (Raw (EntryIn l))
bare_in l encoding endian start s = bare encoding endian start s (λ a. entry_in l (loc.BaseAddress a)) (forms_in l) (pair_in l)

-- what is read at the front of a part, by the pair that was read there; where the end stands is not told
abbrev pub paired_in : (l : Bool) → Encoding → RunTimeEndian → ℕ → List ℕ → Answer Pair Error → Read (Raw (EntryIn l))
paired_in l encoding endian start s (Ok (pair.Bounds b e c)) = operands encoding endian start s (forms_in l) (pair_in l b e) c
paired_in l encoding endian start s (Ok (pair.BaseAddress a c)) = gives (got (entry (entry_in l (loc.BaseAddress a))) c)
paired_in l encoding endian start s (Ok pair.End) = gives (got stop 0)
paired_in l encoding endian start s (Err e) = refusal e
