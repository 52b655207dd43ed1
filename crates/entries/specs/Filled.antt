-- An entry by the code of its kind, and what fills its operands: numbers in turn, and an expression. The end mark is no entry,
-- and its code stands for the bare pair.
use Rattle.std.specs.Prelude.{ℕ, List, [], ◌∷◌}
use Rattle.section_bytes.specs.Read.{Result, gives}
use Rattle.section_bytes.specs.Error.{refusal}
use Rattle.section_bytes.specs.declared.error.Error.{Error}
use Rattle.section_bytes.specs.declared.error.Error.TheVariants.{UnknownRangeListsEntry, UnknownLocListsEntry}
use Rattle.entries.specs.Forms.{Form, index, number, rangeLength, address, expression, Takes, addr_index}
use Rattle.entries.specs.Kinds.{Kind, endOfList, unknown, kind, kind_of, range_kinds, location_kinds}
use Rattle.entries.specs.Listed.{no_expression}
use Rattle.entries.specs.declared.Expression.{Expression}
use Rattle.entries.specs.declared.RawRngListEntry.{RawRngListEntry}
use Rattle.entries.specs.declared.RawRngListEntry.TheVariants as rng
use Rattle.entries.specs.declared.RawLocListEntry.{RawLocListEntry}
use Rattle.entries.specs.declared.RawLocListEntry.TheVariants as loc

-- an entry, and what of its numbers and its expression it has no operand for
pub record Filled (E : Type 0) : Type 0 where
  pub entry : E
  pub first : ℕ
  pub second : ℕ
  pub over : Expression

abbrev pub filled : {E : Type 0} → E → ℕ → ℕ → Expression → Filled E
filled e a b x = record { entry = e; first = a; second = b; over = x }

-- an entry with nothing over
abbrev pub whole : {E : Type 0} → E → Filled E
whole e = filled e 0 0 no_expression

-- operands are filled from the numbers in turn, and from the expression
abbrev pub fill : {E : Type 0} → (fs : List Form) → Takes fs E → ℕ → ℕ → Expression → Filled E
fill [] e a b x = filled e a b x
fill (index ∷ fs) e a b x = fill fs (e (addr_index a)) b 0 x
fill (number ∷ fs) e a b x = fill fs (e a) b 0 x
fill (rangeLength ∷ fs) e a b x = fill fs (e a) b 0 x
fill (address ∷ fs) e a b x = fill fs (e a) b 0 x
fill (expression ∷ fs) e a b x = fill fs (e x) a b no_expression

-- a code without a kind is refused, with the code
abbrev pub entry_by : {E : Type 0} → (ℕ → Error) → (fs : List Form) → Takes fs E → ℕ → Kind E → ℕ → ℕ → Expression
    → Result (Filled E)
entry_by unknownEntry fs pair code endOfList a b x = gives (fill fs pair a b x)
entry_by unknownEntry fs pair code unknown a b x = refusal (unknownEntry code)
entry_by unknownEntry fs pair code (kind gs e) a b x = gives (fill gs e a b x)

-- the range entry of a code and two numbers
unfoldable pub range_of : ℕ → ℕ → ℕ → Result (Filled RawRngListEntry)
range_of code a b =
    entry_by UnknownRangeListsEntry (address ∷ address ∷ []) rng.AddressOrOffsetPair code (kind_of range_kinds code) a b no_expression

-- the location entry of a code, two numbers and an expression
unfoldable pub location_of : ℕ → ℕ → ℕ → Expression → Result (Filled RawLocListEntry)
location_of code a b x =
    entry_by UnknownLocListsEntry (address ∷ address ∷ expression ∷ []) loc.AddressOrOffsetPair code (kind_of location_kinds code) a b x
