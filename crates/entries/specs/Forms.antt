-- The forms of operands, and reading them: one definition for both lists, all versions, address sizes and byte orders.
-- A list is read in a part of its section; start is where the part starts.
use Rattle.std.specs.Prelude.{ℕ, ◌+◌, Bool, true, false, List, [], ◌∷◌, leb}
use Rattle.section_bytes.specs.Read.{gives, got, Read, read_then, pick}
use Rattle.section_bytes.specs.Reader.{uint, split, address as address_at}
use Rattle.section_bytes.specs.Leb128.{unsigned}
use Rattle.section_bytes.specs.declared.common.Encoding.{Encoding}
use Rattle.section_bytes.specs.declared.common.DebugAddrIndex.{DebugAddrIndex}
use Rattle.section_bytes.specs.declared.endianity.RunTimeEndian.{RunTimeEndian}
use Rattle.section_bytes.specs.declared.Span.{Span}
use Rattle.entries.specs.declared.Expression.{Expression}

-- an operand in the bytes: an index into the address table, a LEB128 number, location kind 3's length, an address, an
-- expression (DWARF 5, 2.17.3 and 2.6.2)
pub data Form : Type 0 where
  index number rangeLength address expression : Form

-- what is read of it
abbrev pub Value : Form → Type 0
Value index = DebugAddrIndex
Value number = ℕ
Value rangeLength = ℕ
Value address = ℕ
Value expression = Expression

abbrev pub addr_index : ℕ → DebugAddrIndex
addr_index i = record { 0 = i }

abbrev pub indexed : Read ℕ → Read DebugAddrIndex
indexed r = read_then r (λ i c. gives (got (addr_index i) c))

-- a length: LEB128 from version 5 on; before, some number of bytes, as GNU split lists and bare pairs have it
unfoldable pub versioned_length : ℕ → Encoding → RunTimeEndian → List ℕ → ℕ → Read ℕ
versioned_length size encoding endian s at = pick (leb 5 encoding.version) (unsigned s at) (uint endian size s at)

-- an expression's place is counted from the section's start
abbrev pub expression_at : ℕ → Span → Expression
expression_at start x = record { offset = start + x.offset; len = x.len }

-- as many bytes as the length says
unfoldable pub block : ℕ → List ℕ → ℕ → ℕ → Read Expression
block start s n c = read_then (split n s c) (λ x d. gives (got (expression_at start x) d))

-- an operand of a form at a place; up to version 4 rangeLength is four bytes and an expression's length two
abbrev pub operand : Encoding → RunTimeEndian → ℕ → List ℕ → (f : Form) → ℕ → Read (Value f)
operand encoding endian start s index at = indexed (unsigned s at)
operand encoding endian start s number at = unsigned s at
operand encoding endian start s rangeLength at = versioned_length 4 encoding endian s at
operand encoding endian start s address at = address_at endian encoding.address_size s at
operand encoding endian start s expression at = read_then (versioned_length 2 encoding endian s at) (block start s)

-- whether an operand is a LEB128 number, or an expression behind one: lengths are from version 5 on
abbrev pub is_unsigned : Encoding → Form → Bool
is_unsigned encoding index = true
is_unsigned encoding number = true
is_unsigned encoding rangeLength = leb 5 encoding.version
is_unsigned encoding address = false
is_unsigned encoding expression = leb 5 encoding.version

-- a function of the operands' values
abbrev pub Takes : List Form → Type 0 → Type 0
Takes [] E = E
Takes (f ∷ fs) E = Value f → Takes fs E

-- what stands at a place of a list: its end, or an entry
pub data Raw (E : Type 0) : Type 0 where
  stop : Raw E
  entry : E → Raw E

-- the operands one after the other, handed to what they mean
abbrev pub operands : {E : Type 0} → Encoding → RunTimeEndian → ℕ → List ℕ → (fs : List Form) → Takes fs E → ℕ → Read (Raw E)
operands encoding endian start s [] e at = gives (got (entry e) at)
operands encoding endian start s (f ∷ fs) e at =
    read_then (operand encoding endian start s f at) (λ v c. operands encoding endian start s fs (e v) c)
