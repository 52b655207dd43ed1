-- Unsigned LEB128 (DWARF 5, 7.6). The standard sets no limit; gimli's is taken over: ten bytes, the tenth 00 or 01.
use Rattle.std.specs.Prelude.{ℕ, ◌+◌, ◌*◌, ◌%◌, ◌&&◌, List, [], ◌∷◌, length, drop, ◌==◌, nat_lt, slice_index, Some, None}
use Rattle.section_bytes.specs.Read.{gives, got, Read, read_then, pick}
use Rattle.section_bytes.specs.Error.{refusal}
use Rattle.section_bytes.specs.declared.error.Error.TheVariants.{UnexpectedEof, BadUnsignedLeb128}
use Rattle.std.specs.declared.option.Option.{Option}

-- the low seven bits of a byte, below a number that was read after it
abbrev pub below : ℕ → Read ℕ → Read ℕ
below b r = read_then r (λ v c. gives (got (b % 128 + 128 * v) c))

-- the bytes from a place on, of which the first is the number's k-th, counted from 0
unfoldable pub unsigned_from : ℕ → List ℕ → ℕ → Read ℕ
unsigned_from k [] at = refusal UnexpectedEof
unsigned_from k (b ∷ bs) at =
    pick (k == 9 && nat_lt 1 b) (refusal BadUnsignedLeb128)
    (pick (nat_lt b 128) (gives (got b (at + 1))) (below b (unsigned_from (k + 1) bs (at + 1))))

unfoldable pub unsigned : List ℕ → ℕ → Read ℕ
unsigned s at = unsigned_from 0 (drop at s) at

-- a number of one byte with the place after it, or none
pub data Short : Type 0 where
  one_byte : ℕ → ℕ → Short
  no_byte : Short

unfoldable pub single : List ℕ → ℕ → Short
single s at = pick (nat_lt at (length s) && nat_lt (slice_index s at) 128) (one_byte (slice_index s at) (at + 1)) no_byte

abbrev pub told_single : Option (ℕ × ℕ) → Short
told_single (Some p) = one_byte p.0 p.1
told_single None = no_byte
