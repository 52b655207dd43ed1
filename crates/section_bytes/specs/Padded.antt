-- How many bytes a LEB128 number took, and whether it is padded: whether a shorter form of the same number exists (DWARF 5, 7.6,
-- allows longer forms). What that comes to is stated below; its proof is `padded_numbers` in proofs/PaddedLaws.antt.
use Rattle.std.specs.Prelude.{◌≡◌, ℕ, ◌+◌, ◌-◌, ◌<◌, ◌≤◌, Bool, true, ◌&&◌, List, length, ◌==◌, nat_lt, slice_index}
use Rattle.section_bytes.specs.Read.{gives, got, Read, read_then}
use Rattle.section_bytes.specs.Leb128.{unsigned}
use Rattle.section_bytes.specs.Written.{unsigned_bytes}
use Rattle.section_bytes.specs.declared.leb128.Number.{Number}

-- whether a number that took so many bytes has a shorter form
unfoldable pub is_padded : ℕ → ℕ → Bool
is_padded v len = nat_lt (length (unsigned_bytes v)) len

-- the number that is read from one place up to another
abbrev pub number_from : ℕ → ℕ → ℕ → Number
number_from at v c = record { value = v; len = c - at; padded = is_padded v (c - at) }

-- the number at a place, with its length; refused as its value is
unfoldable pub number_at : List ℕ → ℕ → Read Number
number_at s at = read_then (unsigned s at) (λ v c. gives (got (number_from at v c) c))

-- its value and the place after it, and nothing else
abbrev pub value_only : Read Number → Read ℕ
value_only r = read_then r (λ x c. gives (got x.value c))

-- bytes that are, from the first to the last, a form of a number
pub record Form (v : ℕ) (bytes : List ℕ) : Type 0 where
  pub each : (i : ℕ) → slice_index bytes i < 256
  pub reads : unsigned bytes 0 ≡ gives (got v (length bytes))

pub record PaddedNumbers : Type 0 where
  -- values, places and refusals are what they are without the length
  pub as_before : (s : List ℕ) (at : ℕ) → value_only (number_at s at) ≡ unsigned s at
  -- the length is that of the bytes taken, one to ten
  pub length_taken : (s : List ℕ) (at : ℕ) {x : Number} {c : ℕ} → number_at s at ≡ gives (got x c)
      → (at + x.len ≡ c) × (1 ≤ x.len) × (x.len ≤ 10)
  -- a number is padded where a shorter string of bytes is the same number, and nowhere else
  pub shorter : (s : List ℕ) (at : ℕ) {x : Number} {c : ℕ} → number_at s at ≡ gives (got x c) → x.padded ≡ true
      → (bytes : List ℕ) × Form x.value bytes × (length bytes < x.len)
  pub no_shorter : (s : List ℕ) (at : ℕ) {x : Number} {c : ℕ} → number_at s at ≡ gives (got x c) → (bytes : List ℕ)
      → unsigned bytes 0 ≡ gives (got x.value (length bytes)) → length bytes < x.len → x.padded ≡ true
  -- so it ends in a byte 00 that is not its only one
  pub by_last_byte : (s : List ℕ) (at : ℕ) {x : Number} {c : ℕ} → number_at s at ≡ gives (got x c)
      → x.padded ≡ (nat_lt 1 x.len && slice_index s (c - 1) == 0)
