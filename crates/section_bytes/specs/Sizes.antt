-- The address sizes that were read before those of three bytes were, and what reads as it did then: every size but 3. Its proof is
-- `sizes_as_before` in proofs/SizeLaws.antt.
use Rattle.std.specs.Prelude.{◌≡◌, ℕ, Bool, ◌||◌, List, ◌==◌, ◌≢◌, slice_index}
use Rattle.section_bytes.specs.Read.{gives, got, read_then, pick}
use Rattle.section_bytes.specs.Error.{refusal}
use Rattle.section_bytes.specs.Reader.{uint, is_size, address, address_size_at}
use Rattle.section_bytes.specs.declared.endianity.RunTimeEndian.{RunTimeEndian}
use Rattle.section_bytes.specs.declared.endianity.RunTimeEndian.TheVariants.{Little}
use Rattle.section_bytes.specs.declared.error.Error.TheVariants.{UnsupportedAddressSize}

unfoldable pub is_size_before : ℕ → Bool
is_size_before n = n == 1 || n == 2 || n == 4 || n == 8

pub record SizesAsBefore : Type 0 where
  -- a size other than 3 is read where it was, and refused where it was
  pub asked : (n : ℕ) → (n ≢ 3) → is_size n ≡ is_size_before n
  -- so an address of such a size is, and a size that stands in a header
  pub addresses : (endian : RunTimeEndian) (n : ℕ) (s : List ℕ) (at : ℕ) → (n ≢ 3)
      → address endian n s at ≡ pick (is_size_before n) (uint endian n s at) (refusal (UnsupportedAddressSize n))
  pub in_headers : (s : List ℕ) (at : ℕ) → (slice_index s at ≢ 3)
      → address_size_at s at
      ≡ read_then (uint Little 1 s at) (λ size c. pick (is_size_before size) (gives (got size c)) (refusal (UnsupportedAddressSize size)))
