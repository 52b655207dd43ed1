-- Every address size but 3 is read, or refused, as it was before that one was read. Assumes nothing.
use Rattle.std.proofs.Common.{◌≡◌, ℕ, Bool, true, false, ◌||◌, eqb, List, length, get_or, refl, ⊎_elim, arith, ne_eqb}
use Rattle.section_bytes.specs.Read.{gives, got, read_then, pick}
use Rattle.section_bytes.specs.Error.{refusal}
use Rattle.section_bytes.specs.Reader.{uint, is_size, address, address_size_at}
use Rattle.section_bytes.specs.Sizes.{is_size_before, SizesAsBefore}
use Rattle.section_bytes.specs.declared.endianity.RunTimeEndian.{RunTimeEndian}
use Rattle.section_bytes.specs.declared.endianity.RunTimeEndian.TheVariants.{Little}
use Rattle.section_bytes.specs.declared.error.Error.TheVariants.{UnsupportedAddressSize}
use Rattle.section_bytes.proofs.AddressLaws.{under}
use Rattle.section_bytes.proofs.ReaderLaws.{byte_got, uint_short}

or_false : (a : Bool) → (a || false) ≡ a
or_false true = refl
or_false false = refl

pub asked : (n : ℕ) → (n ≡ 3 → ⊥) → is_size n ≡ is_size_before n
unfolding is_size is_size_before
asked n h = rw (ne_eqb n 3 h, or_false (eqb n 1 || eqb n 2))

addresses : (endian : RunTimeEndian) (n : ℕ) (s : List ℕ) (at : ℕ) → (n ≡ 3 → ⊥)
    → address endian n s at ≡ pick (is_size_before n) (uint endian n s at) (refusal (UnsupportedAddressSize n))
unfolding address
addresses endian n s at h = rw (asked n h)

in_headers : (s : List ℕ) (at : ℕ) → (get_or s at 0 ≡ 3 → ⊥)
    → address_size_at s at
    ≡ read_then (uint Little 1 s at) (λ size c. pick (is_size_before size) (gives (got size c)) (refusal (UnsupportedAddressSize size)))
unfolding address_size_at
in_headers s at h =
    ⊎_elim (λ i. rw (byte_got s at i, asked (get_or s at 0) h)) (λ o. rw (uint_short Little 1 s at (omega arith))) (under at (length s))

pub sizes_as_before : SizesAsBefore
sizes_as_before = record { asked = asked; addresses = addresses; in_headers = in_headers }
