-- Bytes put into an output, or no room for them.
use Rattle.std.specs.Prelude.{List, ◌≡◌, ℕ, ◌≤◌, ◌<◌, max, length, Ok, Err}
use Rattle.std.proofs.lemmas.List.Edits.{sets}
use Rattle.std.specs.declared.result.Result.{Result}
use Rattle.section_bytes.specs.declared.error.Error.{Error}
use Rattle.section_bytes.specs.declared.error.Error.TheVariants.{NoSpace}

-- so many bytes are enough for size bytes, and more than these only as far as there are len
abbrev pub Enough : ℕ → ℕ → ℕ → Type 0
Enough r size len = (size ≤ r) × (r ≤ max size len)

-- the bytes, the output before and after: as many as are reported stand at the front; refused, none was written
abbrev pub Put : Result ℕ Error → List ℕ → List ℕ → List ℕ → Type 0
Put (Ok n) bs before after = (n ≡ length bs) × (n ≤ length before) × (after ≡ sets before 0 bs)
Put (Err e) bs before after = (e ≡ NoSpace) × (length before < length bs) × (after ≡ before)
