-- Whether a coverage makes a lawful sheet, and an output is long enough for it.
use Rattle.std.specs.Prelude.{Bool, true, false, ◌≡◌, ℕ, ◌≤◌, ◌<◌, ◌⊎◌, Ok, Err}
use Rattle.std.specs.declared.result.Result.{Result}
use Rattle.section_bytes.specs.declared.error.Error.{Error}
use Rattle.section_bytes.specs.declared.error.Error.TheVariants.{BadSheet, NoSpace}
use Rattle.sheets.specs.Sheet.{sheet_length}

-- of a coverage that is lawful or not, its count and the room: 12 where it is not, 11 only where it is (docs/SCOPE.md, "Coverage")
abbrev pub Refuses : Bool → ℕ → ℕ → Error → Type 0
Refuses lawful n room e = ((e ≡ BadSheet) × (lawful ≡ false)) ⊎ ((e ≡ NoSpace) × (lawful ≡ true) × (room < sheet_length n))

abbrev pub Judged : Bool → ℕ → ℕ → Result Unit Error → Type 0
Judged lawful n room (Ok x) = (lawful ≡ true) × (sheet_length n ≤ room)
Judged lawful n room (Err e) = Refuses lawful n room e
