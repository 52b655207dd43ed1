-- Whether something is given.
use Rattle.std.specs.Prelude.{Bool, true, false}
use Rattle.section_bytes.specs.Read.{Result, gives, refused}

abbrev pub is_given : {A : Type 0} → Result A → Bool
is_given (gives a) = true
is_given (refused n vs) = false
