-- What a raw reader's call answers, and the code's answers told as the definitions' (docs/SCOPE.md, "Words").
use Rattle.std.specs.Prelude.{ℕ, Some, None, Ok, Err}
use Rattle.std.specs.declared.option.Option.{Option}
use Rattle.std.specs.declared.result.Result.{Result as Answer}
use Rattle.section_bytes.specs.declared.error.Error.{Error}
use Rattle.section_bytes.specs.Read.{Result, gives, refused, got, Read}
use Rattle.section_bytes.specs.Error.{refusal}
use Rattle.entries.specs.Forms.{Raw, stop, entry}

-- an entry with the place after it, or the end of the list
pub data Step (E : Type 0) : Type 0 where
  found : E → ℕ → Step E
  ended : Step E

-- the answer to a raw entry; where the end stands is not told
abbrev pub step_of : {E : Type 0} → Read (Raw E) → Result (Step E)
step_of (gives (got stop c)) = gives ended
step_of (gives (got (entry e) c)) = gives (found e c)
step_of (refused n vs) = refused n vs

abbrev pub told_step : {E : Type 0} → Answer (Option (E × ℕ)) Error → Result (Step E)
told_step (Ok (Some p)) = gives (found p.0 p.1)
told_step (Ok None) = gives ended
told_step (Err e) = refusal e
