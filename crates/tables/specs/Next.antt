-- What a call of a walk answers: an item or a refusal, or the end; each with the walk handed back.
use Rattle.std.specs.Prelude.{Some, None, Ok, Err}
use Rattle.std.specs.declared.option.Option.{Option}
use Rattle.std.specs.declared.result.Result.{Result as Answer}
use Rattle.section_bytes.specs.Read.{Result, gives}
use Rattle.section_bytes.specs.Error.{refusal}
use Rattle.section_bytes.specs.declared.error.Error.{Error}

pub data Next (A W : Type 0) : Type 0 where
  hands : Result A → W → Next A W
  ends : W → Next A W

-- an answer of the code, and the walk that it leaves, told as the definitions'
abbrev pub told_next : {A W : Type 0} → Answer (Option A) Error → W → Next A W
told_next (Ok (Some a)) w = hands (gives a) w
told_next (Ok None) w = ends w
told_next (Err e) w = hands (refusal e) w
