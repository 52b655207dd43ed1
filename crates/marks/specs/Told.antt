-- The structs of this crate as walks with marks.
use Rattle.std.specs.Prelude.{refl, is_some, Some, None}
use Rattle.std.specs.declared.option.Option.{Option}
use Rattle.std.specs.declared.result.Result.{Result as Answer}
use Rattle.section_bytes.specs.Error.{told_value}
use Rattle.section_bytes.specs.declared.error.Error.{Error}
use Rattle.lists.specs.Open.{walk_at}
use Rattle.lists.specs.declared.Walk.{Walk}
use Rattle.marks.specs.Marks.{Keeping, Marked, marked, Handed, handed}
use Rattle.marks.specs.declared.MarkedWalk.{MarkedWalk}

-- the walk of a mark; of one that is not set, which nobody asks for, a walk from 0
abbrev pub walk_in : Option Walk → Walk
walk_in (Some w) = w
walk_in None = walk_at 0 0 0

abbrev pub structs : Keeping Walk (Option Walk)
structs =
    record {
      unset = None;
      set_to = λ w. Some w;
      is_set = λ x. is_some x;
      walk_of = λ x. walk_in x;
      unset_not_set = refl;
      set_to_set = λ w. refl;
      set_to_walk = λ w. refl;
    }

abbrev pub marked_in : MarkedWalk → Marked Walk (Option Walk)
marked_in m = marked m.walk m.marks

-- what a call comes to, and the walk with its marks then
abbrev pub told_marking : Answer Unit Error → MarkedWalk → Handed Walk (Option Walk)
told_marking r m = handed (told_value r) (marked_in m)
