use Prim.Native.Nat.{◌-◌}
use lib.ListN.{length, take}
use Rattle.entries.specs.Lists.{are_locations, coding_in}
use Rattle.stacks.proofs.StackLaws.{Loop}
use Rattle.stacks.proofs.found_from.Given as goal

abbrev pub invariant-loop-stepped : goal.invariant-loop-stepped
invariant-loop-stepped l =
    Loop (are_locations l.lists) (coding_in l.lists) l.section l.unit (take l.n l.addresses) l.addresses l.initial.rows l.start l.base l.kept l.at l.base_address l.read l.low l.before l.after l.next l.rows

abbrev pub decreases-loop-stepped : goal.decreases-loop-stepped
decreases-loop-stepped l = length l.section - l.at
