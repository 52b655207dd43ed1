use Prim.Native.Nat.{◌-◌, ◌≤◌}
use mathlib.Core.Path.{◌≡◌}
use lib.ListN.{length}
use Rattle.entries.specs.Lists.{are_locations, coding_in}
use Rattle.lists.specs.Open.{walk_at}
use Rattle.lists.specs.Risen.{risen_by}
use Rattle.lists.proofs.NextLaws.{does}
use Rattle.lists.proofs.listed.next.Given as goal

abbrev pub invariant-loop-at : goal.invariant-loop-at
invariant-loop-at l =
    (does (are_locations l.lists) (coding_in l.lists) l.section l.unit l.walk ≡ does (are_locations l.lists) (coding_in l.lists) l.section l.unit (walk_at l.at l.base_address (risen_by l.walk.entries l.read)))
    × (l.read ≤ l.at)

abbrev pub decreases-loop-at : goal.decreases-loop-at
decreases-loop-at l = length l.section - l.at
