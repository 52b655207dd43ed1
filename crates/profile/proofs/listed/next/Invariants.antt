use Prim.Native.Nat.{◌-◌, ◌≤◌}
use mathlib.Core.Path.{◌≡◌}
use lib.ListN.{length}
use Rattle.entries.specs.Lists.{are_locations, coding_in}
use Rattle.profile.specs.Profile.{profile_in_unit}
use Rattle.profile.proofs.EntryLaws.{call_from}
use Rattle.profile.proofs.listed.next.Given as goal

abbrev pub invariant-loop-at : goal.invariant-loop-at
invariant-loop-at l =
    (profile_in_unit (are_locations l.lists) (coding_in l.lists) l.section l.unit l.walk ≡ call_from (are_locations l.lists) (coding_in l.lists) l.section l.unit l.at l.base_address l.walk.entries l.read)
    × (l.read ≤ l.at)

abbrev pub decreases-loop-at : goal.decreases-loop-at
decreases-loop-at l = length l.section - l.at
