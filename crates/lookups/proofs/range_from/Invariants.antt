use Prim.Native.Nat.{◌-◌}
use mathlib.Core.Path.{◌≡◌}
use lib.ListN.{length}
use Rattle.lists.specs.Walk.{coding_by}
use Rattle.lookups.specs.Lookup.{lookup_range_from_unit}
use Rattle.lookups.proofs.range_from.Given as goal

abbrev pub invariant-loop-item : goal.invariant-loop-item
invariant-loop-item l =
    lookup_range_from_unit (coding_by l.kinds) l.section l.unit l.address l.fn.start ≡ lookup_range_from_unit (coding_by l.kinds) l.section l.unit l.address l.walk

abbrev pub decreases-loop-item : goal.decreases-loop-item
decreases-loop-item l = length l.section - l.walk.at
