use Rattle.std.proofs.Common.{◌-◌, length}
use Rattle.entries.specs.Lists.{are_locations, coding_in}
use Rattle.lists.proofs.NextLaws.{does}
use Rattle.coverage.specs.Kept.{firsts}
use Rattle.coverage.specs.Gathered.{in_front, within}
use Rattle.coverage.proofs.GatherLaws.{Gathering}
use Rattle.coverage.proofs.collect.gather.Given as goal

abbrev pub invariant-loop-location : goal.invariant-loop-location
invariant-loop-location l =
    let from = does (are_locations l.lists) (coding_in l.lists) l.section l.unit in
    Gathering (length l.initial.begins) (in_front (firsts l.initial.n l.initial.begins l.initial.ends) (within (length l.initial.begins - l.initial.n) l.initial.walk (from l.initial.walk))) l.walk (from l.walk) l.begins l.ends l.n

abbrev pub decreases-loop-location : goal.decreases-loop-location
decreases-loop-location l = length l.section - l.walk.at
