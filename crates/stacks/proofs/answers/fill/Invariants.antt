use Prim.Native.Nat.{◌-◌, ◌≤◌}
use Rattle.lookups.specs.Lookup.{told_location_found}
use Rattle.stacks.specs.Either.{given_to}
use Rattle.stacks.specs.Places.{Filled}
use Rattle.stacks.specs.Stack.{location_row}
use Rattle.stacks.proofs.answers.fill.Given as goal

abbrev pub invariant-loop-i : goal.invariant-loop-i
invariant-loop-i l = Filled (λ a. location_row (given_to a (told_location_found l.last))) l.addresses l.i l.next l.initial.rows l.rows × (l.i ≤ l.n)

abbrev pub decreases-loop-i : goal.decreases-loop-i
decreases-loop-i l = l.n - l.i
