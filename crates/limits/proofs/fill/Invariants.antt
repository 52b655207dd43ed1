-- Each turn takes six places, and there is one place more than all turns take.
use Rattle.std.proofs.Common.{◌+◌, ◌*◌, ◌≤◌}
use Rattle.limits.proofs.fill.Given as goal

abbrev pub invariant-loop-i : goal.invariant-loop-i
invariant-loop-i l = (l.begin ≤ 16 + 2 * l.i) × (l.step ≤ 2)
