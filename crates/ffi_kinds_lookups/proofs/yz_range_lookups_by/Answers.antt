-- By the contracts of the calls in it. Assumes nothing.
use mathlib.Core.Path.{ap, ◌∙◌}
use Rattle.stacks.specs.Stack.{counted_of}
use Rattle.ffi_kinds_lookups.proofs.yz_range_lookups_by.Goals as goal

pub returns : goal.returns
returns c = rw c.count_read.ensures (ap counted_of c.lookup_ranges_by-r.ensures ∙ rw (c.unit_of-unit.ensures))
