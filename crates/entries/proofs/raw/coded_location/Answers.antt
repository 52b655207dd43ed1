-- An expression ends in its part, so the place after it fits. Assumes nothing.
use native.Mathlib.Omega.{arith}
use Rattle.entries.proofs.OperandLaws.{expression_ends}
use Rattle.entries.proofs.raw.coded_location.Goals as goal

pub overflow_add-result-in_default : goal.overflow_add-result-in_default
overflow_add-result-in_default c = omega (arith, expression_ends c.args.start c.args.part.now _ c.in_ok-expression-in_default.ensures)
