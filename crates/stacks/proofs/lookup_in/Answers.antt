-- By the tests in their order; then what refuses the opening, or the list from where it opens. Assumes nothing.
use Prim.Native.Nat.{ℕ, ◌-◌, ◌^◌, ◌≤◌}
use native.Mathlib.Omega.{arith}
use mathlib.Core.Bool.{true}
use mathlib.Core.Path.{◌≡◌, ap, ◌∙◌}
use lib.Dec.{leb}
use lib.ListN.{length}
use borrow.Author.Rules.{rules}
use Rattle.std.proofs.lemmas.List.Sorted.{answers_always}
use Rattle.stacks.specs.Ascending.{ascends}
use Rattle.stacks.specs.Places.{at}
use Rattle.stacks.proofs.PlaceLaws.{sorted_is}
use Rattle.stacks.proofs.AskedLaws.{down, taken, stands, stands_taken, not_opened, is_opened}
use Rattle.stacks.proofs.lookup_in.Goals.{Else-not-is_sorted_by}
use Rattle.stacks.proofs.lookup_in.Goals as goal

-- the addresses ascend, and fit in 64 bits
up : (c : Else-not-is_sorted_by) → ascends c.args.addresses.now ≡ true
up c = sorted_is _ _ (c.is_sorted_by.ensures.cases leb (answers_always _ _ _ (λ f a r q k. search rules))) ∙ c.if-not-is_sorted_by.false

small : (c : Else-not-is_sorted_by) → (i : ℕ) → at c.args.addresses.now i ≤ 2 ^ 64 - 1
small c i = let z = c.type_inv.addresses i in omega arith

pub returns-then-not-is_sorted_by : goal.returns-then-not-is_sorted_by
returns-then-not-is_sorted_by c = down _ _ _ _ c.if-n-gt-MOST.false (sorted_is _ _ (c.is_sorted_by.ensures.cases leb (answers_always _ _ _ (λ f a r q k. search rules))) ∙ c.if-not-is_sorted_by.true)

pub found_from-requires : goal.found_from-requires
found_from-requires c =
    let e = (goal.at.found_from-requires c).Else-not-is_sorted_by in
    let few = c.if-n-gt-MOST.false in
    (stands_taken _ _ c.padded-all.ensures few (up e) (small e), ap length (taken _ _ c.padded-all.ensures few), omega (arith, c.if-n-eq0.false))

pub returns-in-Ok : goal.returns-in-Ok
returns-in-Ok c =
    let e = (goal.at.returns-in-Ok c).Else-not-is_sorted_by in
    let few = c.if-n-gt-MOST.false in
    is_opened _ _ _ _ _ _ _ _ _ (taken _ _ c.padded-all.ensures few) c.in-Ok.ensures few (up e) c.found_from.ensures.rows_after c.found_from.ensures.value

pub returns-in-Err : goal.returns-in-Err
returns-in-Err c =
    let e = (goal.at.returns-in-Err c).Else-not-is_sorted_by in
    let few = c.if-n-gt-MOST.false in
    not_opened _ _ _ _ _ _ _ _ c.in-Err.ensures (stands _ _ c.padded-all.ensures few (up e) (small e)) (omega (arith, c.if-n-eq0.false)) (up e) c.fill_all.ensures
