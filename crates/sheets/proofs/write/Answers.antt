-- `sheets::write` meets its contract: head, begins and ends stand one after another. Assumes nothing.
use mathlib.Core.Path.{◌∙◌}
use native.Mathlib.Omega.{arith}
use lib.ListN.{length-set}
use Rattle.sheets.proofs.Putting.{sheet_put}
use Rattle.sheets.proofs.write.Goals as goal

pub put_addresses-requires : goal.put_addresses-requires
put_addresses-requires c = (c.requires.0.0, simp length-set (omega arith))

pub put_addresses-requires-2 : goal.put_addresses-requires-2
put_addresses-requires-2 c =
    let p = c.requires in
    (p.0.1, omega (arith, simp length-set at c.put_addresses.auto.out))

pub shape_of-out : goal.shape_of-out
shape_of-out c =
    c.put_addresses-2.auto.out ∙ (simp length-set at c.put_addresses.auto.out)

pub returns : goal.returns
returns c =
    sheet_put c.args.begins.now c.args.ends.now c.args.n c.requires.0 c.args.out.now
    c.put_addresses.ensures c.put_addresses-2.ensures
