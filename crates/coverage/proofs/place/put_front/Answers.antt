-- Both slices are measured before anything is put. Assumes nothing.
use Rattle.std.proofs.Common.{arith}
use Rattle.coverage.proofs.PlaceLaws.{front_put}
use Rattle.coverage.proofs.place.put_front.Goals as goal

pub returns : goal.returns
returns c =
    let a = c.args in
    front_put a.bs.now a.es.now a.n c.requires a.begins.now a.ends.now (omega arith) (omega arith) c.copy.ensures c.copy-2.ensures
