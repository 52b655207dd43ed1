-- `coverages::yz_canonical` meets its contract: by the contracts of the calls in it. Assumes nothing.
use Rattle.ffi_words.proofs.CoverageLaws.{output_left_lem}
use Rattle.ffi.proofs.coverages.yz_canonical.Goals as goal

pub returns : goal.returns
returns c =
    output_left_lem _ c.count_written.ensures
    c.canonical_of-r.ensures
