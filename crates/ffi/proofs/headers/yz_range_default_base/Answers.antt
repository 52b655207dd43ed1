-- `headers::yz_range_default_base` meets its contract: by the contracts of the calls in it. Assumes nothing.
use Rattle.ffi.proofs.headers.yz_range_default_base.Goals as goal

pub returns : goal.returns
returns c = rw (c.default_for_encoding_and_file-base.ensures, c.file_of-file.ensures, c.encoding_of-unit.ensures)
