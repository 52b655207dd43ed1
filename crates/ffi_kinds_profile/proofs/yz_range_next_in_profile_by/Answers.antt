-- `yz_range_next_in_profile_by` meets its contract: by the contracts of the calls in it; what the call reads is counted from 0 and added. Assumes nothing.
use mathlib.Core.Path.{ap}
use Rattle.profile.proofs.RaisedLaws.{range_profile_raised_by}
use Rattle.ffi_words.specs.Common.{encoding_of, endian_in}
use Rattle.ffi_words.specs.Walks.{walk_in}
use Rattle.ffi_words.specs.Ranges.{range_next}
use Rattle.ffi_kinds_profile.proofs.yz_range_next_in_profile_by.Goals as goal

pub returns : goal.returns
returns c = rw (c.range_next.ensures, c.next_range_by-r.ensures, c.unit_of-unit.ensures, c.start_in-start.ensures) (let a = c.args in ap (range_next a.walk.now) (range_profile_raised_by (encoding_of a.encoding) (endian_in a.encoding) a.section.now a.debug_addr.now (record { 0 = a.debug_addr_base }) (walk_in a.walk.now) a.kinds.now))
