-- One byte has no other order; three are one before two, which are parts side by side. Assumes nothing.
use Rattle.section_bytes.proofs.Values.{low_there, high_there, low_parts, other_parts, part_length, one_low, one_high, one_there}
use Rattle.std.proofs.Common.{◌≡◌, ◌+◌, arith}
use Rattle.std.specs.Int.{w16}
use Rattle.section_bytes.proofs.endianity.odd_value.Goals as goal

pub returns-then-size-lt2 : goal.returns-then-size-lt2
returns-then-size-lt2 c = let a = c.args in
    let e : a.size ≡ 1 = omega arith in
    rw e (one_there a.s.now a.at (omega arith) a.endian)

pub returns-in-Little : goal.returns-in-Little
returns-in-Little c =
    let a = c.args in
    let e : a.size ≡ 3 = omega arith in
    let r = low_there w16 a.s.now (a.at + 1) c.two-rest.ensures c.from_le_bytes.ensures (omega arith) (omega arith) in
    rw (c.in-Little.is, e) (omega (arith, rw (part_length a.s.now a.at 1 (omega arith)) at (low_parts a.s.now a.at 1 2), one_low a.s.now a.at (omega arith), r))

pub returns-in-Big : goal.returns-in-Big
returns-in-Big c =
    let a = c.args in
    let e : a.size ≡ 3 = omega arith in
    let r = high_there w16 a.s.now (a.at + 1) c.two-rest.ensures c.from_be_bytes.ensures (omega arith) (omega arith) in
    rw (c.in-Big.is, e) (omega (arith, rw (part_length a.s.now (a.at + 1) 2 (omega arith)) at (other_parts a.s.now a.at 1 2), one_high a.s.now a.at (omega arith), r))
