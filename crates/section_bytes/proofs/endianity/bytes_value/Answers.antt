-- Eight, four and two bytes by the library's sums, one and three apart. Assumes nothing.
use Rattle.section_bytes.proofs.ReaderLaws.{odd_size}
use Rattle.section_bytes.proofs.Values.{low_there, high_there}
use Rattle.std.proofs.Common.{◌≡◌, ◌%◌, ◌≤◌, arith}
use Rattle.std.specs.Int.{w16, w32, w64}
use Rattle.section_bytes.proofs.endianity.bytes_value.Goals as goal
use Rattle.section_bytes.proofs.endianity.bytes_value.Goals.{
  in-Little+else-size-eq8+else-size-eq4+else-size-eq2,
  in-Big+else-size-eq8-2+else-size-eq4-2+else-size-eq2-2,
}

pub returns-then-size-eq8 : goal.returns-then-size-eq8
returns-then-size-eq8 c = rw (c.in-Little.is, c.if-size-eq8.true) (low_there w64 c.args.s.now c.args.at c.eight.ensures c.from_le_bytes.ensures (omega arith) (omega arith))

pub returns-then-size-eq4 : goal.returns-then-size-eq4
returns-then-size-eq4 c = rw (c.in-Little.is, c.if-size-eq4.true) (low_there w32 c.args.s.now c.args.at c.four.ensures c.from_le_bytes-then-size-eq4.ensures (omega arith) (omega arith))

pub returns-then-size-eq2 : goal.returns-then-size-eq2
returns-then-size-eq2 c = rw (c.in-Little.is, c.if-size-eq2.true) (low_there w16 c.args.s.now c.args.at c.two.ensures c.from_le_bytes-then-size-eq2.ensures (omega arith) (omega arith))

pub returns-then-size-eq8-2 : goal.returns-then-size-eq8-2
returns-then-size-eq8-2 c = rw (c.in-Big.is, c.if-size-eq8-2.true) (high_there w64 c.args.s.now c.args.at c.eight-then-size-eq8-2.ensures c.from_be_bytes.ensures (omega arith) (omega arith))

pub returns-then-size-eq4-2 : goal.returns-then-size-eq4-2
returns-then-size-eq4-2 c = rw (c.in-Big.is, c.if-size-eq4-2.true) (high_there w32 c.args.s.now c.args.at c.four-then-size-eq4-2.ensures c.from_be_bytes-then-size-eq4-2.ensures (omega arith) (omega arith))

pub returns-then-size-eq2-2 : goal.returns-then-size-eq2-2
returns-then-size-eq2-2 c = rw (c.in-Big.is, c.if-size-eq2-2.true) (high_there w16 c.args.s.now c.args.at c.two-then-size-eq2-2.ensures c.from_be_bytes-then-size-eq2-2.ensures (omega arith) (omega arith))

pub odd_value-requires : goal.odd_value-requires
odd_value-requires c =
    let a = c.args in
    let h = c.requires.0 in
    let o : (a.size % 2 ≡ 1) × (a.size ≤ 3) =
    elim c.match-endian.branch [
      | in-Little+else-size-eq8+else-size-eq4+else-size-eq2 w ↦ odd_size a.size h (λ e. omega arith) (λ e. omega arith) (λ e. omega arith)
      | in-Big+else-size-eq8-2+else-size-eq4-2+else-size-eq2-2 w ↦ odd_size a.size h (λ e. omega arith) (λ e. omega arith) (λ e. omega arith)
    ] in
    (o.0, o.1, omega arith)
