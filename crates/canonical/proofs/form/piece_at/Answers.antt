-- `form::piece_at` meets its contract: each read says what an entry or the end mark would have been read as. Assumes nothing.
use mathlib.Core.Path.{sym}
use native.Mathlib.Omega.{arith}
use Rattle.canonical.proofs.Pieces.{neither_unread, neither_early, neither_code, end_mark, neither_begin, neither_length, length_after, neither_padded, neither_range, entry_is}
use Rattle.canonical.proofs.form.piece_at.Goals as goal

pub returns-in_default : goal.returns-in_default
returns-in_default c = neither_unread _ _ (sym c.in_default.ensures)

pub returns-then-c-bytes : goal.returns-then-c-bytes
returns-then-c-bytes c = neither_early _ _ (sym c.in-Ok.ensures) c.if-code-eq-DW_RLE_end_of_list.true (omega (arith, c.if-c-bytes.true))

pub returns-then-code-eq-DW_RLE_end_of_list : goal.returns-then-code-eq-DW_RLE_end_of_list
returns-then-code-eq-DW_RLE_end_of_list c = end_mark _ _ (sym c.in-Ok.ensures) c.if-code-eq-DW_RLE_end_of_list.true (omega (arith, c.if-c-bytes.false))

pub returns-then-code-ne-DW_RLE_start_length : goal.returns-then-code-ne-DW_RLE_start_length
returns-then-code-ne-DW_RLE_start_length c = neither_code _ _ (sym c.in-Ok.ensures) c.if-code-eq-DW_RLE_end_of_list.false c.if-code-ne-DW_RLE_start_length.true

pub returns-in_default-read_u64 : goal.returns-in_default-read_u64
returns-in_default-read_u64 c = neither_begin _ _ (sym c.in-Ok.ensures) c.if-code-ne-DW_RLE_start_length.false (sym c.in_default-read_u64.ensures)

pub returns-in_default-unsigned : goal.returns-in_default-unsigned
returns-in_default-unsigned c = neither_length _ _ (sym c.in-Ok.ensures) c.if-code-ne-DW_RLE_start_length.false (sym c.in-Ok-read_u64.ensures) (sym c.in_default-unsigned.ensures)

pub overflow_sub-c2 : goal.overflow_sub-c2
overflow_sub-c2 c = length_after _ _ (sym c.in-Ok.ensures) c.if-code-ne-DW_RLE_start_length.false (sym c.in-Ok-read_u64.ensures) (sym c.in-Ok-unsigned.ensures)

pub returns-then-unsigned_size-c2 : goal.returns-then-unsigned_size-c2
returns-then-unsigned_size-c2 c = neither_padded _ _ (sym c.in-Ok.ensures) c.if-code-ne-DW_RLE_start_length.false (sym c.in-Ok-read_u64.ensures) (sym c.in-Ok-unsigned.ensures) (λ e. let s = c.unsigned_size.ensures in omega (arith, c.if-unsigned_size-c2.true))

pub overflow_add-result : goal.overflow_add-result
overflow_add-result c = let b = rw c.if-is_range.true at c.is_range.ensures in omega (arith, b.2)

pub returns-then-is_range : goal.returns-then-is_range
returns-then-is_range c = (rw c.if-is_range.true at c.is_range.ensures, entry_is _ _ (sym c.in-Ok.ensures) c.if-code-ne-DW_RLE_start_length.false (sym c.in-Ok-read_u64.ensures) (sym c.in-Ok-unsigned.ensures) (λ i. omega (arith, c.type_inv.bytes i)) (let s = c.unsigned_size.ensures in omega (arith, c.if-unsigned_size-c2.false)))

pub returns : goal.returns
returns c = neither_range _ _ (sym c.in-Ok.ensures) c.if-code-ne-DW_RLE_start_length.false (sym c.in-Ok-read_u64.ensures) (sym c.in-Ok-unsigned.ensures) (rw c.if-is_range.false at c.is_range.ensures)
