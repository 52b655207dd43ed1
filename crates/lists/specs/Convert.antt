-- What a raw entry comes to (DWARF 5, 2.17.3 and 2.6.2): one definition for both lists. The skips are gimli's.
use Rattle.std.specs.Prelude.{ℕ, List, leb, Ok, Err}
use Rattle.std.specs.declared.result.Result.{Result as Answer}
use Rattle.section_bytes.specs.declared.error.Error.{Error}
use Rattle.section_bytes.specs.Read.{Result, gives, and_then, pick}
use Rattle.section_bytes.specs.Error.{refusal}
use Rattle.section_bytes.specs.Address.{add_sized, min_tombstone}
use Rattle.section_bytes.specs.declared.common.DebugAddrBase.{DebugAddrBase}
use Rattle.section_bytes.specs.declared.common.DebugAddrIndex.{DebugAddrIndex}
use Rattle.section_bytes.specs.declared.common.Encoding.{Encoding}
use Rattle.section_bytes.specs.declared.endianity.RunTimeEndian.{RunTimeEndian}
use Rattle.tables.specs.Addr.{address_at}
pub use Rattle.entries.specs.Listed.{bounds, no_expression}
use Rattle.entries.specs.declared.Expression.{Expression}
use Rattle.entries.specs.declared.RawRngListEntry.{RawRngListEntry}
use Rattle.entries.specs.declared.RawRngListEntry.TheVariants.{
  AddressOrOffsetPair,
  BaseAddress,
  BaseAddressx,
  StartxEndx,
  StartxLength,
  OffsetPair,
  StartEnd,
  StartLength,
}
use Rattle.entries.specs.declared.RawLocListEntry.{RawLocListEntry}
use Rattle.entries.specs.declared.RawLocListEntry.TheVariants as loc
use Rattle.lists.specs.declared.Unit.{Unit as DwarfUnit}
use Rattle.lists.specs.declared.convert.Converted.{Converted}
use Rattle.lists.specs.declared.convert.Converted.TheVariants as code
use Rattle.lists.specs.declared.convert.Unchecked.{Unchecked}
use Rattle.lists.specs.declared.convert.Unchecked.TheVariants as unchecked

-- a range, another base address, or nothing
pub data Turn : Type 0 where
  range : ℕ → ℕ → Turn
  rebase : ℕ → Turn
  skip : Turn

abbrev pub told_turn : Answer Converted Error → Result Turn
told_turn (Ok (code.Range r)) = gives (range r.begin r.end)
told_turn (Ok (code.Base a)) = gives (rebase a)
told_turn (Ok code.Skip) = gives skip
told_turn (Err e) = refusal e

-- a range is skipped when its begin is at or above the tombstone bound, or not below its end. gimli's reason: DWARF's tombstones are
-- the two highest addresses, but linkers write 0 or 1 too, which may be real addresses and are not skipped as such; a pair of which
-- both were replaced is empty, and empty or backward ranges, which compilers' faults leave, hold no address
abbrev pub bounded : ℕ → ℕ → ℕ → Result Turn
bounded size b e = pick (leb (min_tombstone size) b) (gives skip) (pick (leb e b) (gives skip) (gives (range b e)))

-- offsets from the base address; skipped when the base itself is at or above the bound, whatever the sums are
abbrev pub offsets : ℕ → ℕ → ℕ → ℕ → Result Turn
offsets size base b e =
    pick (leb (min_tombstone size) base) (gives skip) (bounded size (add_sized base b size) (add_sized base e size))

-- what the code has of an entry before its range is looked at
abbrev pub told_unchecked : ℕ → Answer Unchecked Error → Result Turn
told_unchecked size (Ok (unchecked.Range b e)) = bounded size b e
told_unchecked size (Ok (unchecked.Other r)) = told_turn (Ok r)
told_unchecked size (Err e) = refusal e

-- the address of an index, in the table that a list is read with
abbrev pub table_at : RunTimeEndian → Encoding → DebugAddrBase → List ℕ → DebugAddrIndex → Result ℕ
table_at endian encoding tableBase table i = address_at endian encoding.address_size tableBase i table

-- in a unit's table
abbrev pub table_in : DwarfUnit → DebugAddrIndex → Result ℕ
table_in u i = table_at u.endian u.encoding u.debug_addr_base u.debug_addr.now i

-- by the address table's answers, the size and the base address; a begin is looked up before its end
unfoldable pub convert : (DebugAddrIndex → Result ℕ) → ℕ → ℕ → RawRngListEntry → Result Turn
convert at size base (AddressOrOffsetPair b e) = offsets size base b e
convert at size base (BaseAddress a) = gives (rebase a)
convert at size base (BaseAddressx i) = and_then (at i) (λ a. gives (rebase a))
convert at size base (StartxEndx i j) = and_then (at i) (λ b. and_then (at j) (λ e. bounded size b e))
convert at size base (StartxLength i n) = and_then (at i) (λ b. bounded size b (add_sized b n size))
convert at size base (OffsetPair b e) = offsets size base b e
convert at size base (StartEnd b e) = bounded size b e
convert at size base (StartLength b n) = bounded size b (add_sized b n size)

-- a location's expression; where there is none, the empty part at the section's start
abbrev pub expression_of : RawLocListEntry → Expression
expression_of (loc.AddressOrOffsetPair b e x) = x
expression_of (loc.BaseAddress a) = no_expression
expression_of (loc.BaseAddressx i) = no_expression
expression_of (loc.StartxEndx i j x) = x
expression_of (loc.StartxLength i n x) = x
expression_of (loc.OffsetPair b e x) = x
expression_of (loc.DefaultLocation x) = x
expression_of (loc.StartEnd b e x) = x
expression_of (loc.StartLength b n x) = x
