-- The profile (docs/SCOPE.md, "Profile"): three things that a compiler is not to write, and the walk that refuses them. It is the ordinary
-- walk until it meets one of them; one definition for both lists.
use Rattle.std.specs.Prelude.{ℕ, zero, suc, Bool, true, false, List, leb, ltb, length}
use Rattle.section_bytes.specs.Address.{add_sized, min_tombstone}
use Rattle.section_bytes.specs.Error.{refusal}
use Rattle.section_bytes.specs.Read.{Result, gives, refused, got, Read, and_then, pick}
use Rattle.section_bytes.specs.Reader.{is_size}
use Rattle.section_bytes.specs.declared.common.DebugAddrBase.{DebugAddrBase}
use Rattle.section_bytes.specs.declared.common.DebugAddrIndex.{DebugAddrIndex}
use Rattle.section_bytes.specs.declared.common.Encoding.{Encoding}
use Rattle.section_bytes.specs.declared.endianity.RunTimeEndian.{RunTimeEndian}
use Rattle.section_bytes.specs.declared.error.Error.TheVariants.{UnsupportedAddressSize, PaddedNumber, Tombstone, BackwardRange}
use Rattle.tables.specs.Next.{Next, hands}
use Rattle.entries.specs.Forms.{Raw, stop, entry}
use Rattle.entries.specs.Numbers.{Coding, dwarf, tabled}
use Rattle.entries.specs.Padded.{padded_in}
use Rattle.entries.specs.declared.Expression.{Expression}
use Rattle.entries.specs.declared.RawRngListEntry.{RawRngListEntry}
use Rattle.entries.specs.declared.RawRngListEntry.TheVariants.{
  AddressOrOffsetPair,
  BaseAddress,
  BaseAddressx,
  StartxEndx,
  StartxLength,
  OffsetPair,
  StartEnd,
  StartLength,
}
use Rattle.lists.specs.Convert.{table_at}
use Rattle.lists.specs.Open.{moved_to, read_to}
use Rattle.lists.specs.Walk.{Listing, CarriedIn, listed, Item, Trace, over, handed, on_read, first}
use Rattle.lists.specs.declared.Walk.{Walk}
use Rattle.std.specs.Prelude.{Ok, Err}
use Rattle.std.specs.declared.result.Result.{Result as Answer}
use Rattle.section_bytes.specs.declared.error.Error.{Error}
use Rattle.lists.specs.declared.Unit.{Unit as DwarfUnit}

-- what an entry tells when its lookups have succeeded: begin and end; begin and end that were added to a base address; or another base
-- address
pub data Tells : Type 0 where
  between : ℕ → ℕ → Tells
  added : ℕ → ℕ → ℕ → Tells
  selects : ℕ → Tells

unfoldable pub tells : (DebugAddrIndex → Result ℕ) → ℕ → ℕ → RawRngListEntry → Result Tells
tells at size base (AddressOrOffsetPair b e) = gives (added base (add_sized base b size) (add_sized base e size))
tells at size base (BaseAddress a) = gives (selects a)
tells at size base (BaseAddressx i) = and_then (at i) (λ a. gives (selects a))
tells at size base (StartxEndx i j) = and_then (at i) (λ b. and_then (at j) (λ e. gives (between b e)))
tells at size base (StartxLength i n) = and_then (at i) (λ b. gives (between b (add_sized b n size)))
tells at size base (OffsetPair b e) = gives (added base (add_sized base b size) (add_sized base e size))
tells at size base (StartEnd b e) = gives (between b e)
tells at size base (StartLength b n) = gives (between b (add_sized b n size))

-- an entry that keeps to the profile
abbrev pub kept : Answer Unit Error
kept = Ok tt

-- 16, begin at or above the tombstone bound; then 17, begin above end. An empty range that 16 lets by keeps to the profile
abbrev pub of_range : ℕ → ℕ → ℕ → Answer Unit Error
of_range size b e = pick (leb (min_tombstone size) b) (Err Tombstone) (pick (ltb e b) (Err BackwardRange) kept)

-- of an offset pair 16 for its base address, too; another base address is none of the three, whatever it is
abbrev pub of_told : ℕ → Tells → Answer Unit Error
of_told size (between b e) = of_range size b e
of_told size (added base b e) = pick (leb (min_tombstone size) base) (Err Tombstone) (of_range size b e)
of_told size (selects a) = kept

-- when all lookups have succeeded: a failed one is the ordinary walk's
abbrev pub of_lookups : ℕ → Result Tells → Answer Unit Error
of_lookups size (gives t) = of_told size t
of_lookups size (refused n vs) = kept

-- 15, a padded number, before any lookup
abbrev pub of_entry : Bool → (DebugAddrIndex → Result ℕ) → ℕ → ℕ → RawRngListEntry → Answer Unit Error
of_entry padded table size base e = pick padded (Err PaddedNumber) (of_lookups size (tells table size base e))

-- of an entry that was read whole; the end mark and what can't be read are the ordinary walk's. Whether a number of an entry is padded is
-- told by its place
abbrev pub of_read : (l : Listing) → (ℕ → Bool) → (DebugAddrIndex → Result ℕ) → ℕ → Walk → Read (Raw l.Entry) → Answer Unit Error
of_read l padded table size w (gives (got (entry e) c)) = of_entry (padded w.at) table size w.base_address (l.bounds_of e)
of_read l padded table size w (gives (got stop c)) = kept
of_read l padded table size w (refused n vs) = kept

-- one of the three is refused, and the list is over; else it does what it does
abbrev pub unless : {D : Type 0} → Answer Unit Error → Walk → Trace D → Trace D
unless (Ok x) w t = t
unless (Err x) w t = handed (refusal x) w (over w)

-- what a list does in the profile, as `trace_from` and `trace`: each entry as the ordinary walk has it, unless it is one of the three. That
-- empties the walk; its entry was read
unfoldable pub profile_from : (l : Listing) → (ℕ → Bool) → (DebugAddrIndex → Result ℕ) → ℕ → ℕ → ℕ → Walk → Trace l.Carried
profile_from l padded table size len zero w = over w
profile_from l padded table size len (suc n) w =
    pick (leb len w.at) (over w)
    (unless (of_read l padded table size w (l.read w.at)) (read_to len w)
    (on_read l table size len w (l.read w.at) (profile_from l padded table size len n)))

unfoldable pub profile : (l : Listing) → (ℕ → Bool) → (DebugAddrIndex → Result ℕ) → ℕ → ℕ → Walk → Trace l.Carried
profile l padded table size len w = profile_from l padded table size len len w

-- other sizes are refused before all else, and the walk is emptied
unfoldable pub profile_next : (l : Listing) → (ℕ → Bool) → (DebugAddrIndex → Result ℕ) → ℕ → ℕ → Walk → Next (Item l.Carried) Walk
profile_next l padded table size len w =
    pick (is_size size) (first (profile l padded table size len w)) (hands (refusal (UnsupportedAddressSize size)) (moved_to len w))

-- both lists' call, from the section, the address table, its base and the walk
abbrev pub profile_of : (l : Bool) → Coding → Encoding → RunTimeEndian → List ℕ → List ℕ → DebugAddrBase → Walk → Next (Item (CarriedIn l)) Walk
profile_of l coding encoding endian s table tableBase w =
    profile_next (listed l coding encoding endian s) (padded_in l coding encoding endian s) (table_at endian encoding tableBase table) encoding.address_size (length s) w

-- each list's
abbrev pub profile_in_unit : (l : Bool) → Coding → List ℕ → DwarfUnit → Walk → Next (Item (CarriedIn l)) Walk
profile_in_unit l coding s u w = profile_of l coding u.encoding u.endian s u.debug_addr.now u.debug_addr_base w

abbrev pub profile_range : Encoding → RunTimeEndian → List ℕ → List ℕ → DebugAddrBase → Walk → Next (Item Unit) Walk
profile_range encoding endian s table tableBase w = profile_of false (dwarf false) encoding endian s table tableBase w

abbrev pub profile_range_by : List ℕ → Encoding → RunTimeEndian → List ℕ → List ℕ → DebugAddrBase → Walk → Next (Item Unit) Walk
profile_range_by kinds encoding endian s table tableBase w = profile_of false (tabled kinds) encoding endian s table tableBase w

abbrev pub profile_location : Bool → Encoding → RunTimeEndian → List ℕ → List ℕ → DebugAddrBase → Walk → Next (Item Expression) Walk
profile_location split encoding endian s table tableBase w = profile_of true (dwarf split) encoding endian s table tableBase w
