-- No list yields a range that holds no address, whatever its bytes are: such ranges are skipped. Assumes nothing.
use Rattle.std.proofs.Common.{ℕ, zero, suc, ◌<◌, leb, List, [], ◌∷◌, length}
use borrow.Author.Tests.{leb-false}
use Rattle.section_bytes.specs.Address.{add_sized, min_tombstone}
use Rattle.section_bytes.specs.Read.{Result, gives, refused, got, Read, and_then}
use Rattle.section_bytes.specs.declared.common.DebugAddrIndex.{DebugAddrIndex}
use Rattle.section_bytes.proofs.Took.{pick_ind}
use Rattle.entries.specs.Forms.{Raw, stop, entry}
use Rattle.entries.specs.declared.RawRngListEntry.{RawRngListEntry}
use Rattle.entries.specs.declared.RawRngListEntry.TheVariants.{
  AddressOrOffsetPair,
  BaseAddress,
  BaseAddressx,
  StartxEndx,
  StartxLength,
  OffsetPair,
  StartEnd,
  StartLength,
}
use Rattle.lists.specs.Convert.{Turn, range, rebase, skip, bounded, offsets, convert, table_at}
use Rattle.lists.specs.Open.{read_to, rebased}
use Rattle.lists.specs.Walk.{Listing, Trace, on_turn, on_read, trace_from, trace}
use Rattle.lists.specs.Walks.{Each}
use Rattle.lists.specs.declared.Walk.{Walk}
use Rattle.lists.proofs.Bounds.{Turned}
use Rattle.coverage.specs.Ranges.{Range}
use Rattle.coverage.specs.Covered.{yielded_in, Source, listing, trace_of}
use Rattle.coverage.proofs.CoveredLaws.{Given, each_given, given_map}
use Rattle.coverage.proofs.RangeLaws.{Proper}
use Rattle.coverage.proofs.Small.{All}

-- a begin below its end
abbrev Below : ℕ → ℕ → Type 0
Below b e = b < e

bounded_below : (size b e : ℕ) → Turned Below (bounded size b e)
bounded_below size b e = pick_ind (Turned Below) (leb (min_tombstone size) b) (λ _. tt) (λ _. pick_ind (Turned Below) (leb e b) (λ _. tt) (λ q. leb-false e b q))

offsets_below : (size base b e : ℕ) → Turned Below (offsets size base b e)
offsets_below size base b e = pick_ind (Turned Below) (leb (min_tombstone size) base) (λ _. tt) (λ _. bounded_below size (add_sized base b size) (add_sized base e size))

looked_below : (r : Result ℕ) (f : ℕ → Result Turn) → ((a : ℕ) → Turned Below (f a)) → Turned Below (and_then r f)
looked_below (gives a) f h = h a
looked_below (refused n vs) f h = tt

convert_below : (at : DebugAddrIndex → Result ℕ) (size base : ℕ) (e : RawRngListEntry) → Turned Below (convert at size base e)
unfolding convert
convert_below at size base (AddressOrOffsetPair b e) = offsets_below size base b e
convert_below at size base (BaseAddress a) = tt
convert_below at size base (BaseAddressx i) = looked_below (at i) _ (λ a. tt)
convert_below at size base (StartxEndx i j) = looked_below (at i) _ (λ b. looked_below (at j) _ (λ e. bounded_below size b e))
convert_below at size base (StartxLength i n) = looked_below (at i) _ (λ b. bounded_below size b (add_sized b n size))
convert_below at size base (OffsetPair b e) = offsets_below size base b e
convert_below at size base (StartEnd b e) = bounded_below size b e
convert_below at size base (StartLength b n) = bounded_below size b (add_sized b n size)

module _ (l : Listing) (table : DebugAddrIndex → Result ℕ) (size len : ℕ) where
  turn_below : (t : Result Turn) (d : l.Carried) (w : Walk) (go : Walk → Trace l.Carried) → Turned Below t → ((v : Walk) → Each (λ _. Below) (go v)) → Each (λ _. Below) (on_turn t d w go)
  turn_below (gives (range b e)) d w go h k = (h, k w)
  turn_below (gives (rebase b)) d w go h k = k (rebased b w)
  turn_below (gives skip) d w go h k = k w
  turn_below (refused n vs) d w go h k = k w

  read_below : (w : Walk) (r : Read (Raw l.Entry)) (go : Walk → Trace l.Carried) → ((v : Walk) → Each (λ _. Below) (go v)) → Each (λ _. Below) (on_read l table size len w r go)
  read_below w (gives (got (entry e) c)) go k =
      turn_below (convert table size w.base_address (l.bounds_of e)) (l.carried e) (read_to c w) go (convert_below table size w.base_address (l.bounds_of e)) k
  read_below w (gives (got stop c)) go k = tt
  read_below w (refused n vs) go k = tt

  from_below : (n : ℕ) (w : Walk) → Each (λ _. Below) (trace_from l table size len n w)
  unfolding trace_from
  from_below zero w = tt
  from_below (suc n) w =
      pick_ind (Each (λ _. Below)) (leb len w.at) (λ _. tt) (λ _. read_below w (l.read w.at) (trace_from l table size len n) (from_below n))

  trace_below : (w : Walk) → Each (λ _. Below) (trace l table size len w)
  unfolding trace
  trace_below w = from_below len w

all_proper : (rs : List Range) → All Below rs → Proper rs
all_proper [] h = tt
all_proper (r ∷ rs) h = (h.0, all_proper rs h.1)

pub walked_proper : (x : Source) (room : ℕ) (w : Walk) → Given Proper (yielded_in room (trace_of x w))
unfolding trace_of
walked_proper x room w =
    given_map (All Below) Proper (yielded_in room (trace_of x w)) all_proper
    (each_given Below room (trace_of x w) (trace_below (listing x.holds x.encoding x.endian x.section) (table_at x.endian x.encoding x.table_base x.table) x.encoding.address_size (length x.section) w))
