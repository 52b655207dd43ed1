-- What holds of every lookup of many addresses in one reading (docs/SCOPE.md, "Lookup of many addresses"), whatever the bytes: which calls
-- are refused, what stands at each place then, and how many entries were read. The proofs are `together_holds` and `reads_counted` in
-- proofs/TogetherLaws.antt; `ranges_alone` and `locations_alone` there say that what stands behind an answer does not change it.
use Rattle.std.specs.Prelude.{ℕ, suc, ◌^◌, ◌≤◌, ◌<◌, Bool, false, List, [], ◌≡◌, length, get_or}
use Rattle.section_bytes.specs.Read.{gives}
use Rattle.section_bytes.specs.Error.{refusal}
use Rattle.section_bytes.specs.declared.common.DebugAddrBase.{DebugAddrBase}
use Rattle.section_bytes.specs.declared.common.Encoding.{Encoding}
use Rattle.section_bytes.specs.declared.endianity.RunTimeEndian.{RunTimeEndian}
use Rattle.section_bytes.specs.declared.error.Error.TheVariants.{TooManyAddresses, DescendingAddresses}
use Rattle.entries.specs.Numbers.{Coding}
use Rattle.lists.specs.Open.{opened}
use Rattle.lists.specs.Convert.{table_at}
use Rattle.lists.specs.Walk.{Listing, listed, locations, trace}
use Rattle.lists.specs.Counted.{entries_before}
use Rattle.lists.specs.declared.Walk.{Walk}
use Rattle.lookups.specs.Lookup.{stops_at, only, is_bounded, locations_from}
use Rattle.stacks.specs.Stack.{answers, together}

-- at most 64 addresses, none of them above the one after it
abbrev pub InOrder : List ℕ → Type 0
InOrder addresses = (length addresses ≤ 64) × ((i : ℕ) → suc i < length addresses → get_or addresses i 0 ≤ get_or addresses (suc i) 0)

-- of the answer of an address, the number of entries that its lookup reads, the addresses of a call, and what stood at the places of the
-- answers before it
pub record Together (row : ℕ → List ℕ) (reads : ℕ → ℕ) (addresses : List ℕ) (rows : List (List ℕ)) : Type 0 where
  -- more than 64 addresses are refused, and no answer is written
  pub too_many : 64 < length addresses → together row reads addresses rows ≡ answers (refusal TooManyAddresses) rows
  -- of at most 64, an address that is above the one after it is refused, wherever it stands, and no answer is written
  pub descending : length addresses ≤ 64 → (i : ℕ) → suc i < length addresses → get_or addresses (suc i) 0 < get_or addresses i 0
      → together row reads addresses rows ≡ answers (refusal DescendingAddresses) rows
  -- every other call is accepted
  pub accepted : InOrder addresses → (n : ℕ) × ((together row reads addresses rows).read ≡ gives n)
  -- then at the place of each address stands the answer of its own lookup, so that equal addresses have equal answers
  pub each : InOrder addresses → length rows ≡ 64 → (i : ℕ) → i < length addresses → get_or (together row reads addresses rows).rows i [] ≡ row (get_or addresses i 0)
  -- behind these places every call leaves what stood there
  pub behind : (i : ℕ) → length addresses ≤ i → get_or (together row reads addresses rows).rows i [] ≡ get_or rows i []
  -- no address's lookup reads more entries than the call says, and one reads as many
  pub longest : {n : ℕ} → (together row reads addresses rows).read ≡ gives n
      → ((i : ℕ) → i < length addresses → reads (get_or addresses i 0) ≤ n) × (0 < length addresses → (i : ℕ) × (i < length addresses) × (reads (get_or addresses i 0) ≡ n))
  -- a call without addresses reads and writes nothing, whatever their lookups would be, so that no list is opened
  pub none : addresses ≡ [] → together row reads addresses rows ≡ answers (gives 0) rows

-- the entries that a walk has counted are those that the definition reads from an offset on before the walk's place
abbrev pub CountedAt : Listing → ℕ → Walk → Type 0
CountedAt l offset v = v.entries ≡ entries_before l offset v.at

-- of the lookup of an address in a list that opens: how many entries it reads. Every section that is lent is shorter than 2^64
pub record ReadsCounted (encoding : Encoding) (endian : RunTimeEndian) (s table : List ℕ) (tableBase : DebugAddrBase) (offset base a : ℕ) : Type 0 where
  -- in a range list it reads as many entries as the definition reads before the place where it stops
  pub in_ranges : (coding : Coding) {w : Walk} → opened encoding s offset base ≡ gives w → length s < 2 ^ 64
      → CountedAt (listed false coding encoding endian s) offset (stops_at a (trace (listed false coding encoding endian s) (table_at endian encoding tableBase table) encoding.address_size (length s) w))
  -- and so it does in a location list, where it stops at no default location
  pub in_locations : (split : Bool) {w : Walk} → opened encoding s offset base ≡ gives w → length s < 2 ^ 64
      → CountedAt (locations split encoding endian s) offset (stops_at a (only is_bounded (locations_from split encoding endian s table tableBase w)))
