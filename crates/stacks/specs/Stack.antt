-- Addresses that are looked up together, in one reading of a list (docs/SCOPE.md, "Lookup of many addresses"): each has the answer of its
-- own lookup, and as many entries are read as the longest of these lookups reads.
use Rattle.std.specs.Prelude.{ℕ, ◌+◌, ◌*◌, ◌^◌, max, Bool, false, List, [], ◌∷◌, map, ltb, length}
use Rattle.std.proofs.lemmas.List.Edits.{sets}
use Rattle.section_bytes.specs.Read.{Result, gives, refused, pick}
use Rattle.section_bytes.specs.Error.{refusal}
use Rattle.section_bytes.specs.declared.common.DebugAddrBase.{DebugAddrBase}
use Rattle.section_bytes.specs.declared.common.Encoding.{Encoding}
use Rattle.section_bytes.specs.declared.endianity.RunTimeEndian.{RunTimeEndian}
use Rattle.section_bytes.specs.declared.error.Error.TheVariants.{TooManyAddresses, DescendingAddresses}
use Rattle.entries.specs.Listed.{no_expression}
use Rattle.entries.specs.Numbers.{Coding, dwarf, tabled}
use Rattle.entries.specs.declared.Expression.{Expression}
use Rattle.lists.specs.Open.{opened}
use Rattle.lists.specs.Convert.{table_at}
use Rattle.lists.specs.Walk.{listed, trace}
use Rattle.lists.specs.declared.Walk.{Walk}
use Rattle.lookups.specs.Lookup.{Found, found_carrying, stops_at, only, is_bounded, locations_from, lookup_range_in, lookup_location}
use Rattle.ffi_words.specs.Coverages.{count_written}
use Rattle.ffi_words.specs.Locations.{location_found}
use Rattle.ffi_words.specs.declared.coverages.YzCount.{YzCount}
use Rattle.ffi_words.specs.declared.locations.YzLocation.{YzLocation}
use Rattle.stacks.specs.Ascending.{ascends}

-- 20 for more than 64 addresses, then 21 for one that is above the one after it
unfoldable pub checked : List ℕ → Result Unit
checked addresses =
    pick (ltb 64 (length addresses)) (refusal TooManyAddresses) (pick (ascends addresses) (gives tt) (refusal DescendingAddresses))

-- how many entries a lookup reads: as many as the walk has counted at which it stops; none where the list is not opened
abbrev pub read_from : Result Walk → (Walk → Walk) → ℕ
read_from (gives w) stops = (stops w).entries
read_from (refused n vs) stops = 0

abbrev pub ranges_read : Coding → Encoding → RunTimeEndian → List ℕ → List ℕ → DebugAddrBase → ℕ → ℕ → ℕ → ℕ
ranges_read coding encoding endian s table tableBase offset base a =
    read_from (opened encoding s offset base) (λ w. stops_at a (trace (listed false coding encoding endian s) (table_at endian encoding tableBase table) encoding.address_size (length s) w))

-- a default location doesn't stop it
abbrev pub locations_read : Bool → Encoding → RunTimeEndian → List ℕ → List ℕ → DebugAddrBase → ℕ → ℕ → ℕ → ℕ
locations_read split encoding endian s table tableBase offset base a =
    read_from (opened encoding s offset base) (λ w. stops_at a (only is_bounded (locations_from split encoding endian s table tableBase w)))

-- the highest of the numbers that addresses have; 0 where there are none
unfoldable pub longest : (ℕ → ℕ) → List ℕ → ℕ
longest reads [] = 0
longest reads (a ∷ rest) = max (reads a) (longest reads rest)

-- an answer in words, as a caller in C has it; a range has no expression, and the empty part at the section's start stands for it
abbrev pub words : YzLocation → List ℕ
words y =
    (y.done.result + y.done.refusal * 2 ^ 32) ∷ y.done.refusal_value ∷ y.begin ∷ y.end ∷ y.expression.offset ∷ y.expression.length ∷ []

abbrev pub location_row : Result (Found Expression) → List ℕ
location_row r = words (location_found r)

abbrev pub range_row : Result (Found Unit) → List ℕ
range_row r = location_row (found_carrying (λ x. no_expression) r)

-- what a call answers, and what it leaves at the places of the answers
pub record Answers : Type 0 where
  pub read : Result ℕ
  pub rows : List (List ℕ)

abbrev pub answers : Result ℕ → List (List ℕ) → Answers
answers read rows = record { read = read; rows = rows }

abbrev pub on_checked : Result Unit → Answers → List (List ℕ) → Answers
on_checked (gives x) done rows = done
on_checked (refused n vs) done rows = answers (refused n vs) rows

-- by the answer of an address, and the number of entries that its lookup reads: each answer is put at its address's place, and what
-- stands behind them is left
unfoldable pub together : (ℕ → List ℕ) → (ℕ → ℕ) → List ℕ → List (List ℕ) → Answers
together row reads addresses rows =
    on_checked (checked addresses) (answers (gives (longest reads addresses)) (sets rows 0 (map row addresses))) rows

abbrev pub ranges_together : Coding → Encoding → RunTimeEndian → List ℕ → List ℕ → DebugAddrBase → ℕ → ℕ → List ℕ → List (List ℕ) → Answers
ranges_together coding encoding endian s table tableBase offset base addresses rows =
    together (λ a. range_row (lookup_range_in coding encoding endian s table tableBase offset base a)) (λ a. ranges_read coding encoding endian s table tableBase offset base a) addresses rows

abbrev pub lookup_ranges : Encoding → RunTimeEndian → List ℕ → List ℕ → DebugAddrBase → ℕ → ℕ → List ℕ → List (List ℕ) → Answers
lookup_ranges encoding endian s table tableBase offset base addresses rows = ranges_together (dwarf false) encoding endian s table tableBase offset base addresses rows

-- with the kind numbers of a table
abbrev pub lookup_ranges_by : List ℕ → Encoding → RunTimeEndian → List ℕ → List ℕ → DebugAddrBase → ℕ → ℕ → List ℕ → List (List ℕ) → Answers
lookup_ranges_by kinds encoding endian s table tableBase offset base addresses rows = ranges_together (tabled kinds) encoding endian s table tableBase offset base addresses rows

abbrev pub lookup_locations : Bool → Encoding → RunTimeEndian → List ℕ → List ℕ → DebugAddrBase → ℕ → ℕ → List ℕ → List (List ℕ) → Answers
lookup_locations split encoding endian s table tableBase offset base addresses rows =
    together (λ a. location_row (lookup_location split encoding endian s table tableBase offset base a)) (λ a. locations_read split encoding endian s table tableBase offset base a) addresses rows

-- what a call over C answers, and what it leaves at the places
pub record Counted : Type 0 where
  pub answer : YzCount
  pub rows : List (List ℕ)

abbrev pub counted : YzCount → List (List ℕ) → Counted
counted answer rows = record { answer = answer; rows = rows }

abbrev pub counted_of : Answers → Counted
counted_of x = counted (count_written x.read) x.rows
