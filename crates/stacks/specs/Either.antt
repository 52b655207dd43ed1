-- Both lists' lookups as one, by whether the list holds locations: what the code's one loop is held to. What a caller sees is in
-- specs/Stack.antt.
use Rattle.std.specs.Prelude.{ℕ, Bool, true, false, List, length}
use Rattle.section_bytes.specs.Read.{Result, gives, refused, and_then, pick}
use Rattle.entries.specs.Numbers.{Coding}
use Rattle.lists.specs.Open.{opened}
use Rattle.lists.specs.Convert.{table_in}
use Rattle.lists.specs.Walk.{CarriedIn, listed, item, trace}
use Rattle.lists.specs.declared.Unit.{Unit as DwarfUnit}
use Rattle.lists.specs.declared.Walk.{Walk}
use Rattle.lookups.specs.Lookup.{Found, found, not_there, holds, stops_at, only, is_bounded, locations_from, lookup_range_from_unit, lookup_location_from}
use Rattle.stacks.specs.Stack.{read_from, location_row, range_row, Answers, together}

-- in a unit: the lookup of an address from a walk on, its words, and the walk at which it stops
abbrev pub lookup_from : (l : Bool) → Coding → List ℕ → DwarfUnit → ℕ → Walk → Result (Found (CarriedIn l))
lookup_from true coding s u a w = lookup_location_from coding.split u.encoding u.endian s u.debug_addr.now u.debug_addr_base a w
lookup_from false coding s u a w = lookup_range_from_unit coding s u a w

abbrev pub row_in : (l : Bool) → Result (Found (CarriedIn l)) → List ℕ
row_in true r = location_row r
row_in false r = range_row r

abbrev pub stops_from : Bool → Coding → List ℕ → DwarfUnit → ℕ → Walk → Walk
stops_from true coding s u a w = stops_at a (only is_bounded (locations_from coding.split u.encoding u.endian s u.debug_addr.now u.debug_addr_base w))
stops_from false coding s u a w = stops_at a (trace (listed false coding u.encoding u.endian s) (table_in u) u.encoding.address_size (length s) w)

-- the words of its answer, and how many entries it reads
abbrev pub row_from : Bool → Coding → List ℕ → DwarfUnit → ℕ → Walk → List ℕ
row_from l coding s u a w = row_in l (lookup_from l coding s u a w)

abbrev pub reads_from : Bool → Coding → List ℕ → DwarfUnit → ℕ → Walk → ℕ
reads_from l coding s u a w = (stops_from l coding s u a w).entries

-- the answers of many addresses in the list at an offset
abbrev pub together_in : Bool → Coding → List ℕ → DwarfUnit → ℕ → ℕ → List ℕ → List (List ℕ) → Answers
together_in l coding s u offset base addresses rows =
    together (λ a. row_in l (and_then (opened u.encoding s offset base) (lookup_from l coding s u a)))
    (λ a. read_from (opened u.encoding s offset base) (stops_from l coding s u a)) addresses rows

-- what an address gets of an answer that is given where the reading ends: a default location if it holds it
abbrev pub given_to : {D : Type 0} → ℕ → Result (Found D) → Result (Found D)
given_to a (gives (found (item b e d))) = pick (holds a b e) (gives (found (item b e d))) (gives not_there)
given_to a (gives not_there) = gives not_there
given_to a (refused n vs) = refused n vs
