-- What a list covers, from its bytes alone: the ranges it yields from opening to its first end, and their runs.
use Rattle.std.specs.Prelude.{ℕ, zero, suc, ◌<◌, Bool, true, false, List, [], ◌∷◌, length, slice_index, Some, None}
use Rattle.std.specs.Borrow.{Bor}
use Rattle.std.specs.declared.option.Option.{Option}
use Rattle.section_bytes.specs.Common.{is_split}
use Rattle.entries.specs.declared.Lists.{Lists}
use Rattle.entries.specs.declared.Lists.TheVariants.{Ranges, Locations}
use Rattle.coverage.specs.declared.Source as code
use Rattle.section_bytes.specs.Read.{Result, gives, refused, and_then}
use Rattle.section_bytes.specs.Error.{refusal}
use Rattle.section_bytes.specs.declared.common.DebugAddrBase.{DebugAddrBase}
use Rattle.section_bytes.specs.declared.common.Encoding.{Encoding}
use Rattle.section_bytes.specs.declared.common.Format.{Format}
use Rattle.section_bytes.specs.declared.endianity.RunTimeEndian.{RunTimeEndian}
use Rattle.section_bytes.specs.declared.endianity.RunTimeEndian.TheVariants.{Little}
use Rattle.section_bytes.specs.declared.error.Error.TheVariants.{TooManyRanges}
use Rattle.lists.specs.Open.{opened}
use Rattle.lists.specs.Convert.{table_at}
use Rattle.lists.specs.Walk.{Listing, ranges, ranges_by, locations, item, Trace, over, trace, handed}
use Rattle.lists.specs.declared.Walk.{Walk}
use Rattle.coverage.specs.Ranges.{Range, Covers, limit, runs}

-- the ranges that a list yields, in order, with room for some number of them: the first refusal met is the answer, or
-- refusal 10 at the first range without room, whichever comes first (docs/SCOPE.md, "Refusals")
unfoldable pub yielded_in : {D : Type 0} → ℕ → Trace D → Result (List Range)
yielded_in room (over w) = gives []
yielded_in room (handed (refused n vs) w t) = refused n vs
yielded_in zero (handed (gives i) w t) = refusal TooManyRanges
yielded_in (suc room) (handed (gives (item b e d)) w t) = and_then (yielded_in room t) (λ rs. gives ((b, e) ∷ rs))

-- whether a list holds ranges or locations, and then whether it is split; the table of kind numbers that a range list is walked with
-- belongs to it (docs/SCOPE.md, "Demand 3")
pub data Holds : Type 0 where
  range_list : Holds
  range_list_by : List ℕ → Holds
  location_list : Bool → Holds

-- the same as the code has it
abbrev pub ranges_held : Option (Bor (List ℕ)) → Holds
ranges_held None = range_list
ranges_held (Some t) = range_list_by t.now

abbrev pub holding : Lists → Holds
holding (Ranges kinds) = ranges_held kinds
holding (Locations file) = location_list (is_split file)

-- the words by which the code is told beforehand what a list holds: whether locations, that is `are_locations`, and whether a table
-- belongs to it
abbrev pub is_tabled : Option (Bor (List ℕ)) → Bool
is_tabled None = false
is_tabled (Some t) = true

abbrev pub has_table : Lists → Bool
has_table (Ranges kinds) = is_tabled kinds
has_table (Locations file) = false

-- what a list holds as two words say it, with the table or the file type that it has; in place of one that it doesn't have stands the
-- empty table, and an ordinary file
abbrev pub numbers_held : Lists → List ℕ
numbers_held (Ranges None) = []
numbers_held (Ranges (Some t)) = t.now
numbers_held (Locations file) = []

abbrev pub split_held : Lists → Bool
split_held (Ranges kinds) = false
split_held (Locations file) = is_split file

abbrev pub holding_as : Bool → Bool → Lists → Holds
holding_as true tabled lists = location_list (split_held lists)
holding_as false true lists = range_list_by (numbers_held lists)
holding_as false false lists = range_list

-- a list: its sections, offset, base address, address table and table base, version and size, byte order, and what it holds
-- (docs/SCOPE.md, "Demand 3")
pub record Source : Type 0 where
  pub section : List ℕ
  pub table : List ℕ
  pub offset : ℕ
  pub base_address : ℕ
  pub table_base : DebugAddrBase
  pub encoding : Encoding
  pub endian : RunTimeEndian
  pub holds : Holds

-- the same from its parts
abbrev pub source : Holds → Encoding → RunTimeEndian → List ℕ → ℕ → ℕ → List ℕ → DebugAddrBase → Source
source holds encoding endian s offset base table tableBase =
    record {
      section = s;
      table = table;
      offset = offset;
      base_address = base;
      table_base = tableBase;
      encoding = encoding;
      endian = endian;
      holds = holds;
    }

-- a list as the code has it
abbrev pub source_in : code.Source → Source
source_in x = source (holding x.lists) x.unit.encoding x.unit.endian x.section.now x.offset.0 x.base_address x.unit.debug_addr.now x.unit.debug_addr_base

-- the same as two words say what it holds
abbrev pub source_as : Bool → Bool → code.Source → Source
source_as locations tabled x = source (holding_as locations tabled x.lists) x.unit.encoding x.unit.endian x.section.now x.offset.0 x.base_address x.unit.debug_addr.now x.unit.debug_addr_base

-- how a list's entries are read
abbrev pub listing : Holds → Encoding → RunTimeEndian → List ℕ → Listing
listing range_list encoding endian s = ranges encoding endian s
listing (range_list_by kinds) encoding endian s = ranges_by kinds encoding endian s
listing (location_list split) encoding endian s = locations split encoding endian s

-- what a list does from a walk on
unfoldable pub trace_of : (x : Source) → Walk → Trace (listing x.holds x.encoding x.endian x.section).Carried
trace_of x w =
    trace (listing x.holds x.encoding x.endian x.section) (table_at x.endian x.encoding x.table_base x.table)
    x.encoding.address_size (length x.section) w

abbrev pub opening : Source → Result Walk
opening x = opened x.encoding x.section x.offset x.base_address

-- the ranges that a list yields: its opening, then its walk (docs/SCOPE.md, "Demand 3")
unfoldable pub yielded_of : Source → Result (List Range)
yielded_of x = and_then (opening x) (λ w. yielded_in limit (trace_of x w))

-- the coverage of a list, or its refusal (docs/SCOPE.md, "Coverage")
unfoldable pub coverage_of : Source → Result (List Range)
coverage_of x = and_then (yielded_of x) (λ rs. gives (runs rs))

-- the addresses inside some range that is given; a refused list covers nothing
abbrev pub CoversGiven : Result (List Range) → ℕ → Type 0
CoversGiven (gives rs) a = Covers rs a
CoversGiven (refused n vs) a = ⊥

-- the addresses inside some range that a list yields (docs/SCOPE.md, "Coverage")
abbrev pub CoveredBy : Source → ℕ → Type 0
CoveredBy x a = CoversGiven (yielded_of x) a

-- a list whose sections hold bytes, as every lent section does
pub record Bytes (x : Source) : Type 0 where
  pub section : (i : ℕ) → slice_index x.section i < 256
  pub table : (i : ℕ) → slice_index x.table i < 256

-- how a canonical list is written: DWARF 5, address size 8; the format does not matter
abbrev pub canonical_encoding : Format → Encoding
canonical_encoding format = record { address_size = 8; format = format; version = 5 }

-- bytes as a section of their own, read from offset 0 as a little-endian range list of that encoding: so a canonical list is
-- walked in its turn (docs/SCOPE.md, "Demand 3")
abbrev pub read_back : Format → List ℕ → ℕ → List ℕ → DebugAddrBase → Source
read_back format s base table tableBase = source range_list (canonical_encoding format) Little s 0 base table tableBase
