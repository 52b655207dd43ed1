-- The calls that read with a walk of a list, ranges or locations: each with all that it is lent but the walk, and its answer as its
-- contract has it. A later call on walks is one more case of `Call`, of `Answer` and of the two functions.
use Rattle.std.specs.Prelude.{Bool, true, false, List, ℕ}
use Rattle.section_bytes.specs.declared.common.DebugAddrBase.{DebugAddrBase}
use Rattle.section_bytes.specs.declared.common.Encoding.{Encoding}
use Rattle.section_bytes.specs.declared.endianity.RunTimeEndian.{RunTimeEndian}
use Rattle.tables.specs.Next.{Next}
use Rattle.entries.specs.Numbers.{Coding}
use Rattle.entries.specs.Listed.{EntryIn}
use Rattle.entries.specs.Padded.{Noted}
use Rattle.lists.specs.Counted.{left_by, left_after}
use Rattle.lists.specs.Walk.{CarriedIn, Item, Outcome, next_of, noted_of, converted_range, converted_location}
use Rattle.lists.specs.declared.Walk.{Walk}
use Rattle.marks.specs.Steps.{Reading}

-- a list as its calls are told of it: whether it holds locations, and then how its entries are coded; how it is written; its section. So
-- the calls by a table of kind numbers are among them
pub record Source : Type 0 where
  pub locations : Bool
  pub coding : Coding
  pub encoding : Encoding
  pub endian : RunTimeEndian
  pub section : List ℕ

-- by the address table and its base, and the raw entry
pub data Call (l : Bool) : Type 0 where
  next : List ℕ → DebugAddrBase → Call l
  next_raw : Call l
  convert_raw : List ℕ → DebugAddrBase → EntryIn l → Call l

pub data Answer (l : Bool) : Type 0 where
  item : Next (Item (CarriedIn l)) Walk → Answer l
  raw : Next (Noted (EntryIn l)) Walk → Answer l
  converted : Outcome (CarriedIn l) → Answer l

abbrev pub converted_of : (l : Bool) → Encoding → RunTimeEndian → List ℕ → DebugAddrBase → Walk → EntryIn l → Outcome (CarriedIn l)
converted_of true encoding endian table tableBase w e = converted_location encoding endian table tableBase w e
converted_of false encoding endian table tableBase w e = converted_range encoding endian table tableBase w e

abbrev pub answer : (x : Source) → Call x.locations → Walk → Answer x.locations
answer x (next table tableBase) w = item (next_of x.locations x.coding x.encoding x.endian x.section table tableBase w)
answer x next_raw w = raw (noted_of x.locations x.coding x.encoding x.endian x.section w)
answer x (convert_raw table tableBase e) w = converted (converted_of x.locations x.encoding x.endian table tableBase w e)

abbrev pub left : {l : Bool} → Answer l → Walk
left (item n) = left_by n
left (raw n) = left_by n
left (converted o) = left_after o

-- the calls over one list
abbrev pub over : Source → Reading Walk
over x = record { Call = Call x.locations; Answer = Answer x.locations; answer = answer x; left = left }

-- all calls, each over a list of its own
pub data AnyCall : Type 0 where
  on : (x : Source) → Call x.locations → AnyCall

pub data AnyAnswer : Type 0 where
  of : {l : Bool} → Answer l → AnyAnswer

abbrev pub any_answer : AnyCall → Walk → AnyAnswer
any_answer (on x c) w = of (answer x c w)

abbrev pub any_left : AnyAnswer → Walk
any_left (of a) = left a

abbrev pub every : Reading Walk
every = record { Call = AnyCall; Answer = AnyAnswer; answer = any_answer; left = any_left }
