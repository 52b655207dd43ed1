-- Addresses that are looked up together (docs/SCOPE.md, "Lookup of many addresses"): what a call answers, and what stands at the places
-- of the answers then.
use Rattle.std.specs.Prelude.{◌≡◌, refl, Bool, true, false, List, [], ◌∷◌, ◌++◌, ℕ, ◌+◌, ◌-◌, ◌*◌, ◌^◌, replicate}
use Rattle.section_bytes.specs.Read.{gives, refused}
use Rattle.section_bytes.specs.Endianity.{little}
use Rattle.section_bytes.specs.Leb128.{unsigned_from, unsigned}
use Rattle.section_bytes.specs.Reader.{skip, split, uint, is_size, address}
use Rattle.section_bytes.specs.declared.endianity.RunTimeEndian.{RunTimeEndian}
use Rattle.section_bytes.specs.declared.endianity.RunTimeEndian.TheVariants.{Little, Big}
use Rattle.tables.specs.Row.{row_at}
use Rattle.tables.specs.Addr.{address_at}
use Rattle.entries.specs.Forms.{versioned_length, block}
use Rattle.entries.specs.Kinds.{range_kinds, location_kinds, kind_of, coded, of_pair, bare, range_entry_by, location_entry, raw_at}
use Rattle.lists.specs.Convert.{convert}
use Rattle.lists.specs.Open.{one_more, opened}
use Rattle.lists.specs.Walk.{trace_from, trace}
use Rattle.lookups.specs.Lookup.{lookup_in, stops_at, location_in}
use Rattle.stacks.specs.Ascending.{ascends}
use Rattle.stacks.specs.Stack.{Answers, answers, checked, longest, together, lookup_ranges, lookup_ranges_by, lookup_locations}
use Rattle.cases.specs.Cases.{enc, table}

-- a call in a range list by byte order, version, address size, bytes and offset, then the addresses, and what stands at the places
-- before; rows by index are those of docs/SCOPE.md
ranges : RunTimeEndian → ℕ → ℕ → List ℕ → ℕ → List ℕ → List (List ℕ) → Answers
unfolding
    opened one_more trace trace_from convert address_at row_at range_entry_by raw_at coded bare of_pair kind_of range_kinds address skip uint is_size little unsigned unsigned_from lookup_in stops_at ascends checked longest together
ranges endian version size s offset addresses rows = lookup_ranges (enc version size) endian s table (record { 0 = 8 }) offset 0 addresses rows

-- by a table of kind numbers
ranges_by : List ℕ → List ℕ → List ℕ → List (List ℕ) → Answers
unfolding ranges
ranges_by kinds s addresses rows = lookup_ranges_by kinds (enc 5 4) Little s table (record { 0 = 8 }) 0 0 addresses rows

-- in a location list by whether it is split, version, address size, bytes and offset
locations : Bool → ℕ → ℕ → List ℕ → ℕ → List ℕ → List (List ℕ) → Answers
unfolding
    opened one_more trace trace_from convert address_at row_at location_entry raw_at coded bare of_pair kind_of location_kinds versioned_length block split address skip uint is_size little unsigned unsigned_from lookup_in stops_at location_in ascends checked longest together
locations dwo version size s offset addresses rows = lookup_locations dwo (enc version size) Little s table (record { 0 = 8 }) offset 0 addresses rows

-- of version 5 and address size 4, from the start
abbrev in_ranges : List ℕ → List ℕ → List (List ℕ) → Answers
in_ranges s addresses rows = ranges Little 5 4 s 0 addresses rows

abbrev in_locations : List ℕ → List ℕ → List (List ℕ) → Answers
in_locations s addresses rows = locations false 5 4 s 0 addresses rows

-- so many places, and what stands at each before a call
abbrev before : List ℕ
before = 1 ∷ 2 ∷ 3 ∷ 4 ∷ 5 ∷ 6 ∷ []

abbrev places : ℕ → List (List ℕ)
places n = replicate n before

-- so many entries were read, and these are the answers
abbrev read : ℕ → List (List ℕ) → Answers
read n rows = answers (gives n) rows

-- a call that is refused leaves the places as they were
abbrev refuses : ℕ → List (List ℕ) → Answers
refuses n rows = answers (refused n []) rows

-- an answer in words: a location by its bounds and its expression's place and length, a range by its bounds, "not there", a refusal
-- with its value
abbrev location : ℕ → ℕ → ℕ → ℕ → List ℕ
location b e offset len = 0 ∷ 0 ∷ b ∷ e ∷ offset ∷ len ∷ []

abbrev range : ℕ → ℕ → List ℕ
range b e = location b e 0 0

abbrev absent : List ℕ
absent = 3 ∷ 0 ∷ 0 ∷ 0 ∷ 0 ∷ 0 ∷ []

abbrev refusal : ℕ → ℕ → List ℕ
refusal n v = (4 + n * 2 ^ 32) ∷ v ∷ 0 ∷ 0 ∷ 0 ∷ 0 ∷ []

-- 0x10 to 0x20, 0x30 to 0x40, and a kind that there is not
abbrev two : List ℕ
two = 0x07 ∷ 0x10 ∷ 0x00 ∷ 0x00 ∷ 0x00 ∷ 0x10 ∷ 0x07 ∷ 0x30 ∷ 0x00 ∷ 0x00 ∷ 0x00 ∷ 0x10 ∷ []

abbrev damaged : List ℕ
damaged = two ++ 0x08 ∷ []

none : in_ranges damaged [] (places 2) ≡ read 0 (places 2)
unfolding ranges
none = refl

-- what is behind the last answer is not read; the place behind stays
first : in_ranges damaged (0x10 ∷ []) (places 2) ≡ read 1 (range 0x10 0x20 ∷ before ∷ [])
unfolding ranges
first = refl

equals : in_ranges damaged (0x10 ∷ 0x10 ∷ 0x1f ∷ []) (places 3) ≡ read 1 (range 0x10 0x20 ∷ range 0x10 0x20 ∷ range 0x10 0x20 ∷ [])
unfolding ranges
equals = refl

both : in_ranges damaged (0x10 ∷ 0x35 ∷ []) (places 4) ≡ read 2 (range 0x10 0x20 ∷ range 0x30 0x40 ∷ before ∷ before ∷ [])
unfolding ranges
both = refl

-- a refusal answers what has no answer yet, and is not counted
between : in_ranges damaged (0x10 ∷ 0x20 ∷ 0x35 ∷ []) (places 3) ≡ read 2 (range 0x10 0x20 ∷ refusal 3 8 ∷ range 0x30 0x40 ∷ [])
unfolding ranges
between = refl

alone : in_ranges damaged (0x20 ∷ []) (places 1) ≡ read 2 (refusal 3 8 ∷ [])
unfolding ranges
alone = refl

most : in_ranges damaged (replicate 64 1) (places 64) ≡ read 2 (replicate 64 (refusal 3 8))
unfolding ranges
most = refl

-- descending addresses, at the first and at the last place; and too many, which is told first
descending : in_ranges damaged (0x35 ∷ 0x10 ∷ []) (places 3) ≡ refuses 21 (places 3)
unfolding ranges
descending = refl

descending_last : in_ranges damaged (0x10 ∷ 0x20 ∷ 0x35 ∷ 0x34 ∷ []) (places 4) ≡ refuses 21 (places 4)
unfolding ranges
descending_last = refl

descending_most : in_ranges damaged (replicate 63 1 ++ 0 ∷ []) (places 64) ≡ refuses 21 (places 64)
unfolding ranges
descending_most = refl

too_many : in_ranges damaged (replicate 65 1) (places 64) ≡ refuses 20 (places 64)
unfolding ranges
too_many = refl

too_many_descending : in_ranges damaged (replicate 64 1 ++ 0 ∷ []) (places 64) ≡ refuses 20 (places 64)
unfolding ranges
too_many_descending = refl

-- a default location is for the addresses that no bounded entry is for
abbrev default_first : List ℕ
default_first = 0x05 ∷ 0x01 ∷ 0x50 ∷ 0x07 ∷ 0x10 ∷ 0x00 ∷ 0x00 ∷ 0x00 ∷ 0x20 ∷ 0x00 ∷ 0x00 ∷ 0x00 ∷ 0x01 ∷ 0x51 ∷ []

defaults : in_locations (default_first ++ 0x00 ∷ []) (0 ∷ 0x10 ∷ 0x20 ∷ (2 ^ 64 - 1) ∷ []) (places 4)
    ≡ read 3 (location 0 (2 ^ 64 - 1) 2 1 ∷ location 0x10 0x20 13 1 ∷ location 0 (2 ^ 64 - 1) 2 1 ∷ absent ∷ [])
unfolding locations
defaults = refl

default_refused : in_locations (default_first ++ 0x09 ∷ []) (0 ∷ 0x10 ∷ []) (places 2) ≡ read 2 (refusal 4 9 ∷ location 0x10 0x20 13 1 ∷ [])
unfolding locations
default_refused = refl

-- it is counted
default_counted : in_locations (default_first ++ 0x09 ∷ []) (0x10 ∷ []) (places 1) ≡ read 2 (location 0x10 0x20 13 1 ∷ [])
unfolding locations
default_counted = refl

-- behind the last bounded entry found it is over
default_unread : in_locations (default_first ++ 0x00 ∷ []) (0x10 ∷ 0x1f ∷ []) (places 2) ≡ read 2 (location 0x10 0x20 13 1 ∷ location 0x10 0x20 13 1 ∷ [])
unfolding locations
default_unread = refl

-- what refuses the opening answers each, and nothing is read; without addresses nothing is opened, and addresses are looked at before
size_5 : ranges Little 5 5 (0x00 ∷ []) 0 (1 ∷ []) (places 2) ≡ read 0 (refusal 6 5 ∷ before ∷ [])
unfolding ranges
size_5 = refl

size_5_none : ranges Little 5 5 (0x00 ∷ []) 0 [] (places 2) ≡ read 0 (places 2)
unfolding ranges
size_5_none = refl

size_5_descending : ranges Little 5 5 (0x00 ∷ []) 0 (0x35 ∷ 0x10 ∷ []) (places 2) ≡ refuses 21 (places 2)
unfolding ranges
size_5_descending = refl

past_the_section : ranges Little 5 4 (0x00 ∷ []) 2 (1 ∷ 2 ∷ []) (places 2) ≡ read 0 (refusal 1 0 ∷ refusal 1 0 ∷ [])
unfolding ranges
past_the_section = refl

-- the end mark is counted where there is one
no_mark : in_ranges two (0x50 ∷ []) (places 1) ≡ read 2 (absent ∷ [])
unfolding ranges
no_mark = refl

end_mark : in_ranges (0x00 ∷ []) (5 ∷ []) (places 1) ≡ read 1 (absent ∷ [])
unfolding ranges
end_mark = refl

-- a row that the address table doesn't have, between two ranges: its entry is counted, and it answers all that wait; where none waits it
-- is not read
abbrev failing : List ℕ
failing = 0x04 ∷ 0x10 ∷ 0x20 ∷ 0x02 ∷ 0x00 ∷ 0x02 ∷ 0x04 ∷ 0x30 ∷ 0x40 ∷ 0x00 ∷ []

failed : in_ranges failing (5 ∷ 0x10 ∷ 0x35 ∷ []) (places 3) ≡ read 2 (refusal 1 0 ∷ range 0x10 0x20 ∷ refusal 1 0 ∷ [])
unfolding ranges
failed = refl

failed_unread : in_ranges failing (0x10 ∷ 0x1f ∷ []) (places 2) ≡ read 1 (range 0x10 0x20 ∷ range 0x10 0x20 ∷ [])
unfolding ranges
failed_unread = refl

failed_default : in_locations (0x05 ∷ 0x01 ∷ 0x50 ∷ 0x02 ∷ 0x00 ∷ 0x02 ∷ 0x01 ∷ 0x51 ∷ 0x00 ∷ []) (5 ∷ []) (places 1) ≡ read 2 (refusal 1 0 ∷ [])
unfolding locations
failed_default = refl

-- ranges in descending order; one in another, of which the first in the list answers; entries that hold nothing are counted
backwards : in_ranges (0x04 ∷ 0x30 ∷ 0x40 ∷ 0x04 ∷ 0x10 ∷ 0x20 ∷ 0x08 ∷ []) (0x10 ∷ 0x35 ∷ []) (places 2) ≡ read 2 (range 0x10 0x20 ∷ range 0x30 0x40 ∷ [])
unfolding ranges
backwards = refl

nested : in_ranges (0x04 ∷ 0x18 ∷ 0x20 ∷ 0x04 ∷ 0x10 ∷ 0x30 ∷ 0x04 ∷ 0x20 ∷ 0x28 ∷ 0x00 ∷ []) (0x10 ∷ 0x18 ∷ 0x20 ∷ []) (places 3)
    ≡ read 2 (range 0x10 0x30 ∷ range 0x18 0x20 ∷ range 0x10 0x30 ∷ [])
unfolding ranges
nested = refl

holding_nothing : in_ranges (0x04 ∷ 0x05 ∷ 0x05 ∷ 0x05 ∷ 0x00 ∷ 0x10 ∷ 0x00 ∷ 0x00 ∷ 0x04 ∷ 0x01 ∷ 0x02 ∷ 0x00 ∷ []) (0x1001 ∷ []) (places 1) ≡ read 3 (range 0x1001 0x1002 ∷ [])
unfolding ranges
holding_nothing = refl

-- bare pairs with a base address among them, and bare locations; three bytes; the other order; split lists with a row by index
bare_pairs : ranges Little 4 2 (0x10 ∷ 0x00 ∷ 0x20 ∷ 0x00 ∷ 0xff ∷ 0xff ∷ 0x00 ∷ 0x10 ∷ 0x10 ∷ 0x00 ∷ 0x20 ∷ 0x00 ∷ 0x00 ∷ 0x00 ∷ 0x00 ∷ 0x00 ∷ []) 0
    (0x10 ∷ 0x20 ∷ 0x1010 ∷ []) (places 3)
    ≡ read 4 (range 0x10 0x20 ∷ absent ∷ range 0x1010 0x1020 ∷ [])
unfolding ranges
bare_pairs = refl

bare_locations : locations false 4 2 (0x05 ∷ 0x10 ∷ 0x00 ∷ 0x20 ∷ 0x00 ∷ 0x02 ∷ 0x00 ∷ 0x50 ∷ 0x51 ∷ 0x00 ∷ []) 1 (0x10 ∷ 0x20 ∷ []) (places 2)
    ≡ read 1 (location 0x10 0x20 7 2 ∷ refusal 1 0 ∷ [])
unfolding locations
bare_locations = refl

three_bytes : ranges Little 5 3 (0x06 ∷ 0x01 ∷ 0x02 ∷ 0x03 ∷ 0x04 ∷ 0x05 ∷ 0x06 ∷ 0x00 ∷ []) 0 (0x030200 ∷ 0x030201 ∷ 0x060503 ∷ 0x060504 ∷ []) (places 4)
    ≡ read 2 (absent ∷ range 0x030201 0x060504 ∷ range 0x030201 0x060504 ∷ absent ∷ [])
unfolding ranges
three_bytes = refl

big_endian : ranges Big 5 4 (0x06 ∷ 0x00 ∷ 0x00 ∷ 0x00 ∷ 0x10 ∷ 0x00 ∷ 0x00 ∷ 0x00 ∷ 0x20 ∷ 0x00 ∷ []) 0 (0x10 ∷ 0x20 ∷ []) (places 2) ≡ read 2 (range 0x10 0x20 ∷ absent ∷ [])
unfolding ranges
big_endian = refl

split_4 : locations true 4 4 (0x05 ∷ 0x01 ∷ 0x00 ∷ 0x50 ∷ 0x03 ∷ 0x00 ∷ 0x08 ∷ 0x00 ∷ 0x00 ∷ 0x00 ∷ 0x01 ∷ 0x00 ∷ 0x51 ∷ 0x00 ∷ []) 0 (0x0f ∷ 0x10 ∷ 0x18 ∷ []) (places 3)
    ≡ read 3 (location 0 (2 ^ 64 - 1) 3 1 ∷ location 0x10 0x18 12 1 ∷ location 0 (2 ^ 64 - 1) 3 1 ∷ [])
unfolding locations
split_4 = refl

-- by the eight codes the other way round, kind 7 first: 3 for offsets, 7 for the end; a code without a kind
abbrev reversed : List ℕ
reversed = 7 ∷ 6 ∷ 5 ∷ 4 ∷ 3 ∷ 2 ∷ 1 ∷ 0 ∷ []

by_table : ranges_by reversed (0x03 ∷ 0x10 ∷ 0x20 ∷ 0x03 ∷ 0x30 ∷ 0x40 ∷ 0x07 ∷ []) (0x10 ∷ 0x20 ∷ 0x35 ∷ []) (places 3)
    ≡ read 3 (range 0x10 0x20 ∷ absent ∷ range 0x30 0x40 ∷ [])
unfolding ranges_by
by_table = refl

by_table_refused : ranges_by reversed (0x03 ∷ 0x10 ∷ 0x20 ∷ 0x08 ∷ []) (0x10 ∷ 0x20 ∷ []) (places 2) ≡ read 1 (range 0x10 0x20 ∷ refusal 3 8 ∷ [])
unfolding ranges_by
by_table_refused = refl
