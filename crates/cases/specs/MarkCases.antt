-- Marks, step after step (docs/SCOPE.md, "Marks"): each walk is shown with its place, its base address and the entries that were read.
use Rattle.std.specs.Prelude.{◌≡◌, refl, Bool, true, false, List, [], ◌∷◌, ◌≢◌, ℕ, ◌-◌, ◌^◌, Some, None}
use Rattle.std.specs.declared.option.Option.{Option}
use Rattle.section_bytes.specs.Read.{gives, refused}
use Rattle.section_bytes.specs.Endianity.{little}
use Rattle.section_bytes.specs.Leb128.{unsigned_from, unsigned}
use Rattle.section_bytes.specs.Padded.{is_padded, number_at}
use Rattle.section_bytes.specs.Reader.{skip, uint, split, is_size, address}
use Rattle.section_bytes.specs.Written.{unsigned_in}
use Rattle.section_bytes.specs.declared.endianity.RunTimeEndian.TheVariants.{Little}
use Rattle.tables.specs.Row.{row_at}
use Rattle.tables.specs.Next.{ends, hands}
use Rattle.tables.specs.Addr.{address_at}
use Rattle.entries.specs.Numbers.{dwarf}
use Rattle.entries.specs.Forms.{versioned_length, block}
use Rattle.entries.specs.Kinds.{range_kinds, location_kinds, kind_of, coded, range_entry_by, location_entry, raw_at}
use Rattle.entries.specs.Listed.{EntryIn}
use Rattle.entries.specs.Padded.{coded_padded, range_part, location_part}
use Rattle.entries.specs.declared.Expression.{Expression}
use Rattle.entries.specs.declared.RawRngListEntry.TheVariants.{BaseAddress, OffsetPair}
use Rattle.entries.specs.declared.RawLocListEntry.TheVariants as loc
use Rattle.lists.specs.Convert.{convert}
use Rattle.lists.specs.Open.{walk_at, one_more}
use Rattle.lists.specs.Walk.{item, comes, nothing, trace_from, trace, next, next_raw, convert_raw}
use Rattle.lists.specs.declared.Walk.{Walk}
use Rattle.marks.specs.Calls as calls
use Rattle.marks.specs.Calls.{Source, Call, Answer, over, AnyCall, AnyAnswer, on, of, every}
use Rattle.marks.specs.Marks.{Keeping, Marked, marked, fresh, set_mark, return_to, Handed, handed, answered}
use Rattle.marks.specs.Steps.{Step, reads, sets, returns, Tells, read, marking, run, answers, NoReturn, NotSet}
use Rattle.marks.specs.Told.{structs}
use Rattle.cases.specs.Cases.{enc, table, expression}

-- marks 0, 1, 2 and 7; the others are not set
abbrev eight : Option Walk → Option Walk → Option Walk → Option Walk → List (Option Walk)
eight a b c z = a ∷ b ∷ c ∷ None ∷ None ∷ None ∷ None ∷ z ∷ []

abbrev first : Walk
first = walk_at 6 0x1000 1

abbrev second : Walk
second = walk_at 12 0x2000 2

abbrev third : Walk
third = walk_at 18 0x3000 3

-- marks 0 and 1 are set, and the walk has gone on
abbrev some : Marked Walk (Option Walk)
some = marked third (eight (Some first) (Some second) None None)

-- a mark that was not set, the last one that there is, and one that was set before
set_seven : set_mark structs 7 some ≡ gives (marked third (eight (Some first) (Some second) None (Some third)))
set_seven = refl

set_one : set_mark structs 1 some ≡ gives (marked third (eight (Some first) (Some third) None None))
set_one = refl

-- place, base address and count come back, and the marks stay
return_one : return_to structs 1 some ≡ gives (marked second (eight (Some first) (Some second) None None))
return_one = refl

-- a number above 7, and a mark that is not set, whatever walk stands in it where it is kept as a flag beside a walk: 13, and nothing
-- changes
record Flagged : Type 0 where
  is_set : Bool
  walk : Walk

abbrev flag : Bool → Walk → Flagged
flag s w = record { is_set = s; walk = w }

abbrev flagged : Keeping Walk Flagged
flagged =
    record {
      unset = flag false (walk_at 0 0 0);
      set_to = λ w. flag true w;
      is_set = λ x. x.is_set;
      walk_of = λ x. x.walk;
      unset_not_set = refl;
      set_to_set = λ w. refl;
      set_to_walk = λ w. refl;
    }

abbrev unchanged : Handed Walk (Option Walk)
unchanged = handed (refused 13 []) some

above_seven : answered some (set_mark structs 8 some) ∷ answered some (set_mark structs (2 ^ 64 - 1) some) ∷ answered some (return_to structs 8 some)
    ∷ answered some (return_to structs (2 ^ 64 - 1) some) ∷ []
    ≡ unchanged ∷ unchanged ∷ unchanged ∷ unchanged ∷ []
above_seven = refl

never_set : answered some (return_to structs 2 some) ∷ answered some (return_to structs 7 some) ∷ [] ≡ unchanged ∷ unchanged ∷ []
never_set = refl

not_set : return_to flagged 0 (marked third (flag false first ∷ flagged.unset ∷ [])) ≡ refused 13 []
not_set = refl

none_set : return_to structs 0 (marked third (eight None None None None)) ≡ refused 13 []
none_set = refl

-- steps from a walk with no mark set: what they tell, and the walk with its marks behind them
along : (x : Source) → List (Step (Call x.locations)) → Walk → List (Tells (Answer x.locations))
unfolding
    next next_raw convert_raw one_more trace trace_from convert address_at row_at range_entry_by location_entry raw_at coded kind_of range_kinds location_kinds versioned_length block split range_part location_part
    coded_padded number_at is_padded address skip uint is_size little unsigned unsigned_from unsigned_in
along x steps w = answers structs (over x) steps (fresh structs w)

behind : (x : Source) → List (Step (Call x.locations)) → Walk → Marked Walk (Option Walk)
unfolding along
behind x steps w = run structs (over x) steps (fresh structs w)

-- a list by whether it holds locations, whether it is split, version, address size and bytes; a call of `next` with the table of docs/SCOPE.md
abbrev listing : Bool → Bool → ℕ → ℕ → List ℕ → Source
listing locations dwo version size s = record { locations = locations; coding = dwarf dwo; encoding = enc version size; endian = Little; section = s }

abbrev ranges : List ℕ → Source
ranges s = listing false false 5 4 s

abbrev call : {l : Bool} → Call l
call = calls.next table (record { 0 = 8 })

abbrev nexts : {l : Bool} → Step (Call l)
nexts = reads call

abbrev converts : {l : Bool} → EntryIn l → Step (Call l)
converts e = reads (calls.convert_raw table (record { 0 = 8 }) e)

-- what is told: an item, the end, a refusal, a raw entry without a padded number, each with the walk; a marking that is done, and one that is
-- refused
abbrev yields : ℕ → ℕ → Walk → Tells (Answer false)
yields b e w = read (calls.item (hands (gives (item b e tt)) w))

abbrev locates : ℕ → ℕ → Expression → Walk → Tells (Answer true)
locates b e x w = read (calls.item (hands (gives (item b e x)) w))

abbrev ended : {l : Bool} → Walk → Tells (Answer l)
ended w = read (calls.item (ends w))

abbrev fails : {l : Bool} → ℕ → List ℕ → Walk → Tells (Answer l)
fails n vs w = read (calls.item (hands (refused n vs) w))

abbrev raw : {l : Bool} → EntryIn l → Walk → Tells (Answer l)
raw e w = read (calls.raw (hands (gives (record { entry = e; padded = false })) w))

abbrev done : {A : Type 0} → Tells A
done = marking (gives tt)

abbrev no_mark : {A : Type 0} → Tells A
no_mark = marking (refused 13 [])

-- three ranges and the end mark
abbrev three : List ℕ
three =
    0x07 ∷ 0x10 ∷ 0x00 ∷ 0x00 ∷ 0x00 ∷ 0x01 ∷ 0x07 ∷ 0x20 ∷ 0x00 ∷ 0x00 ∷ 0x00 ∷ 0x01 ∷ 0x07 ∷ 0x30 ∷ 0x00 ∷ 0x00 ∷ 0x00 ∷ 0x01 ∷ 0x00 ∷ []

-- a mark that is set again: the later walk; two returns to a mark, and one to another; refused ones between
set_twice : along (ranges three) (nexts ∷ sets 2 ∷ nexts ∷ sets 2 ∷ nexts ∷ returns 2 ∷ nexts ∷ []) (walk_at 0 0 0)
    ≡ yields 0x10 0x11 (walk_at 6 0 1) ∷ done ∷ yields 0x20 0x21 (walk_at 12 0 2) ∷ done ∷ yields 0x30 0x31 (walk_at 18 0 3) ∷ done ∷ yields 0x30 0x31 (walk_at 18 0 3) ∷ []
unfolding along
set_twice = refl

two_returns : along (ranges three) (nexts ∷ sets 0 ∷ nexts ∷ sets 1 ∷ nexts ∷ nexts ∷ returns 5 ∷ returns 0 ∷ returns 8 ∷ returns 0 ∷ nexts ∷ returns 1 ∷ nexts ∷ nexts ∷ []) (walk_at 0 0 0)
    ≡ yields 0x10 0x11 (walk_at 6 0 1) ∷ done ∷ yields 0x20 0x21 (walk_at 12 0 2) ∷ done ∷ yields 0x30 0x31 (walk_at 18 0 3) ∷ ended (walk_at 19 0 4) ∷ no_mark ∷ done ∷ no_mark ∷ done
    ∷ yields 0x20 0x21 (walk_at 12 0 2) ∷ done ∷ yields 0x30 0x31 (walk_at 18 0 3) ∷ ended (walk_at 19 0 4) ∷ []
unfolding along
two_returns = refl

-- a return among settings, and refused steps: mark 2 stores the walk that the return brought back
return_and_set : behind (ranges three) (nexts ∷ sets 0 ∷ nexts ∷ sets 1 ∷ sets 8 ∷ returns 5 ∷ returns 0 ∷ sets 2 ∷ nexts ∷ nexts ∷ returns 8 ∷ sets 7 ∷ []) (walk_at 0 0 0)
    ≡ marked (walk_at 18 0 3) (eight (Some (walk_at 6 0 1)) (Some (walk_at 12 0 2)) (Some (walk_at 6 0 1)) (Some (walk_at 18 0 3)))
unfolding behind
return_and_set = refl

-- two base addresses: with its place the walk has the base address and the count of the mark again, and the call behind it its answer
abbrev based : List ℕ
based = 0x05 ∷ 0x00 ∷ 0x10 ∷ 0x00 ∷ 0x00 ∷ 0x04 ∷ 0x01 ∷ 0x02 ∷ 0x05 ∷ 0x00 ∷ 0x20 ∷ 0x00 ∷ 0x00 ∷ 0x04 ∷ 0x03 ∷ 0x04 ∷ 0x00 ∷ []

base_again : along (ranges based) (nexts ∷ sets 7 ∷ nexts ∷ returns 7 ∷ nexts ∷ []) (walk_at 0 0 0)
    ≡ yields 0x1001 0x1002 (walk_at 8 0x1000 2) ∷ done ∷ yields 0x2003 0x2004 (walk_at 16 0x2000 4) ∷ done ∷ yields 0x2003 0x2004 (walk_at 16 0x2000 4) ∷ []
unfolding along
base_again = refl

base_back : (behind (ranges based) (nexts ∷ sets 7 ∷ nexts ∷ returns 7 ∷ []) (walk_at 0 0 0)).walk ≡ walk_at 8 0x1000 2
unfolding behind
base_back = refl

-- a mark between a raw entry and its conversion: the base address is the one before
raw_again : along (ranges based)
    (reads calls.next_raw ∷ sets 4 ∷ converts (BaseAddress 0x1000) ∷ returns 4 ∷ reads calls.next_raw
    ∷ converts (OffsetPair 1 2) ∷ [])
    (walk_at 0 0 0)
    ≡ raw (BaseAddress 0x1000) (walk_at 5 0 1) ∷ done ∷ read (calls.converted (nothing (walk_at 5 0x1000 1))) ∷ done
    ∷ raw (OffsetPair 1 2) (walk_at 8 0 2) ∷ read (calls.converted (comes (gives (item 1 2 tt)) (walk_at 8 0 2))) ∷ []
unfolding along
raw_again = refl

-- a failed lookup behind the mark
lookup_again : along (ranges (0x02 ∷ 0x00 ∷ 0x02 ∷ 0x03 ∷ 0x00 ∷ 0x08 ∷ 0x00 ∷ [])) (sets 0 ∷ nexts ∷ nexts ∷ nexts ∷ returns 0 ∷ nexts ∷ nexts ∷ []) (walk_at 0 0 0)
    ≡ done ∷ fails 1 [] (walk_at 3 0 1) ∷ yields 0x10 0x18 (walk_at 6 0 2) ∷ ended (walk_at 7 0 3) ∷ done ∷ fails 1 [] (walk_at 3 0 1) ∷ yields 0x10 0x18 (walk_at 6 0 2) ∷ []
unfolding along
lookup_again = refl

-- a place behind the section's end, and address size 5, for which 6 waits for the call that reads
past_the_end : along (ranges three) (sets 0 ∷ returns 0 ∷ nexts ∷ []) (walk_at 99 0 7) ≡ done ∷ done ∷ ended (walk_at 99 0 7) ∷ []
unfolding along
past_the_end = refl

other_size : along (listing false false 5 5 (0x00 ∷ [])) (sets 0 ∷ returns 0 ∷ nexts ∷ returns 0 ∷ reads calls.next_raw ∷ []) (walk_at 0 0 7)
    ≡ done ∷ done ∷ fails 6 (5 ∷ []) (walk_at 1 0 7) ∷ done ∷ read (calls.raw (hands (refused 6 (5 ∷ [])) (walk_at 1 0 7))) ∷ []
unfolding along
other_size = refl

-- a location list: a base and a pair, a base and a pair, the mark; a split one of version 4: two rows of the table with lengths, the mark
abbrev located : List ℕ
located =
    0x06 ∷ 0x00 ∷ 0x10 ∷ 0x00 ∷ 0x00 ∷ 0x04 ∷ 0x01 ∷ 0x02 ∷ 0x01 ∷ 0x50 ∷ 0x06 ∷ 0x00 ∷ 0x20 ∷ 0x00 ∷ 0x00 ∷ 0x04 ∷ 0x03 ∷ 0x04 ∷ 0x02 ∷ 0x91 ∷ 0x08 ∷ 0x00 ∷ []

locations_again : along (listing true false 5 4 located) (nexts ∷ sets 6 ∷ nexts ∷ nexts ∷ returns 6 ∷ converts (loc.OffsetPair 1 2 (expression 9 1)) ∷ nexts ∷ []) (walk_at 0 0 0)
    ≡ locates 0x1001 0x1002 (expression 9 1) (walk_at 10 0x1000 2) ∷ done ∷ locates 0x2003 0x2004 (expression 19 2) (walk_at 21 0x2000 4) ∷ ended (walk_at 22 0x2000 5) ∷ done
    ∷ read (calls.converted (comes (gives (item 0x1001 0x1002 (expression 9 1))) (walk_at 10 0x1000 2))) ∷ locates 0x2003 0x2004 (expression 19 2) (walk_at 21 0x2000 4) ∷ []
unfolding along
locations_again = refl

split_again : along
    (listing true true 4 4
    (0x03 ∷ 0x00 ∷ 0x08 ∷ 0x00 ∷ 0x00 ∷ 0x00 ∷ 0x01 ∷ 0x00 ∷ 0x50 ∷ 0x03 ∷ 0x01 ∷ 0x04 ∷ 0x00 ∷ 0x00 ∷ 0x00 ∷ 0x02 ∷ 0x00 ∷ 0x91 ∷ 0x7c ∷ 0x00 ∷ []))
    (reads calls.next_raw ∷ sets 6 ∷ nexts ∷ nexts ∷ returns 6 ∷ nexts ∷ [])
    (walk_at 0 0 0)
    ≡ raw (loc.StartxLength (record { 0 = 0 }) 8 (expression 8 1)) (walk_at 9 0 1) ∷ done ∷ locates 0x20 0x24 (expression 17 2) (walk_at 19 0 2) ∷ ended (walk_at 20 0 3) ∷ done
    ∷ locates 0x20 0x24 (expression 17 2) (walk_at 19 0 2) ∷ []
unfolding along
split_again = refl

-- the walk of the location list taken over a range list, and back
along_any : List (Step AnyCall) → Walk → List (Tells AnyAnswer)
unfolding along
along_any steps w = answers structs every steps (fresh structs w)

another_list : along_any
    (reads (on (listing true false 5 4 located) call) ∷ sets 0 ∷ reads (on (ranges three) call) ∷ returns 0 ∷ reads (on (listing true false 5 4 located) call) ∷ [])
    (walk_at 0 0 0)
    ≡ read (of {l = true} (calls.item (hands (gives (item 0x1001 0x1002 (expression 9 1))) (walk_at 10 0x1000 2)))) ∷ done ∷ read (of {l = false} (calls.item (ends (walk_at 19 0x1000 3)))) ∷ done
    ∷ read (of {l = true} (calls.item (hands (gives (item 0x2003 0x2004 (expression 19 2))) (walk_at 21 0x2000 4)))) ∷ []
unfolding along_any
another_list = refl

-- what marks/specs/Returns.antt asks of steps is met: between a setting and the return by a call, the setting of another mark and a return,
-- behind the return by a call and any setting
asked_between : (i j : ℕ) → i ≢ j → NotSet {C = Call false} i (nexts ∷ sets j ∷ returns i ∷ [])
asked_between i j other = (other, tt)

asked_behind : (i : ℕ) → NoReturn {C = Call false} (nexts ∷ sets i ∷ [])
asked_behind i = tt
