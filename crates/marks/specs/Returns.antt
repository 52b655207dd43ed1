-- What marks promise beyond a single call: the statements of docs/SCOPE.md, "Marks". Their proofs are `returns_for` for any calls, and
-- `walks_return` and `marks_counted` for those of lists, in proofs/ReturnLaws.antt.
use Rattle.std.specs.Prelude.{ℕ, ◌<◌, ◌^◌, true, false, List, [], ◌≢◌, ◌≡◌, length}
use Rattle.section_bytes.specs.Read.{gives, refused}
use Rattle.lists.specs.Counted.{entries_before}
use Rattle.lists.specs.Open.{opened}
use Rattle.lists.specs.Walk.{listed}
use Rattle.lists.specs.declared.Walk.{Walk}
use Rattle.marks.specs.Marks.{Keeping, Marked, fresh, stored}
use Rattle.marks.specs.Steps.{Reading, Step, sets, returns, marking, tells, after, run, answers, NoReturn, NotSet, KeptBy}
use Rattle.marks.specs.Calls.{Source, Call, over}
use Rattle.marks.specs.Told.{structs}

-- the walk with its marks when mark i is set, something is done and there is a return to the mark
abbrev pub returned : {W M : Type 0} → Keeping W M → (r : Reading W) → ℕ → List (Step r.Call) → Marked W M → Marked W M
returned k r i between m = after k r (returns i) (run k r between (after k r (sets i) m))

-- of the walk, and of each walk that a mark stores
abbrev pub Holds : {W M : Type 0} → Keeping W M → (W → Type 0) → Marked W M → Type 0
Holds k P m = P m.walk × ((i : ℕ) → k.is_set (stored k i m) ≡ true → P (k.walk_of (stored k i m)))

pub record Returns {W M : Type 0} (k : Keeping W M) (r : Reading W) : Type 1 where
  -- a walk that has just got its marks has eight, and none of them is set; nothing that is done changes how many they are
  pub eight : (w : W) → length (fresh k w).marks ≡ 8
  pub none_set : (w : W) (i : ℕ) → k.is_set (stored k i (fresh k w)) ≡ false
  pub as_many : (m : Marked W M) (steps : List (Step r.Call)) → length (run k r steps m).marks ≡ length m.marks
  -- whatever is done after a setting, calls, returns and settings of other marks, a return to the mark is done. Calls that follow it, with
  -- settings among them but no return, tell what they tell right after the setting, and leave the walk that they leave then
  pub done : (m : Marked W M) → length m.marks ≡ 8 → (i : ℕ) → i < 8 → (between : List (Step r.Call)) → NotSet i between
      → tells k r (returns i) (run k r between (after k r (sets i) m)) ≡ marking (gives tt)
  pub again : (m : Marked W M) → length m.marks ≡ 8 → (i : ℕ) → i < 8 → (between next : List (Step r.Call)) → NotSet i between → NoReturn next
      → answers k r next (returned k r i between m) ≡ answers k r next (after k r (sets i) m)
  pub walk_again : (m : Marked W M) → length m.marks ≡ 8 → (i : ℕ) → i < 8 → (between next : List (Step r.Call)) → NotSet i between → NoReturn next
      → (run k r next (returned k r i between m)).walk ≡ (run k r next (after k r (sets i) m)).walk
  -- a mark that is not set, and isn't set since, has no return
  pub never_set : (m : Marked W M) (i : ℕ) → k.is_set (stored k i m) ≡ false → (steps : List (Step r.Call)) → NotSet i steps
      → tells k r (returns i) (run k r steps m) ≡ marking (refused 13 [])
  -- a number above 7 is refused
  pub above : (m : Marked W M) (i : ℕ) → 7 < i → (tells k r (sets i) m ≡ marking (refused 13 [])) × (tells k r (returns i) m ≡ marking (refused 13 []))
  -- a refused call changes nothing, a setting neither the walk nor another mark, a return no mark
  pub refused_set : (m : Marked W M) (i n : ℕ) (vs : List ℕ) → tells k r (sets i) m ≡ marking (refused n vs) → after k r (sets i) m ≡ m
  pub refused_return : (m : Marked W M) (i n : ℕ) (vs : List ℕ) → tells k r (returns i) m ≡ marking (refused n vs) → after k r (returns i) m ≡ m
  pub set_walk : (m : Marked W M) (i : ℕ) → (after k r (sets i) m).walk ≡ m.walk
  pub set_others : (m : Marked W M) (i j : ℕ) → j ≢ i → stored k j (after k r (sets i) m) ≡ stored k j m
  pub return_marks : (m : Marked W M) (i : ℕ) → (after k r (returns i) m).marks ≡ m.marks
  -- what calls keep true of a walk is true of the walks that marks store and returns bring back
  pub passes : (P : W → Type 0) (m : Marked W M) → Holds k P m → (steps : List (Step r.Call)) → KeptBy r P steps → Holds k P (run k r steps m)

-- a walk that comes from the opening of a list by calls over it, with marks set and returned to, has counted the entries that the
-- definition reads before its place (`Counted`, lists/specs/Counted.antt)
abbrev pub MarksCounted : Source → Type 0
MarksCounted x = (offset base : ℕ) (w : Walk) → length x.section < 2 ^ 64 → opened x.encoding x.section offset base ≡ gives w
    → (steps : List (Step (Call x.locations)))
    → (run structs (over x) steps (fresh structs w)).walk.entries
    ≡ entries_before (listed x.locations x.coding x.encoding x.endian x.section) offset (run structs (over x) steps (fresh structs w)).walk.at
