-- A walk with marks taken from call to call: the calls that read, and between them marks set and returned to.
use Rattle.std.specs.Prelude.{ℕ, List, [], ◌∷◌, ◌≢◌}
use Rattle.section_bytes.specs.Read.{Result}
use Rattle.marks.specs.Marks.{Keeping, Marked, marked, set_mark, return_to, answered}

-- calls that read: what each, with all else that it is lent, answers to a walk, and the walk that it hands back
pub record Reading (W : Type 0) : Type 1 where
  pub Call : Type 0
  pub Answer : Type 0
  pub answer : Call → W → Answer
  pub left : Answer → W

pub data Step (C : Type 0) : Type 0 where
  reads : C → Step C
  sets : ℕ → Step C
  returns : ℕ → Step C

-- what a step tells
pub data Tells (A : Type 0) : Type 0 where
  read : A → Tells A
  marking : Result Unit → Tells A

abbrev pub tells : {W M : Type 0} → Keeping W M → (r : Reading W) → Step r.Call → Marked W M → Tells r.Answer
tells k r (reads c) m = read (r.answer c m.walk)
tells k r (sets i) m = marking (answered m (set_mark k i m)).result
tells k r (returns i) m = marking (answered m (return_to k i m)).result

-- the walk with its marks behind a step, and behind several; a call that reads takes the walk and leaves the marks
abbrev pub after : {W M : Type 0} → Keeping W M → (r : Reading W) → Step r.Call → Marked W M → Marked W M
after k r (reads c) m = marked (r.left (r.answer c m.walk)) m.marks
after k r (sets i) m = (answered m (set_mark k i m)).then
after k r (returns i) m = (answered m (return_to k i m)).then

abbrev pub run : {W M : Type 0} → Keeping W M → (r : Reading W) → List (Step r.Call) → Marked W M → Marked W M
run k r [] m = m
run k r (s ∷ ss) m = run k r ss (after k r s m)

-- what several steps tell, one after the other
abbrev pub answers : {W M : Type 0} → Keeping W M → (r : Reading W) → List (Step r.Call) → Marked W M → List (Tells r.Answer)
answers k r [] m = []
answers k r (s ∷ ss) m = tells k r s m ∷ answers k r ss (after k r s m)

-- no return among them
abbrev pub NoReturn : {C : Type 0} → List (Step C) → Type 0
NoReturn [] = Unit
NoReturn (reads c ∷ ss) = NoReturn ss
NoReturn (sets i ∷ ss) = NoReturn ss
NoReturn (returns i ∷ ss) = ⊥

-- a mark is not set among them
abbrev pub NotSet : {C : Type 0} → ℕ → List (Step C) → Type 0
NotSet i [] = Unit
NotSet i (reads c ∷ ss) = NotSet i ss
NotSet i (sets j ∷ ss) = (i ≢ j) × NotSet i ss
NotSet i (returns j ∷ ss) = NotSet i ss

-- what holds of a walk is kept by each call that reads among them
abbrev pub KeptBy : {W : Type 0} → (r : Reading W) → (W → Type 0) → List (Step r.Call) → Type 0
KeptBy r P [] = Unit
KeptBy {W} r P (reads c ∷ ss) = ((w : W) → P w → P (r.left (r.answer c w))) × KeptBy r P ss
KeptBy r P (sets i ∷ ss) = KeptBy r P ss
KeptBy r P (returns i ∷ ss) = KeptBy r P ss
