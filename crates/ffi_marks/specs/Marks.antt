-- Marks over C: a walk is what its four words hold, a mark five words.
use Rattle.std.specs.Prelude.{ℕ, List, [], ◌∷◌, refl, get_or}
use Rattle.section_bytes.specs.Read.{Result, gives, refused}
use Rattle.lists.specs.Open.{walk_at}
use Rattle.lists.specs.declared.Walk.{Walk}
use Rattle.marks.specs.Marks.{Keeping, Marked}
use Rattle.ffi_words.specs.Common.{is_set, done, refused_by, Left, left}
use Rattle.ffi_words.specs.Walks.{walk_in, walk_out}
use Rattle.ffi_words.specs.declared.common.YzDone.{YzDone}

-- the walk, and the word that says whether its list is split
pub record Held : Type 0 where
  pub walk : Walk
  pub split : ℕ

abbrev pub held : List ℕ → Held
held ws = record { walk = walk_in ws; split = get_or ws 3 0 }

abbrev pub held_out : Held → List ℕ
held_out h = walk_out h.walk h.split

-- a mark: whether it is set, any word but 0, and the words of the walk
abbrev pub words : Keeping Held (List ℕ)
words =
    record {
      unset = [];
      set_to = λ h. 1 ∷ held_out h;
      is_set = λ m. is_set (get_or m 0 0);
      walk_of = λ m. record { walk = walk_at (get_or m 1 0) (get_or m 2 0) (get_or m 3 0); split = get_or m 4 0 };
      unset_not_set = refl;
      set_to_set = λ h. refl;
      set_to_walk = λ h. refl;
    }

-- what a call comes to, and what it leaves in the lent marks
pub record LeftMarks : Type 0 where
  pub answer : YzDone
  pub lent : List (List ℕ)

abbrev pub left_marks : YzDone → List (List ℕ) → LeftMarks
left_marks d ms = record { answer = d; lent = ms }

abbrev pub marks_left : List (List ℕ) → Result (Marked Held (List ℕ)) → LeftMarks
marks_left ms (gives m) = left_marks done m.marks
marks_left ms (refused n vs) = left_marks (refused_by n vs) ms

-- and what a return leaves in the words of the walk
abbrev pub walk_left : List ℕ → Result (Marked Held (List ℕ)) → Left YzDone
walk_left ws (gives m) = left done (held_out m.walk)
walk_left ws (refused n vs) = left (refused_by n vs) ws
