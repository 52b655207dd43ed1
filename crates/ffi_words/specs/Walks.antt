-- A walk in four lent words: its place, its base address, how many raw entries it has read, and whether its list is split.
use Rattle.std.specs.Prelude.{ℕ, Bool, List, [], ◌∷◌, get_or}
use Rattle.section_bytes.specs.Read.{Result, gives, refused}
use Rattle.lists.specs.Open.{walk_at}
use Rattle.lists.specs.declared.Walk.{Walk}
use Rattle.ffi_words.specs.Common.{is_set, number_of, done, refused_by, Left, left}
use Rattle.ffi_words.specs.declared.common.YzDone.{YzDone}

abbrev pub count_in : List ℕ → ℕ
count_in ws = get_or ws 2 0

abbrev pub walk_in : List ℕ → Walk
walk_in ws = walk_at (get_or ws 0 0) (get_or ws 1 0) (count_in ws)

abbrev pub split_in : List ℕ → Bool
split_in ws = is_set (get_or ws 3 0)

abbrev pub walk_out : Walk → ℕ → List ℕ
walk_out w split = w.at ∷ w.base_address ∷ w.entries ∷ split ∷ []

-- a walk goes back into its words; whether its list is split stays as it was
abbrev pub handed_back : List ℕ → Walk → List ℕ
handed_back ws w = walk_out w (get_or ws 3 0)

-- a list that is opened; a refusal leaves the words as they were
abbrev pub opened_words : List ℕ → Bool → Result Walk → Left YzDone
opened_words ws split (gives w) = left done (walk_out w (number_of split))
opened_words ws split (refused n vs) = left (refused_by n vs) ws
