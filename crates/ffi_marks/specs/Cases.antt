-- A mark over C that is not set, whatever walk stands in its words: 13 (docs/SCOPE.md, "Marks").
use Rattle.std.specs.Prelude.{◌≡◌, refl, List, [], ◌∷◌, ℕ}
use Rattle.section_bytes.specs.Read.{refused}
use Rattle.marks.specs.Marks.{marked, return_to}
use Rattle.ffi_marks.specs.Marks.{held, words}

abbrev clear : List ℕ
clear = 0 ∷ 0 ∷ 0 ∷ 0 ∷ 0 ∷ []

not_set : return_to words 0 (marked (held (18 ∷ 0x3000 ∷ 3 ∷ 0 ∷ [])) ((0 ∷ 6 ∷ 0x1000 ∷ 1 ∷ 1 ∷ []) ∷ clear ∷ clear ∷ clear ∷ clear ∷ clear ∷ clear ∷ clear ∷ [])) ≡ refused 13 []
not_set = refl
