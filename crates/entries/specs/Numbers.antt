-- Numbers of kinds (docs/SCOPE.md, "Kind numbers"): which kind of range list entries a code stands for, by DWARF or by a table of an
-- older compiler, and which tables are loaded. What a table does to a list is stated in Renumbered of the lists.
use Rattle.std.specs.Prelude.{ℕ, zero, suc, Bool, true, false, ◌&&◌, ◌||◌, List, [], ◌∷◌, leb, ltb, eqb, length, get_or, Some, None, Ok, Err}
use Rattle.std.specs.Borrow.{Bor}
use Rattle.std.specs.declared.option.Option.{Option}
use Rattle.std.specs.declared.result.Result.{Result as Answer}
use Rattle.section_bytes.specs.declared.error.Error.{Error}
use Rattle.section_bytes.specs.Read.{Result, gives, refused, Read, pick}
use Rattle.section_bytes.specs.Error.{number, refusal}
use Rattle.section_bytes.specs.declared.error.Error.TheVariants.{UnknownRangeListsEntry, BadKindTable}

-- the number of a code's kind: in DWARF the code itself
abbrev pub itself : ℕ → ℕ
itself code = code

-- by a table, what stands at the code; past the table's end 255. This, and 8 to 254, is the number of no kind
abbrev pub by_table : List ℕ → ℕ → ℕ
by_table t code = get_or t code 255

-- the number of the kind that a table has for a code, and 255 for none: what a kind byte is renumbered to
abbrev pub number_by : List ℕ → ℕ → ℕ
number_by kinds code = pick (ltb (by_table kinds code) 8) (by_table kinds code) 255

-- what is read behind a renumbered kind byte: a code without a kind is refused as the list has it, and not as it is renumbered
abbrev pub named : {A : Type 0} → ℕ → Read A → Read A
named code (gives x) = gives x
named code (refused n vs) = pick (eqb n (number (UnknownRangeListsEntry code))) (refusal (UnknownRangeListsEntry code)) (refused n vs)

abbrev pub number_in : Bool → List ℕ → ℕ → ℕ
number_in true t code = by_table t code
number_in false t code = itself code

-- by a table that there may be
abbrev pub numbers_of : Option (Bor (List ℕ)) → ℕ → ℕ
numbers_of None code = itself code
numbers_of (Some t) code = by_table t.now code

-- how a list's entries are coded: as in GNU split lists or not, which is asked of location lists alone; and by which numbers of kinds,
-- which is asked of range lists alone
pub record Coding : Type 0 where
  pub split : Bool
  pub number : ℕ → ℕ

abbrev pub coding_of : Bool → Bool → List ℕ → Coding
coding_of split tabled t = record { split = split; number = number_in tabled t }

-- DWARF's coding, and that of a table
abbrev pub dwarf : Bool → Coding
dwarf split = record { split = split; number = itself }

abbrev pub tabled : List ℕ → Coding
tabled t = record { split = false; number = by_table t }

-- every byte is the number of a kind, or 255
unfoldable pub are_numbers : List ℕ → Bool
are_numbers [] = true
are_numbers (b ∷ t) = (ltb b 8 || eqb b 255) && are_numbers t

-- how many codes a kind has
unfoldable pub codes_of : ℕ → List ℕ → ℕ
codes_of k [] = 0
codes_of k (b ∷ t) = pick (eqb b k) (suc (codes_of k t)) (codes_of k t)

-- none of the first kinds has two
unfoldable pub none_twice : ℕ → List ℕ → Bool
none_twice zero t = true
none_twice (suc k) t = leb (codes_of k t) 1 && none_twice k t

-- the tables that are loaded: 256 bytes, no kind with two codes, and one for kind 0, without which no list would end
unfoldable pub is_table : List ℕ → Bool
is_table t = eqb (length t) 256 && are_numbers t && none_twice 8 t && ltb 0 (codes_of 0 t)

unfoldable pub loading : List ℕ → Result Unit
loading t = pick (is_table t) (gives tt) (refusal BadKindTable)

abbrev pub told_loading : Answer Unit Error → Result Unit
told_loading (Ok u) = gives tt
told_loading (Err e) = refusal e
