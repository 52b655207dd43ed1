-- The tables that are loaded (docs/SCOPE.md, "Kind numbers"): exactly those that the rules of tables allow, and DWARF's own among them.
use Rattle.std.specs.Prelude.{ℕ, ◌<◌, ◌≡◌, ◌⊎◌, true, List, ◌∷◌, length, get_or, replicate}
use Rattle.entries.specs.Numbers.{by_table, is_table}
use Rattle.entries.specs.Kinds.{range_kinds, kind_of}

-- the rules of tables, code by code
pub record Lawful (t : List ℕ) : Type 0 where
  -- a table has 256 bytes, one for each code
  pub size : length t ≡ 256
  -- each is the number of a kind, 0 to 7, or 255: the code has none. So 8 to 254 stand nowhere
  pub bytes : (code : ℕ) → code < 256 → (get_or t code 255 < 8) ⊎ (get_or t code 255 ≡ 255)
  -- no kind has two codes; codes without a kind may be many
  pub one_code : (a b : ℕ) → a < 256 → b < 256 → get_or t a 255 < 8 → get_or t a 255 ≡ get_or t b 255 → a ≡ b
  -- kind 0, the end of a list, has a code; kinds 1 to 7 may have none
  pub end_code : ℕ
  pub ends : (end_code < 256) × (get_or t end_code 255 ≡ 0)

-- DWARF's own numbers as a table: 0 to 7, and no kind from 8 on
unfoldable pub fixed_table : List ℕ
fixed_table = 0 ∷ 1 ∷ 2 ∷ 3 ∷ 4 ∷ 5 ∷ 6 ∷ 7 ∷ replicate 248 255

pub record LoadedExactly : Type 0 where
  -- every table that keeps the rules is loaded
  pub loads : (t : List ℕ) → Lawful t → is_table t ≡ true
  -- and no other is
  pub lawful : (t : List ℕ) → is_table t ≡ true → Lawful t
  -- DWARF's own table is loaded
  pub fixed : is_table fixed_table ≡ true
  -- and by it every code, also one that no byte is, has the kind that it has without a table
  pub same : (code : ℕ) → kind_of range_kinds (by_table fixed_table code) ≡ kind_of range_kinds code
