-- What a table of kind numbers does to a range list (docs/SCOPE.md, "Kind numbers"): by it a list is walked as the same list is by DWARF's
-- numbers when its kind bytes are renumbered. The proof is `renumbered_walks` in proofs/RenumberedLaws.antt.
use Rattle.std.specs.Prelude.{ℕ, zero, suc, ◌<◌, Bool, false, ◌||◌, List, [], ◌∷◌, ◌≡◌, leb, eqb, length, get_or}
use Rattle.section_bytes.specs.Read.{Result, gives, refused, got, Read, pick}
use Rattle.section_bytes.specs.declared.common.DebugAddrIndex.{DebugAddrIndex}
use Rattle.section_bytes.specs.declared.common.Encoding.{Encoding}
use Rattle.section_bytes.specs.declared.endianity.RunTimeEndian.{RunTimeEndian}
use Rattle.entries.specs.Numbers.{number_by, named}
use Rattle.entries.specs.Loaded.{fixed_table}
use Rattle.entries.specs.Forms.{Raw, stop, entry}
use Rattle.entries.specs.Kinds.{has_kinds}
use Rattle.entries.specs.Padded.{range_padded}
use Rattle.lists.specs.Walk.{Listing, ranges, ranges_by, trace, next, next_raw, noted, noted_range_by}
use Rattle.lists.specs.declared.Walk.{Walk}

-- what is met behind an entry; behind the end mark, and behind what is refused, nothing is
abbrev pub behind : {E : Type 0} → Read (Raw E) → (ℕ → List ℕ) → List ℕ
behind (gives (got (entry e) c)) go = go c
behind (gives (got stop c)) go = []
behind (refused n vs) go = []

-- the places of the kind bytes that reading meets from a place on, at most n: each entry takes a byte at least
unfoldable pub kind_bytes_from : Listing → ℕ → ℕ → ℕ → List ℕ
kind_bytes_from l len zero at = []
kind_bytes_from l len (suc n) at = pick (leb len at) [] (at ∷ behind (l.read at) (kind_bytes_from l len n))

-- by a table; bare pairs have no kind bytes
unfoldable pub kind_bytes : List ℕ → Encoding → RunTimeEndian → List ℕ → ℕ → List ℕ
kind_bytes kinds encoding endian s at =
    pick (has_kinds false encoding.version) (kind_bytes_from (ranges_by kinds encoding endian s) (length s) (length s) at) []

unfoldable pub is_among : ℕ → List ℕ → Bool
is_among i [] = false
is_among i (at ∷ places) = eqb i at || is_among i places

-- bytes that stand from place i on: those at some places replaced, the others as they are
unfoldable pub replaced : List ℕ → (ℕ → ℕ) → ℕ → List ℕ → List ℕ
replaced places f i [] = []
replaced places f i (b ∷ s) = pick (is_among i places) (f b) b ∷ replaced places f (suc i) s

-- a section with the kind bytes of the list at a place renumbered
abbrev pub renumbered : List ℕ → Encoding → RunTimeEndian → List ℕ → ℕ → List ℕ
renumbered kinds encoding endian s at = replaced (kind_bytes kinds encoding endian s at) (number_by kinds) 0 s

-- a list in which a code without a kind is refused as another section has it
abbrev pub naming : List ℕ → Listing → Listing
naming s l =
    record {
      Entry = l.Entry;
      Carried = l.Carried;
      read = λ at. named (get_or s at 0) (l.read at);
      bounds_of = l.bounds_of;
      carried = l.carried;
    }

-- the list from a walk's place on, renumbered
abbrev pub renumbered_at : List ℕ → Encoding → RunTimeEndian → List ℕ → Walk → Listing
renumbered_at kinds encoding endian s w = naming s (ranges encoding endian (renumbered kinds encoding endian s w.at))

pub record RenumberedWalks (encoding : Encoding) (endian : RunTimeEndian) (s : List ℕ) : Type 1 where
  -- whatever the table: what the list does, and what each call answers, the padding among it
  pub walk : (kinds : List ℕ) (table : DebugAddrIndex → Result ℕ) (size : ℕ) (w : Walk)
      → trace (ranges_by kinds encoding endian s) table size (length s) w ≡ trace (renumbered_at kinds encoding endian s w) table size (length s) w
  pub call : (kinds : List ℕ) (table : DebugAddrIndex → Result ℕ) (size : ℕ) (w : Walk)
      → next (ranges_by kinds encoding endian s) table size (length s) w ≡ next (renumbered_at kinds encoding endian s w) table size (length s) w
  pub raw : (kinds : List ℕ) (w : Walk)
      → noted_range_by kinds encoding endian s w
      ≡ noted (range_padded encoding endian (renumbered kinds encoding endian s w.at) w.at)
      (next_raw (renumbered_at kinds encoding endian s w) encoding.address_size (length s) w)
  -- by DWARF's own table a list is the list that it is without one, and so is a list of bare pairs by any
  pub fixed : ranges_by fixed_table encoding endian s ≡ ranges encoding endian s
  pub bare : (kinds : List ℕ) → encoding.version < 5 → ranges_by kinds encoding endian s ≡ ranges encoding endian s
