-- What demand 3 needs of a list and of a coverage alike: their ranges are lawful, and lawful ranges are told by their
-- canonical bytes, which read back to them. Assumes nothing.
use mathlib.Core.Path.{◌≡◌, refl, sym, ap, ◌∙◌}
use mathlib.Core.Bool.{Bool, true, false}
use mathlib.Core.List.{List, []}
use mathlib.Core.Logic.{◌↔◌}
use Prim.Native.Nat.{ℕ, ◌≤◌, ◌<◌}
use native.Mathlib.Omega.{arith}
use lib.ListN.{length, get_or}
use Rattle.coverage.proofs.CallLaws.{coverage_is}
use Rattle.coverage.proofs.CoveredLaws.{mapped}
use Rattle.section_bytes.specs.Read.{Result, gives, refused, pick}
use Rattle.section_bytes.specs.declared.common.DebugAddrBase.{DebugAddrBase}
use Rattle.section_bytes.specs.declared.common.Format.{Format}
use Rattle.section_bytes.specs.declared.common.Format.TheVariants.{Dwarf32}
use Rattle.coverage.specs.Ranges.{Range, Covers, limit, runs}
use Rattle.coverage.specs.Covered.{Source, yielded_of, coverage_of, CoveredBy, Bytes, read_back}
use Rattle.coverage.specs.Kept.{ranges_of, is_lawful}
use Rattle.canonical.specs.Canonical.{canonical_bytes, canonical_of, canonical_kept}
use Rattle.coverage.specs.declared.Coverage.{Coverage}
use Rattle.coverage.proofs.Small.{Small}
use Rattle.canonical.proofs.CanonicalLaws.{canonical_bytes_lem, canonical_yields}
use Rattle.coverage.proofs.RangeLaws.{Same, unique, runs_length, runs_apart, runs_cover, runs_same, apart_proper}
use Rattle.coverage.proofs.CoveredLaws.{yielded_small, yielded_few, small_proper, runs_small}
use Rattle.coverage.proofs.KeptLaws.{Lawful}

-- a coverage's ranges are the runs of those that were yielded
pub mapped_gives : {A B : Type 0} (f : A → B) (r : Result A) {b : B} → mapped f r ≡ gives b → (a : A) × (r ≡ gives a) × (f a ≡ b)
mapped_gives f (gives a) e = (a, refl, cc)
mapped_gives f (refused n vs) e = let z : ◌≡◌ {A = ℕ} 0 1 = cc in absurd (omega arith)

module _ (x : Source) {xs rs : List Range} (yielded : yielded_of x ≡ gives xs) (run : runs xs ≡ rs) where
  runs_covers : (a : ℕ) → Covers rs a ↔ CoveredBy x a
  runs_covers a = rw (yielded, ← run) (runs_cover xs a)

  runs_lawful : Bytes x → Lawful rs
  runs_lawful b =
      let s : Small xs = rw yielded at (yielded_small x b) in
      let f : length xs ≤ limit = rw yielded at (yielded_few x) in
      rw (← run)
      (record {
        apart = runs_apart xs (small_proper xs s);
        small = runs_small xs s;
        few = omega (arith, runs_length xs);
      })

module _ (x : Source) {rs : List Range} (covered : coverage_of x ≡ gives rs) where
  yielded_runs : (xs : List Range) × (yielded_of x ≡ gives xs) × (runs xs ≡ rs)
  yielded_runs = mapped_gives runs (yielded_of x) (sym (coverage_is x) ∙ covered)

  -- they cover what the list covers
  pub source_covers : (a : ℕ) → Covers rs a ↔ CoveredBy x a
  source_covers a = let y = yielded_runs in runs_covers x y.1 y.2 a

  pub source_lawful : Bytes x → Lawful rs
  source_lawful b = let y = yielded_runs in runs_lawful x y.1 y.2 b

module _ {rs : List Range} (l : Lawful rs) where
  module _ (format : Format) (base : ℕ) (table : List ℕ) (tableBase : DebugAddrBase) where
    -- read back, the bytes yield the ranges
    pub back_yields : yielded_of (read_back format (canonical_bytes rs) base table tableBase) ≡ gives rs
    back_yields = canonical_yields format rs l.small l.few base table tableBase

    pub back_covers : (a : ℕ) → CoveredBy (read_back format (canonical_bytes rs) base table tableBase) a ↔ Covers rs a
    back_covers a = rw back_yields ((λ c. c, λ c. c))

    pub back_bytes : ((i : ℕ) → get_or table i 0 < 256) → Bytes (read_back format (canonical_bytes rs) base table tableBase)
    back_bytes h = record { section = canonical_bytes_lem rs l.small; table = h }

    pub back_again : coverage_of (read_back format (canonical_bytes rs) base table tableBase) ≡ gives rs
    back_again = coverage_is (read_back format (canonical_bytes rs) base table tableBase) ∙ ap (mapped runs) back_yields ∙ ap gives (runs_same rs l.apart (apart_proper 0 rs l.apart))

  -- no other lawful ranges have these bytes
  pub bytes_tell : {qs : List Range} → Lawful qs → canonical_bytes rs ≡ canonical_bytes qs → rs ≡ qs
  bytes_tell {qs} m e =
      let z : DebugAddrBase = record { 0 = 0 } in
      let f : gives rs ≡ gives qs = sym (back_yields Dwarf32 0 [] z) ∙ ap (λ (s : List ℕ). yielded_of (read_back Dwarf32 s 0 [] z)) e ∙ canonical_yields Dwarf32 qs m.small m.few 0 [] z in
      cc

  -- nor do other lawful ranges cover the same
  pub addresses_tell : {qs : List Range} → Lawful qs → Same rs qs → rs ≡ qs
  addresses_tell {qs} m s = unique 0 rs qs l.apart m.apart s

-- what the canonical calls give are canonical bytes of ranges
pub canonical_ranges : (x : Source) {bs : List ℕ} → canonical_of x ≡ gives bs → (rs : List Range) × (coverage_of x ≡ gives rs) × (canonical_bytes rs ≡ bs)
unfolding canonical_of
canonical_ranges x e = mapped_gives canonical_bytes (coverage_of x) e

module _ (c : Coverage) where
  pub kept_bytes : is_lawful c ≡ true → canonical_kept c ≡ gives (canonical_bytes (ranges_of c))
  unfolding canonical_kept
  kept_bytes h = simp h

  pub kept_ranges : {bs : List ℕ} → canonical_kept c ≡ gives bs → (is_lawful c ≡ true) × (canonical_bytes (ranges_of c) ≡ bs)
  unfolding canonical_kept
  kept_ranges {bs} e = chosen (is_lawful c) (canonical_bytes (ranges_of c)) _ _ e
    where
      chosen : (t : Bool) (l : List ℕ) (n : ℕ) (vs : List ℕ) → pick t (gives l) (refused n vs) ≡ gives bs → (t ≡ true) × (l ≡ bs)
      chosen true l n vs e = (refl, cc)
      chosen false l n vs e = let z : ◌≡◌ {A = ℕ} 0 1 = cc in absurd (omega arith)
