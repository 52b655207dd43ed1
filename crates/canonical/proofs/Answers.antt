-- What the canonical calls write is the canonical list of the coverage handed in, or of the list, or they are refused. Assumes
-- nothing.
use mathlib.Core.Path.{◌≡◌, refl, sym, ap, ◌∙◌}
use mathlib.Core.Bool.{true, false}
use mathlib.Core.List.{List}
use Prim.Native.Nat.{ℕ, ◌+◌, ◌≤◌}
use native.Mathlib.Omega.{arith}
use lib.ListN.{length}
use Rattle.std.specs.Prelude.{Ok, Err}
use Rattle.std.specs.declared.result.Result.{Result as Answer}
use Rattle.section_bytes.specs.Read.{Result, gives}
use Rattle.section_bytes.specs.Error.{number, values, refusal, told_value}
use Rattle.section_bytes.specs.declared.error.Error.{Error}
use Rattle.section_bytes.specs.declared.error.Error.TheVariants.{BadSheet}
use Rattle.coverage.specs.Ranges.{Range, limit}
use Rattle.coverage.specs.Covered.{Source, coverage_of}
use Rattle.coverage.specs.Kept.{firsts, is_lawful}
use Rattle.coverage.specs.Gathered.{all, coverage_within}
use Rattle.canonical.specs.Canonical.{canonical_bytes, canonical_of, canonical_kept}
use Rattle.coverage.specs.Output.{output, written}
use Rattle.coverage.specs.declared.Coverage.{Coverage}
use Rattle.coverage.proofs.KeptLaws.{ranges_are}
use Rattle.coverage.proofs.Checked.{lawful_few, lawful_apart}
use Rattle.coverage.proofs.OutputLaws.{written_refused, written_short, all_written}
use Rattle.coverage.proofs.CoveredLaws.{mapped}
use Rattle.coverage.proofs.GatherLaws.{told_few, told_apart}
use Rattle.canonical.proofs.Sources.{kept_bytes}
use Rattle.canonical.specs.Arrays.{Arrays}
use Rattle.canonical.specs.Put.{Put}

-- bytes put into an output are what a call has to write
put_written : (bs l : List ℕ) {m : List ℕ} (r : Answer ℕ Error) → Put r bs l m → output (told_value r) m ≡ written (gives bs) l
put_written bs l (Ok n) p = all_written bs l p.0 p.1 p.2
put_written bs l (Err e) p = rw (p.0, p.2) (sym (written_short bs l p.1))

pub arrays : (c : Coverage) → is_lawful c ≡ true
    → length c.begins ≡ limit → length c.ends ≡ limit → Arrays c.n c.begins c.ends
arrays c law b e =
    let f = lawful_few c law in
    record { few = f; room = omega arith; sized = (refl, e ∙ sym b); apart = lawful_apart c law }

module _ (c : Coverage) (l : List ℕ) where
  pub canonical_refused : is_lawful c ≡ false → output (refusal BadSheet) l ≡ written (canonical_kept c) l
  unfolding canonical_kept
  canonical_refused e = rw e (sym (written_refused (number BadSheet) (values BadSheet) l))

  pub canonical_put : {m : List ℕ} (r : Answer ℕ Error) → is_lawful c ≡ true → Put r (canonical_bytes (firsts c.n c.begins c.ends)) l m
      → output (told_value r) m ≡ written (canonical_kept c) l
  canonical_put r law p = rw (kept_bytes c law, ranges_are c) (put_written (canonical_bytes (firsts c.n c.begins c.ends)) l r p)

-- what a call gathered has the arrays of a canonical list
pub list_arrays : (done : List Range) (room : ℕ) (x : Source) {n : ℕ} (bs es : List ℕ) → gives (all n (firsts n bs es)) ≡ coverage_within done room x
    → length done + room ≤ limit → length done + room ≤ length bs → length es ≡ length bs → Arrays n bs es
list_arrays done room x bs es g f r s =
    let h = told_few done room x bs es g in
    record { few = omega arith; room = omega arith; sized = (refl, s); apart = told_apart done room x bs es g }

-- the canonical list of ranges that are given, or their refusal
module _ (r : Result (List Range)) (l : List ℕ) where
  pub list_put : {rs : List Range} (w : Answer ℕ Error) {m : List ℕ} → r ≡ gives rs → Put w (canonical_bytes rs) l m → output (told_value w) m ≡ written (mapped canonical_bytes r) l
  list_put {rs} w e p = rw e (put_written (canonical_bytes rs) l w p)

  pub list_refused : (e : Error) → r ≡ refusal e → output (refusal e) l ≡ written (mapped canonical_bytes r) l
  list_refused e q = rw q (sym (written_refused (number e) (values e) l))

-- so a list's, whose coverage is given
pub list_written : (x : Source) (l : List ℕ) {r : Result (List Range)} → coverage_of x ≡ r → written (mapped canonical_bytes r) l ≡ written (canonical_of x) l
unfolding canonical_of
list_written x l q = ap (λ r. written (mapped canonical_bytes r) l) (sym q)
