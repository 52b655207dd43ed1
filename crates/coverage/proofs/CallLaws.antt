-- What the coverage of a list comes to, from its opening on. Assumes nothing.
use Rattle.std.proofs.Common.{◌≡◌, ℕ, List, [], ◌++◌, length, refl}
use Rattle.coverage.proofs.CoveredLaws.{mapped}
use Rattle.section_bytes.specs.Read.{Result, gives, refused, and_then}
use Rattle.lists.specs.Open.{opened}
use Rattle.lists.specs.Convert.{table_at}
use Rattle.lists.specs.Walk.{trace}
use Rattle.lists.specs.declared.Walk.{Walk}
use Rattle.coverage.specs.Ranges.{Range, limit, runs}
use Rattle.coverage.specs.Covered.{yielded_in, Source, listing, trace_of, yielded_of, coverage_of}

-- the ranges gathered so far, and those still to come
abbrev pub after : List Range → Result (List Range) → Result (List Range)
after done r = mapped (λ rs. done ++ rs) r

pub after_none : (r : Result (List Range)) → r ≡ after [] r
after_none (gives rs) = refl
after_none (refused n vs) = refl

-- the coverage of a list from its opening on
module _ (x : Source) where
  pub trace_is : (w : Walk)
      → trace_of x w ≡ trace (listing x.holds x.encoding x.endian x.section) (table_at x.endian x.encoding x.table_base x.table) x.encoding.address_size (length x.section) w
  unfolding trace_of
  trace_is w = refl

  pub yielded_is : yielded_of x ≡ and_then (opened x.encoding x.section x.offset x.base_address) (λ w. yielded_in limit (trace_of x w))
  unfolding yielded_of
  yielded_is = refl

  pub coverage_is : coverage_of x ≡ mapped runs (yielded_of x)
  unfolding coverage_of
  coverage_is = refl

  pub coverage_refused : {n : ℕ} {vs : List ℕ} → opened x.encoding x.section x.offset x.base_address ≡ refused n vs → coverage_of x ≡ refused n vs
  unfolding coverage_of yielded_of
  coverage_refused e = rw e

  module _ {w : Walk} (e : opened x.encoding x.section x.offset x.base_address ≡ gives w) where
    pub coverage_opened : coverage_of x ≡ mapped runs (yielded_in limit (trace_of x w))
    unfolding coverage_of yielded_of
    coverage_opened = rw e
