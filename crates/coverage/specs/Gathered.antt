-- A list gathered in two lent arrays: all its ranges, or those that there is room for and where the others come from.
use Rattle.std.specs.Prelude.{◌≡◌, ℕ, zero, suc, ◌+◌, ◌<◌, ◌≤◌, Bool, true, false, List, [], ◌∷◌, ◌++◌, length, nat_lt, slice_set, Ok, Err}
use Rattle.std.specs.declared.result.Result.{Result as Answer}
use Rattle.section_bytes.specs.Read.{Result, gives, refused, and_then, pick}
use Rattle.section_bytes.specs.Error.{refusal}
use Rattle.section_bytes.specs.declared.error.Error.{Error}
use Rattle.section_bytes.specs.declared.error.Error.TheVariants.{TooManyRanges}
use Rattle.lists.specs.Uncounted.{uncounted}
use Rattle.lists.specs.Walk.{item, Trace, over, handed}
use Rattle.lists.specs.declared.Walk.{Walk}
use Rattle.coverage.specs.Ranges.{Range, runs}
use Rattle.coverage.specs.Covered.{Source, source, trace_of, opening}
use Rattle.coverage.specs.Kept.{firsts}
use Rattle.coverage.specs.declared.collect.Gathered.{Gathered}
use Rattle.coverage.specs.declared.collect.Gathered.TheVariants as gathered

-- how many ranges the arrays have room for in which a list is gathered first
abbrev pub short : ℕ
short = 32

-- a range stored at a place of two arrays, if it has it
abbrev pub Stored : Bool → Range → ℕ → List ℕ → List ℕ → List ℕ → List ℕ → Type 0
Stored true r n bs es xs ys = (n < length bs) × (xs ≡ slice_set bs n r.0) × (ys ≡ slice_set es n r.1)
Stored false r n bs es xs ys = (length bs ≤ n) × (xs ≡ bs) × (ys ≡ es)

-- ranges where there is room for some number of them: all, and how many they are; or those that there is room for, and the walk
-- from which the others come, its entries not counted
pub data Within : Type 0 where
  all : ℕ → List Range → Within
  full : List Range → Walk → Within

-- the same with ranges in front of them
abbrev pub behind : List Range → Within → Within
behind done (all n rs) = all (length done + n) (done ++ rs)
behind done (full rs w) = full (done ++ rs) w

-- ranges in front of those of an answer, unless it is a refusal
abbrev pub in_front : List Range → Result Within → Result Within
in_front done r = and_then r (λ g. gives (behind done g))

-- the ranges that a list yields from a walk on, with room for some number of them: the first refusal met is the answer, or that
-- there is no room, whichever comes first
unfoldable pub within : {D : Type 0} → ℕ → Walk → Trace D → Result Within
within room v (over w) = gives (all 0 [])
within room v (handed (refused n vs) w t) = refused n vs
within zero v (handed (gives i) w t) = gives (full [] (uncounted v))
within (suc room) v (handed (gives (item b e d)) w t) = in_front ((b, e) ∷ []) (within room w t)

-- the ranges that hold an address
unfoldable pub nonempty : List Range → List Range
nonempty [] = []
nonempty (r ∷ rs) = pick (nat_lt r.0 r.1) (r ∷ nonempty rs) (nonempty rs)

-- where all are there, their runs; a range that holds no address, as no list yields one, adds nothing to them
abbrev pub covering : Within → Within
covering (all n rs) = let k = runs (nonempty rs) in all (length k) k
covering (full rs w) = full rs w

-- the coverage of ranges that are there already and of those that a list yields, with room for some number of the latter
unfoldable pub coverage_within : List Range → ℕ → Source → Result Within
coverage_within done room x =
    and_then (opening x) (λ w. and_then (in_front done (within room w (trace_of x w))) (λ g. gives (covering g)))

-- a list from a walk on: what comes then is a list that begins there
abbrev pub list_from : Source → Walk → Source
list_from x w = source x.holds x.encoding x.endian x.section w.at w.base_address x.table x.table_base

-- the ranges, or refusal 10 where there is no room for all
abbrev pub or_too_many : Result Within → Result (List Range)
or_too_many (gives (all n rs)) = gives rs
or_too_many (gives (full rs w)) = refusal TooManyRanges
or_too_many (refused n vs) = refused n vs

-- what was gathered at the front of two arrays; where there is no room, at all their places
abbrev pub told_gathered : Answer Gathered Error → List ℕ → List ℕ → Result Within
told_gathered (Ok (gathered.All n)) bs es = gives (all n (firsts n bs es))
told_gathered (Ok (gathered.Full w)) bs es = gives (full (firsts (length bs) bs es) w)
told_gathered (Err e) bs es = refusal e
