-- A call by its tests: too many addresses, a descending pair, none, a list that does not open, and one that is read. Assumes nothing.
use Prim.Native.Nat.{ℕ, ◌+◌, ◌≤◌, ◌<◌}
use native.Mathlib.Omega.{arith}
use mathlib.Core.Bool.{Bool, true, false}
use mathlib.Core.List.{List, [], ◌∷◌, map}
use mathlib.Core.Path.{◌≡◌, refl, sym, ap, ◌∙◌, subst}
use lib.Dec.{ltb}
use lib.ListN.{length, take, drop, replicate}
use lib.Seq.{sets, sets-eq, take-append_seam}
use borrow.Author.Tests.{lt-ltb, le-ltb}
use Rattle.section_bytes.specs.Read.{Result, gives, refused, and_then, pick}
use Rattle.section_bytes.specs.Error.{refusal}
use Rattle.section_bytes.specs.declared.error.Error.TheVariants.{TooManyAddresses, DescendingAddresses}
use Rattle.entries.specs.Numbers.{Coding}
use Rattle.lists.specs.Open.{walk_at, opened}
use Rattle.lists.specs.Walk.{CarriedIn}
use Rattle.lists.specs.declared.Unit.{Unit as DwarfUnit}
use Rattle.lists.specs.declared.Walk.{Walk}
use Rattle.lists.proofs.OpenLaws.{opened_as}
use Rattle.lookups.specs.Lookup.{Found}
use Rattle.stacks.specs.Ascending.{ascends}
use Rattle.stacks.specs.Stack.{checked, read_from, longest, location_row, answers, on_checked, together}
use Rattle.stacks.specs.Either.{lookup_from, row_in, stops_from, row_from, reads_from, together_in, given_to}
use Rattle.stacks.specs.Places.{at, padded, Standing, Filled}
use Rattle.stacks.proofs.GoingLaws as going
use Rattle.stacks.proofs.GoingLaws.{Finished}
use Rattle.stacks.proofs.PlaceLaws.{padded_in, padded_behind, padded_ascending, sorted_is}
use Rattle.stacks.proofs.StackLaws.{row_refused}

module _ (row : ℕ → List ℕ) (reads : ℕ → ℕ) (l : List ℕ) (rows : List (List ℕ)) where
  tests : (t u : Bool) → ltb 64 (length l) ≡ t → ascends l ≡ u
      → together row reads l rows ≡ on_checked (pick t (refusal TooManyAddresses) (pick u (gives tt) (refusal DescendingAddresses))) (answers (gives (longest reads l)) (sets rows 0 (map row l))) rows
  unfolding together checked
  tests t u p q = rw (p, q)

  pub many : 64 < length l → answers (refusal TooManyAddresses) rows ≡ together row reads l rows
  many h = sym (tests true (ascends l) (lt-ltb 64 (length l) h) refl)

  pub down : length l ≤ 64 → ascends l ≡ false → answers (refusal DescendingAddresses) rows ≡ together row reads l rows
  down h q = sym (tests false false (le-ltb 64 (length l) h) q)

  pub done : length l ≤ 64 → ascends l ≡ true → {r : ℕ} {rows' : List (List ℕ)} → r ≡ longest reads l → rows' ≡ sets rows 0 (map row l) → answers (gives r) rows' ≡ together row reads l rows
  done h q p o = rw (p, o) (sym (tests false true (le-ltb 64 (length l) h) q))

pub none : (row : ℕ → List ℕ) (reads : ℕ → ℕ) (l : List ℕ) (rows : List (List ℕ)) → length l ≡ 0 → answers (gives 0) rows ≡ together row reads l rows
unfolding longest ascends
none row reads [] rows h = done row reads [] rows (omega arith) refl refl refl
none row reads (a ∷ l) rows h = absurd (omega arith)

-- the addresses at their places
pub padded_stands : (l : List ℕ) → length l ≤ 64 → ascends l ≡ true → ((i : ℕ) → at l i ≤ 18446744073709551615) → Standing l (padded l)
padded_stands l few up small = record { up = padded_ascending l few small up; few = few; same = λ m h. padded_in l few m h; behind = λ m h k. padded_behind l few m h k }

pub take_padded : (l : List ℕ) → length l ≤ 64 → take (length l) (padded l) ≡ l
take_padded l few = ap (take (length l)) (sets-eq l (replicate 64 18446744073709551615) 0 (omega arith)) ∙ take-append_seam l (drop (0 + length l) (replicate 64 18446744073709551615))

module _ (l p : List ℕ) (is : p ≡ padded l) (few : length l ≤ 64) where
  pub taken : take (length l) p ≡ l
  taken = ap (take (length l)) is ∙ take_padded l few

  pub stands : ascends l ≡ true → ((i : ℕ) → at l i ≤ 18446744073709551615) → Standing l p
  stands up small = subst (Standing l) (sym is) (padded_stands l few up small)

  pub stands_taken : ascends l ≡ true → ((i : ℕ) → at l i ≤ 18446744073709551615) → Standing (take (length l) p) p
  stands_taken up small = subst (λ (t : List ℕ). Standing t p) (sym taken) (stands up small)

module _ (l : Bool) (coding : Coding) (s : List ℕ) (u : DwarfUnit) (offset base : ℕ) (asked : List ℕ) (rows : List (List ℕ)) where
  abbrev start : Result Walk
  start = opened u.encoding s offset base

  abbrev wanted : ℕ → Result (Found (CarriedIn l))
  wanted x = and_then start (lookup_from l coding s u x)

  abbrev reads : ℕ → ℕ
  reads x = read_from start (stops_from l coding s u x)

  -- what refuses the opening is the answer of each
  pub not_opened : {n : ℕ} {vs : List ℕ} {a : List ℕ} {rows' : List (List ℕ)} → refused n vs ≡ start → Standing asked a → 0 < length asked → ascends asked ≡ true
      → Filled (λ x. location_row (given_to x (refused n vs))) a (length asked) (replicate 64 0) rows rows'
      → answers (gives 0) rows' ≡ together_in l coding s u offset base asked rows
  not_opened {n} {vs} {a} {rows'} q st h up f =
      let g = going.at_start (row_in l) wanted reads asked a rows st h 0 (at a 0) refl in
      let e : Finished (row_in l) wanted reads asked a rows 0 rows' =
      going.at_end (row_in l) wanted reads asked a rows st g 0 (λ x. refused n vs) rows'
      (λ x. ap (λ (o : Result Walk). and_then o (lookup_from l coding s u x)) (sym q))
      (λ x. ap (λ (o : Result Walk). read_from o (stops_from l coding s u x)) (sym q))
      (omega arith) (subst (λ (v : List ℕ). Filled (λ x. v) a (length asked) (replicate 64 0) rows rows') (row_refused n vs l) f) in
      done (λ x. row_in l (wanted x)) reads asked rows st.few up e.read_is e.rows_are

  -- a list that opens is read from there
  pub is_opened : {w : Walk} {r : ℕ} {rows' : List (List ℕ)} (t : List ℕ) → t ≡ asked → gives w ≡ start → length asked ≤ 64 → ascends asked ≡ true
      → rows' ≡ sets rows 0 (map (λ x. row_from l coding s u x (walk_at w.at base 0)) t)
      → r ≡ longest (λ x. reads_from l coding s u x (walk_at w.at base 0)) t
      → answers (gives r) rows' ≡ together_in l coding s u offset base asked rows
  is_opened {w} {r} {rows'} t e q few up p o =
      let k = opened_as u.encoding s offset base (sym q) in
      let v : walk_at w.at base 0 ≡ w = ap (λ (y : Walk). walk_at y.at base 0) (sym k.0) ∙ k.0 in
      let i : start ≡ gives (walk_at w.at base 0) = sym q ∙ ap gives (sym v) in
      done (λ x. row_in l (wanted x)) reads asked rows few up
      (o ∙ ap (λ (y : List ℕ). longest (λ x. reads_from l coding s u x (walk_at w.at base 0)) y) e ∙ ap (λ (y : Result Walk). longest (λ x. read_from y (stops_from l coding s u x)) asked) (sym i))
      (p ∙ ap (λ (y : List ℕ). sets rows 0 (map (λ x. row_from l coding s u x (walk_at w.at base 0)) y)) e ∙ ap (λ (y : Result Walk). sets rows 0 (map (λ x. row_in l (and_then y (lookup_from l coding s u x))) asked)) (sym i))

-- for the tests
pub ruleset asking = (many, down, none, sorted_is)
