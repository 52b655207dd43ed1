-- Ranges gathered at the front of two arrays, a call of the walk at a time, and the coverage that they make, with more room too.
-- Assumes nothing.
use Rattle.std.proofs.Common.{◌≡◌, ℕ, zero, suc, ◌+◌, ◌-◌, ◌<◌, ◌≤◌, Bool, true, false, ◌↔◌, List, [], ◌∷◌, ◌++◌, length, take, set, sym, refl, ap, ◌∙◌, subst, ap₂, inl, inr, ⊎_elim, append_assoc, append-nil, add-one, arith, length-append, length-set, length-take, take-suc-set, take_at, le-ltb, lt-ltb}
use Rattle.std.specs.Prelude.{Some, None, Ok, Err}
use Rattle.std.specs.Borrow.{Bor}
use Rattle.std.specs.declared.option.Option.{Option}
use Rattle.std.specs.declared.result.Result.{Result as Answer}
use lib.Seq.{take_all}
use Rattle.section_bytes.specs.Read.{Result, gives, refused}
use Rattle.section_bytes.specs.Error.{refusal}
use Rattle.section_bytes.specs.Reader.{is_size}
use Rattle.section_bytes.specs.declared.error.Error.{Error}
use Rattle.section_bytes.specs.declared.error.Error.TheVariants.{TooManyRanges}
use Rattle.section_bytes.proofs.Order.{lt_or_le}
use Rattle.entries.specs.Lists.{are_locations, coding_in}
use Rattle.entries.specs.Numbers.{Coding, dwarf, tabled}
use Rattle.entries.specs.declared.Lists.{Lists}
use Rattle.entries.specs.declared.Lists.TheVariants.{Ranges, Locations}
use Rattle.lists.specs.Open.{opened}
use Rattle.lists.specs.Convert.{table_at}
use Rattle.lists.specs.Walk.{Item, item, Trace, over, first, handed, data_in, next_in, next_in_unit, told_next_location}
use Rattle.lists.specs.Walks.{Hands}
use Rattle.lists.specs.Uncounted.{uncounted, trace_uncounted}
use Rattle.lists.specs.declared.LocationListEntry.{LocationListEntry}
use Rattle.lists.specs.declared.Unit.{Unit as DwarfUnit}
use Rattle.lists.specs.declared.Walk.{Walk}
use Rattle.lists.proofs.ConvertLaws.{opened_list}
use Rattle.lists.proofs.OpenLaws.{opened_size, opened_inside}
use Rattle.lists.proofs.WalkLaws.{Moved, next_first}
use Rattle.lists.proofs.Theorems.{hands_out}
use Rattle.lists.proofs.Past.{listed_past}
use Rattle.lists.proofs.CallLaws.{next_hands, next_ends, next_ahead}
use Rattle.lists.proofs.CountLaws.{trace_uncounted_lem}
use Rattle.lists.proofs.NextLaws.{does}
use Rattle.coverage.specs.Ranges.{Range, Covers, Apart, limit, runs}
use Rattle.coverage.specs.Covered.{yielded_in, Holds, range_list, range_list_by, location_list, is_tabled, ranges_held, holding, has_table, holding_as, Source, source, source_in, source_as, listing, trace_of, coverage_of}
use Rattle.coverage.specs.Kept.{paired, firsts}
use Rattle.coverage.specs.Gathered.{short, Stored, Within, all, full, in_front, within, nonempty, covering, coverage_within, list_from, or_too_many, told_gathered}
use Rattle.coverage.specs.Sorted.{Sized, AtLeast, ToRuns}
use Rattle.coverage.specs.declared.Source as code
use Rattle.coverage.specs.declared.collect.Gathered.TheVariants as gathered
use Rattle.coverage.proofs.CallLaws.{after, after_none, coverage_refused, coverage_opened}
use Rattle.coverage.proofs.RangeLaws.{Proper, unique, runs_apart, runs_cover, runs_length}
use Rattle.coverage.proofs.CoveredLaws.{mapped, Given, onward_given}
use Rattle.coverage.proofs.ProperLaws.{walked_proper}
use Rattle.coverage.proofs.SortLaws.{length_first}
use Rattle.coverage.proofs.KeptLaws.{take_paired}

paired_snoc : (bs es : List ℕ) (b e : ℕ) → length bs ≡ length es → paired (bs ++ (b ∷ [])) (es ++ (e ∷ [])) ≡ paired bs es ++ ((b, e) ∷ [])
paired_snoc [] [] b e h = refl
paired_snoc [] (y ∷ es) b e h = absurd (omega arith)
paired_snoc (x ∷ bs) [] b e h = absurd (omega arith)
paired_snoc (x ∷ bs) (y ∷ es) b e h = ap (λ (l : List Range). (x, y) ∷ l) (paired_snoc bs es b e (omega arith))

-- ---- ranges in front of others
in_front_both : (xs ys : List Range) (r : Result Within) → in_front xs (in_front ys r) ≡ in_front (xs ++ ys) r
in_front_both xs ys (gives (all n rs)) =
    let l : length xs + (length ys + n) ≡ length (xs ++ ys) + n = rw (length-append xs ys) (omega arith) in
    ap₂ (λ (k : ℕ) (l : List Range). gives (all k l)) l (sym (append_assoc xs ys rs))
in_front_both xs ys (gives (full rs w)) = ap (λ (l : List Range). gives (full l w)) (sym (append_assoc xs ys rs))
in_front_both xs ys (refused n vs) = refl

-- as many as are counted, and no more than there is room for
abbrev pub Fits : ℕ → Within → Type 0
Fits room (all n rs) = (n ≤ room) × (length rs ≡ n)
Fits room (full rs w) = Unit

in_front_fits : (done : List Range) (room : ℕ) (r : Result Within) → Given (Fits room) r → Given (Fits (length done + room)) (in_front done r)
in_front_fits done room (gives (all n rs)) h = (omega arith, length-append done rs ∙ ap (λ (k : ℕ). length done + k) h.1)
in_front_fits done room (gives (full rs w)) h = tt
in_front_fits done room (refused n vs) h = tt

-- ---- a list's ranges, a call of the walk at a time
module _ {D : Type 0} where
  within_fits : (room : ℕ) (v : Walk) (t : Trace D) → Given (Fits room) (within room v t)
  unfolding within
  within_fits room v (over w) = (omega arith, refl)
  within_fits room v (handed (refused n vs) w t) = tt
  within_fits zero v (handed (gives i) w t) = tt
  within_fits (suc room) v (handed (gives (item b e d)) w t) =
      let z : 1 + room ≡ suc room = omega arith in
      subst (λ (k : ℕ). Given (Fits k) (in_front ((b, e) ∷ []) (within room w t))) z (in_front_fits ((b, e) ∷ []) room (within room w t) (within_fits room w t))

  -- with 10 for no room, they are what the list yields
  within_yielded : (room : ℕ) (v : Walk) (t : Trace D) → yielded_in room t ≡ or_too_many (within room v t)
  unfolding within yielded_in
  within_yielded room v (over w) = refl
  within_yielded room v (handed (refused n vs) w t) = refl
  within_yielded zero v (handed (gives i) w t) = refl
  within_yielded (suc room) v (handed (gives (item b e d)) w t) =
      ap (mapped (λ rs. (b, e) ∷ rs)) (within_yielded room w t) ∙ one_more (within room w t)
    where
      one_more : (r : Result Within) → mapped (λ rs. (b, e) ∷ rs) (or_too_many r) ≡ or_too_many (in_front ((b, e) ∷ []) r)
      one_more (gives (all n rs)) = refl
      one_more (gives (full rs w)) = refl
      one_more (refused n vs) = refl

  -- a range more, and the three ways in which the gathering ends
  module _ (room : ℕ) (v : Walk) {t : Trace D} where
    within_more : {b e : ℕ} {d : D} {w : Walk} {u : Trace D} → t ≡ handed (gives (item b e d)) w u → within (suc room) v t ≡ in_front ((b, e) ∷ []) (within room w u)
    unfolding within
    within_more q = rw q

    within_over : {w : Walk} → t ≡ over w → within room v t ≡ gives (all 0 [])
    unfolding within
    within_over q = rw q

    within_lost : {n : ℕ} {vs : List ℕ} {w : Walk} {u : Trace D} → t ≡ handed (refused n vs) w u → within room v t ≡ refused n vs
    unfolding within
    within_lost q = rw q

  within_many : (v : Walk) {t : Trace D} {i : Item D} {w : Walk} {u : Trace D} → t ≡ handed (gives i) w u → within 0 v t ≡ gives (full [] (uncounted v))
  unfolding within
  within_many v q = rw q

-- the ranges at the first n places, in front of those that the list has yet to yield, are what is to be gathered
pub record Gathering {D : Type 0} (room : ℕ) (goal : Result Within) (v : Walk) (t : Trace D) (bs es : List ℕ) (n : ℕ) : Type 0 where
  pub same : in_front (firsts n bs es) (within (room - n) v t) ≡ goal
  pub few : n ≤ room
  pub sized : Sized room bs es

module _ {D : Type 0} {room : ℕ} {v : Walk} {t : Trace D} {bs es : List ℕ} {n : ℕ} where
  pub gathering_first : n ≤ room → Sized room bs es → Gathering room (in_front (firsts n bs es) (within (room - n) v t)) v t bs es n
  gathering_first h s = record { same = refl; few = h; sized = s }

  module _ {goal : Result Within} (g : Gathering room goal v t bs es n) where
    more : {b e : ℕ} {d : D} {w : Walk} {u : Trace D} → n < room → t ≡ handed (gives (item b e d)) w u → Gathering room goal w u (set bs n b) (set es n e) (n + 1)
    more {b} {e} {d} {w} {u} h q =
        let lb = g.sized.0 in
        let le = g.sized.1 in
        let k : length (take n bs) ≡ length (take n es) = omega (arith, length-take n bs, length-take n es) in
        let o : paired (take (n + 1) (set bs n b)) (take (n + 1) (set es n e)) ≡ paired (take n bs) (take n es) ++ ((b, e) ∷ []) =
        rw (add-one n, take-suc-set bs n b (omega arith), take-suc-set es n e (omega arith)) (paired_snoc (take n bs) (take n es) b e k)
        in
        let p : firsts (n + 1) (set bs n b) (set es n e) ≡ firsts n bs es ++ ((b, e) ∷ []) =
        take_paired (n + 1) (set bs n b) (set es n e) ∙ o ∙ ap (λ (l : List Range). l ++ ((b, e) ∷ [])) (sym (take_paired n bs es))
        in
        let r : room - n ≡ suc (room - (n + 1)) = omega arith in
        record {
          same =
              rw p
              (sym (in_front_both (firsts n bs es) ((b, e) ∷ []) (within (room - (n + 1)) w u))
              ∙ ap (in_front (firsts n bs es)) (sym (within_more (room - (n + 1)) v q))
              ∙ (rw r at g.same));
          few = omega arith;
          sized = (length-set bs n b ∙ lb, length-set es n e ∙ le);
        }

    many : {i : Item D} {w : Walk} {u : Trace D} → room ≤ n → t ≡ handed (gives i) w u → told_gathered (Ok (gathered.Full (uncounted v))) bs es ≡ goal
    many h q =
        let r : room - n ≡ 0 = omega arith in
        let l : length bs ≡ n = omega (arith, g.few, g.sized.0) in
        ap (λ (k : ℕ). gives (full (firsts k bs es) (uncounted v))) l
        ∙ ap (λ (l : List Range). gives (full l (uncounted v))) (sym (append-nil (firsts n bs es)))
        ∙ ap (in_front (firsts n bs es)) (sym (within_many v q))
        ∙ (rw r at g.same)

    module _ {r : Bool} {b e : ℕ} {d : D} {w : Walk} {u : Trace D} (xs ys : List ℕ) (s : Stored r (b, e) n bs es xs ys) (q : t ≡ handed (gives (item b e d)) w u) where
      -- a range more, or no room for it
      pub gathering_more : r ≡ true → Gathering room goal w u xs ys (n + 1)
      gathering_more h =
          let k : Stored true (b, e) n bs es xs ys = rw h at s in
          rw (k.1, k.2) (more (omega (arith, k.0, g.sized.0)) q)

      pub gathering_many : r ≡ false → told_gathered (Ok (gathered.Full (uncounted v))) xs ys ≡ goal
      gathering_many h =
          let k : Stored false (b, e) n bs es xs ys = rw h at s in
          rw (k.1, k.2) (many (omega (arith, k.0, g.sized.0)) q)

    pub gathering_over : {w : Walk} → t ≡ over w → told_gathered (Ok (gathered.All n)) bs es ≡ goal
    gathering_over q =
        let l = length_first bs es n (omega (arith, g.few, g.sized.0)) (omega (arith, g.few, g.sized.1)) in
        let k : n ≡ length (firsts n bs es) + 0 = omega (arith, l) in
        ap₂ (λ (k : ℕ) (l : List Range). gives (all k l)) k (sym (append-nil (firsts n bs es)))
        ∙ ap (in_front (firsts n bs es)) (sym (within_over (room - n) v q))
        ∙ g.same

    pub gathering_lost : (e : Error) {w : Walk} {u : Trace D} → t ≡ handed (refusal e) w u → refusal e ≡ goal
    gathering_lost e q = ap (in_front (firsts n bs es)) (sym (within_lost (room - n) v q)) ∙ g.same

-- what a call of the walk told, with the walk after it
module _ (l : Bool) (coding : Coding) (s : List ℕ) (u : DwarfUnit) (v : Walk) (h : is_size u.encoding.address_size ≡ true) {r : Answer (Option LocationListEntry) Error} (w : Walk) (p : next_in l (told_next_location r w) ≡ next_in_unit l coding s u v) where
  told_as : {q : Answer (Option LocationListEntry) Error} → r ≡ q → next_in_unit l coding s u v ≡ next_in l (told_next_location q w)
  told_as e = sym p ∙ ap (λ (r : Answer (Option LocationListEntry) Error). next_in l (told_next_location r w)) e

  pub called_lost : {e : Error} → r ≡ Err e → does l coding s u v ≡ handed (refusal e) w (does l coding s u w)
  called_lost q = next_hands _ _ _ _ (listed_past l coding u.encoding u.endian s) v h (told_as q)

  pub called_over : {o : Option LocationListEntry} → r ≡ Ok o → o ≡ None → does l coding s u v ≡ over w
  called_over q e = next_ends _ _ _ _ (listed_past l coding u.encoding u.endian s) v h (told_as (q ∙ ap (λ o. Ok o) e))

  module _ {o : Option LocationListEntry} {x : LocationListEntry} (q : r ≡ Ok o) (e : o ≡ Some x) where
    pub called_found : does l coding s u v ≡ handed (gives (item x.range.begin x.range.end (data_in l x.«data»))) w (does l coding s u w)
    called_found = next_hands _ _ _ _ (listed_past l coding u.encoding u.endian s) v h (told_as (q ∙ ap (λ o. Ok o) e))

    pub called_ahead : (v.at < w.at) × (w.at ≤ length s)
    called_ahead = next_ahead _ _ _ _ (listed_past l coding u.encoding u.endian s) v h (told_as (q ∙ ap (λ o. Ok o) e))

pub stored_sized : (r : Bool) (q : Range) (n room : ℕ) (bs es xs ys : List ℕ) → Stored r q n bs es xs ys → r ≡ false → Sized room bs es → Sized room xs ys
stored_sized r q n room bs es xs ys s h z =
    let k : Stored false q n bs es xs ys = rw h at s in
    rw (k.1, k.2) z

-- ---- ranges that hold an address
nonempty_in : (r : Range) (rs : List Range) → r.0 < r.1 → nonempty (r ∷ rs) ≡ r ∷ nonempty rs
unfolding nonempty
nonempty_in r rs h = rw (lt-ltb r.0 r.1 h)

nonempty_out : (r : Range) (rs : List Range) → r.1 ≤ r.0 → nonempty (r ∷ rs) ≡ nonempty rs
unfolding nonempty
nonempty_out r rs h = rw (le-ltb r.0 r.1 h)

nonempty_cases : (P : List Range → Type 0) (r : Range) (rs : List Range) → (r.0 < r.1 → P (r ∷ nonempty rs)) → (r.1 ≤ r.0 → P (nonempty rs)) → P (nonempty (r ∷ rs))
nonempty_cases P r rs x y = ⊎_elim (λ h. rw (nonempty_in r rs h) (x h)) (λ h. rw (nonempty_out r rs h) (y h)) (lt_or_le r.0 r.1)

nonempty_proper : (rs : List Range) → Proper (nonempty rs)
unfolding nonempty
nonempty_proper [] = tt
nonempty_proper (r ∷ rs) = nonempty_cases Proper r rs (λ h. (h, nonempty_proper rs)) (λ h. nonempty_proper rs)

nonempty_same : (rs : List Range) → Proper rs → nonempty rs ≡ rs
unfolding nonempty
nonempty_same [] p = refl
nonempty_same (r ∷ rs) p = nonempty_in r rs p.0 ∙ ap (λ (l : List Range). r ∷ l) (nonempty_same rs p.1)

nonempty_length : (rs : List Range) → length (nonempty rs) ≤ length rs
unfolding nonempty
nonempty_length [] = omega arith
nonempty_length (r ∷ rs) =
    let k = nonempty_length rs in
    nonempty_cases (λ l. length l ≤ length (r ∷ rs)) r rs (λ h. omega arith) (λ h. omega arith)

nonempty_covers : (rs : List Range) (a : ℕ) → Covers (nonempty rs) a ↔ Covers rs a
unfolding nonempty
nonempty_covers [] a = (λ c. c, λ c. c)
nonempty_covers (r ∷ rs) a =
    let k = nonempty_covers rs a in
    nonempty_cases (λ l. Covers l a ↔ Covers (r ∷ rs) a) r rs
    (λ h. (⊎_elim inl (λ c. inr (k.0 c)), ⊎_elim inl (λ c. inr (k.1 c))))
    (λ h. (λ c. inr (k.0 c), ⊎_elim (λ i. absurd (omega arith)) k.1))

-- ranges put into their runs
to_runs_exact : {rs : List Range} {room : ℕ} {bs es : List ℕ} {r : ℕ} → ToRuns rs room bs es r → firsts r bs es ≡ runs (nonempty rs)
to_runs_exact {rs} {room} {bs} {es} {r} t =
    unique 0 (firsts r bs es) (runs (nonempty rs)) t.apart (runs_apart (nonempty rs) (nonempty_proper rs))
    (λ a. (
      λ c. (runs_cover (nonempty rs) a).1 ((nonempty_covers rs a).1 ((t.covers a).0 c)),
      λ c. (t.covers a).1 ((nonempty_covers rs a).0 ((runs_cover (nonempty rs) a).0 c)),
    ))

-- ---- the coverage of what was gathered
covering_fits : (room : ℕ) (r : Result Within) → Given (Fits room) r → Given (Fits room) (mapped covering r)
covering_fits room (gives (all n rs)) h = (omega (arith, h.0, h.1, runs_length (nonempty rs), nonempty_length rs), refl)
covering_fits room (gives (full rs w)) h = tt
covering_fits room (refused n vs) h = tt

-- runs keep apart
abbrev Runs : Within → Type 0
Runs (all n rs) = Apart rs
Runs (full rs w) = Unit

covering_runs : (r : Result Within) → Given Runs (mapped covering r)
covering_runs (gives (all n rs)) = runs_apart (nonempty rs) (nonempty_proper rs)
covering_runs (gives (full rs w)) = tt
covering_runs (refused n vs) = tt

-- what was gathered in front of a list's ranges has places for all
module _ {D : Type 0} (done : List Range) (room : ℕ) (v : Walk) (t : Trace D) where
  gathered_fits : Given (Fits (length done + room)) (in_front done (within room v t))
  gathered_fits = in_front_fits done room (within room v t) (within_fits room v t)

module _ (done : List Range) (room : ℕ) (x : Source) where
  abbrev opens : Result Walk
  opens = opened x.encoding x.section x.offset x.base_address

  pub cover_refused : (e : Error) → refusal e ≡ opens → refusal e ≡ coverage_within done room x
  unfolding coverage_within
  cover_refused e o = rw (← o)

  within_coverage : {w : Walk} → opens ≡ gives w → coverage_within done room x ≡ mapped covering (in_front done (within room w (trace_of x w)))
  unfolding coverage_within
  within_coverage o = rw o

  pub coverage_fits : Given (Fits (length done + room)) (coverage_within done room x)
  unfolding coverage_within
  coverage_fits =
      onward_given (Fits (length done + room)) opens (λ w. mapped covering (in_front done (within room w (trace_of x w))))
      (λ w e. covering_fits (length done + room) (in_front done (within room w (trace_of x w))) (gathered_fits done room w (trace_of x w)))

  coverage_runs : Given Runs (coverage_within done room x)
  unfolding coverage_within
  coverage_runs =
      onward_given Runs opens (λ w. mapped covering (in_front done (within room w (trace_of x w))))
      (λ w e. covering_runs (in_front done (within room w (trace_of x w))))

-- the same of a list as the code has it, from the walk that it opens with
module _ (done : List Range) (room : ℕ) (s : List ℕ) (u : DwarfUnit) (offset base : ℕ) {w : Walk} (o : opened u.encoding s offset base ≡ gives w) where
  abbrev walked : Lists → Result Within
  walked k = in_front done (within room w (does (are_locations k) (coding_in k) s u w))

  abbrev walks : Lists → Source
  walks k = source (holding k) u.encoding u.endian s offset base u.debug_addr.now u.debug_addr_base

  walked_coverage : (k : Lists) → coverage_within done room (walks k) ≡ mapped covering (walked k)
  unfolding trace_of
  walked_coverage (Ranges None) = within_coverage done room (walks (Ranges None)) o
  walked_coverage (Ranges (Some t)) = within_coverage done room (walks (Ranges (Some t))) o
  walked_coverage (Locations file) = within_coverage done room (walks (Locations file)) o

  module _ (k : Lists) (bs es : List ℕ) where
    pub gathered_few : {n : ℕ} → gives (all n (firsts n bs es)) ≡ walked k → n ≤ length done + room
    gathered_few {n} g =
        (subst (Given (Fits (length done + room))) (sym g) (gathered_fits done room w (does (are_locations k) (coding_in k) s u w))).0

    pub cover_got : {n r : ℕ} (xs ys : List ℕ) → gives (all n (firsts n bs es)) ≡ walked k → AtLeast n bs es → ToRuns (firsts n bs es) (length bs) xs ys r → gives (all r (firsts r xs ys)) ≡ coverage_within done room (walks k)
    cover_got {n} {r} xs ys g h t =
        let e = to_runs_exact t in
        let m = length_first bs es n h.0 h.1 in
        let i : length (firsts r xs ys) ≡ r = length_first xs ys r (omega (arith, t.few, m, h.0, t.sized.0)) (omega (arith, t.few, m, h.0, t.sized.1)) in
        let j : r ≡ length (runs (nonempty (firsts n bs es))) = sym i ∙ ap (λ (l : List Range). length l) e in
        ap₂ (λ (k : ℕ) (l : List Range). gives (all k l)) j e
        ∙ ap (mapped covering) g
        ∙ sym (walked_coverage k)

  pub cover_full : (k : Lists) {rs : List Range} {v : Walk} → gives (full rs v) ≡ walked k → gives (full rs v) ≡ coverage_within done room (walks k)
  cover_full k g = ap (mapped covering) g ∙ sym (walked_coverage k)

  pub cover_lost : (k : Lists) (e : Error) → refusal e ≡ walked k → refusal e ≡ coverage_within done room (walks k)
  cover_lost k e g = ap (mapped covering) g ∙ sym (walked_coverage k)

-- ---- with more room
module _ (x : Source) where
  walk_past : (at : ℕ) → at < length x.section → Moved at (length x.section) ((listing x.holds x.encoding x.endian x.section).read at)
  walk_past = past_of x.holds
    where
      past_of : (h : Holds) (at : ℕ) → at < length x.section → Moved at (length x.section) ((listing h x.encoding x.endian x.section).read at)
      past_of range_list = listed_past false (dwarf false) x.encoding x.endian x.section
      past_of (range_list_by kinds) = listed_past false (tabled kinds) x.encoding x.endian x.section
      past_of (location_list split) = listed_past true (dwarf split) x.encoding x.endian x.section

  module _ (v : Walk) {r : Result (Item (listing x.holds x.encoding x.endian x.section).Carried)} {w : Walk} {u : Trace (listing x.holds x.encoding x.endian x.section).Carried} (e : trace_of x v ≡ handed r w u) where
    abbrev Handed : Trace (listing x.holds x.encoding x.endian x.section).Carried → Type 0
    Handed t =
        Hands (listing x.holds x.encoding x.endian x.section) (table_at x.endian x.encoding x.table_base x.table)
        x.encoding.address_size (length x.section) t

    -- a walk handed back does what the list does from there on
    trace_after : trace_of x w ≡ u
    unfolding trace_of
    trace_after =
        subst Handed e
        (hands_out (listing x.holds x.encoding x.endian x.section) (table_at x.endian x.encoding x.table_base x.table)
        x.encoding.address_size (length x.section) walk_past v)

  -- counted or not, a walk yields the same
  yielded_uncounted : (m : ℕ) (t : Trace (listing x.holds x.encoding x.endian x.section).Carried) → yielded_in m t ≡ yielded_in m (trace_uncounted t)
  unfolding yielded_in
  yielded_uncounted m (over w) = refl
  yielded_uncounted m (handed (refused n vs) w t) = refl
  yielded_uncounted zero (handed (gives i) w t) = refl
  yielded_uncounted (suc m) (handed (gives (item b e d)) w t) = ap (mapped (λ rs. (b, e) ∷ rs)) (yielded_uncounted m t)

  yielded_anew : (m : ℕ) (w : Walk) → yielded_in m (trace_of x w) ≡ yielded_in m (trace_of x (uncounted w))
  unfolding trace_of
  yielded_anew m w =
      let does = trace_uncounted_lem (listing x.holds x.encoding x.endian x.section) (table_at x.endian x.encoding x.table_base x.table) x.encoding.address_size (length x.section) in
      yielded_uncounted m (trace_of x w) ∙ ap (yielded_in m) (does w ∙ sym (does (uncounted w))) ∙ sym (yielded_uncounted m (trace_of x (uncounted w)))

  -- gathered with some room, and where it is full gone on with more, is gathered with both
  abbrev onward : ℕ → Result Within → Result (List Range)
  onward m (gives (all n rs)) = gives rs
  onward m (gives (full rs w)) = after rs (yielded_in m (trace_of x w))
  onward m (refused n vs) = refused n vs

  onward_one : (m b e : ℕ) (r : Result Within) → mapped (λ rs. (b, e) ∷ rs) (onward m r) ≡ onward m (in_front ((b, e) ∷ []) r)
  onward_one m b e (gives (all n rs)) = refl
  onward_one m b e (gives (full rs w)) = one (yielded_in m (trace_of x w))
    where
      one : (y : Result (List Range)) → mapped (λ qs. (b, e) ∷ qs) (after rs y) ≡ after ((b, e) ∷ rs) y
      one (gives qs) = refl
      one (refused n vs) = refl
  onward_one m b e (refused n vs) = refl

  going_on : (room m : ℕ) (v : Walk) (t : Trace (listing x.holds x.encoding x.endian x.section).Carried) → trace_of x v ≡ t → yielded_in (room + m) t ≡ onward m (within room v t)
  unfolding within yielded_in
  going_on room m v (over w) q = refl
  going_on room m v (handed (refused n vs) w t) q = refl
  going_on zero m v (handed (gives i) w t) q =
      let z : 0 + m ≡ m = omega arith in
      ap (λ (k : ℕ). yielded_in k (handed (gives i) w t)) z ∙ after_none (yielded_in m (handed (gives i) w t)) ∙ ap (λ u. after [] (yielded_in m u)) (sym q) ∙ ap (after []) (yielded_anew m v)
  going_on (suc room) m v (handed (gives (item b e d)) w t) q =
      let z : suc room + m ≡ suc (room + m) = omega arith in
      ap (λ (k : ℕ). yielded_in k (handed (gives (item b e d)) w t)) z
      ∙ ap (mapped (λ rs. (b, e) ∷ rs)) (going_on room m w t (trace_after v q)) ∙ onward_one m b e (within room w t)

  -- a walk from which there was no room stands in the section
  abbrev Stands : Within → Type 0
  Stands (all n rs) = Unit
  Stands (full rs w) = w.at ≤ length x.section

  in_front_stands : (done : List Range) (r : Result Within) → Given Stands r → Given Stands (in_front done r)
  in_front_stands done (gives (all n rs)) h = tt
  in_front_stands done (gives (full rs w)) h = h
  in_front_stands done (refused n vs) h = tt

  module _ (h : is_size x.encoding.address_size ≡ true) where
    walk_ahead : (v : Walk) {i : Item (listing x.holds x.encoding x.endian x.section).Carried} {w : Walk} {u : Trace (listing x.holds x.encoding x.endian x.section).Carried}
        → trace_of x v ≡ handed (gives i) w u → w.at ≤ length x.section
    unfolding trace_of
    walk_ahead v e = (next_ahead _ _ _ _ walk_past v h (next_first _ _ _ _ v h ∙ ap first e)).1

    stands : (room : ℕ) (v : Walk) (t : Trace (listing x.holds x.encoding x.endian x.section).Carried) → trace_of x v ≡ t → v.at ≤ length x.section → Given Stands (within room v t)
    unfolding within
    stands room v (over w) q k = tt
    stands room v (handed (refused n vs) w t) q k = tt
    stands zero v (handed (gives i) w t) q k = k
    stands (suc room) v (handed (gives (item b e d)) w t) q k = in_front_stands ((b, e) ∷ []) (within room w t) (stands room w t (trace_after v q) (walk_ahead v q))

    -- a list that begins there is walked with no entry counted
    opened_rest : (w : Walk) → w.at ≤ length x.section → opened x.encoding x.section w.at w.base_address ≡ gives (uncounted w)
    opened_rest w k = opened_list x.encoding x.section w.at w.base_address h k

-- a list's coverage, from what was gathered with less room
module _ (x : Source) where
  abbrev opening : Result Walk
  opening = opened x.encoding x.section x.offset x.base_address

  by_opening : (P : Type 0) → ((v : Walk) → opening ≡ gives v → P) → ((n : ℕ) (vs : List ℕ) → opening ≡ refused n vs → P) → P
  by_opening P y z = by opening refl
    where
      by : (o : Result Walk) → opening ≡ o → P
      by (gives v) e = y v e
      by (refused n vs) e = z n vs e

  module _ {v : Walk} (o : opening ≡ gives v) where
    runs_nonempty : (rs : List Range) → yielded_in limit (trace_of x v) ≡ gives rs → runs rs ≡ runs (nonempty rs)
    runs_nonempty rs e = ap runs (sym (nonempty_same rs (subst (Given Proper) e (walked_proper x limit v))))

    goes_last : (done : List Range) (r : Result Within) → yielded_in limit (trace_of x v) ≡ after done (or_too_many r)
        → mapped runs (after done (or_too_many r)) ≡ or_too_many (mapped covering (in_front done r))
    goes_last done (gives (all n rs)) e = ap gives (runs_nonempty (done ++ rs) e)
    goes_last done (gives (full rs w)) e = refl
    goes_last done (refused n vs) e = refl

  -- with room for as many as a coverage keeps, and 10 for no room, it is the list's
  pub coverage_limit : coverage_of x ≡ or_too_many (coverage_within [] limit x)
  unfolding coverage_within
  coverage_limit =
      by_opening (coverage_of x ≡ or_too_many (coverage_within [] limit x))
      (λ v o.
      let e = within_yielded limit v (trace_of x v) ∙ after_none (or_too_many (within limit v (trace_of x v))) in
      coverage_opened x o
      ∙ ap (mapped runs) e
      ∙ goes_last o [] (within limit v (trace_of x v)) e
      ∙ ap or_too_many (sym (within_coverage [] limit x o)))
      (λ n vs o. rw o (coverage_refused x o))

  -- with less room: all, or with what comes from the walk then
  module _ (room : ℕ) (f : room ≤ limit) where
    abbrev goesOn : Result Within → Result (List Range)
    goesOn (gives (all n rs)) = gives rs
    goesOn (gives (full rs w)) = or_too_many (coverage_within rs (limit - room) (list_from x w))
    goesOn (refused n vs) = refused n vs

    module _ {v : Walk} (o : opening ≡ gives v) where
      goes : (r : Result Within) → Given (Stands x) r → yielded_in limit (trace_of x v) ≡ onward x (limit - room) r → mapped runs (onward x (limit - room) r) ≡ goesOn (mapped covering (in_front [] r))
      unfolding trace_of
      goes (gives (all n rs)) s e = ap gives (runs_nonempty o rs e)
      goes (gives (full rs w)) s e =
          let h = opened_size x.encoding x.section x.offset x.base_address o in
          let y = yielded_anew x (limit - room) w ∙ within_yielded (limit - room) (uncounted w) (trace_of x (uncounted w)) in
          ap (λ (y : Result (List Range)). mapped runs (after rs y)) y
          ∙ goes_last o rs (within (limit - room) (uncounted w) (trace_of x (uncounted w))) (e ∙ ap (after rs) y)
          ∙ ap or_too_many (sym (within_coverage rs (limit - room) (list_from x w) (opened_rest x h w s)))
      goes (refused n vs) s e = refl

      opened_goes : coverage_of x ≡ goesOn (coverage_within [] room x)
      opened_goes =
          let h = opened_size x.encoding x.section x.offset x.base_address o in
          let z : room + (limit - room) ≡ limit = omega arith in
          let r = within room v (trace_of x v) in
          let e : yielded_in limit (trace_of x v) ≡ onward x (limit - room) r = sym (ap (λ (k : ℕ). yielded_in k (trace_of x v)) z) ∙ going_on x room (limit - room) v (trace_of x v) refl in
          coverage_opened x o
          ∙ ap (mapped runs) e
          ∙ goes r (stands x h room v (trace_of x v) refl (opened_inside x.encoding x.section x.offset x.base_address o)) e
          ∙ ap goesOn (sym (within_coverage [] room x o))

    refused_goes : {n : ℕ} {vs : List ℕ} → opening ≡ refused n vs → coverage_of x ≡ goesOn (coverage_within [] room x)
    unfolding coverage_within
    refused_goes o = rw o (coverage_refused x o)

    pub coverage_goes_on : coverage_of x ≡ goesOn (coverage_within [] room x)
    coverage_goes_on = by_opening (coverage_of x ≡ goesOn (coverage_within [] room x)) (λ v o. opened_goes o) (λ n vs o. refused_goes o)

-- ---- what a call told that gathered
module _ (done : List Range) (room : ℕ) (x : Source) (bs es : List ℕ) where
  module _ {n : ℕ} (g : gives (all n (firsts n bs es)) ≡ coverage_within done room x) where
    pub told_all : or_too_many (coverage_within done room x) ≡ gives (firsts n bs es)
    told_all = ap or_too_many (sym g)

    pub told_few : n ≤ length done + room
    told_few = (subst (Given (Fits (length done + room))) (sym g) (coverage_fits done room x)).0

    pub told_apart : Apart (firsts n bs es)
    told_apart = subst (Given Runs) (sym g) (coverage_runs done room x)

module _ (done : List Range) (room : ℕ) (x : Source) where
  pub told_full : {rs : List Range} {w : Walk} → gives (full rs w) ≡ coverage_within done room x → or_too_many (coverage_within done room x) ≡ refusal TooManyRanges
  told_full g = ap or_too_many (sym g)

  pub told_refused : (e : Error) → refusal e ≡ coverage_within done room x → or_too_many (coverage_within done room x) ≡ refusal e
  told_refused e g = ap or_too_many (sym g)

module _ (x : Source) where
  pub short_all : {n : ℕ} {rs : List Range} → gives (all n rs) ≡ coverage_within [] short x → coverage_of x ≡ gives rs
  short_all g = coverage_goes_on x short (omega arith) ∙ ap (goesOn x short (omega arith)) (sym g)

  pub short_full : (bs es : List ℕ) {w : Walk} → length bs ≡ short → gives (full (firsts (length bs) bs es) w) ≡ coverage_within [] short x
      → coverage_of x ≡ or_too_many (coverage_within (firsts short bs es) (limit - short) (list_from x w))
  short_full bs es {w} l g =
      coverage_goes_on x short (omega arith) ∙ ap (goesOn x short (omega arith)) (sym g)
      ∙ ap (λ (n : ℕ). or_too_many (coverage_within (firsts n bs es) (limit - short) (list_from x w))) l

  pub short_refused : (e : Error) → refusal e ≡ coverage_within [] short x → coverage_of x ≡ refusal e
  short_refused e g = coverage_goes_on x short (omega arith) ∙ ap (goesOn x short (omega arith)) (sym g)

-- ---- the first places copied to longer arrays
pub firsts_copied : (n : ℕ) (bs es xs ys : List ℕ) → length bs ≡ n → length es ≡ n → firsts n (bs ++ xs) (es ++ ys) ≡ firsts n bs es
firsts_copied n bs es xs ys h k =
    take_paired n (bs ++ xs) (es ++ ys)
    ∙ ap₂ paired (take_at bs xs n h ∙ sym (take_all n bs (omega arith))) (take_at es ys n k ∙ sym (take_all n es (omega arith)))
    ∙ sym (take_paired n bs es)

-- ---- what a list holds as two words say it
-- the same list with something else that it holds
abbrev held : Holds → Source → Source
held h x = source h x.encoding x.endian x.section x.offset x.base_address x.table x.table_base

pub covered_as : (done : List Range) (room : ℕ) (l t : Bool) (x : code.Source) (k : Lists) → holding k ≡ holding_as l t x.lists
    → coverage_within done room (held (holding k) (source_in x)) ≡ coverage_within done room (source_as l t x)
covered_as done room l t x k e = ap (λ (h : Holds). coverage_within done room (held h (source_in x))) e

-- the words of its own lists say what it holds
pub held_tabled : (k : Option (Bor (List ℕ))) → holding_as false (is_tabled k) (Ranges k) ≡ ranges_held k
held_tabled None = refl
held_tabled (Some t) = refl

held_own : (k : Lists) → holding_as (are_locations k) (has_table k) k ≡ holding k
held_own (Ranges k) = held_tabled k
held_own (Locations file) = refl

pub source_own : (x : code.Source) {l t : Bool} → l ≡ are_locations x.lists → t ≡ has_table x.lists → source_as l t x ≡ source_in x
source_own x p q =
    ap₂ (λ (l t : Bool). source_as l t x) p q ∙ ap (λ (h : Holds). held h (source_in x)) (held_own x.lists)

-- so they do of what comes from a walk on
pub source_on : (l t : Bool) (x y : code.Source) (w : Walk) → source_in y ≡ list_from (source_in x) w → y.lists ≡ x.lists → source_as l t y ≡ list_from (source_as l t x) w
source_on l t x y w p q = ap₂ held (ap (holding_as l t) q) p

-- how often a call calls itself
abbrev pub turns : Bool → ℕ
turns true = 1
turns false = 0
