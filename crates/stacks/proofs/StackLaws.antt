-- One entry after the other, for all addresses at once: what each lookup has still to answer, and where it will stop. Assumes nothing.
use Prim.Native.Nat.{ℕ, ◌+◌, ◌-◌, ◌^◌, ◌≤◌, ◌<◌}
use native.Mathlib.Omega.{arith}
use mathlib.Core.Bool.{Bool, true, false, ◌&&◌}
use mathlib.Core.List.{List, [], ◌∷◌}
use mathlib.Core.Logic.{◌⊎◌, inl, inr}
use mathlib.Core.Path.{◌≡◌, refl, sym, ap, ◌∙◌, subst}
use lib.Dec.{leb}
use lib.ListN.{length, replicate}
use Rattle.std.specs.Prelude.{Some, None, Ok}
use Rattle.std.specs.Option.{option_or}
use Rattle.std.specs.declared.option.Option.{Option}
use borrow.Author.Tests.{le-leb, lt-leb, lt-ltb, le-ltb}
use Rattle.section_bytes.specs.Read.{Result, gives, refused, got, Read, pick}
use Rattle.entries.specs.Forms.{Raw, stop, entry}
use Rattle.entries.specs.Listed.{EntryIn, read_in, no_expression}
use Rattle.entries.specs.Numbers.{Coding}
use Rattle.entries.specs.declared.Expression.{Expression}
use Rattle.lists.specs.Open.{walk_at, one_more}
use Rattle.lists.specs.Convert.{Turn, range, rebase, skip, convert, table_in}
use Rattle.lists.specs.Walk.{CarriedIn, bounds_in, data_in, listed, item, Trace}
use Rattle.lists.specs.Walks.{carried_as}
use Rattle.lists.specs.Steps.{Step, yields, rebases, passes, fails, ended, turned, on_entry, step, Located, is_default_in, located_in, step_in_unit, stepped_to, stepped_in}
use Rattle.lists.specs.declared.LocationListEntry.{LocationListEntry}
use Rattle.lists.specs.declared.Unit.{Unit as DwarfUnit}
use Rattle.lists.specs.declared.Walk.{Walk}
use Rattle.lists.specs.declared.listed.Stepped.TheVariants as code
use Rattle.lists.proofs.CountLaws.{one_more_rises}
use Rattle.lookups.specs.Lookup.{Found, found, not_there, holds, told_location_found}
use Rattle.lookups.proofs.SeekLaws.{left, does, Steps, step_ahead, default_bounds, found_as, base_as, nothing_as, failed_as, refused_as, end_as, step_bounded_held, step_bounded, step_default_held, step_default, step_base, step_nothing, step_failed, step_refused, step_end, from_walk, from_range_walk}
use Rattle.lookups.proofs.ReadLaws.{stops, stops_held, stops_not_held, stops_default, stops_refusal, stops_end, stops_locations, stops_ranges}
use Rattle.stacks.specs.Stack.{location_row}
use Rattle.stacks.specs.Either.{lookup_from, row_in, reads_from, given_to}
use Rattle.stacks.specs.Places.{at, Standing, WaitingFrom, Settled, Filled}
use Rattle.stacks.proofs.GoingLaws as going
use Rattle.stacks.proofs.GoingLaws.{Going, Finished, Missed}

-- a refusal has the same words in both lists
pub row_refused : (n : ℕ) (vs : List ℕ) (l : Bool) → location_row (refused n vs) ≡ row_in l (refused n vs)
row_refused n vs true = refl
row_refused n vs false = refl

-- whether an address lies in a range, by its numbers
pub inside : (x b e : ℕ) → b ≤ x → x < e → holds x b e ≡ true
inside x b e p q = rw (le-leb b x p) (lt-ltb x e q)

pub outside : (x b e : ℕ) → (x < b) ⊎ (e ≤ x) → holds x b e ≡ false
outside x b e (inl p) = rw (lt-leb b x p) refl
outside x b e (inr p) = both (leb b x) (le-ltb x e p)
  where
    both : (t : Bool) {u : Bool} → u ≡ false → (t && u) ≡ false
    both true q = q
    both false q = refl

-- what is kept is a default location of a location list, or nothing: one that holds an address is all that the address can get
abbrev Kept : Bool → Option LocationListEntry → Type 0
Kept l (Some x) = (l ≡ true) × (x.range.begin ≡ 0) × (x.range.end ≡ 2 ^ 64 - 1)
Kept l None = Unit

-- told as its list's
abbrev kept_in : (l : Bool) → Option LocationListEntry → Result (Found (CarriedIn l))
kept_in l (Some x) = gives (found (item x.range.begin x.range.end (data_in l x.«data»)))
kept_in l None = gives not_there

kept_row : (l : Bool) (k : Option LocationListEntry) → Kept l k → (a : ℕ) → location_row (given_to a (told_location_found (Ok k))) ≡ row_in l (given_to a (kept_in l k))
kept_row true (Some x) w a = refl
kept_row false (Some x) w a = let z : ◌≡◌ {A = ℕ} 0 1 = cc w.0 in absurd (omega arith)
kept_row true None w a = refl
kept_row false None w a = refl

-- a default location is one of a location list
abbrev ByList : {D : Type 0} → Bool → Result (Step (Located D)) → Type 0
ByList l (gives (yields (item b e d) c)) = d.by_default ≡ true → l ≡ true
ByList l (gives (rebases b c)) = Unit
ByList l (gives (passes c)) = Unit
ByList l (gives (fails n vs c)) = Unit
ByList l (gives ended) = Unit
ByList l (refused n vs) = Unit

turn_by : {D : Type 0} (l : Bool) (t : Result Turn) (d : Located D) (c : ℕ) → (d.by_default ≡ true → l ≡ true) → ByList l (gives (turned t d c))
turn_by l (gives (range b e)) d c h = h
turn_by l (gives (rebase b)) d c h = tt
turn_by l (gives skip) d c h = tt
turn_by l (refused n vs) d c h = tt

located_by : (l : Bool) (x : EntryIn l) → is_default_in l x ≡ true → l ≡ true
located_by true x q = refl
located_by false x q = q

module _ (l : Bool) (coding : Coding) (s : List ℕ) (u : DwarfUnit) where
  entry_by : (base : ℕ) (r : Read (Raw (EntryIn l))) → ByList l (on_entry (carried_as (listed l coding u.encoding u.endian s) (located_in l)) (table_in u) u.encoding.address_size base r)
  entry_by base (gives (got (entry x) c)) = turn_by l (convert (table_in u) u.encoding.address_size base (bounds_in l x)) (located_in l x) c (located_by l x)
  entry_by base (gives (got stop c)) = tt
  entry_by base (refused n vs) = tt

  step_by : (at base : ℕ) → ByList l (step_in_unit l coding s u at base)
  unfolding step
  step_by at base = entry_by base (read_in l coding u.encoding u.endian s at)

  -- of an address: what is left to answer, and how many entries will be read
  abbrev left_of : Option LocationListEntry → ℕ → ℕ → ℕ → ℕ → Result (Found (CarriedIn l))
  left_of kept at base n x = left x (given_to x (kept_in l kept)) (does l coding s u at base n)

  abbrev reading_of : ℕ → ℕ → ℕ → ℕ → ℕ
  reading_of at base n x = (stops x (does l coding s u at base n)).entries

  -- at the start that is the whole lookup
  left_start : (x at base n : ℕ) → lookup_from l coding s u x (walk_at at base n) ≡ left_of None at base n x
  left_start x at base n = by l
    where
      by : (m : Bool) → lookup_from m coding s u x (walk_at at base n) ≡ left x (gives not_there) (does m coding s u at base n)
      by true = from_walk coding.split s u x (walk_at at base n)
      by false = from_range_walk coding s u x (walk_at at base n)

  reading_start : (x at base n : ℕ) → reads_from l coding s u x (walk_at at base n) ≡ reading_of at base n x
  reading_start x at base n = by l
    where
      by : (m : Bool) → reads_from m coding s u x (walk_at at base n) ≡ (stops x (does m coding s u at base n)).entries
      by true = ap (λ (w : Walk). w.entries) (stops_locations coding.split s u x (walk_at at base n))
      by false = ap (λ (w : Walk). w.entries) (stops_ranges coding s u x (walk_at at base n))

  module _ (asked a : List ℕ) (rows₀ : List (List ℕ)) (start base₀ : ℕ) where
    abbrev wanted : ℕ → Result (Found (CarriedIn l))
    wanted x = lookup_from l coding s u x (walk_at start base₀ 0)

    abbrev reads : ℕ → ℕ
    reads x = reads_from l coding s u x (walk_at start base₀ 0)

    -- where the loop is
    pub record Loop (kept : Option LocationListEntry) (at base read low before after : ℕ) (next : List ℕ) (rows : List (List ℕ)) : Type 0 where
      pub goes : Going (row_in l) wanted reads asked a rows₀ (left_of kept at base read) (reading_of at base read) read low before after next rows
      pub counted : read ≤ at
      pub whole : Kept l kept

    abbrev pub End : ℕ → List (List ℕ) → Type 0
    End read rows = Finished (row_in l) wanted reads asked a rows₀ read rows

module _ {l : Bool} {coding : Coding} {s : List ℕ} {u : DwarfUnit} {asked a : List ℕ} {rows₀ : List (List ℕ)} {start base₀ : ℕ} (st : Standing asked a) where
  pub loop_start : 0 < length asked → (y : ℕ) → y ≡ at a 0 → Loop l coding s u asked a rows₀ start base₀ None start base₀ 0 0 0 y (replicate 64 0) rows₀
  loop_start h y e =
      let g = going.at_start (row_in l) _ _ asked a rows₀ st h 0 y e in
      record {
        goes = going.onward (row_in l) _ _ asked a rows₀ st g (left_of l coding s u None start base₀ 0) (reading_of l coding s u start base₀ 0) 0 (λ m k. (left_start l coding s u (at a m) start base₀ 0, reading_start l coding s u (at a m) start base₀ 0)) (omega arith) 0 y (λ m k. g.gap m k);
        counted = omega arith;
        whole = tt;
      }

  module _ {kept : Option LocationListEntry} {here base read low before after : ℕ} {next : List ℕ} {rows : List (List ℕ)} (h : Loop l coding s u asked a rows₀ start base₀ kept here base read low before after next rows) (short : length s < 2 ^ 64) where
    abbrev Met : Result (Step (Located (CarriedIn l))) → Type 0
    Met r = Steps l coding s u here base r

    -- an entry is one more
    one : {c : ℕ} → here < c → c ≤ length s → one_more read ≡ read + 1
    one p q = one_more_rises read (let z = h.counted in omega arith) ∙ omega arith

    -- from entry to entry
    on : (kept' : Option LocationListEntry) (c base' : ℕ) → here < c → c ≤ length s → (x y : ℕ) → ((m : ℕ) → m < 64 → (at a m ≤ x) ⊎ (y ≤ at a m))
        → ((m : ℕ) → m < length asked → (left_of l coding s u kept here base read (at a m) ≡ left_of l coding s u kept' c base' (read + 1) (at a m)) × (reading_of l coding s u here base read (at a m) ≡ reading_of l coding s u c base' (one_more read) (at a m)))
        → Kept l kept' → Loop l coding s u asked a rows₀ start base₀ kept' c base' (read + 1) low x y next rows
    on kept' c base' p q x y gap e w =
        record {
          goes = going.onward (row_in l) _ _ asked a rows₀ st h.goes (left_of l coding s u kept' c base' (read + 1)) (reading_of l coding s u c base' (read + 1)) (read + 1) (λ m k. let z = e m k in (z.0, z.1 ∙ ap (λ (n : ℕ). reading_of l coding s u c base' n (at a m)) (one p q))) (omega arith) x y gap;
          counted = let z = h.counted in omega arith;
          whole = w;
        }

    pub loop_base : {b c : ℕ} → Met (gives (rebases b c)) → Loop l coding s u asked a rows₀ start base₀ kept c b (read + 1) low before after next rows
    loop_base {b} {c} q =
        let p = step_ahead l coding s u here base q in
        on kept c b p.0 p.1 before after h.goes.gap
        (λ m k. (step_base l coding s u (at a m) (given_to (at a m) (kept_in l kept)) here base read (read + 1) q, ap (λ (t : Trace (Located (CarriedIn l))). (stops (at a m) t).entries) (base_as l coding s u here base read q)))
        h.whole

    pub loop_nothing : {c : ℕ} → Met (gives (passes c)) → Loop l coding s u asked a rows₀ start base₀ kept c base (read + 1) low before after next rows
    loop_nothing {c} q =
        let p = step_ahead l coding s u here base q in
        on kept c base p.0 p.1 before after h.goes.gap
        (λ m k. (step_nothing l coding s u (at a m) (given_to (at a m) (kept_in l kept)) here base read (read + 1) q, ap (λ (t : Trace (Located (CarriedIn l))). (stops (at a m) t).entries) (nothing_as l coding s u here base read q)))
        h.whole

    module _ (x : LocationListEntry) {c : ℕ} (q : Met (stepped_in l (gives (stepped_to (code.Bounded x) c)))) where
      abbrev b : ℕ
      b = x.range.begin

      abbrev e : ℕ
      e = x.range.end

      behind : (here < c) × (c ≤ length s)
      behind = step_ahead l coding s u here base q

      -- for those that the range doesn't hold
      others : (y : ℕ) → (y < b) ⊎ (e ≤ y) → (left_of l coding s u kept here base read y ≡ left_of l coding s u kept c base (read + 1) y) × (reading_of l coding s u here base read y ≡ reading_of l coding s u c base (one_more read) y)
      others y o =
          let f = outside y b e o in
          (step_bounded l coding s u y (given_to y (kept_in l kept)) here base read (read + 1) q f, ap (λ (w : Walk). w.entries) (stops_not_held y (found_as l coding s u here base read q) f))

      others_now : (y : ℕ) → (y < b) ⊎ (e ≤ y) → (left_of l coding s u kept here base read y ≡ left_of l coding s u kept c base (read + 1) y) × (reading_of l coding s u here base read y ≡ reading_of l coding s u c base (read + 1) y)
      others_now y o = let z = others y o in (z.0, z.1 ∙ ap (λ (n : ℕ). reading_of l coding s u c base n y) (one behind.0 behind.1))

      pub loop_missed : (y z : ℕ) → ((m : ℕ) → m < 64 → (at a m ≤ y) ⊎ (z ≤ at a m)) → Missed a b e → Loop l coding s u asked a rows₀ start base₀ kept c base (read + 1) low y z next rows
      loop_missed y z gap o = on kept c base behind.0 behind.1 y z gap (λ m k. others (at a m) (o m (let v = st.few in omega arith))) h.whole

      -- for those that it holds
      abbrev it : Result (Found (CarriedIn l))
      it = gives (found (item b e (data_in l x.«data»)))

      held : (y : ℕ) → b ≤ y → y < e → (left_of l coding s u kept here base read y ≡ it) × (reading_of l coding s u here base read y ≡ read + 1)
      held y o p =
          let f = inside y b e o p in
          (step_bounded_held l coding s u y (given_to y (kept_in l kept)) here base read q f, ap (λ (w : Walk). w.entries) (stops_held y (found_as l coding s u here base read q) f) ∙ one behind.0 behind.1)

      module _ (top : e ≤ 2 ^ 64 - 1) {shown : Expression} (is : shown ≡ pick l x.«data» no_expression) where
        abbrev row : List ℕ
        row = 0 ∷ 0 ∷ b ∷ e ∷ shown.offset ∷ shown.len ∷ []

        row_is : row ≡ row_in l it
        row_is = ap (λ (y : Expression). 0 ∷ 0 ∷ b ∷ e ∷ y.offset ∷ y.len ∷ []) is ∙ by l
          where
            by : (m : Bool) → 0 ∷ 0 ∷ b ∷ e ∷ (pick m x.«data» no_expression).offset ∷ (pick m x.«data» no_expression).len ∷ [] ≡ row_in m (gives (found (item b e (data_in m x.«data»))))
            by true = refl
            by false = refl

        module _ {next' : List ℕ} {rows' : List (List ℕ)} {r low' : ℕ} (v : Settled a next rows b e row next' rows' r) (w : WaitingFrom next' low (length asked) low') where
          pub loop_found : (y z : ℕ) → ((m : ℕ) → m < 64 → (at a m ≤ y) ⊎ (z ≤ at a m)) → low' < length asked → Loop l coding s u asked a rows₀ start base₀ kept c base (read + 1) low' y z next' rows'
          loop_found y z gap k =
              record {
                goes = going.found_some (row_in l) _ _ asked a rows₀ st h.goes b e (read + 1) it row (left_of l coding s u kept c base (read + 1)) (reading_of l coding s u c base (read + 1)) (omega arith) top row_is held others_now v w k y z gap;
                counted = let i = behind.0 in let t = h.counted in omega arith;
                whole = h.whole;
              }

          pub loop_all : length asked ≤ low' → End l coding s u asked a rows₀ start base₀ (read + 1) rows'
          loop_all k = going.found_all (row_in l) _ _ asked a rows₀ st h.goes b e (read + 1) it row (left_of l coding s u kept c base (read + 1)) (reading_of l coding s u c base (read + 1)) (omega arith) top row_is held others_now v w k

    -- a refusal is what all that wait are given
    pub loop_failed : {n : ℕ} {vs : List ℕ} {c : ℕ} {rows' : List (List ℕ)} → Met (gives (fails n vs c)) → Filled (λ x. location_row (given_to x (refused n vs))) a (length asked) next rows rows' → End l coding s u asked a rows₀ start base₀ (read + 1) rows'
    loop_failed {n} {vs} {c} {rows'} q f =
        let p = step_ahead l coding s u here base q in
        going.at_end (row_in l) _ _ asked a rows₀ st h.goes (read + 1) (λ x. refused n vs) rows'
        (λ x. step_failed l coding s u x (given_to x (kept_in l kept)) here base read q)
        (λ x. ap (λ (w : Walk). w.entries) (stops_refusal x (failed_as l coding s u here base read q)) ∙ one p.0 p.1)
        (omega arith) (subst (λ (g : List ℕ). Filled (λ x. g) a (length asked) next rows rows') (row_refused n vs l) f)

    pub loop_refused : {n : ℕ} {vs : List ℕ} {rows' : List (List ℕ)} → Met (refused n vs) → Filled (λ x. location_row (given_to x (refused n vs))) a (length asked) next rows rows' → End l coding s u asked a rows₀ start base₀ read rows'
    loop_refused {n} {vs} {rows'} q f =
        going.at_end (row_in l) _ _ asked a rows₀ st h.goes read (λ x. refused n vs) rows'
        (λ x. step_refused l coding s u x (given_to x (kept_in l kept)) here base read q)
        (λ x. ap (λ (w : Walk). w.entries) (stops_refusal x (refused_as l coding s u here base read q)))
        (omega arith) (subst (λ (g : List ℕ). Filled (λ x. g) a (length asked) next rows rows') (row_refused n vs l) f)

    -- at the end of the list it is the default location, or nothing
    kept_filled : {rows' : List (List ℕ)} → Filled (λ x. location_row (given_to x (told_location_found (Ok kept)))) a (length asked) next rows rows' → Filled (λ x. row_in l (given_to x (kept_in l kept))) a (length asked) next rows rows'
    kept_filled f = record { laid = λ m k w. rw (← kept_row l kept h.whole (at a m)) (f.laid m k w); kept = f.kept; over = f.over }

    pub loop_mark : {rows' : List (List ℕ)} → Met (gives ended) → here < length s → Filled (λ x. location_row (given_to x (told_location_found (Ok kept)))) a (length asked) next rows rows' → End l coding s u asked a rows₀ start base₀ (read + 1) rows'
    loop_mark {rows'} q k f =
        going.at_end (row_in l) _ _ asked a rows₀ st h.goes (read + 1) (λ x. given_to x (kept_in l kept)) rows'
        (λ x. step_end l coding s u x (given_to x (kept_in l kept)) here base read q)
        (λ x. ap (λ (w : Walk). w.entries) (stops_end x (end_as l coding s u here base read q)) ∙ ap (λ (b : Bool). (pick b (walk_at here base read) (walk_at (length s) base (one_more read))).entries) (lt-leb (length s) here k) ∙ one_more_rises read (let z = h.counted in omega arith) ∙ omega arith)
        (omega arith) (kept_filled f)

    pub loop_over : {rows' : List (List ℕ)} → Met (gives ended) → length s ≤ here → Filled (λ x. location_row (given_to x (told_location_found (Ok kept)))) a (length asked) next rows rows' → End l coding s u asked a rows₀ start base₀ read rows'
    loop_over {rows'} q k f =
        going.at_end (row_in l) _ _ asked a rows₀ st h.goes read (λ x. given_to x (kept_in l kept)) rows'
        (λ x. step_end l coding s u x (given_to x (kept_in l kept)) here base read q)
        (λ x. ap (λ (w : Walk). w.entries) (stops_end x (end_as l coding s u here base read q)) ∙ ap (λ (b : Bool). (pick b (walk_at here base read) (walk_at (length s) base (one_more read))).entries) (le-leb (length s) here k))
        (omega arith) (kept_filled f)

    -- the first default location is kept, whatever address it holds
    module _ (x : LocationListEntry) {c : ℕ} (q : Met (stepped_in l (gives (stepped_to (code.Default x) c)))) where
      bounds : (x.range.begin ≡ 0) × (x.range.end ≡ 2 ^ 64 - 1)
      bounds = default_bounds l coding s u here base q refl

      is_location : true ≡ true → l ≡ true
      is_location = subst (ByList l) (sym q) (step_by l coding s u here base)

      -- what was kept still comes first
      keeps : (k : Option LocationListEntry) → Kept l k → Kept l (option_or k (Some x))
      keeps (Some y) w = w
      keeps None w = (is_location refl, bounds.0, bounds.1)

      goes_on : (y : ℕ) (k : Option LocationListEntry) → Kept l k → (t : Bool) → holds y x.range.begin x.range.end ≡ t
          → left_of l coding s u k here base read y ≡ left_of l coding s u (option_or k (Some x)) c base (read + 1) y
      goes_on y (Some z) w true f =
          let g : holds y z.range.begin z.range.end ≡ true = rw (w.1, w.2) (rw (← bounds.0, ← bounds.1) f) in
          let i : given_to y (kept_in l (Some z)) ≡ kept_in l (Some z) = ap (λ (t : Bool). pick t (kept_in l (Some z)) (gives not_there)) g in
          ap (λ (v : Result (Found (CarriedIn l))). left y v (does l coding s u here base read)) i ∙ step_default_held l coding s u y (kept_in l (Some z)) here base read (read + 1) q f
          ∙ ap (λ (v : Result (Found (CarriedIn l))). left y v (does l coding s u c base (read + 1))) (sym i)
      goes_on y (Some z) w false f = step_default l coding s u y (given_to y (kept_in l (Some z))) here base read (read + 1) q f
      goes_on y None w true f = step_default_held l coding s u y (gives not_there) here base read (read + 1) q f ∙ ap (λ (t : Bool). left y (pick t (kept_in l (Some x)) (gives not_there)) (does l coding s u c base (read + 1))) (sym f)
      goes_on y None w false f = step_default l coding s u y (gives not_there) here base read (read + 1) q f ∙ ap (λ (t : Bool). left y (pick t (kept_in l (Some x)) (gives not_there)) (does l coding s u c base (read + 1))) (sym f)

      pub loop_default : Loop l coding s u asked a rows₀ start base₀ (option_or kept (Some x)) c base (read + 1) low before after next rows
      loop_default =
          let p = step_ahead l coding s u here base q in
          on (option_or kept (Some x)) c base p.0 p.1 before after h.goes.gap
          (λ m k. (goes_on (at a m) kept h.whole (holds (at a m) x.range.begin x.range.end) refl, ap (λ (w : Walk). w.entries) (stops_default (at a m) (found_as l coding s u here base read q))))
          (keeps kept h.whole)
