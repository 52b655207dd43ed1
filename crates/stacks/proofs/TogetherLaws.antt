-- Addresses looked up together, over the definitions: which calls are refused, what stands at each place, how many entries are read, and
-- what damage behind an answer does. Assumes nothing.
use Prim.Native.Nat.{ℕ, zero, suc, ◌+◌, ◌≤◌, ◌<◌}
use native.Mathlib.Omega.{arith}
use mathlib.Core.Bool.{Bool, true, false}
use mathlib.Core.List.{List, [], ◌∷◌, map}
use mathlib.Core.Logic.{⊎_elim}
use mathlib.Core.Path.{◌≡◌, refl, sym, ap, ◌∙◌, subst}
use lib.ListN.{length, get_or, set, drop, length-map, get_or-append}
use lib.Seq.{sets, sets-eq, get_or-set_other}
use borrow.Author.Tests.{lt-ltb, le-ltb}
use Rattle.section_bytes.specs.Read.{Result, gives, refused, and_then}
use Rattle.section_bytes.specs.Error.{refusal}
use Rattle.section_bytes.specs.Reader.{is_size}
use Rattle.section_bytes.specs.declared.common.DebugAddrBase.{DebugAddrBase}
use Rattle.section_bytes.specs.declared.common.DebugAddrIndex.{DebugAddrIndex}
use Rattle.section_bytes.specs.declared.common.Encoding.{Encoding}
use Rattle.section_bytes.specs.declared.endianity.RunTimeEndian.{RunTimeEndian}
use Rattle.section_bytes.specs.declared.error.Error.TheVariants.{TooManyAddresses, DescendingAddresses}
use Rattle.section_bytes.proofs.Order.{lt_or_le}
use Rattle.section_bytes.proofs.Took.{Agree, pick_ind}
use Rattle.tables.specs.Next.{Next}
use Rattle.entries.specs.Numbers.{Coding, dwarf}
use Rattle.lists.specs.Open.{opened}
use Rattle.lists.specs.Convert.{table_at, expression_of}
use Rattle.lists.specs.Walk.{Listing, listed, locations, Item, item, Trace, over, handed, trace, first}
use Rattle.lists.specs.Walks.{Hands, carrying}
use Rattle.lists.specs.Counted.{left_by, Reached, by_opening, by_next}
use Rattle.lists.specs.declared.Walk.{Walk}
use Rattle.lists.proofs.OpenLaws.{opened_size}
use Rattle.lists.proofs.WalkLaws.{next_first}
use Rattle.lists.proofs.Past.{listed_past}
use Rattle.lists.proofs.Theorems.{hands_out}
use Rattle.lists.proofs.Bounds.{trace_carrying}
use Rattle.lists.proofs.CountLaws.{listed_counted, locations_counted}
use Rattle.lookups.specs.Lookup.{holds, only, stops_at, is_bounded, locations_from, lookup_range_from, lookup_range_in, lookup_location_from, lookup_location}
use Rattle.lookups.proofs.AloneLaws.{FoundBy, inside, inside_of, found_alone, location_found_alone}
use Rattle.stacks.specs.Ascending.{ascends}
use Rattle.stacks.specs.Places.{at}
use Rattle.stacks.specs.Stack.{checked, longest, range_row, location_row, Answers, answers, on_checked, together}
use Rattle.stacks.specs.Together.{InOrder, Together, ReadsCounted}
use Rattle.stacks.proofs.PlaceLaws.{ascends_all, ascends_not}
use Rattle.stacks.proofs.GoingLaws.{longest_least}

-- an answer stands at its place, and what is behind all of them is left
row_in : (row : ℕ → List ℕ) (l : List ℕ) (i : ℕ) → i < length l → get_or (map row l) i [] ≡ row (at l i)
row_in row [] i h = absurd (omega arith)
row_in row (a ∷ l) zero h = refl
row_in row (a ∷ l) (suc i) h = row_in row l i (omega arith)

rows_in : (vs rows : List (List ℕ)) (i : ℕ) → length vs ≤ length rows → i < length vs → get_or (sets rows 0 vs) i [] ≡ get_or vs i []
rows_in vs rows i h k = ap (λ (l : List (List ℕ)). get_or l i []) (sets-eq vs rows 0 (omega arith)) ∙ get_or-append vs (drop (0 + length vs) rows) [] i k

rows_behind : (vs rows : List (List ℕ)) (k i : ℕ) → k + length vs ≤ i → get_or (sets rows k vs) i [] ≡ get_or rows i []
rows_behind [] rows k i h = refl
rows_behind (v ∷ vs) rows k i h = rows_behind vs (set rows k v) (suc k) i (omega arith) ∙ get_or-set_other rows k i v [] (λ e. omega arith)

-- one of the lookups reads the most
longest_met : (reads : ℕ → ℕ) (l : List ℕ) → 0 < length l → (i : ℕ) × (i < length l) × (reads (at l i) ≡ longest reads l)
unfolding longest
longest_met reads [] h = absurd (omega arith)
longest_met reads (a ∷ []) h = (0, omega arith, omega arith)
longest_met reads (a ∷ b ∷ l) h =
    let r = longest_met reads (b ∷ l) (omega arith) in
    ⊎_elim
    (λ k. (suc r.0, omega (arith, r.1), omega (arith, r.2)))
    (λ k. (0, omega arith, omega arith))
    (lt_or_le (reads a) (longest reads (b ∷ l)))

module _ (row : ℕ → List ℕ) (reads : ℕ → ℕ) (l : List ℕ) (rows : List (List ℕ)) where
  abbrev done : Answers
  done = answers (gives (longest reads l)) (sets rows 0 (map row l))

  refused_many : 64 < length l → together row reads l rows ≡ answers (refusal TooManyAddresses) rows
  unfolding together checked
  refused_many h = simp (lt-ltb 64 (length l) h)

  refused_order : length l ≤ 64 → (i : ℕ) → suc i < length l → at l (suc i) < at l i → together row reads l rows ≡ answers (refusal DescendingAddresses) rows
  unfolding together checked
  refused_order h i k q = simp (le-ltb 64 (length l) h, ascends_not l i k q)

  accepted_as : InOrder l → together row reads l rows ≡ done
  unfolding together checked
  accepted_as h = simp (le-ltb 64 (length l) h.0, ascends_all l h.1)

  each_in : InOrder l → length rows ≡ 64 → (i : ℕ) → i < length l → get_or (together row reads l rows).rows i [] ≡ row (at l i)
  each_in h n i k =
      let m = length-map l row in
      let f : length l ≤ 64 = h.0 in
      ap (λ (x : Answers). get_or x.rows i []) (accepted_as h) ∙ rows_in (map row l) rows i (omega arith) (omega arith) ∙ row_in row l i k

  -- by the check
  left_behind : (c : Result Unit) (i : ℕ) → length l ≤ i → get_or (on_checked c done rows).rows i [] ≡ get_or rows i []
  left_behind (gives x) i h = let m = length-map l row in rows_behind (map row l) rows 0 i (omega arith)
  left_behind (refused n vs) i h = refl

  read_longest : (c : Result Unit) {n : ℕ} → (on_checked c done rows).read ≡ gives n → longest reads l ≡ n
  read_longest (gives x) q = cc
  read_longest (refused m vs) q = let z : ◌≡◌ {A = ℕ} 0 1 = cc in absurd (omega arith)

  all_behind : (i : ℕ) → length l ≤ i → get_or (together row reads l rows).rows i [] ≡ get_or rows i []
  unfolding together
  all_behind i h = left_behind (checked l) i h

  read_is : {n : ℕ} → (together row reads l rows).read ≡ gives n → longest reads l ≡ n
  unfolding together
  read_is q = read_longest (checked l) q

  most_read : {n : ℕ} → (together row reads l rows).read ≡ gives n
      → ((i : ℕ) → i < length l → reads (at l i) ≤ n) × (0 < length l → (i : ℕ) × (i < length l) × (reads (at l i) ≡ n))
  most_read q =
      let e = read_is q in
      ((λ i h. let k = longest_least reads l i h in omega arith), (λ h. let r = longest_met reads l h in (r.0, r.1, r.2 ∙ e)))

nothing_done : (row : ℕ → List ℕ) (reads : ℕ → ℕ) (rows : List (List ℕ)) → together row reads [] rows ≡ answers (gives 0) rows
unfolding together checked longest ascends
nothing_done row reads rows = refl

pub together_holds : (row : ℕ → List ℕ) (reads : ℕ → ℕ) (addresses : List ℕ) (rows : List (List ℕ)) → Together row reads addresses rows
together_holds row reads l rows =
    record {
      too_many = refused_many row reads l rows;
      descending = refused_order row reads l rows;
      accepted = λ h. (longest reads l, ap (λ (x : Answers). x.read) (accepted_as row reads l rows h));
      each = each_in row reads l rows;
      behind = all_behind row reads l rows;
      longest = λ q. most_read row reads l rows q;
      none = λ e. ap (λ (x : List ℕ). together row reads x rows) e ∙ nothing_done row reads rows;
    }

-- sections of one length open alike
opened_alike : (encoding : Encoding) (s t : List ℕ) (offset base : ℕ) → length s ≡ length t → opened encoding t offset base ≡ opened encoding s offset base
unfolding opened
opened_alike encoding s t offset base e = rw e

-- what stands behind the entry found for an address, or behind the refusal met before it, does not change its answer: sections of one
-- length that agree up to there give the same
module _ (encoding : Encoding) (endian : RunTimeEndian) (s t table : List ℕ) (tableBase : DebugAddrBase) (offset base a : ℕ) where
  pub ranges_alone : (coding : Coding) {w : Walk} → opened encoding s offset base ≡ gives w → (m : ℕ) → Agree w.at m s t
      → FoundBy (inside a) m (trace (listed false coding encoding endian s) (table_at endian encoding tableBase table) encoding.address_size (length s) w)
      → range_row (lookup_range_in coding encoding endian t table tableBase offset base a) ≡ range_row (lookup_range_in coding encoding endian s table tableBase offset base a)
  ranges_alone coding {w} q m j f =
      ap range_row
      (ap (λ (x : Result Walk). and_then x (lookup_range_from coding encoding endian t table tableBase a)) (opened_alike encoding s t offset base j.size ∙ q)
      ∙ found_alone coding encoding endian (table_at endian encoding tableBase table) encoding.address_size a s t w m j f
      ∙ ap (λ (x : Result Walk). and_then x (lookup_range_from coding encoding endian s table tableBase a)) (sym q))

  -- in a location list it is the bounded entry found, whatever default locations stand before it
  pub locations_alone : (split : Bool) {w : Walk} → opened encoding s offset base ≡ gives w → (m : ℕ) → Agree w.at m s t
      → FoundBy (inside_of is_bounded a) m (locations_from split encoding endian s table tableBase w)
      → location_row (lookup_location split encoding endian t table tableBase offset base a) ≡ location_row (lookup_location split encoding endian s table tableBase offset base a)
  locations_alone split {w} q m j f =
      ap location_row
      (ap (λ (x : Result Walk). and_then x (lookup_location_from split encoding endian t table tableBase a)) (opened_alike encoding s t offset base j.size ∙ q)
      ∙ location_found_alone split encoding endian table tableBase a s t w m j f
      ∙ ap (λ (x : Result Walk). and_then x (lookup_location_from split encoding endian s table tableBase a)) (sym q))

-- of each walk in what a list does
abbrev Every : {D : Type 0} → (Walk → Type 0) → Trace D → Type 0
Every P (over w) = P w
Every P (handed r w t) = P w × Every P t

module _ (P : Walk → Type 0) where
  every_stop : {D : Type 0} (a : ℕ) (t : Trace D) → Every P t → P (stops_at a t)
  unfolding stops_at
  every_stop a (over w) h = h
  every_stop a (handed (gives (item b e d)) w t) h = pick_ind P (holds a b e) (λ _. h.0) (λ _. every_stop a t h.1)
  every_stop a (handed (refused n vs) w t) h = h.0

  every_only : {D : Type 0} (p : D → Bool) (t : Trace D) → Every P t → Every P (only p t)
  every_only p (over w) h = h
  every_only p (handed (gives (item b e d)) w t) h = pick_ind (Every P) (p d) (λ _. (h.0, every_only p t h.1)) (λ _. every_only p t h.1)
  every_only p (handed (refused n vs) w t) h = (h.0, every_only p t h.1)

  every_carried : {D C : Type 0} (f : D → C) (t : Trace D) → Every P (carrying f t) → Every P t
  every_carried f (over w) h = h
  every_carried f (handed (gives (item b e d)) w t) h = (h.0, every_carried f t h.1)
  every_carried f (handed (refused n vs) w t) h = (h.0, every_carried f t h.1)

-- every walk in what a list does comes from its opening by calls
module _ (encoding : Encoding) (s : List ℕ) (l : Listing) (offset : ℕ) (table : DebugAddrIndex → Result ℕ) (sized : is_size encoding.address_size ≡ true)
    (goes : (w : Walk) → Hands l table encoding.address_size (length s) (trace l table encoding.address_size (length s) w)) where
  called : (w : Walk) (t : Trace l.Carried) → trace l table encoding.address_size (length s) w ≡ t → Reached encoding s l offset w → Reached encoding s l offset (left_by (first t))
  called w t q r =
      subst (λ (n : Next (Item l.Carried) Walk). Reached encoding s l offset (left_by n)) (next_first l table encoding.address_size (length s) w sized ∙ ap first q) (by_next table w r)

  every_reached : (t : Trace l.Carried) (w : Walk) → trace l table encoding.address_size (length s) w ≡ t → Reached encoding s l offset w → Every (Reached encoding s l offset) t
  every_reached (over v) w q r = called w (over v) q r
  every_reached (handed x v t) w q r =
      let k = called w (handed x v t) q r in
      (k, every_reached t v (subst (Hands l table encoding.address_size (length s)) q (goes w)) k)

module _ (encoding : Encoding) (endian : RunTimeEndian) (s table : List ℕ) (tableBase : DebugAddrBase) (offset base a : ℕ) where
  -- of either list, by what its walk does
  listed_reached : (l : Bool) (coding : Coding) {w : Walk} → opened encoding s offset base ≡ gives w → (t : Trace (listed l coding encoding endian s).Carried)
      → trace (listed l coding encoding endian s) (table_at endian encoding tableBase table) encoding.address_size (length s) w ≡ t → Every (Reached encoding s (listed l coding encoding endian s) offset) t
  listed_reached l coding {w} q t e =
      every_reached encoding s (listed l coding encoding endian s) offset (table_at endian encoding tableBase table) (opened_size encoding s offset base q)
      (hands_out (listed l coding encoding endian s) (table_at endian encoding tableBase table) encoding.address_size (length s) (listed_past l coding encoding endian s)) t w e (by_opening base q)

  pub reads_counted : ReadsCounted encoding endian s table tableBase offset base a
  reads_counted =
      record {
        in_ranges = λ coding {w} q b.
            let t = trace (listed false coding encoding endian s) (table_at endian encoding tableBase table) encoding.address_size (length s) w in
            (listed_counted encoding endian s offset false coding).exact b (every_stop (Reached encoding s (listed false coding encoding endian s) offset) a t (listed_reached false coding q t refl));
        in_locations = λ split {w} q b.
            let P = Reached encoding s (locations split encoding endian s) offset in
            let t = locations_from split encoding endian s table tableBase w in
            let e = trace_carrying (locations split encoding endian s) (table_at endian encoding tableBase table) encoding.address_size (length s) w in
            (locations_counted encoding endian s offset split).exact b (every_stop P a (only is_bounded t) (every_only P is_bounded t (every_carried P expression_of t (listed_reached true (dwarf split) q (carrying expression_of t) e))));
      }
