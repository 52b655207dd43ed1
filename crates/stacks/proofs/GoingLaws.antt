-- Where the reading is: every address has its answer or waits for what a lookup of it still has to answer. Whatever an answer is, and
-- however many entries each lookup reads. Assumes nothing.
use Prim.Native.Nat.{ℕ, zero, suc, ◌+◌, ◌-◌, ◌^◌, ◌≤◌, ◌<◌}
use native.Mathlib.Omega.{arith}
use mathlib.Core.Bool.{Bool}
use mathlib.Core.List.{List, [], ◌∷◌, map}
use mathlib.Core.Logic.{◌⊎◌, inl, inr, ⊎_elim}
use mathlib.Core.Path.{◌≡◌, refl, sym, ap, ◌∙◌, subst}
use lib.Dec.{ltb, eqb}
use lib.ListN.{length, get_or, replicate, length-map, length-replicate, get_or-replicate, get_or-map, get_or-eq_default}
use lib.Seq.{sets}
use borrow.Author.Tests.{ne_eqb, lt-ltb}
use Rattle.section_bytes.specs.Read.{pick}
use Rattle.section_bytes.proofs.Order.{lt_or_le}
use Rattle.stacks.specs.Places.{at, Ascending, Standing, FirstAt, Waits, Done, Hops, WaitingFrom, Laid, Kept, Answered, Settled, Filled}
use Rattle.stacks.specs.Stack.{longest}
use Rattle.stacks.proofs.SettleLaws.{sets_laid}

zeros : (i : ℕ) → at (replicate 64 0) i ≡ 0
zeros i = ⊎_elim (λ h. get_or-replicate 64 i 0 0 h) (λ h. let y = length-replicate {A = ℕ} 64 0 in let z : length {A = ℕ} (replicate 64 0) ≤ i = omega arith in get_or-eq_default (replicate 64 0) 0 z) (lt_or_le i 64)

pub none_done : Hops (replicate 64 0)
none_done = record { long = length-replicate {A = ℕ} 64 0; most = λ i. let y = zeros i in omega arith; over = λ i m h k. let y = zeros i in absurd (omega arith) }

pub all_wait : (m : ℕ) → Waits (replicate 64 0) m
all_wait m = let y = zeros m in omega arith

-- the neighbours of a place: no address lies between them
pub neighbours : (a : List ℕ) → Ascending a → (i x y : ℕ) → x ≡ pick (eqb i 0) 0 (at a (i - 1)) → y ≡ pick (ltb i 64) (at a i) (2 ^ 64 - 1) → i ≤ 64 → (m : ℕ) → m < 64 → (at a m ≤ x) ⊎ (y ≤ at a m)
neighbours a up i x y p q l m k =
    ⊎_elim
    (λ h. inl (let z = up m (i - 1) (omega arith) (omega arith) in let e : x ≡ at a (i - 1) = p ∙ ap (λ (b : Bool). pick b 0 (at a (i - 1))) (ne_eqb i 0 (λ w. omega arith)) in omega arith))
    (λ h. inr (let z = up i m h k in let e : y ≡ at a i = q ∙ ap (λ (b : Bool). pick b (at a i) (2 ^ 64 - 1)) (lt-ltb i 64 (omega arith)) in omega arith))
    (lt_or_le m i)

pub waiting_until : {next : List ℕ} {low n n' r : ℕ} → WaitingFrom next low n r → n ≡ n' → WaitingFrom next low n' r
waiting_until {next} {low} {n} {n'} {r} h e = subst (λ (k : ℕ). WaitingFrom next low k r) e h

-- no address of the range is one of them
abbrev pub Missed : List ℕ → ℕ → ℕ → Type 0
Missed a b e = (m : ℕ) → m < 64 → (at a m < b) ⊎ (e ≤ at a m)

pub missed_between : (a : List ℕ) (x y b e : ℕ) → ((m : ℕ) → m < 64 → (at a m ≤ x) ⊎ (y ≤ at a m)) → x < b → e ≤ y → Missed a b e
missed_between a x y b e g l u m k = ⊎_elim (λ h. inl (omega arith)) (λ h. inr (omega arith)) (g m k)

pub missed_first : (a : List ℕ) → Ascending a → (b e first y : ℕ) → FirstAt a b first → y ≡ pick (ltb first 64) (at a first) (2 ^ 64 - 1) → e ≤ y → Missed a b e
missed_first a up b e first y f q u m k =
    ⊎_elim
    (λ h. inl (f.below m h))
    (λ h. inr (let z = up first m h k in let w : y ≡ at a first = q ∙ ap (λ (t : Bool). pick t (at a first) (2 ^ 64 - 1)) (lt-ltb first 64 (omega arith)) in omega arith))
    (lt_or_le m first)

longest_most : (reads : ℕ → ℕ) (l : List ℕ) (r : ℕ) → ((i : ℕ) → i < length l → reads (at l i) ≤ r) → longest reads l ≤ r
unfolding longest
longest_most reads [] r h = omega arith
longest_most reads (a ∷ l) r h = let x = h 0 (omega arith) in let y = longest_most reads l r (λ i k. h (suc i) (omega arith)) in omega arith

pub longest_least : (reads : ℕ → ℕ) (l : List ℕ) (i : ℕ) → i < length l → reads (at l i) ≤ longest reads l
unfolding longest
longest_least reads [] i h = absurd (omega arith)
longest_least reads (a ∷ l) zero h = omega arith
longest_least reads (a ∷ l) (suc i) h = let y = longest_least reads l i (omega arith) in omega arith

-- of addresses and the 64 places that they stand at, for what each is to be answered, how many entries its lookup reads, and the words
-- of an answer
module _ {R : Type 0} (words : R → List ℕ) (wanted : ℕ → R) (reads : ℕ → ℕ) (l a : List ℕ) (rows₀ : List (List ℕ)) where
  -- by what the lookup of an address has still to answer and will have read, how many entries were read, the first place that waits, and
  -- two numbers between which no address lies
  pub record Going (left : ℕ → R) (reading : ℕ → ℕ) (read low before after : ℕ) (next : List ℕ) (rows : List (List ℕ)) : Type 0 where
    pub hops : Hops next
    pub some : low < length l
    pub waiting : Waits next low
    pub passed : (m : ℕ) → m < low → Done next m
    pub answered : (m : ℕ) → m < length l → Done next m → Laid rows m (words (wanted (at a m))) × (reads (at a m) ≤ read)
    pub waits : (m : ℕ) → m < length l → Waits next m → (left (at a m) ≡ wanted (at a m)) × (reading (at a m) ≡ reads (at a m))
    pub gap : (m : ℕ) → m < 64 → (at a m ≤ before) ⊎ (after ≤ at a m)
    pub over : (ws : List (List ℕ)) → length l ≤ length ws → sets rows 0 ws ≡ sets rows₀ 0 ws

  pub record Finished (read : ℕ) (rows : List (List ℕ)) : Type 0 where
    pub rows_are : rows ≡ sets rows₀ 0 (map (λ x. words (wanted x)) l)
    pub read_is : read ≡ longest reads l

  module _ (st : Standing l a) where
    pub at_start : 0 < length l → (x y : ℕ) → y ≡ at a 0 → Going wanted reads 0 0 x y (replicate 64 0) rows₀
    at_start h x y e =
        record {
          hops = none_done;
          some = h;
          waiting = all_wait 0;
          passed = λ m k. absurd (omega arith);
          answered = λ m k d. let z = all_wait m in absurd (omega arith);
          waits = λ m k w. (refl, refl);
          gap = λ m k. inr (let z = st.up 0 m (omega arith) k in omega arith);
          over = λ ws k. refl;
        }

    finish : (read : ℕ) (rows : List (List ℕ)) → ((m : ℕ) → m < length l → Laid rows m (words (wanted (at a m))) × (reads (at a m) ≤ read))
        → (i : ℕ) → i < length l → reads (at a i) ≡ read → ((ws : List (List ℕ)) → length l ≤ length ws → sets rows 0 ws ≡ sets rows₀ 0 ws) → Finished read rows
    finish read rows h i k e o =
        let f : ℕ → List ℕ = λ x. words (wanted x) in
        let n : length (map f l) ≡ length l = length-map l f in
        let each : (m : ℕ) → m < length (map f l) → Laid rows (0 + m) (get_or (map f l) m (f 0)) = λ m q.
        let s = st.same m (omega arith) in
        let r : get_or (map f l) m (f 0) ≡ f (at a m) = get_or-map f l m 0 ∙ ap f (sym s) in
        rw r (rw (zero_plus m) (h m (omega arith)).0) in
        record {
          rows_are = sym (sets_laid (map f l) rows 0 (f 0) each) ∙ o (map f l) (omega arith);
          read_is =
              let x = longest_most reads l read (λ m q. let s = ap reads (st.same m q) in let y = (h m q).1 in omega arith) in
              let y = longest_least reads l i k in let s = ap reads (st.same i k) in omega arith;
        }
      where
        zero_plus : (m : ℕ) → 0 + m ≡ m
        zero_plus m = omega arith

    module _ {left : ℕ → R} {reading : ℕ → ℕ} {read low before after : ℕ} {next : List ℕ} {rows : List (List ℕ)} (g : Going left reading read low before after next rows) where
      -- nothing was found for an address that waits
      pub onward : (left' : ℕ → R) (reading' : ℕ → ℕ) (read' : ℕ) → ((m : ℕ) → m < length l → (left (at a m) ≡ left' (at a m)) × (reading (at a m) ≡ reading' (at a m))) → read ≤ read'
          → (x y : ℕ) → ((m : ℕ) → m < 64 → (at a m ≤ x) ⊎ (y ≤ at a m)) → Going left' reading' read' low x y next rows
      onward left' reading' read' h k x y gap' =
          record {
            hops = g.hops;
            some = g.some;
            waiting = g.waiting;
            passed = g.passed;
            answered = λ m q d. let z = g.answered m q d in (z.0, let r = z.1 in omega arith);
            waits = λ m q w. let z = g.waits m q w in let y = h m q in (sym y.0 ∙ z.0, sym y.1 ∙ z.1);
            gap = gap';
            over = g.over;
          }

      -- the reading ends: whoever waits gets what is left to answer, and reads as much as was read
      pub at_end : (read' : ℕ) (last : ℕ → R) (rows' : List (List ℕ)) → ((x : ℕ) → left x ≡ last x) → ((x : ℕ) → reading x ≡ read') → read ≤ read'
          → Filled (λ x. words (last x)) a (length l) next rows rows' → Finished read' rows'
      at_end read' last rows' h k o f =
          finish read' rows'
          (λ m q.
          ⊎_elim
          (λ d. let z = g.answered m q d in (f.kept m (words (wanted (at a m))) d z.0, let r = z.1 in omega arith))
          (λ w. let z = g.waits m q w in (rw (ap words (sym z.0 ∙ h (at a m))) (f.laid m q w), let r = k (at a m) in let y = z.1 in omega arith))
          (lt_or_le m (at next m)))
          low g.some (sym (g.waits low g.some g.waiting).1 ∙ k (at a low)) (λ ws q. f.over ws q ∙ g.over ws q)

      -- a range is found for those that wait and that it holds
      module _ (b e read' : ℕ) (found : R) (row : List ℕ) (left' : ℕ → R) (reading' : ℕ → ℕ) (more : read ≤ read') (top : e ≤ 2 ^ 64 - 1) (is : row ≡ words found)
          (holds : (x : ℕ) → b ≤ x → x < e → (left x ≡ found) × (reading x ≡ read'))
          (others : (x : ℕ) → (x < b) ⊎ (e ≤ x) → (left x ≡ left' x) × (reading x ≡ reading' x))
          {next' : List ℕ} {rows' : List (List ℕ)} {r : ℕ} (s : Settled a next rows b e row next' rows' r) {low' : ℕ} (w : WaitingFrom next' low (length l) low') where
        few_rows : (m : ℕ) → m < length l → m < 64
        few_rows m k = let z = st.few in omega arith

        answer : (m : ℕ) → m < length l → Done next' m → Kept next rows next' rows' m ⊎ Answered a next next' rows' b e row m → Laid rows' m (words (wanted (at a m))) × (reads (at a m) ≤ read')
        answer m k d (inl q) = let z = g.answered m k (q.done d) in (q.laid (words (wanted (at a m))) z.0, let y = z.1 in omega arith)
        answer m k d (inr q) =
            let z = g.waits m k q.waited in let y = holds (at a m) q.begun q.ended in
            (rw (sym (is ∙ ap words (sym y.0 ∙ z.0))) q.laid, let x = z.1 in let v = y.1 in omega arith)

        not_held : (m : ℕ) → m < 64 → Waits next' m → (at a m < b) ⊎ (e ≤ at a m)
        not_held m k v = ⊎_elim (λ p. inl p) (λ p. ⊎_elim (λ q. let z = s.held m k p q in absurd (omega arith)) (λ q. inr q) (lt_or_le (at a m) e)) (lt_or_le (at a m) b)

        still : (m : ℕ) → Waits next' m → Kept next rows next' rows' m ⊎ Answered a next next' rows' b e row m → Waits next m
        still m v (inl q) = ⊎_elim (λ p. let z = q.still p in absurd (omega arith)) (λ p. p) (lt_or_le m (at next m))
        still m v (inr q) = q.waited

        done_still : (m : ℕ) → Done next m → Kept next rows next' rows' m ⊎ Answered a next next' rows' b e row m → Done next' m
        done_still m d (inl q) = q.still d
        done_still m d (inr q) = q.done

        passed' : (m : ℕ) → m < low' → Done next' m
        passed' m k = ⊎_elim (λ p. done_still m (g.passed m p) (s.each m (let z = g.some in let y = st.few in omega arith))) (λ p. w.passed m p k) (lt_or_le m low)

        written : (ws : List (List ℕ)) → length l ≤ length ws → sets rows' 0 ws ≡ sets rows₀ 0 ws
        written ws k =
            s.over ws (λ m q p. ⊎_elim (λ u. omega arith) (λ u. let z = st.behind m u q in absurd (omega arith)) (lt_or_le m (length l))) ∙ g.over ws k

        pub found_some : low' < length l → (x y : ℕ) → ((m : ℕ) → m < 64 → (at a m ≤ x) ⊎ (y ≤ at a m)) → Going left' reading' read' low' x y next' rows'
        found_some k x y gap' =
            record {
              hops = s.hops;
              some = k;
              waiting = w.waits k;
              passed = passed';
              answered = λ m q d. answer m q d (s.each m (few_rows m q));
              waits = λ m q v. let z = g.waits m q (still m v (s.each m (few_rows m q))) in let y = others (at a m) (not_held m (few_rows m q) v) in (sym y.0 ∙ z.0, sym y.1 ∙ z.1);
              gap = gap';
              over = written;
            }

        here : (m : ℕ) → Waits next m → Done next' m → Kept next rows next' rows' m ⊎ Answered a next next' rows' b e row m → (b ≤ at a m) × (at a m < e)
        here m v d (inl q) = let z = q.done d in absurd (omega arith)
        here m v d (inr q) = (q.begun, q.ended)

        pub found_all : length l ≤ low' → Finished read' rows'
        found_all k =
            let d : (m : ℕ) → m < length l → Done next' m = λ m q. passed' m (omega arith) in
            let p = here low g.waiting (d low g.some) (s.each low (few_rows low g.some)) in
            finish read' rows' (λ m q. answer m q (d m q) (s.each m (few_rows m q))) low g.some (sym (g.waits low g.some g.waiting).1 ∙ (holds (at a low) p.0 p.1).1) written
