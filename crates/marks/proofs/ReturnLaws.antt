-- What marks promise. A mark stays as it is until it is set again, so that a return brings back the walk of its setting; and what calls
-- tell hangs on the walk alone where no return is among them. Assumes nothing.
use mathlib.Core.Path.{◌≡◌, refl, sym, ap, ◌∙◌, subst}
use mathlib.Core.Bool.{Bool, true, false}
use mathlib.Core.List.{List, [], ◌∷◌}
use mathlib.Core.Logic.{◌⊎◌, inl, inr, ⊎_elim, ◌≢◌}
use Prim.Native.Nat.{ℕ, zero, suc, ◌<◌}
use native.Mathlib.Omega.{arith}
use lib.Dec.{ltb}
use lib.ListN.{length, get_or, set, replicate, length-set, length-replicate}
use lib.Seq.{get_or-set_same, get_or-set_other}
use borrow.Author.Tests.{lt-ltb, le-ltb}
use Rattle.section_bytes.specs.Read.{Result, gives, refused, pick}
use Rattle.section_bytes.specs.Error.{refusal}
use Rattle.section_bytes.specs.declared.error.Error.TheVariants.{NoSuchMark}
use Rattle.section_bytes.specs.declared.common.DebugAddrBase.{DebugAddrBase}
use Rattle.section_bytes.specs.declared.common.Encoding.{Encoding}
use Rattle.section_bytes.specs.declared.endianity.RunTimeEndian.{RunTimeEndian}
use Rattle.entries.specs.Numbers.{Coding}
use Rattle.entries.specs.Listed.{EntryIn}
use Rattle.entries.specs.Padded.{padded_in}
use Rattle.tables.specs.Next.{Next, ends, hands}
use Rattle.lists.specs.Convert.{table_at}
use Rattle.lists.specs.Counted.{left_by, left_after, Reached, by_opening, by_next, by_next_raw, by_convert_raw}
use Rattle.lists.specs.Walk.{listed, next_raw_of, noted, convert_raw}
use Rattle.lists.specs.declared.Walk.{Walk}
use Rattle.lists.proofs.CountLaws.{listed_counted}
use Rattle.marks.specs.Marks.{Keeping, Marked, marked, fresh, stored, return_to, answered}
use Rattle.marks.specs.Steps.{Reading, Step, reads, sets, returns, Tells, read, marking, tells, after, run, answers, NoReturn, NotSet, KeptBy}
use Rattle.marks.specs.Calls as call
use Rattle.marks.specs.Calls.{Source, over, every}
use Rattle.marks.specs.Told.{structs}
use Rattle.marks.specs.Returns.{returned, Holds, Returns, MarksCounted}

abbrev no : {A : Type 0} → Result A
no = refusal NoSuchMark

not_both : {A : Type 0} (t : Bool) → t ≡ false → t ≡ true → A
not_both true f e = let z : ◌≡◌ {A = ℕ} 0 1 = cc in absurd (omega arith)
not_both false f e = let z : ◌≡◌ {A = ℕ} 0 1 = cc in absurd (omega arith)

replicate_own : {A : Type 0} (n i : ℕ) (a : A) → get_or (replicate n a) i a ≡ a
replicate_own zero i a = refl
replicate_own (suc n) zero a = refl
replicate_own (suc n) (suc i) a = replicate_own n i a

set_either : {A : Type 0} (l : List A) (i j : ℕ) (a d : A) → (get_or (set l i a) j d ≡ a) ⊎ (get_or (set l i a) j d ≡ get_or l j d)
set_either [] i j a d = inr refl
set_either (x ∷ xs) zero zero a d = inl refl
set_either (x ∷ xs) zero (suc j) a d = inr refl
set_either (x ∷ xs) (suc i) zero a d = inr refl
set_either (x ∷ xs) (suc i) (suc j) a d = set_either xs i j a d

-- by the tests of a number and of a mark
module _ {W M : Type 0} (m : Marked W M) where
  one_walk : (t : Bool) (ms : List M) → (answered m (pick t (gives (marked m.walk ms)) no)).then.walk ≡ m.walk
  one_walk true ms = refl
  one_walk false ms = refl

  one_answer : (n : Marked W M) (t : Bool) (x y : Marked W M) → (answered m (pick t (gives x) no)).result ≡ (answered n (pick t (gives y) no)).result
  one_answer n true x y = refl
  one_answer n false x y = refl

  same_marks : (t u : Bool) (w : W) → (answered m (pick t (pick u (gives (marked w m.marks)) no) no)).then.marks ≡ m.marks
  same_marks true true w = refl
  same_marks true false w = refl
  same_marks false u w = refl

  refused_so : {C : Type 0} (t : Bool) (x : Marked W M) (n : ℕ) (vs : List ℕ) → ◌≡◌ {A = Tells C} (marking (answered m (pick t (gives x) no)).result) (marking (refused n vs)) → (answered m (pick t (gives x) no)).then ≡ m
  refused_so true x n vs e = let z : ◌≡◌ {A = ℕ} 0 1 = cc in absurd (omega arith)
  refused_so false x n vs e = refl

module _ {W M : Type 0} (k : Keeping W M) (r : Reading W) where
  set_others : (m : Marked W M) (i j : ℕ) → j ≢ i → stored k j (after k r (sets i) m) ≡ stored k j m
  set_others m i j h = by (ltb i 8)
    where
      by : (t : Bool) → get_or (answered m (pick t (gives (marked m.walk (set m.marks i (k.set_to m.walk)))) no)).then.marks j k.unset ≡ get_or m.marks j k.unset
      by true = get_or-set_other m.marks i j (k.set_to m.walk) k.unset h
      by false = refl

  return_marks : (m : Marked W M) (i : ℕ) → (after k r (returns i) m).marks ≡ m.marks
  return_marks m i = same_marks m (ltb i 8) (k.is_set (stored k i m)) (k.walk_of (stored k i m))

  set_walk : (m : Marked W M) (i : ℕ) → (after k r (sets i) m).walk ≡ m.walk
  set_walk m i = one_walk m (ltb i 8) (set m.marks i (k.set_to m.walk))

  set_as_many : (m : Marked W M) (i : ℕ) → length (after k r (sets i) m).marks ≡ length m.marks
  set_as_many m i = by (ltb i 8)
    where
      by : (t : Bool) → length (answered m (pick t (gives (marked m.walk (set m.marks i (k.set_to m.walk)))) no)).then.marks ≡ length m.marks
      by true = length-set m.marks i (k.set_to m.walk)
      by false = refl

  as_many : (m : Marked W M) (ss : List (Step r.Call)) → length (run k r ss m).marks ≡ length m.marks
  as_many m [] = refl
  as_many m (reads c ∷ ss) = as_many (after k r (reads c) m) ss
  as_many m (sets i ∷ ss) = as_many (after k r (sets i) m) ss ∙ set_as_many m i
  as_many m (returns i ∷ ss) = as_many (after k r (returns i) m) ss ∙ ap length (return_marks m i)

  -- a mark stays until it is set again
  stays : (i : ℕ) (ss : List (Step r.Call)) → NotSet i ss → (m : Marked W M) → stored k i (run k r ss m) ≡ stored k i m
  stays i [] h m = refl
  stays i (reads c ∷ ss) h m = stays i ss h (after k r (reads c) m)
  stays i (sets j ∷ ss) h m = stays i ss h.1 (after k r (sets j) m) ∙ set_others m j i h.0
  stays i (returns j ∷ ss) h m = stays i ss h (after k r (returns j) m) ∙ ap (λ (ms : List M). get_or ms i k.unset) (return_marks m j)

  -- without a return what calls tell hangs on the walk
  by_walk : (ss : List (Step r.Call)) → NoReturn ss → (m n : Marked W M) → m.walk ≡ n.walk
      → (answers k r ss m ≡ answers k r ss n) × ((run k r ss m).walk ≡ (run k r ss n).walk)
  by_walk [] h m n e = (refl, e)
  by_walk (reads c ∷ ss) h m n e =
      let z = by_walk ss h (after k r (reads c) m) (after k r (reads c) n) (ap (λ (w : W). r.left (r.answer c w)) e) in
      (ap (λ (w : W). read (r.answer c w) ∷ answers k r ss (after k r (reads c) m)) e ∙ ap (λ (t : List (Tells r.Answer)). read (r.answer c n.walk) ∷ t) z.0, z.1)
  by_walk (sets i ∷ ss) h m n e =
      let z = by_walk ss h (after k r (sets i) m) (after k r (sets i) n) (set_walk m i ∙ e ∙ sym (set_walk n i)) in
      let y = one_answer m n (ltb i 8) (marked m.walk (set m.marks i (k.set_to m.walk))) (marked n.walk (set n.marks i (k.set_to n.walk))) in
      (ap (λ (x : Result Unit). marking x ∷ answers k r ss (after k r (sets i) m)) y ∙ ap (λ (t : List (Tells r.Answer)). tells k r (sets i) n ∷ t) z.0, z.1)
  by_walk (returns i ∷ ss) h m n e = absurd h

  module _ (m : Marked W M) (eight : length m.marks ≡ 8) (i : ℕ) (h : i < 8) (between : List (Step r.Call)) (f : NotSet i between) where
    -- what the mark stores when there is the return
    kept : stored k i (run k r between (after k r (sets i) m)) ≡ k.set_to m.walk
    kept =
        stays i between f (after k r (sets i) m)
        ∙ ap (λ (t : Bool). get_or (answered m (pick t (gives (marked m.walk (set m.marks i (k.set_to m.walk)))) no)).then.marks i k.unset) (lt-ltb i 8 h)
        ∙ get_or-set_same m.marks i (k.set_to m.walk) k.unset (omega arith)

    back : return_to k i (run k r between (after k r (sets i) m)) ≡ gives (marked m.walk (run k r between (after k r (sets i) m)).marks)
    back = simp (lt-ltb i 8 h, kept, k.set_to_set m.walk, k.set_to_walk m.walk)

    back_walk : (returned k r i between m).walk ≡ (after k r (sets i) m).walk
    back_walk = ap (λ (x : Result (Marked W M)). (answered (run k r between (after k r (sets i) m)) x).then.walk) back ∙ sym (set_walk m i)

  not_set : (m : Marked W M) (i : ℕ) → k.is_set (stored k i m) ≡ false → tells k r (returns i) m ≡ marking (refused 13 [])
  not_set m i e = rw e (by (ltb i 8))
    where
      by : (t : Bool) → ◌≡◌ {A = Tells r.Answer} (marking (answered m (pick t no no)).result) (marking (refused 13 []))
      by true = refl
      by false = refl

  above : (m : Marked W M) (i : ℕ) → 7 < i → (tells k r (sets i) m ≡ marking (refused 13 [])) × (tells k r (returns i) m ≡ marking (refused 13 []))
  above m i h = let o = le-ltb i 8 (omega arith) in (simp o, simp o)

  refused_return : (m : Marked W M) (i n : ℕ) (vs : List ℕ) → tells k r (returns i) m ≡ marking (refused n vs) → after k r (returns i) m ≡ m
  refused_return m i n vs = by (ltb i 8)
    where
      by : (t : Bool) → ◌≡◌ {A = Tells r.Answer} (marking (answered m (pick t (pick (k.is_set (stored k i m)) (gives (marked (k.walk_of (stored k i m)) m.marks)) no) no)).result) (marking (refused n vs))
          → (answered m (pick t (pick (k.is_set (stored k i m)) (gives (marked (k.walk_of (stored k i m)) m.marks)) no) no)).then ≡ m
      by true e = refused_so m (k.is_set (stored k i m)) (marked (k.walk_of (stored k i m)) m.marks) n vs e
      by false e = refl

  -- what is kept true of walks
  module _ (P : W → Type 0) where
    abbrev So : M → Type 0
    So x = k.is_set x ≡ true → P (k.walk_of x)

    so_set : (m : Marked W M) (i : ℕ) → Holds k P m → (j : ℕ) → So (stored k j (after k r (sets i) m))
    so_set m i h j = by (ltb i 8)
      where
        by : (t : Bool) → So (get_or (answered m (pick t (gives (marked m.walk (set m.marks i (k.set_to m.walk)))) no)).then.marks j k.unset)
        by true =
            ⊎_elim
            (λ e. subst So (sym e) (λ _. subst P (sym (k.set_to_walk m.walk)) h.0))
            (λ e. subst So (sym e) (h.1 j))
            (set_either m.marks i j (k.set_to m.walk) k.unset)
        by false = h.1 j

    returned_holds : (m : Marked W M) (i : ℕ) → Holds k P m → P (after k r (returns i) m).walk
    returned_holds m i h = by (ltb i 8) (k.is_set (stored k i m)) refl
      where
        by : (t u : Bool) → k.is_set (stored k i m) ≡ u → P (answered m (pick t (pick u (gives (marked (k.walk_of (stored k i m)) m.marks)) no) no)).then.walk
        by true true e = h.1 i e
        by true false e = h.0
        by false u e = h.0

    passes : (m : Marked W M) → Holds k P m → (ss : List (Step r.Call)) → KeptBy r P ss → Holds k P (run k r ss m)
    passes m h [] q = h
    passes m h (reads c ∷ ss) q = passes (after k r (reads c) m) (q.0 m.walk h.0, h.1) ss q.1
    passes m h (sets i ∷ ss) q = passes (after k r (sets i) m) (subst P (sym (set_walk m i)) h.0, so_set m i h) ss q
    passes m h (returns i ∷ ss) q =
        passes (after k r (returns i) m) (returned_holds m i h, λ j. subst (λ (ms : List M). So (get_or ms j k.unset)) (sym (return_marks m i)) (h.1 j)) ss q

  none_set : (w : W) (i : ℕ) → k.is_set (stored k i (fresh k w)) ≡ false
  none_set w i = ap k.is_set (replicate_own 8 i k.unset) ∙ k.unset_not_set

  pub fresh_holds : (P : W → Type 0) (w : W) → P w → Holds k P (fresh k w)
  fresh_holds P w p = (p, λ i e. not_both (k.is_set (stored k i (fresh k w))) (none_set w i) e)

  pub returns_for : Returns k r
  returns_for =
      record {
        eight = λ w. length-replicate 8 k.unset;
        none_set = none_set;
        as_many = as_many;
        done = λ m e i h b f. ap (λ (x : Result (Marked W M)). marking (answered (run k r b (after k r (sets i) m)) x).result) (back m e i h b f);
        again = λ m e i h b n f g. (by_walk n g (returned k r i b m) (after k r (sets i) m) (back_walk m e i h b f)).0;
        walk_again = λ m e i h b n f g. (by_walk n g (returned k r i b m) (after k r (sets i) m) (back_walk m e i h b f)).1;
        never_set = λ m i u ss f. not_set (run k r ss m) i (ap k.is_set (stays i ss f m) ∙ u);
        above = above;
        refused_set = λ m i n vs e. refused_so m (ltb i 8) (marked m.walk (set m.marks i (k.set_to m.walk))) n vs e;
        refused_return = refused_return;
        set_walk = set_walk;
        set_others = set_others;
        return_marks = return_marks;
        passes = passes;
      }

-- for the calls of lists
pub walks_return : Returns structs every
walks_return = returns_for structs every

converted_as : (l : Bool) (coding : Coding) (encoding : Encoding) (endian : RunTimeEndian) (s table : List ℕ) (tableBase : DebugAddrBase) (w : Walk) (e : EntryIn l)
    → left_after (call.converted_of l encoding endian table tableBase w e) ≡ left_after (convert_raw (listed l coding encoding endian s) (table_at endian encoding tableBase table) encoding.address_size w e)
unfolding convert_raw
converted_as true coding encoding endian s table tableBase w e = refl
converted_as false coding encoding endian s table tableBase w e = refl

-- the walk that a raw call hands back, whatever is noted of the entry
left_noted : {E : Type 0} (p : Bool) (n : Next E Walk) → left_by (noted p n) ≡ left_by n
left_noted p (hands (gives e) w) = refl
left_noted p (hands (refused k vs) w) = refl
left_noted p (ends w) = refl

module _ (x : Source) (offset : ℕ) where
  abbrev From : Walk → Type 0
  From = Reached x.encoding x.section (listed x.locations x.coding x.encoding x.endian x.section) offset

  call_from : (c : call.Call x.locations) (w : Walk) → From w → From (call.left (call.answer x c w))
  call_from (call.next table tableBase) w q = by_next (table_at x.endian x.encoding tableBase table) w q
  call_from call.next_raw w q =
      subst From
      (sym (left_noted (padded_in x.locations x.coding x.encoding x.endian x.section w.at) (next_raw_of x.locations x.coding x.encoding x.endian x.section w)))
      (by_next_raw w q)
  call_from (call.convert_raw table tableBase e) w q =
      subst From (sym (converted_as x.locations x.coding x.encoding x.endian x.section table tableBase w e))
      (by_convert_raw (table_at x.endian x.encoding tableBase table) e w q)

  steps_from : (ss : List (Step (call.Call x.locations))) → KeptBy (over x) From ss
  steps_from [] = tt
  steps_from (reads c ∷ ss) = (call_from c, steps_from ss)
  steps_from (sets i ∷ ss) = steps_from ss
  steps_from (returns i ∷ ss) = steps_from ss

pub marks_counted : (x : Source) → MarksCounted x
marks_counted x offset base w short o ss =
    (listed_counted x.encoding x.endian x.section offset x.locations x.coding).exact short
    ((returns_for structs (over x)).passes (From x offset) (fresh structs w) (fresh_holds structs (over x) (From x offset) w (by_opening base o)) ss (steps_from x offset ss)).0
