-- Runs keep apart, cover what their ranges cover, and are the only such list: a range put in keeps this, and a list whose
-- ranges keep apart is told by what it covers. Assumes nothing.
use Rattle.std.proofs.Common.{◌≡◌, ℕ, suc, ◌+◌, ◌<◌, ◌≤◌, min, max, ◌⊎◌, ◌↔◌, List, [], ◌∷◌, length, sym, refl, subst, ap₂, inl, inr, ⊎_elim, arith, le-ltb, lt-ltb}
use Rattle.section_bytes.proofs.Order.{lt_or_le}
use Rattle.coverage.specs.Ranges.{Range, Inside, Covers, From, Apart, insert, inserts, runs}

-- the three ways in which a range is put in
module _ (b e : ℕ) (r : Range) (rs : List Range) where
  pub insert_before : e < r.0 → insert b e (r ∷ rs) ≡ (b, e) ∷ r ∷ rs
  unfolding insert
  insert_before h = rw (lt-ltb e r.0 h)

  pub insert_after : r.0 ≤ e → r.1 < b → insert b e (r ∷ rs) ≡ r ∷ insert b e rs
  unfolding insert
  insert_after h k = rw (le-ltb e r.0 h, lt-ltb r.1 b k)

  pub insert_join : r.0 ≤ e → b ≤ r.1 → insert b e (r ∷ rs) ≡ insert (min b r.0) (max e r.1) rs
  unfolding insert
  insert_join h k = rw (le-ltb e r.0 h, le-ltb r.1 b k)

  -- what holds of each way holds of the list then
  pub insert_cases : (P : List Range → Type 0) → (e < r.0 → P ((b, e) ∷ r ∷ rs)) → (r.0 ≤ e → r.1 < b → P (r ∷ insert b e rs)) → (r.0 ≤ e → b ≤ r.1 → P (insert (min b r.0) (max e r.1) rs)) → P (insert b e (r ∷ rs))
  insert_cases P x y z =
      ⊎_elim
      (λ h. rw (insert_before h) (x h))
      (λ h. ⊎_elim (λ k. rw (insert_after h k) (y h k)) (λ k. rw (insert_join h k) (z h k)) (lt_or_le r.1 b))
      (lt_or_le e r.0)

-- ranges that keep apart from some address on keep apart from any before it
pub from_less : (lo hi : ℕ) (rs : List Range) → lo ≤ hi → From hi rs → From lo rs
from_less lo hi [] h f = tt
from_less lo hi (r ∷ rs) h f = (omega arith, f.1, f.2)

-- a range put in keeps them apart
pub insert_from : (lo b e : ℕ) (rs : List Range) → lo ≤ b → b < e → From lo rs → From lo (insert b e rs)
unfolding insert
insert_from lo b e [] h k f = (h, k, tt)
insert_from lo b e (r ∷ rs) h k f =
    insert_cases b e r rs (From lo)
    (λ x. (h, k, (omega arith, f.1, f.2)))
    (λ x y. (f.0, f.1, insert_from (suc r.1) b e rs y k f.2))
    (λ x y. insert_from lo (min b r.0) (max e r.1) rs (omega arith) (omega arith) (from_less lo (suc r.1) rs (omega arith) f.2))

-- where two ranges meet or touch, the range over both covers what both cover
joined : (b e : ℕ) (r : Range) (a : ℕ) → r.0 ≤ e → b ≤ r.1 → Inside (min b r.0, max e r.1) a → Inside (b, e) a ⊎ Inside r a
joined b e r a h k i =
    ⊎_elim
    (λ x. ⊎_elim (λ y. inr (omega arith)) (λ y. inl (omega arith)) (lt_or_le a b))
    (λ x. inr (omega arith))
    (lt_or_le a e)

insert_covers→ : (b e : ℕ) (rs : List Range) (a : ℕ) → Covers (insert b e rs) a → Inside (b, e) a ⊎ Covers rs a
unfolding insert
insert_covers→ b e [] a = λ c. c
insert_covers→ b e (r ∷ rs) a =
    insert_cases b e r rs (λ l. Covers l a → Inside (b, e) a ⊎ Covers (r ∷ rs) a)
    (λ x c. c)
    (λ x y. ⊎_elim (λ i. inr (inl i)) (λ c. ⊎_elim inl (λ d. inr (inr d)) (insert_covers→ b e rs a c)))
    (λ x y c.
    ⊎_elim
    (λ i. ⊎_elim inl (λ j. inr (inl j)) (joined b e r a x y i))
    (λ d. inr (inr d))
    (insert_covers→ (min b r.0) (max e r.1) rs a c))

insert_covers← : (b e : ℕ) (rs : List Range) (a : ℕ) → Inside (b, e) a ⊎ Covers rs a → Covers (insert b e rs) a
unfolding insert
insert_covers← b e [] a = λ c. c
insert_covers← b e (r ∷ rs) a =
    insert_cases b e r rs (λ l. Inside (b, e) a ⊎ Covers (r ∷ rs) a → Covers l a)
    (λ x c. c)
    (λ x y. ⊎_elim (λ i. inr (insert_covers← b e rs a (inl i))) (⊎_elim inl (λ d. inr (insert_covers← b e rs a (inr d)))))
    (λ x y c.
    insert_covers← (min b r.0) (max e r.1) rs a
    (⊎_elim (λ i. inl (omega arith)) (⊎_elim (λ i. inl (omega arith)) inr) c))

pub insert_covers : (b e : ℕ) (rs : List Range) (a : ℕ) → Covers (insert b e rs) a ↔ (Inside (b, e) a ⊎ Covers rs a)
insert_covers b e rs a = (insert_covers→ b e rs a, insert_covers← b e rs a)

-- no address before the first is covered
pub covers_from : (lo : ℕ) (rs : List Range) (a : ℕ) → From lo rs → Covers rs a → lo ≤ a
covers_from lo [] a f x = elim x [ ]
covers_from lo (r ∷ rs) a f (inl i) = omega arith
covers_from lo (r ∷ rs) a f (inr c) = let h = covers_from (suc r.1) rs a f.2 c in omega arith

-- two lists cover the same addresses
abbrev pub Same : List Range → List Range → Type 0
Same xs ys = (a : ℕ) → Covers xs a ↔ Covers ys a

-- the first begin is the least address that is covered
begin_le : (x y : Range) (lo : ℕ) (xs ys : List Range) → From lo (x ∷ xs) → From lo (y ∷ ys) → (Covers (x ∷ xs) x.0 → Covers (y ∷ ys) x.0) → y.0 ≤ x.0
begin_le x y lo xs ys f g s = covers_from y.0 (y ∷ ys) x.0 (omega arith, g.1, g.2) (s (inl (omega arith)))

-- of two lists with one first begin the first end is no further in the second
end_le : (x y : Range) (lo : ℕ) (xs ys : List Range) → From lo (x ∷ xs) → From lo (y ∷ ys) → x.0 ≡ y.0 → (Covers (y ∷ ys) x.1 → Covers (x ∷ xs) x.1) → y.1 ≤ x.1
end_le x y lo xs ys f g e s =
    ⊎_elim
    (λ h.
    absurd
    (⊎_elim
    (λ i. omega arith)
    (λ c. let k = covers_from (suc x.1) xs x.1 f.2 c in omega arith)
    (s (inl (omega arith)))))
    (λ h. h)
    (lt_or_le x.1 y.1)

-- what is covered past the first range is covered by the rest
rest : (x y : Range) (lo : ℕ) (xs ys : List Range) (a : ℕ) → From lo (x ∷ xs) → x.1 ≡ y.1 → (Covers (x ∷ xs) a → Covers (y ∷ ys) a) → Covers xs a → Covers ys a
rest x y lo xs ys a f e s c =
    ⊎_elim
    (λ i. let k = covers_from (suc x.1) xs a f.2 c in absurd (omega arith))
    (λ d. d)
    (s (inr c))

-- two lists that keep apart and cover the same are equal
pub unique : (lo : ℕ) (xs ys : List Range) → From lo xs → From lo ys → Same xs ys → xs ≡ ys
unique lo [] [] f g s = refl
unique lo [] (y ∷ ys) f g s = absurd ((s y.0).1 (inl (omega arith)))
unique lo (x ∷ xs) [] f g s = absurd ((s x.0).0 (inl (omega arith)))
unique lo (x ∷ xs) (y ∷ ys) f g s =
    let p : x.0 ≡ y.0 =
    let h = begin_le x y lo xs ys f g (s x.0).0 in
    let k = begin_le y x lo ys xs g f (s y.0).1 in
    omega arith
    in
    let q : x.1 ≡ y.1 =
    let h = end_le x y lo xs ys f g p (s x.1).1 in
    let k = end_le y x lo ys xs g f (sym p) (s y.1).0 in
    omega arith
    in
    ap₂ ◌∷◌ (λ i. (p i, q i))
    (unique (suc x.1) xs ys f.2 (rw (q) g.2) (λ a. (rest x y lo xs ys a f q (s a).0, rest y x lo ys xs a g (sym q) (s a).1)))

-- each range has its begin below its end
abbrev pub Proper : List Range → Type 0
Proper [] = Unit
Proper (r ∷ rs) = (r.0 < r.1) × Proper rs

pub inserts_apart : (acc xs : List Range) → Apart acc → Proper xs → Apart (inserts acc xs)
unfolding inserts
inserts_apart acc [] f p = f
inserts_apart acc (r ∷ rs) f p = inserts_apart (insert r.0 r.1 acc) rs (insert_from 0 r.0 r.1 acc (omega arith) p.0 f) p.1

pub inserts_covers : (acc xs : List Range) (a : ℕ) → Covers (inserts acc xs) a ↔ (Covers acc a ⊎ Covers xs a)
unfolding inserts
inserts_covers acc [] a = (inl, ⊎_elim (λ c. c) absurd)
inserts_covers acc (r ∷ rs) a =
    let ih = inserts_covers (insert r.0 r.1 acc) rs a in
    let st = insert_covers r.0 r.1 acc a in (
      λ c. ⊎_elim (λ d. ⊎_elim (λ i. inr (inl i)) inl (st.0 d)) (λ d. inr (inr d)) (ih.0 c),
      λ c. ih.1 (⊎_elim (λ d. inl (st.1 (inr d))) (⊎_elim (λ i. inl (st.1 (inl i))) inr) c),
    )

-- runs keep apart and cover what their ranges cover
pub runs_apart : (xs : List Range) → Proper xs → Apart (runs xs)
runs_apart xs p = inserts_apart [] xs tt p

pub runs_cover : (xs : List Range) (a : ℕ) → Covers (runs xs) a ↔ Covers xs a
runs_cover xs a = (λ c. ⊎_elim absurd (λ d. d) ((inserts_covers [] xs a).0 c), λ c. (inserts_covers [] xs a).1 (inr c))

-- the runs of two lists are the same exactly where the lists cover the same addresses
pub runs_unique : (xs ys : List Range) → Proper xs → Proper ys → (runs xs ≡ runs ys) ↔ Same xs ys
runs_unique xs ys p q = (
  λ e a. (
    λ c. (runs_cover ys a).0 (subst (λ (l : List Range). Covers l a) e ((runs_cover xs a).1 c)),
    λ c. (runs_cover xs a).0 (subst (λ (l : List Range). Covers l a) (sym e) ((runs_cover ys a).1 c)),
  ),
  λ s. unique 0 (runs xs) (runs ys) (runs_apart xs p) (runs_apart ys q)
      (λ a. (λ c. (runs_cover ys a).1 ((s a).0 ((runs_cover xs a).0 c)), λ c. (runs_cover xs a).1 ((s a).1 ((runs_cover ys a).0 c)))),
)

-- ranges that keep apart are their own runs
pub runs_same : (xs : List Range) → Apart xs → Proper xs → runs xs ≡ xs
runs_same xs f p = unique 0 (runs xs) xs (runs_apart xs p) f (runs_cover xs)

pub apart_proper : (lo : ℕ) (xs : List Range) → From lo xs → Proper xs
apart_proper lo [] f = tt
apart_proper lo (r ∷ rs) f = (f.1, apart_proper (suc r.1) rs f.2)

-- there are no more ranges than were put in
pub insert_length : (b e : ℕ) (rs : List Range) → length (insert b e rs) ≤ suc (length rs)
unfolding insert
insert_length b e [] = omega arith
insert_length b e (r ∷ rs) =
    insert_cases b e r rs (λ l. length l ≤ suc (length (r ∷ rs)))
    (λ x. omega arith)
    (λ x y. let h = insert_length b e rs in omega arith)
    (λ x y. let h = insert_length (min b r.0) (max e r.1) rs in omega arith)

pub inserts_length : (acc xs : List Range) → length (inserts acc xs) ≤ length acc + length xs
unfolding inserts
inserts_length acc [] = omega arith
inserts_length acc (r ∷ rs) =
    let h = insert_length r.0 r.1 acc in
    let k = inserts_length (insert r.0 r.1 acc) rs in
    omega arith

pub runs_length : (xs : List Range) → length (runs xs) ≤ length xs
runs_length xs = omega (arith, inserts_length [] xs)
