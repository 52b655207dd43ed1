-- A range goes from place to place to those that wait: what holds at each of them. Assumes nothing.
use Prim.Native.Nat.{ℕ, suc, ◌+◌, ◌-◌, ◌^◌, ◌≤◌, ◌<◌}
use native.Mathlib.Omega.{arith}
use mathlib.Core.List.{List, [], ◌∷◌}
use mathlib.Core.Logic.{◌⊎◌, inl, inr, ⊎_elim}
use mathlib.Core.Path.{◌≡◌, refl, sym, ap, ◌∙◌, subst}
use lib.ListN.{length, get_or, set, length-set}
use lib.Seq.{sets, set-set, set_comm}
use Rattle.section_bytes.proofs.Order.{lt_or_le}
use Rattle.stacks.specs.Places.{at, Ascending, FirstAt, Waits, Done, Hops, Laid, Kept, Answered, Settled, Filled}
use Rattle.stacks.proofs.PlaceLaws.{same_or_not, at_same, at_other}

-- what is laid at a place stays when something is put at another
pub laid_other : (rows : List (List ℕ)) (i : ℕ) (x : List ℕ) (m : ℕ) (row : List ℕ) → (m ≡ i → ⊥) → Laid rows m row → Laid (set rows i x) m row
laid_other rows i x m row h q = set_comm rows i m x row (λ e. h (sym e)) ∙ ap (λ (l : List (List ℕ)). set l i x) q

pub laid_same : (rows : List (List ℕ)) (i : ℕ) (x : List ℕ) (m : ℕ) → m ≡ i → Laid (set rows i x) m x
laid_same rows i x m e = ap (λ (k : ℕ). set (set rows i x) k x) e ∙ set-set rows i x x

sets_ahead : (vs rows : List (List ℕ)) (k i : ℕ) (x : List ℕ) → i < k → sets (set rows i x) k vs ≡ set (sets rows k vs) i x
sets_ahead [] rows k i x h = refl
sets_ahead (v ∷ vs) rows k i x h = ap (λ (l : List (List ℕ)). sets l (suc k) vs) (set_comm rows i k x v (λ e. omega arith)) ∙ sets_ahead vs (set rows k v) (suc k) i x (omega arith)

-- what is written over is not seen
pub sets_over : (vs rows : List (List ℕ)) (k i : ℕ) (x : List ℕ) → k ≤ i → i < k + length vs → sets (set rows i x) k vs ≡ sets rows k vs
sets_over [] rows k i x h q = absurd (omega arith)
sets_over (v ∷ vs) rows k i x h q =
    ⊎_elim
    (λ e. ap (λ (l : List (List ℕ)). sets l (suc k) vs) (ap (λ (j : ℕ). set (set rows j x) k v) e ∙ set-set rows k x v))
    (λ e. ap (λ (l : List (List ℕ)). sets l (suc k) vs) (set_comm rows i k x v e) ∙ sets_over vs (set rows k v) (suc k) i x (omega arith) (omega arith))
    (same_or_not i k)

-- where every one of some answers stands at its place, to put all there changes nothing
pub sets_laid : (vs rows : List (List ℕ)) (k : ℕ) (d : List ℕ) → ((i : ℕ) → i < length vs → Laid rows (k + i) (get_or vs i d)) → sets rows k vs ≡ rows
sets_laid [] rows k d h = refl
sets_laid (v ∷ vs) rows k d h =
    let e : set rows k v ≡ rows = ap (λ (j : ℕ). set rows j v) (omega arith) ∙ h 0 (omega arith) in
    ap (λ (l : List (List ℕ)). sets l (suc k) vs) e
    ∙ sets_laid vs rows (suc k) d (λ i q. ap (λ (j : ℕ). set rows j (get_or vs i d)) (omega arith) ∙ h (suc i) (omega arith))

module _ (a : List ℕ) (next₀ : List ℕ) (rows₀ : List (List ℕ)) (b e : ℕ) (row : List ℕ) (first : ℕ) where
  pub record Settling (next : List ℕ) (rows : List (List ℕ)) (i : ℕ) : Type 0 where
    pub hops : Hops next
    pub from : first ≤ i
    pub most : i ≤ 64
    pub passed : (m : ℕ) → first ≤ m → m < i → Done next m
    pub each : (m : ℕ) → m < 64 → Kept next₀ rows₀ next rows m ⊎ Answered a next₀ next rows b e row m
    pub over : (ws : List (List ℕ)) → ((m : ℕ) → m < 64 → at a m < e → m < length ws) → sets rows 0 ws ≡ sets rows₀ 0 ws

  pub settling_start : Hops next₀ → first ≤ 64 → Settling next₀ rows₀ first
  settling_start h p =
      record {
        hops = h;
        from = omega arith;
        most = p;
        passed = λ m l k. absurd (omega arith);
        each = λ m k. inl (record { done = λ x. x; still = λ x. x; laid = λ r x. x });
        over = λ ws k. refl;
      }

  -- a place that waited has not been given an answer so far
  not_yet : {next : List ℕ} {rows : List (List ℕ)} {i : ℕ} → Kept next₀ rows₀ next rows i ⊎ Answered a next₀ next rows b e row i → Waits next i → Waits next₀ i
  not_yet {i = i} (inl k) w = ⊎_elim (λ o. let z = k.still o in absurd (omega arith)) (λ o. o) (lt_or_le i (at next₀ i))
  not_yet (inr k) w = let z = k.done in absurd (omega arith)

  module _ {next : List ℕ} {rows : List (List ℕ)} {i : ℕ} (h : Settling next rows i) (room : i < 64) where
    set_long : (x : ℕ) → length (set next i x) ≡ 64
    set_long x = length-set next i x ∙ h.hops.long

    put_at : at (set next i (i + 1)) i ≡ i + 1
    put_at = at_same next i (i + 1) i (omega (arith, h.hops.long)) refl

    put_done : (m : ℕ) → Done next m → Done (set next i (i + 1)) m
    put_done m d =
        ⊎_elim (λ q. let y = at_same next i (i + 1) m (omega (arith, h.hops.long)) q in omega arith) (λ q. let y = at_other next i (i + 1) m q in omega arith) (same_or_not m i)

    put_hops : Hops (set next i (i + 1))
    put_hops =
        record {
          long = set_long (i + 1);
          most = λ j. ⊎_elim (λ q. let y = at_same next i (i + 1) j (omega (arith, h.hops.long)) q in omega arith) (λ q. let y = at_other next i (i + 1) j q in let z = h.hops.most j in omega arith) (same_or_not j i);
          over =
              λ j m l k.
              ⊎_elim
              (λ q. let y = at_same next i (i + 1) j (omega (arith, h.hops.long)) q in let z = at_same next i (i + 1) m (omega (arith, h.hops.long)) (omega arith) in omega arith)
              (λ q. let y = at_other next i (i + 1) j q in put_done m (h.hops.over j m l (omega arith)))
              (same_or_not j i);
        }

    put_kept : (m : ℕ) → (m ≡ i → ⊥) → Kept next₀ rows₀ next rows m ⊎ Answered a next₀ next rows b e row m
        → Kept next₀ rows₀ (set next i (i + 1)) (set rows i row) m ⊎ Answered a next₀ (set next i (i + 1)) (set rows i row) b e row m
    put_kept m q (inl k) =
        let y = at_other next i (i + 1) m q in
        inl (record { done = λ x. k.done (omega arith); still = λ x. let z = k.still x in omega arith; laid = λ r x. laid_other rows i row m r q (k.laid r x) })
    put_kept m q (inr k) =
        let y = at_other next i (i + 1) m q in
        inr (record { waited = k.waited; begun = k.begun; ended = k.ended; done = let z = k.done in omega arith; laid = laid_other rows i row m row q k.laid })

    pub settled_one : FirstAt a b first → at a i < e → Waits next i → Settling (set next i (i + 1)) (set rows i row) (i + 1)
    settled_one f u w =
        record {
          hops = put_hops;
          from = let z = h.from in omega arith;
          most = omega arith;
          passed = λ m p k. ⊎_elim (λ o. put_done m (h.passed m p o)) (λ o. let z = at_same next i (i + 1) m (omega (arith, h.hops.long)) (omega arith) in omega arith) (lt_or_le m i);
          each =
              λ m k.
              ⊎_elim
              (λ q.
              inr (record {
                waited = let z = not_yet (h.each i room) w in let y = ap (at next₀) q in omega arith;
                begun = let y = ap (at a) q in let l = f.from i h.from room in omega arith;
                ended = let y = ap (at a) q in omega arith;
                done = let z = at_same next i (i + 1) m (omega (arith, h.hops.long)) q in omega arith;
                laid = laid_same rows i row m q;
              }))
              (λ q. put_kept m q (h.each m k))
              (same_or_not m i);
          over = λ ws k. sets_over ws rows 0 i row (omega arith) (let z = k i room u in omega arith) ∙ h.over ws k;
        }

    pub settled_past : Done next i → Settling next rows (at next i)
    settled_past d =
        record {
          hops = h.hops;
          from = let z = h.from in omega arith;
          most = h.hops.most i;
          passed = λ m p k. ⊎_elim (λ o. h.passed m p o) (λ o. h.hops.over i m o k) (lt_or_le m i);
          each = h.each;
          over = h.over;
        }

  module _ (up : Ascending a) (f : FirstAt a b first) (top : e ≤ 2 ^ 64 - 1) {next : List ℕ} {rows : List (List ℕ)} {i : ℕ} (h : Settling next rows i) (end : i < 64 → e ≤ at a i) where
    -- every place whose address the range holds has been passed
    all_passed : (m : ℕ) → m < 64 → b ≤ at a m → at a m < e → Done next m
    all_passed m k l u =
        let p : first ≤ m = ⊎_elim (λ o. let z = f.below m o in absurd (omega arith)) (λ o. o) (lt_or_le m first) in
        let q : m < i = ⊎_elim (λ o. o) (λ o. let z = up i m o k in let y = end (omega arith) in absurd (omega arith)) (lt_or_le m i) in
        h.passed m p q

    pub settled_none : Settled a next₀ rows₀ b e row next rows i
    settled_none = record { hops = h.hops; most = h.most; top = top; held = all_passed; each = h.each; over = h.over }

    module _ (some : first < i) where
      short : first < length next
      short = let z = h.most in let y = h.hops.long in omega arith

      closed_done : (m : ℕ) → Done next m → Done (set next first i) m
      closed_done m d = ⊎_elim (λ q. let y = at_same next first i m short q in omega arith) (λ q. let y = at_other next first i m q in omega arith) (same_or_not m first)

      closed_back : (m : ℕ) → Done (set next first i) m → Done next m
      closed_back m d =
          ⊎_elim (λ q. let z = h.passed first (omega arith) some in let y = ap (at next) q in omega arith) (λ q. let y = at_other next first i m q in omega arith) (same_or_not m first)

      closed_each : (m : ℕ) → Kept next₀ rows₀ next rows m ⊎ Answered a next₀ next rows b e row m → Kept next₀ rows₀ (set next first i) rows m ⊎ Answered a next₀ (set next first i) rows b e row m
      closed_each m (inl k) = inl (record { done = λ x. k.done (closed_back m x); still = λ x. closed_done m (k.still x); laid = k.laid })
      closed_each m (inr k) = inr (record { waited = k.waited; begun = k.begun; ended = k.ended; done = closed_done m k.done; laid = k.laid })

      pub settled_some : Settled a next₀ rows₀ b e row (set next first i) rows i
      settled_some =
          record {
            hops =
                record {
                  long = length-set next first i ∙ h.hops.long;
                  most = λ j. ⊎_elim (λ q. let y = at_same next first i j short q in let z = h.most in omega arith) (λ q. let y = at_other next first i j q in let z = h.hops.most j in omega arith) (same_or_not j first);
                  over =
                      λ j m l k.
                      ⊎_elim
                      (λ q. let y = at_same next first i j short q in closed_done m (h.passed m (omega arith) (omega arith)))
                      (λ q. let y = at_other next first i j q in closed_done m (h.hops.over j m l (omega arith)))
                      (same_or_not j first);
                };
            most = h.most;
            top = top;
            held = λ m k l u. closed_done m (all_passed m k l u);
            each = λ m k. closed_each m (h.each m k);
            over = h.over;
          }

-- each of the places up to i that waits is given its answer
module _ (words : ℕ → List ℕ) (a next : List ℕ) (rows₀ : List (List ℕ)) where
  pub fill_start : Filled words a 0 next rows₀ rows₀
  fill_start = record { laid = λ m k w. absurd (omega arith); kept = λ m row d q. q; over = λ ws k. refl }

  module _ {rows : List (List ℕ)} {i : ℕ} (h : Filled words a i next rows₀ rows) where
    pub fill_put : Waits next i → (row : List ℕ) → row ≡ words (at a i) → Filled words a (i + 1) next rows₀ (set rows i row)
    fill_put w row e =
        record {
          laid = λ m k v. ⊎_elim (λ q. ap (λ (r : List ℕ). set (set rows i row) m r) (ap (λ (j : ℕ). words (at a j)) q ∙ sym e) ∙ laid_same rows i row m q) (λ q. laid_other rows i row m (words (at a m)) q (h.laid m (omega arith) v)) (same_or_not m i);
          kept = λ m r d q. laid_other rows i row m r (λ z. let y = ap (at next) z in omega arith) (h.kept m r d q);
          over = λ ws k. sets_over ws rows 0 i row (omega arith) (omega arith) ∙ h.over ws (omega arith);
        }

    pub fill_skip : Done next i → Filled words a (i + 1) next rows₀ rows
    fill_skip d =
        record {
          laid = λ m k v. h.laid m (⊎_elim (λ q. q) (λ q. let y = ap (at next) (same m q k) in absurd (omega arith)) (lt_or_le m i)) v;
          kept = h.kept;
          over = λ ws k. h.over ws (omega arith);
        }
      where
        same : (m : ℕ) → i ≤ m → m < i + 1 → m ≡ i
        same m p q = omega arith

pub fill_until : {words : ℕ → List ℕ} {a : List ℕ} {i n : ℕ} {next : List ℕ} {rows rows' : List (List ℕ)} → Filled words a i next rows rows' → i ≡ n → Filled words a n next rows rows'
fill_until {words} {a} {i} {n} {next} {rows} {rows'} h e = subst (λ (k : ℕ). Filled words a k next rows rows') e h
