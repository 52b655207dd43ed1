-- Counts that rise by many: as the code adds them up, and that what a call reads may be counted from 0 and added afterwards. Assumes
-- nothing.
use mathlib.Core.Path.{◌≡◌, refl, sym, ap, ◌∙◌}
use mathlib.Core.Bool.{Bool}
use mathlib.Core.List.{List}
use mathlib.Core.Logic.{⊎_elim}
use Prim.Native.Nat.{ℕ, zero, suc, ◌+◌, ◌-◌, ◌^◌, ◌≤◌}
use native.Mathlib.Numerals.{add-one}
use native.Mathlib.Omega.{arith}
use lib.Dec.{leb}
use Rattle.std.specs.Prelude.{min}
use lib.ListN.{length}
use Rattle.section_bytes.specs.Read.{Result, gives, refused, got, Read}
use Rattle.section_bytes.specs.Reader.{is_size}
use Rattle.section_bytes.specs.declared.common.DebugAddrBase.{DebugAddrBase}
use Rattle.section_bytes.specs.declared.common.DebugAddrIndex.{DebugAddrIndex}
use Rattle.section_bytes.specs.declared.common.Encoding.{Encoding}
use Rattle.section_bytes.specs.declared.endianity.RunTimeEndian.{RunTimeEndian}
use Rattle.section_bytes.proofs.Order.{lt_or_le}
use Rattle.entries.specs.Forms.{Raw, stop, entry}
use Rattle.lists.specs.Open.{walk_at, one_more, read_to, rebased}
use Rattle.lists.specs.Convert.{Turn, range, rebase, skip, convert, table_at}
use Rattle.lists.specs.Walk.{Listing, item, Trace, over, handed, on_turn, on_read, trace_from, trace, first, next, ranges, ranges_by, locations, next_range, next_range_by, next_location}
use Rattle.lists.specs.Uncounted.{uncounted}
use Rattle.lists.specs.Risen.{risen_by, raised, call_raised}
use Rattle.lists.specs.declared.Walk.{Walk}
use Rattle.lists.proofs.CountLaws.{one_more_stays, one_more_rises, pick_both}

pub risen_none : (n : ℕ) → risen_by n 0 ≡ n
unfolding risen_by
risen_none n = refl

risen_one : (n k : ℕ) → risen_by n (suc k) ≡ one_more (risen_by n k)
unfolding risen_by
risen_one n k = refl

pub risen_next : (n k : ℕ) → risen_by n (k + 1) ≡ one_more (risen_by n k)
risen_next n k = ap (risen_by n) (add-one k) ∙ risen_one n k

-- the sum, or 2^64 - 1 where it would pass that; and as the code has it
risen_sum : (n k : ℕ) → n + k ≤ 2 ^ 64 - 1 → risen_by n k ≡ n + k
unfolding risen_by
risen_sum n zero h = omega arith
risen_sum n (suc k) h =
    let e = risen_sum n k (omega arith) in
    rw e (one_more_rises (n + k) (omega arith) ∙ omega arith)

risen_full : (n k : ℕ) → n ≤ 2 ^ 64 - 1 → 2 ^ 64 - 1 ≤ n + k → risen_by n k ≡ 2 ^ 64 - 1
unfolding risen_by
risen_full n zero h f = omega arith
risen_full n (suc k) h f =
    ⊎_elim
    (λ p. let e : risen_by n k ≡ n + k = risen_sum n k (omega arith) in let z : suc (n + k) ≡ 2 ^ 64 - 1 = omega arith in rw e (one_more_rises (n + k) p ∙ z))
    (λ p. let e = risen_full n k h p in rw e (one_more_stays (2 ^ 64 - 1) (omega arith)))
    (lt_or_le (n + k) (2 ^ 64 - 1))

pub risen_is : (n k : ℕ) → n ≤ 2 ^ 64 - 1 → risen_by n k ≡ min (n + k) (2 ^ 64 - 1)
risen_is n k h = ⊎_elim (λ p. risen_full n k h (omega arith) ∙ omega arith) (λ p. risen_sum n k p ∙ omega arith) (lt_or_le (2 ^ 64 - 1) (n + k))

-- as many are counted at least, as long as a count rises
risen_least : (n k m : ℕ) → m ≤ k → m ≤ 2 ^ 64 - 1 → m ≤ risen_by n k
unfolding risen_by
risen_least n zero m h f = omega arith
risen_least n (suc k) m h f =
    let e = risen_least n k (m - 1) (omega arith) (omega arith) in
    ⊎_elim
    (λ p. rw (one_more_rises (risen_by n k) p) (omega arith))
    (λ p. rw (one_more_stays (risen_by n k) p) (omega arith))
    (lt_or_le (risen_by n k) (2 ^ 64 - 1))

-- one more, counted from 0 on, is one more
risen_more : (n e : ℕ) → risen_by n (one_more e) ≡ one_more (risen_by n e)
risen_more n e =
    ⊎_elim
    (λ p. ap (risen_by n) (one_more_rises e p) ∙ risen_one n e)
    (λ p. ap (risen_by n) (one_more_stays e p) ∙ sym (one_more_stays (risen_by n e) (risen_least n e (2 ^ 64 - 1) p (omega arith))))
    (lt_or_le e (2 ^ 64 - 1))

-- what a list does, with such walks
abbrev pub trace_raised : {D : Type 0} → ℕ → Trace D → Trace D
trace_raised n (over w) = over (raised n w)
trace_raised n (handed r w t) = handed r (raised n w) (trace_raised n t)

pub first_raised : {D : Type 0} (n : ℕ) (t : Trace D) → call_raised n (first t) ≡ first (trace_raised n t)
first_raised n (over w) = refl
first_raised n (handed r w t) = refl

module _ (l : Listing) (table : DebugAddrIndex → Result ℕ) (size len n : ℕ) where
  turn_raised : (t : Result Turn) (d : l.Carried) (v w : Walk) (f g : Walk → Trace l.Carried) → raised n v ≡ w → ((u : Walk) → trace_raised n (f u) ≡ g (raised n u))
      → trace_raised n (on_turn t d v f) ≡ on_turn t d w g
  turn_raised t d v w f g q h = rw (← q) (by t)
    where
      by : (t : Result Turn) → trace_raised n (on_turn t d v f) ≡ on_turn t d (raised n v) g
      by (gives (range b e)) = ap (handed (gives (item b e d)) (raised n v)) (h v)
      by (gives (rebase b)) = h (rebased b v)
      by (gives skip) = h v
      by (refused m vs) = ap (handed (refused m vs) (raised n v)) (h v)

  pub read_raised : (w : Walk) (r : Read (Raw l.Entry)) (f g : Walk → Trace l.Carried) → ((u : Walk) → trace_raised n (f u) ≡ g (raised n u))
      → trace_raised n (on_read l table size len w r f) ≡ on_read l table size len (raised n w) r g
  read_raised w (gives (got (entry e) c)) f g h =
      turn_raised (convert table size w.base_address (l.bounds_of e)) (l.carried e) (read_to c w) (read_to c (raised n w)) f g
      (ap (walk_at c w.base_address) (risen_more n w.entries)) h
  read_raised w (gives (got stop c)) f g h = ap (λ (k : ℕ). over (walk_at len w.base_address k)) (risen_more n w.entries)
  read_raised w (refused m vs) f g h = refl

  from_raised : (m : ℕ) (w : Walk) → trace_raised n (trace_from l table size len m w) ≡ trace_from l table size len m (raised n w)
  unfolding trace_from
  from_raised zero w = refl
  from_raised (suc m) w =
      pick_both (trace_raised n) (leb len w.at) refl (read_raised w (l.read w.at) (trace_from l table size len m) (trace_from l table size len m) (from_raised m))

  trace_raised_lem : (w : Walk) → trace_raised n (trace l table size len w) ≡ trace l table size len (raised n w)
  unfolding trace
  trace_raised_lem w = from_raised len w

  call_raised_lem : (w : Walk) → call_raised n (next l table size len w) ≡ next l table size len (raised n w)
  unfolding next
  call_raised_lem w = pick_both (call_raised n) (is_size size) (first_raised n (trace l table size len w) ∙ ap first (trace_raised_lem w)) refl

-- what a call reads may be counted from 0 and added to what was counted before
next_raised : (l : Listing) (table : DebugAddrIndex → Result ℕ) (size len : ℕ) (w : Walk) → call_raised w.entries (next l table size len (uncounted w)) ≡ next l table size len w
unfolding risen_by
next_raised l table size len w = call_raised_lem l table size len w.entries (uncounted w)

-- of each list's calls
module _ (encoding : Encoding) (endian : RunTimeEndian) (s table : List ℕ) (tableBase : DebugAddrBase) (w : Walk) where
  pub range_raised : call_raised w.entries (next_range encoding endian s table tableBase (uncounted w)) ≡ next_range encoding endian s table tableBase w
  range_raised = next_raised (ranges encoding endian s) (table_at endian encoding tableBase table) encoding.address_size (length s) w

  pub range_raised_by : (kinds : List ℕ) → call_raised w.entries (next_range_by kinds encoding endian s table tableBase (uncounted w)) ≡ next_range_by kinds encoding endian s table tableBase w
  range_raised_by kinds = next_raised (ranges_by kinds encoding endian s) (table_at endian encoding tableBase table) encoding.address_size (length s) w

  pub location_raised : (split : Bool) → call_raised w.entries (next_location split encoding endian s table tableBase (uncounted w)) ≡ next_location split encoding endian s table tableBase w
  location_raised split = next_raised (locations split encoding endian s) (table_at endian encoding tableBase table) encoding.address_size (length s) w
