-- A canonical list counted and written range by range: what is left of it, with what is done, is the same all along.
-- Assumes nothing.
use mathlib.Core.Path.{◌≡◌, refl, ap, ◌∙◌}
use mathlib.Core.List.{List, [], ◌∷◌, ◌++◌, append_assoc}
use Prim.Native.Nat.{ℕ, suc, ◌+◌, ◌-◌, ◌*◌, ◌≤◌, ◌<◌}
use native.Mathlib.Numerals.{add-one}
use native.Mathlib.Omega.{arith}
use lib.Dec.{leb}
use lib.ListN.{length, drop, get_or, set, length-take, length-append, length-set}
use lib.Seq.{sets, length-sets}
use Rattle.section_bytes.specs.Read.{pick}
use Rattle.coverage.specs.Ranges.{Range, From, limit}
use Rattle.section_bytes.specs.Written.{little_bytes, unsigned_bytes}
use Rattle.canonical.specs.Canonical.{entry_bytes, canonical_bytes}
use Rattle.coverage.proofs.KeptLaws.{next_range, no_range}
use Rattle.section_bytes.proofs.WrittenLaws.{length_little}
use Rattle.section_bytes.proofs.PutLaws.{sets_append, put_room}
use Rattle.coverage.specs.Kept.{paired, firsts}
use Rattle.coverage.specs.Sorted.{Sized}
use Rattle.canonical.specs.Arrays.{Arrays}
use Rattle.section_bytes.proofs.WrittenLaws.{unsigned_length}

-- the bytes of a first range
bytes_first : (r : Range) (rs : List Range)
    → canonical_bytes (r ∷ rs) ≡ 7 ∷ (little_bytes 8 r.0 ++ (unsigned_bytes (r.1 - r.0) ++ canonical_bytes rs))
unfolding canonical_bytes entry_bytes
bytes_first r rs = simp append_assoc

length_first : (r : Range) (rs : List Range)
    → length (canonical_bytes (r ∷ rs)) ≡ 9 + length (unsigned_bytes (r.1 - r.0)) + length (canonical_bytes rs)
length_first r rs = rw (bytes_first, length-append, length-append, length_little) (omega arith)

some_bytes : (rs : List Range) → 1 ≤ length (canonical_bytes rs)
unfolding canonical_bytes
some_bytes [] = omega arith
some_bytes (r ∷ rs) = omega (arith, length-append (entry_bytes r) (canonical_bytes rs), some_bytes rs)

-- an entry has at most 19 bytes
most_bytes : (rs : List Range) → length (canonical_bytes rs) ≤ 19 * length rs + 1
unfolding canonical_bytes
most_bytes [] = omega arith
most_bytes (r ∷ rs) = omega (arith, length_first r rs, unsigned_length 9 (r.1 - r.0), most_bytes rs)

pub firsts_bytes : (n : ℕ) (bs es : List ℕ) → length (canonical_bytes (firsts n bs es)) ≤ 19 * n + 1
firsts_bytes n bs es = omega (arith, most_bytes (firsts n bs es), length-take n (paired bs es))

-- the ranges from the i-th on keep apart
pub record Over (bs es : List ℕ) (n i : ℕ) : Type 0 where
  pub lo : ℕ
  pub apart : From lo (drop i (firsts n bs es))
  pub within : i ≤ n
  pub few : n ≤ limit
  pub room : n ≤ length bs
  pub sized : Sized (length bs) bs es

over_start : {bs es : List ℕ} {n : ℕ} → Arrays n bs es → Over bs es n 0
over_start a = record { lo = 0; apart = a.apart; within = omega arith; few = a.few; room = a.room; sized = a.sized }

module _ {bs es : List ℕ} {n i : ℕ} (t : Over bs es n i) where
  over_next : i < n → drop i (firsts n bs es) ≡ (get_or bs i 0, get_or es i 0) ∷ drop (i + 1) (firsts n bs es)
  over_next w = next_range bs es n t.room t.sized.0 t.sized.1 i w

  over_parts : i < n → From t.lo ((get_or bs i 0, get_or es i 0) ∷ drop (i + 1) (firsts n bs es))
  over_parts w = rw (over_next w) at t.apart

  pub over_proper : i < n → get_or bs i 0 ≤ get_or es i 0
  over_proper w = omega (arith, (over_parts w).1)

  over_step : i < n → Over bs es n (i + 1)
  over_step w =
      record { lo = suc (get_or es i 0); apart = (over_parts w).2; within = omega arith; few = t.few; room = t.room; sized = t.sized }

  over_length : i < n
      → length (canonical_bytes (drop i (firsts n bs es))) ≡ 9 + length (unsigned_bytes (get_or es i 0 - get_or bs i 0)) + length (canonical_bytes (drop (i + 1) (firsts n bs es)))
  over_length w =
      ap (λ (l : List Range). length (canonical_bytes l)) (over_next w) ∙ length_first (get_or bs i 0, get_or es i 0) (drop (i + 1) (firsts n bs es))

  over_none : n ≤ i → canonical_bytes (drop i (firsts n bs es)) ≡ 0 ∷ []
  unfolding canonical_bytes
  over_none h = ap canonical_bytes (no_range bs es n t.room t.sized.0 t.sized.1 i h)

-- at bytes count the entries before the i-th range
pub record Counting (bs es : List ℕ) (n i at : ℕ) : Type 0 where
  pub over : Over bs es n i
  pub place : at + length (canonical_bytes (drop i (firsts n bs es))) ≡ length (canonical_bytes (firsts n bs es))
  pub most : at ≤ 19 * i

pub counting_start : {bs es : List ℕ} {n : ℕ} → Arrays n bs es → Counting bs es n 0 0
counting_start a = record { over = over_start a; place = omega arith; most = omega arith }

module _ {bs es : List ℕ} {n i at : ℕ} (t : Counting bs es n i at) where
  pub counting_step : {k : ℕ} → i < n → k ≡ length (unsigned_bytes (get_or es i 0 - get_or bs i 0)) → Counting bs es n (i + 1) (at + 9 + k)
  counting_step w e =
      let l = over_length t.over w in
      let u = unsigned_length 9 (get_or es i 0 - get_or bs i 0) in
      record { over = over_step t.over w; place = omega (arith, t.place); most = omega (arith, t.most) }

  pub counting_end : n ≤ i → at + 1 ≡ length (canonical_bytes (firsts n bs es))
  counting_end h = rw (over_none t.over h) at t.place

-- at the place at are still to be written the entries from the i-th range on, and the end mark
pub record Writing (bs es : List ℕ) (n : ℕ) (l₀ l : List ℕ) (i at : ℕ) : Type 0 where
  pub over : Over bs es n i
  pub place : at + length (canonical_bytes (drop i (firsts n bs es))) ≡ length (canonical_bytes (firsts n bs es))
  pub same : sets l at (canonical_bytes (drop i (firsts n bs es))) ≡ sets l₀ 0 (canonical_bytes (firsts n bs es))
  pub long : length l ≡ length l₀
  pub room : length (canonical_bytes (firsts n bs es)) ≤ length l₀

pub writing_start : {bs es : List ℕ} {n : ℕ} {l : List ℕ}
    → Arrays n bs es → length (canonical_bytes (firsts n bs es)) ≤ length l → Writing bs es n l l 0 0
writing_start a r = record { over = over_start a; place = omega arith; same = refl; long = refl; room = r }

module _ {bs es l₀ l : List ℕ} {n i at : ℕ} (t : Writing bs es n l₀ l i at) where
  pub writing_room : i < n → at + 9 + length (unsigned_bytes (get_or es i 0 - get_or bs i 0)) < length l
  writing_room w =
      omega (arith, over_length t.over w, t.place, t.long, t.room, some_bytes (drop (i + 1) (firsts n bs es)))

  pub writing_here : at < length l
  writing_here = omega (arith, t.place, t.long, t.room, some_bytes (drop i (firsts n bs es)))

  pub writing_small : at ≤ 19 * limit
  writing_small = omega (arith, t.place, firsts_bytes n bs es, t.over.few, some_bytes (drop i (firsts n bs es)))

  -- the begin of a range, put after its kind
  pub writing_begin : {l₂ : List ℕ} → i < n
      → l₂ ≡ pick (leb (at + 1 + 8) (length (set l at 7))) (sets (set l at 7) (at + 1) (little_bytes 8 (get_or bs i 0))) (set l at 7)
      → l₂ ≡ sets (set l at 7) (at + 1) (little_bytes 8 (get_or bs i 0))
  writing_begin w p =
      p ∙ put_room (set l at 7) (at + 1) 8 (sets (set l at 7) (at + 1) (little_bytes 8 (get_or bs i 0))) (simp length-set (omega (arith, writing_room w)))

  pub writing_step : {l₂ l₃ : List ℕ} {at' : ℕ} → i < n → l₂ ≡ sets (set l at 7) (at + 1) (little_bytes 8 (get_or bs i 0))
      → at' ≡ at + 9 + length (unsigned_bytes (get_or es i 0 - get_or bs i 0)) → l₃ ≡ sets l₂ (at + 9) (unsigned_bytes (get_or es i 0 - get_or bs i 0))
      → Writing bs es n l₀ l₃ (i + 1) at'
  writing_step {l₂} {l₃} {at'} w p q r =
      record {
        over = over_step t.over w;
        place = omega (arith, over_length t.over w, t.place);
        same = stored ∙ t.same;
        long =
            ap length r ∙ length-sets l₂ (at + 9) (unsigned_bytes (get_or es i 0 - get_or bs i 0))
            ∙ ap length p ∙ length-sets (set l at 7) (at + 1) (little_bytes 8 (get_or bs i 0)) ∙ length-set l at 7 ∙ t.long;
        room = t.room;
      }
    where
      stored : sets l₃ at' (canonical_bytes (drop (i + 1) (firsts n bs es))) ≡ sets l at (canonical_bytes (drop i (firsts n bs es)))
      stored =
          let e : suc at + 8 ≡ at + 9 = omega arith in
          rw (over_next t.over w, bytes_first, sets_append, sets_append, length_little, e, r, p, q, add-one at)

  pub writing_end : n ≤ i → (at + 1 ≡ length (canonical_bytes (firsts n bs es))) × (set l at 0 ≡ sets l₀ 0 (canonical_bytes (firsts n bs es)))
  writing_end h = (rw (over_none t.over h) at t.place, rw (over_none t.over h) at t.same)
