-- What reads at a place of bytes say of the piece there: an entry or the end mark would be read so, and what is read so is one.
-- Assumes nothing.
use mathlib.Core.List.{List, [], ◌∷◌, ◌++◌, append_assoc}
use mathlib.Core.Logic.{⊎_elim}
use mathlib.Core.Path.{◌≡◌, sym, ap, ap₂, ◌∙◌}
use Prim.Native.Nat.{ℕ, zero, suc, ◌+◌, ◌-◌, ◌≤◌, ◌<◌}
use native.Mathlib.Omega.{arith}
use lib.ListN.{length, take, drop, get_or, take-append-drop, length-append, length-drop, length-take, drop_of_length-le}
use lib.Seq.{drop-cons, drop-drop, get_or-drop, take_at, drop-append_seam}
use Rattle.section_bytes.specs.Read.{got, gives, refused}
use Rattle.section_bytes.specs.Endianity.{little}
use Rattle.section_bytes.specs.Leb128.{unsigned}
use Rattle.section_bytes.specs.Reader.{uint}
use Rattle.section_bytes.specs.Written.{little_bytes, unsigned_bytes}
use Rattle.section_bytes.specs.declared.endianity.RunTimeEndian.TheVariants.{Little}
use Rattle.section_bytes.proofs.Order.{lt_or_le}
use Rattle.section_bytes.proofs.ReaderLaws.{uint_short, uint_got, byte_got}
use Rattle.section_bytes.proofs.WrittenLaws.{length_little, little_back, little_written, unsigned_there, shortest, shortest_form}
use Rattle.lists.specs.Walks.{InBounds}
use Rattle.coverage.specs.Ranges.{Range}
use Rattle.canonical.specs.Canonical.{entry_bytes}
use Rattle.canonical.specs.Form.{Neither}

-- a number that was read lies in the bytes
uint_inside : (n : ℕ) (s : List ℕ) (at : ℕ) {v c : ℕ} → uint Little n s at ≡ gives (got v c) → (at + n ≤ length s) × (c ≡ at + n) × (v ≡ little (take n (drop at s)))
uint_inside n s at e =
    ⊎_elim
    (λ h. let f = sym (uint_short Little n s at h) ∙ e in let z : ◌≡◌ {A = ℕ} 0 1 = cc in absurd (omega arith))
    (λ h. let f = sym (uint_got Little n s at h) ∙ e in (h, cc, cc))
    (lt_or_le (length s) (at + n))

taken_bytes : (n : ℕ) (l : List ℕ) → ((i : ℕ) → get_or l i 0 < 256) → (i : ℕ) → get_or (take n l) i 0 < 256
taken_bytes zero l h i = omega arith
taken_bytes (suc n) [] h i = omega arith
taken_bytes (suc n) (x ∷ l) h zero = h 0
taken_bytes (suc n) (x ∷ l) h (suc i) = taken_bytes n l (λ j. h (suc j)) i

-- eight bytes are those of their number
eight_written : (s : List ℕ) (at : ℕ) → at + 8 ≤ length s → ((i : ℕ) → get_or s i 0 < 256) → little_bytes 8 (little (take 8 (drop at s))) ≡ take 8 (drop at s)
eight_written s at f h =
    let n : length (take 8 (drop at s)) ≡ 8 = omega (arith, length-take 8 (drop at s), length-drop at s) in
    ap (λ (k : ℕ). little_bytes k (little (take 8 (drop at s)))) (sym n) ∙ little_written (take 8 (drop at s)) (taken_bytes 8 (drop at s) (λ i. rw (get_or-drop at s i 0) (h (at + i))))

-- the first byte from a place on is read there, and what is read there is that byte
first_read : (s : List ℕ) (at : ℕ) {b : ℕ} {l : List ℕ} → drop at s ≡ b ∷ l → uint Little 1 s at ≡ gives (got b (at + 1))
first_read s at {b} {l} e =
    let k : at + 0 ≡ at = omega arith in
    let v : get_or s at 0 ≡ b = ap (λ (i : ℕ). get_or s i 0) (sym k) ∙ sym (get_or-drop at s 0 0) ∙ ap (λ (m : List ℕ). get_or m 0 0) e in
    byte_got s at (omega (arith, ap length e, length-drop at s)) ∙ ap (λ (x : ℕ). gives (got x (at + 1))) v

read_first : (s : List ℕ) (at : ℕ) {v c : ℕ} → uint Little 1 s at ≡ gives (got v c) → v ≡ get_or s at 0
read_first s at u =
    let l : at < length s = omega (arith, (uint_inside 1 s at u).0) in
    let f = sym (byte_got s at l) ∙ u in
    cc

module _ (s : List ℕ) (at : ℕ) where
  -- the end mark as the last byte
  module _ (e : drop at s ≡ 0 ∷ []) where
    mark_length : at + 1 ≡ length s
    mark_length = omega (arith, ap length e, length-drop at s)

    mark_read : uint Little 1 s at ≡ gives (got 0 (at + 1))
    mark_read = first_read s at e

  -- the entry of a range, whatever follows it
  module _ (r : Range) (rest : List ℕ) (small : InBounds 8 r.0 r.1) (e : drop at s ≡ entry_bytes r ++ rest) where
    abbrev n : ℕ
    n = r.1 - r.0

    spread : drop at s ≡ 7 ∷ (little_bytes 8 r.0 ++ (unsigned_bytes n ++ rest))
    unfolding entry_bytes
    spread = e ∙ append_assoc (7 ∷ little_bytes 8 r.0) (unsigned_bytes n) rest

    room : at + 9 + length (unsigned_bytes n ++ rest) ≡ length s
    room =
        omega (arith, ap length spread, length-drop at s, length-append (little_bytes 8 r.0) (unsigned_bytes n ++ rest), length_little 8 r.0)

    code_read : uint Little 1 s at ≡ gives (got 7 (at + 1))
    code_read = first_read s at spread

    after_code : drop (at + 1) s ≡ little_bytes 8 r.0 ++ (unsigned_bytes n ++ rest)
    after_code = sym (drop-drop 1 at s) ∙ ap (drop 1) spread

    begin_read : uint Little 8 s (at + 1) ≡ gives (got r.0 (at + 9))
    begin_read =
        uint_got Little 8 s (at + 1) (omega (arith, room))
        ∙ ap₂ (λ (l : List ℕ) (c : ℕ). gives (got (little l) c)) (ap (take 8) after_code ∙ take_at (little_bytes 8 r.0) (unsigned_bytes n ++ rest) 8 (length_little 8 r.0)) (omega arith)
        ∙ ap (λ (b : ℕ). gives (got b (at + 9))) (little_back 8 r.0 (omega arith))

    after_begin : drop (at + 9) s ≡ unsigned_bytes n ++ rest
    after_begin =
        let k : at + 9 ≡ at + 1 + 8 = omega arith in
        ap (λ (k : ℕ). drop k s) k ∙ sym (drop-drop 8 (at + 1) s) ∙ ap (drop 8) after_code
        ∙ ap (λ (k : ℕ). drop k (little_bytes 8 r.0 ++ (unsigned_bytes n ++ rest))) (sym (length_little 8 r.0)) ∙ drop-append_seam (little_bytes 8 r.0) (unsigned_bytes n ++ rest)

    length_read : unsigned s (at + 9) ≡ gives (got n (at + 9 + length (unsigned_bytes n)))
    length_read = unsigned_there s (at + 9) n rest (omega arith) after_begin

  -- where the code can't be read, or is another than theirs
  pub neither_unread : {n : ℕ} {vs : List ℕ} → uint Little 1 s at ≡ refused n vs → Neither (drop at s)
  neither_unread u =
      record {
        mark = λ e. let f = sym (mark_read e) ∙ u in let z : ◌≡◌ {A = ℕ} 0 1 = cc in omega arith;
        entry = λ r rest small e. let f = sym (code_read r rest small e) ∙ u in let z : ◌≡◌ {A = ℕ} 0 1 = cc in omega arith;
      }

  module _ {code c : ℕ} (u : uint Little 1 s at ≡ gives (got code c)) where
    mark_code : drop at s ≡ 0 ∷ [] → (code ≡ 0) × (c ≡ length s)
    mark_code e = let f = sym (mark_read e) ∙ u in let p : code ≡ 0 = cc in let q : c ≡ at + 1 = cc in (p, q ∙ mark_length e)

    entry_code : (r : Range) (rest : List ℕ) → InBounds 8 r.0 r.1 → drop at s ≡ entry_bytes r ++ rest → (code ≡ 7) × (c ≡ at + 1)
    entry_code r rest small e = let f = sym (code_read r rest small e) ∙ u in (cc, cc)

    pub neither_early : code ≡ 0 → c < length s → Neither (drop at s)
    neither_early z h =
        record {
          mark = λ e. omega (arith, (mark_code e).1);
          entry = λ r rest small e. omega (arith, (entry_code r rest small e).0);
        }

    pub neither_code : (code ≡ 0 → ⊥) → (code ≡ 7 → ⊥) → Neither (drop at s)
    neither_code z h =
        record { mark = λ e. z (mark_code e).0; entry = λ r rest small e. h (entry_code r rest small e).0 }

    pub end_mark : code ≡ 0 → length s ≤ c → drop at s ≡ 0 ∷ []
    end_mark z h =
        let i = uint_inside 1 s at u in
        let l : at < length s = omega (arith, i.0) in
        let m : length s ≤ suc at = omega (arith, i.1) in
        let d = drop-cons s at 0 l in
        d ∙ ap₂ ◌∷◌ (sym (read_first s at u) ∙ z) (drop_of_length-le s m)

    -- where the code is theirs, a begin that can't be read, then a length
    module _ (seven : code ≡ 7) where
      no_mark : drop at s ≡ 0 ∷ [] → ⊥
      no_mark e = omega (arith, (mark_code e).0)

      pub neither_begin : {n : ℕ} {vs : List ℕ} → uint Little 8 s c ≡ refused n vs → Neither (drop at s)
      neither_begin b =
          record {
            mark = no_mark;
            entry = λ r rest small e.
                let f = sym (begin_read r rest small e) ∙ ap (uint Little 8 s) (sym (entry_code r rest small e).1) ∙ b in
                let z : ◌≡◌ {A = ℕ} 0 1 = cc in
                omega arith;
          }

      module _ {begin c1 : ℕ} (b : uint Little 8 s c ≡ gives (got begin c1)) where
        entry_begin : (r : Range) (rest : List ℕ) → InBounds 8 r.0 r.1 → drop at s ≡ entry_bytes r ++ rest → (begin ≡ r.0) × (c1 ≡ at + 9)
        entry_begin r rest small e =
            let f = sym (begin_read r rest small e) ∙ ap (uint Little 8 s) (sym (entry_code r rest small e).1) ∙ b in (cc, cc)

        pub neither_length : {n : ℕ} {vs : List ℕ} → unsigned s c1 ≡ refused n vs → Neither (drop at s)
        neither_length l =
            record {
              mark = no_mark;
              entry = λ r rest small e.
                  let f = sym (length_read r rest small e) ∙ ap (unsigned s) (sym (entry_begin r rest small e).1) ∙ l in
                  let z : ◌≡◌ {A = ℕ} 0 1 = cc in
                  omega arith;
            }

        module _ {len c2 : ℕ} (l : unsigned s c1 ≡ gives (got len c2)) where
          entry_end : (r : Range) (rest : List ℕ) → InBounds 8 r.0 r.1 → drop at s ≡ entry_bytes r ++ rest
              → (len ≡ r.1 - r.0) × (c2 ≡ at + 9 + length (unsigned_bytes (r.1 - r.0)))
          entry_end r rest small e =
              let f = sym (length_read r rest small e) ∙ ap (unsigned s) (sym (entry_begin r rest small e).1) ∙ l in (cc, cc)

          pub length_after : c1 ≤ c2
          length_after = omega (arith, shortest s c1 l)

          pub neither_padded : (length (unsigned_bytes len) ≡ c2 - c1 → ⊥) → Neither (drop at s)
          neither_padded h =
              record {
                mark = no_mark;
                entry = λ r rest small e.
                    let k = entry_end r rest small e in
                    let m = ap (λ (n : ℕ). length (unsigned_bytes n)) k.0 in
                    h (omega (arith, k.1, (entry_begin r rest small e).1));
              }

          pub neither_range : (InBounds 8 begin (begin + len) → ⊥) → Neither (drop at s)
          neither_range h =
              record {
                mark = no_mark;
                entry = λ r rest small e.
                    let k = (entry_end r rest small e).0 in
                    let m = (entry_begin r rest small e).0 in
                    h (omega (arith, small.0), omega (arith, small.1), omega (arith, small.0, small.2));
              }

          -- what was read is the entry
          pub entry_is : ((i : ℕ) → get_or s i 0 < 256) → length (unsigned_bytes len) ≡ c2 - c1 → drop at s ≡ entry_bytes (begin, begin + len) ++ drop c2 s
          unfolding entry_bytes
          entry_is h m =
              let i = uint_inside 1 s at u in
              let j = uint_inside 8 s c b in
              let p : at < length s = omega (arith, i.0) in
              let d = drop-cons s at 0 p in
              let q : suc at ≡ c = omega (arith, i.1) in
              let f : drop at s ≡ 7 ∷ drop c s = d ∙ ap₂ (λ (x k : ℕ). x ∷ drop k s) (sym (read_first s at u) ∙ seven) q in
              let e : c + 8 ≡ c1 = sym j.1 in
              let g : drop c s ≡ little_bytes 8 begin ++ drop c1 s =
              sym (take-append-drop 8 (drop c s))
              ∙ ap₂ ◌++◌ (sym (eight_written s c j.0 h) ∙ ap (little_bytes 8) (sym j.2)) (drop-drop 8 c s ∙ ap (λ (k : ℕ). drop k s) e) in
              let n : c2 ≡ c1 + length (unsigned_bytes len) = omega (arith, length_after) in
              let o : drop c1 s ≡ unsigned_bytes len ++ drop c2 s =
              shortest_form s c1 l (λ k. rw (get_or-drop c1 s k 0) (h (c1 + k))) n
              ∙ ap (λ (x : List ℕ). unsigned_bytes len ++ x) (drop-drop (length (unsigned_bytes len)) c1 s ∙ ap (λ (k : ℕ). drop k s) (sym n)) in
              let w : begin + len - begin ≡ len = omega arith in
              rw (w)
              (f ∙ ap (λ (x : List ℕ). 7 ∷ x) (g ∙ ap (λ (x : List ℕ). little_bytes 8 begin ++ x) o) ∙ sym (append_assoc (7 ∷ little_bytes 8 begin) (unsigned_bytes len) (drop c2 s)))
