-- A canonical list walked back yields the ranges it was written from, one by one: by induction on the ranges.
-- Assumes nothing.
use mathlib.Core.Path.{◌≡◌, refl, sym, ap, ◌∙◌}
use mathlib.Core.Bool.{false}
use mathlib.Core.List.{List, [], ◌∷◌, ◌++◌, append_assoc}
use Prim.Native.Nat.{ℕ, zero, suc, ◌+◌, ◌-◌, ◌^◌, ◌≤◌, ◌<◌}
use native.Mathlib.Omega.{arith}
use lib.ListN.{length, drop, get_or, length-append, length-drop}
use lib.Seq.{take_at, drop_at, drop-drop, drop-append_seam}
use borrow.Author.Tests.{lt-leb}
use Rattle.section_bytes.specs.Read.{Result, gives, got, and_then}
use Rattle.section_bytes.specs.Endianity.{little}
use Rattle.section_bytes.specs.Reader.{uint, address}
use Rattle.section_bytes.specs.Leb128.{unsigned}
use Rattle.section_bytes.specs.Address.{add_sized}
use Rattle.section_bytes.specs.declared.common.DebugAddrBase.{DebugAddrBase}
use Rattle.section_bytes.specs.declared.common.DebugAddrIndex.{DebugAddrIndex}
use Rattle.section_bytes.specs.declared.common.Format.{Format}
use Rattle.section_bytes.specs.declared.common.Format.TheVariants.{Dwarf32}
use Rattle.section_bytes.specs.declared.endianity.RunTimeEndian.TheVariants.{Little}
use Rattle.section_bytes.proofs.Values.{little_one}
use Rattle.section_bytes.proofs.ReaderLaws.{uint_got, size_8, address_size}
use Rattle.entries.specs.Forms.{stop, entry}
use Rattle.entries.specs.Kinds.{range_entry, moved, raw_range}
use Rattle.entries.specs.declared.RawRngListEntry.TheVariants.{StartLength}
use Rattle.entries.specs.Numbers.{itself, dwarf}
use Rattle.entries.proofs.KindLaws.{start_length_range, end_of_ranges, range_coded, raw_there}
use Rattle.lists.specs.Open.{walk_at, read_to}
use Rattle.lists.specs.Convert.{range, convert, table_at}
use Rattle.lists.specs.Walk.{ranges, item, Trace, over, trace, handed}
use Rattle.lists.specs.Walks.{InBounds}
use Rattle.lists.specs.Yields.{Unrefused, handed_out}
use Rattle.lists.specs.declared.Walk.{Walk}
use Rattle.lists.proofs.ConvertLaws.{start_length_is, opened_list}
use Rattle.lists.proofs.Past.{listed_past}
use Rattle.lists.proofs.WalkLaws.{Moved, met_entry, met_end}
use Rattle.coverage.specs.Ranges.{Range, limit}
use Rattle.coverage.specs.Covered.{yielded_in, trace_of, yielded_of, canonical_encoding, read_back}
use Rattle.coverage.proofs.Small.{Small}
use Rattle.coverage.proofs.CallLaws.{trace_is, yielded_is}
use Rattle.coverage.proofs.CoveredLaws.{yielded_all}
use Rattle.section_bytes.specs.Written.{little_bytes, unsigned_bytes}
use Rattle.canonical.specs.Canonical.{entry_bytes, canonical_bytes}
use Rattle.section_bytes.proofs.WrittenLaws.{length_little, little_back, unsigned_there, append_bytes, little_bytes_lem, unsigned_bytes_lem}

-- an entry's bytes with what follows them
spread : Range → List ℕ → List ℕ
spread r rest = 7 ∷ (little_bytes 8 r.0 ++ (unsigned_bytes (r.1 - r.0) ++ rest))

entry_spread : (r : Range) (rest : List ℕ) → entry_bytes r ++ rest ≡ spread r rest
unfolding entry_bytes spread
entry_spread r rest = simp append_assoc

entry_length : (r : Range) → length (entry_bytes r) ≡ 9 + length (unsigned_bytes (r.1 - r.0))
unfolding entry_bytes
entry_length r = rw (length-append, length_little) (omega arith)

module _ (format : Format) (r : Range) (rest : List ℕ) (small : InBounds 8 r.0 r.1) where
  spread_length : length (spread r rest) ≡ 9 + length (unsigned_bytes (r.1 - r.0) ++ rest)
  unfolding spread
  spread_length = rw (length-append (little_bytes 8 r.0) (unsigned_bytes (r.1 - r.0) ++ rest), length_little) (omega arith)

  code_back : uint Little 1 (spread r rest) 0 ≡ gives (got 7 1)
  unfolding spread
  code_back = uint_got Little 1 (spread r rest) 0 (omega (arith, spread_length)) ∙ ap (λ (n : ℕ). gives (got n 1)) (little_one 7)

  begin_back : address Little 8 (spread r rest) 1 ≡ gives (got r.0 9)
  unfolding spread
  begin_back =
      address_size Little 8 (spread r rest) 1 size_8
      ∙ uint_got Little 8 (spread r rest) 1 (omega (arith, spread_length))
      ∙ ap (λ (l : List ℕ). gives (got (little l) 9)) (take_at (little_bytes 8 r.0) (unsigned_bytes (r.1 - r.0) ++ rest) 8 (length_little 8 r.0))
      ∙ ap (λ (n : ℕ). gives (got n 9)) (little_back 8 r.0 (omega arith))

  length_back : unsigned (spread r rest) 9 ≡ gives (got (r.1 - r.0) (9 + length (unsigned_bytes (r.1 - r.0))))
  unfolding spread
  length_back =
      unsigned_there (spread r rest) 9 (r.1 - r.0) rest (omega arith)
      (drop_at (little_bytes 8 r.0) (unsigned_bytes (r.1 - r.0) ++ rest) 8 (length_little 8 r.0))

  -- the raw entry of a range
  entry_back : range_entry (canonical_encoding format) Little (spread r rest) ≡ gives (got (entry (StartLength r.0 (r.1 - r.0))) (9 + length (unsigned_bytes (r.1 - r.0))))
  entry_back =
      range_coded (canonical_encoding format) Little (spread r rest) itself (omega arith)
      ∙ start_length_range (canonical_encoding format) Little (spread r rest) code_back
      ∙ rw (begin_back, length_back)

-- no entry is the end mark, and no other entry begins the same bytes
pub entry_no_mark : (r : Range) (rest : List ℕ) → entry_bytes r ++ rest ≡ 0 ∷ [] → ⊥
unfolding entry_bytes
entry_no_mark r rest e = omega (arith, ap (λ (l : List ℕ). get_or l 0 0) e)

pub entry_once : (r q : Range) (x y : List ℕ) → InBounds 8 r.0 r.1 → InBounds 8 q.0 q.1 → entry_bytes r ++ x ≡ entry_bytes q ++ y
    → (q.0 ≡ r.0) × (q.1 ≡ r.1) × (x ≡ y)
entry_once r q x y small other e =
    let f : spread r x ≡ spread q y = sym (entry_spread r x) ∙ e ∙ entry_spread q y in
    let b : gives (got r.0 9) ≡ gives (got q.0 9) = sym (begin_back Dwarf32 r x small) ∙ ap (λ (l : List ℕ). address Little 8 l 1) f ∙ begin_back Dwarf32 q y other in
    let n : gives (got (r.1 - r.0) (9 + length (unsigned_bytes (r.1 - r.0)))) ≡ gives (got (q.1 - q.0) (9 + length (unsigned_bytes (q.1 - q.0)))) =
    sym (length_back Dwarf32 r x small) ∙ ap (λ (l : List ℕ). unsigned l 9) f ∙ length_back Dwarf32 q y other in
    let c : q.0 ≡ r.0 = cc in
    let d : r.1 - r.0 ≡ q.1 - q.0 = cc in
    let g : length (entry_bytes r) ≡ length (entry_bytes q) = entry_length r ∙ ap (λ (n : ℕ). 9 + length (unsigned_bytes n)) d ∙ sym (entry_length q) in (
      c,
      omega (arith, small.0, other.0),
      sym (drop-append_seam (entry_bytes r) x) ∙ ap (drop (length (entry_bytes r))) e ∙ ap (λ (n : ℕ). drop n (entry_bytes q ++ y)) g ∙ drop-append_seam (entry_bytes q) y,
    )

-- the raw entry of the end mark
end_back : (format : Format) → range_entry (canonical_encoding format) Little (0 ∷ []) ≡ gives (got stop 1)
end_back format =
    range_coded (canonical_encoding format) Little (0 ∷ []) itself (omega arith)
    ∙ end_of_ranges (canonical_encoding format) Little (0 ∷ []) (uint_got Little 1 (0 ∷ []) 0 (omega arith) ∙ ap (λ (n : ℕ). gives (got n 1)) (little_one 0))

-- what the entry comes to
turn_back : (table : DebugAddrIndex → Result ℕ) (base b e : ℕ) → InBounds 8 b e → gives (range b e) ≡ convert table 8 base (StartLength b (e - b))
turn_back table base b e small =
    let s : add_sized b (e - b) 8 ≡ e = omega arith in
    rw (start_length_is table 8 base b (e - b), s, lt-leb (2 ^ 64 - 2) b small.1, lt-leb e b small.0)

-- what a canonical list does: it hands out each range, with the walk after its entry; then it is over
abbrev pub hands_out : ℕ → Walk → List Range → Trace Unit
hands_out len w [] = over (read_to len w)
hands_out len w (r ∷ rs) =
    let v = read_to (w.at + length (entry_bytes r)) w in
    handed (gives (item r.0 r.1 tt)) v (hands_out len v rs)

bytes_some : (rs : List Range) → 1 ≤ length (canonical_bytes rs)
unfolding canonical_bytes
bytes_some [] = omega arith
bytes_some (r ∷ rs) = omega (arith, length-append (entry_bytes r) (canonical_bytes rs), bytes_some rs)

module _ (format : Format) (s : List ℕ) (table : DebugAddrIndex → Result ℕ) where
  moves : (at : ℕ) → at < length s → Moved at (length s) (raw_range (canonical_encoding format) Little s at)
  moves = listed_past false (dwarf false) (canonical_encoding format) Little s

  inside : (rs : List Range) (at : ℕ) → drop at s ≡ canonical_bytes rs → at < length s
  inside rs at d = omega (arith, length-drop at s, ap length d, bytes_some rs)

  read_entry : (at : ℕ) (r : Range) (rest : List ℕ) → InBounds 8 r.0 r.1 → at < length s → drop at s ≡ entry_bytes r ++ rest
      → raw_range (canonical_encoding format) Little s at ≡ gives (got (entry (StartLength r.0 (r.1 - r.0))) (at + length (entry_bytes r)))
  read_entry at r rest small h d =
      raw_there (range_entry (canonical_encoding format) Little) s at h
      ∙ ap (λ (l : List ℕ). moved at (range_entry (canonical_encoding format) Little l)) (d ∙ entry_spread r rest)
      ∙ ap (moved at) (entry_back format r rest small)
      ∙ ap (λ (n : ℕ). gives (got (entry (StartLength r.0 (r.1 - r.0))) (at + n))) (sym (entry_length r))

  walked_from : (rs : List Range) → Small rs → (w : Walk) → drop w.at s ≡ canonical_bytes rs
      → trace (ranges (canonical_encoding format) Little s) table 8 (length s) w ≡ hands_out (length s) w rs
  unfolding canonical_bytes
  walked_from [] small w d =
      let h = inside [] w.at d in
      met_end (ranges (canonical_encoding format) Little s) table 8 (length s) moves w h
      (raw_there (range_entry (canonical_encoding format) Little) s w.at h ∙ ap (λ (l : List ℕ). moved w.at (range_entry (canonical_encoding format) Little l)) d ∙ ap (moved w.at) (end_back format))
  walked_from (r ∷ rs) small w d =
      let h = inside (r ∷ rs) w.at d in
      let c = w.at + length (entry_bytes r) in
      let rest : drop c s ≡ canonical_bytes rs = sym (drop-drop (length (entry_bytes r)) w.at s) ∙ ap (drop (length (entry_bytes r))) d ∙ drop-append_seam (entry_bytes r) (canonical_bytes rs) in
      met_entry (ranges (canonical_encoding format) Little s) table 8 (length s) moves w h
      (read_entry w.at r (canonical_bytes rs) small.0 h d) (turn_back table w.base_address r.0 r.1 small.0)
      ∙ ap (handed (gives (item r.0 r.1 tt)) (read_to c w)) (walked_from rs small.1 (read_to c w) rest)

-- a canonical list walked as the DWARF 5 range list of size 8 that it is, with any base address and any address table: each
-- range in order, then over
pub walked_back : (format : Format) (rs : List Range) → Small rs → (table : DebugAddrIndex → Result ℕ) (base : ℕ)
    → trace (ranges (canonical_encoding format) Little (canonical_bytes rs)) table 8 (length (canonical_bytes rs)) (walk_at 0 base 0) ≡ hands_out (length (canonical_bytes rs)) (walk_at 0 base 0) rs
walked_back format rs small table base = walked_from format (canonical_bytes rs) table rs small (walk_at 0 base 0) refl

-- canonical bytes are bytes
entry_bytes_lem : (r : Range) → InBounds 8 r.0 r.1 → (i : ℕ) → get_or (entry_bytes r) i 0 < 256
unfolding entry_bytes
entry_bytes_lem r small zero = omega arith
entry_bytes_lem r small (suc i) =
    append_bytes (little_bytes 8 r.0) (unsigned_bytes (r.1 - r.0)) (little_bytes_lem 8 r.0) (λ j. unsigned_bytes_lem 9 (r.1 - r.0) j (omega arith)) i

pub canonical_bytes_lem : (rs : List Range) → Small rs → (i : ℕ) → get_or (canonical_bytes rs) i 0 < 256
unfolding canonical_bytes
canonical_bytes_lem [] small zero = omega arith
canonical_bytes_lem [] small (suc i) = omega arith
canonical_bytes_lem (r ∷ rs) small i = append_bytes (entry_bytes r) (canonical_bytes rs) (entry_bytes_lem r small.0) (canonical_bytes_lem rs small.1) i

-- what a canonical list yields
out_unrefused : (len : ℕ) (w : Walk) (rs : List Range) → Unrefused (hands_out len w rs)
out_unrefused len w [] = tt
out_unrefused len w (r ∷ rs) = out_unrefused len (read_to (w.at + length (entry_bytes r)) w) rs

out_ranges : (len : ℕ) (w : Walk) (rs : List Range) → handed_out (hands_out len w rs) ≡ rs
out_ranges len w [] = refl
out_ranges len w (r ∷ rs) = ap (λ (l : List Range). r ∷ l) (out_ranges len (read_to (w.at + length (entry_bytes r)) w) rs)

out_yields : (len : ℕ) (w : Walk) (rs : List Range) → length rs ≤ limit → yielded_in limit (hands_out len w rs) ≡ gives rs
out_yields len w rs few =
    let e = out_ranges len w rs in
    yielded_all limit (hands_out len w rs) (out_unrefused len w rs) (rw e few) ∙ ap gives e

pub canonical_yields : (format : Format) (rs : List Range) → Small rs → length rs ≤ limit → (base : ℕ) (table : List ℕ) (tableBase : DebugAddrBase)
    → yielded_of (read_back format (canonical_bytes rs) base table tableBase) ≡ gives rs
canonical_yields format rs small few base table tableBase =
    let x = read_back format (canonical_bytes rs) base table tableBase in
    yielded_is x
    ∙ ap (λ (o : Result Walk). and_then o (λ w. yielded_in limit (trace_of x w))) (opened_list (canonical_encoding format) (canonical_bytes rs) 0 base size_8 (omega arith))
    ∙ ap (yielded_in limit) (trace_is x (walk_at 0 base 0) ∙ walked_back format rs small (table_at Little (canonical_encoding format) tableBase table) base)
    ∙ out_yields (length (canonical_bytes rs)) (walk_at 0 base 0) rs few
