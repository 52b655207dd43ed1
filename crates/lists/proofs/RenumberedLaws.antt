-- By a table of kind numbers a range list is walked as it is by DWARF's with its kind bytes renumbered: entry after entry, since behind a
-- kind byte nothing is renumbered before the next one. Assumes nothing.
use mathlib.Core.Bool.{Bool, true, false}
use mathlib.Core.List.{List, [], ◌∷◌}
use mathlib.Core.Logic.{⊎_elim}
use mathlib.Core.Path.{◌≡◌, refl, sym, ap, ◌∙◌, subst, fun_ext}
use Prim.Native.Nat.{ℕ, zero, suc, ◌+◌, ◌-◌, ◌≤◌, ◌<◌}
use native.Mathlib.Omega.{arith}
use lib.Dec.{leb, eqb}
use lib.ListN.{length, get_or, drop, length-drop}
use lib.Seq.{drop-cons, get_or-drop, ext_get_or}
use borrow.Author.Tests.{le-leb, lt-leb, leb-false, eq-eqb, ne_eqb}
use Rattle.section_bytes.specs.Read.{Result, gives, refused, Got, got, Read, pick}
use Rattle.section_bytes.specs.Reader.{is_size}
use Rattle.section_bytes.specs.declared.common.DebugAddrIndex.{DebugAddrIndex}
use Rattle.section_bytes.specs.declared.common.Encoding.{Encoding}
use Rattle.section_bytes.specs.declared.endianity.RunTimeEndian.{RunTimeEndian}
use Rattle.section_bytes.proofs.Order.{lt_or_le}
use Rattle.section_bytes.proofs.Took.{pick_ind}
use Rattle.section_bytes.specs.Error.{refusal}
use Rattle.section_bytes.specs.declared.error.Error.TheVariants.{UnsupportedAddressSize}
use Rattle.tables.specs.Next.{Next, hands}
use Rattle.entries.specs.Numbers.{itself, by_table, number_by, named, dwarf, tabled}
use Rattle.entries.specs.Loaded.{fixed_table}
use Rattle.entries.specs.Forms.{Raw, stop, entry}
use Rattle.entries.specs.Kinds.{range_entry_by, moved, raw_at, raw_range_by, raw_range}
use Rattle.entries.specs.Padded.{range_padded_by, range_padded}
use Rattle.entries.specs.declared.RawRngListEntry.{RawRngListEntry}
use Rattle.entries.proofs.KindLaws.{range_bare, raw_there, raw_end}
use Rattle.entries.proofs.NumberedLaws.{front_told, bare_told, fixed_told}
use Rattle.entries.proofs.PaddedTook.{padded_by_entry}
use Rattle.entries.proofs.EntryTook.{range_entry_took}
use Rattle.lists.specs.Open.{moved_to, read_to}
use Rattle.lists.specs.Convert.{convert}
use Rattle.lists.specs.Walk.{Listing, ranges, ranges_by, Trace, over, on_read, trace_from, trace, first, next, on_raw, next_raw, noted, noted_range_by}
use Rattle.lists.specs.Renumbered.{behind, kind_bytes_from, kind_bytes, is_among, replaced, renumbered, naming, renumbered_at, RenumberedWalks}
use Rattle.lists.specs.declared.Walk.{Walk}
use Rattle.lists.proofs.WalkLaws.{Moved, pick_else, turn_cong}
use Rattle.lists.proofs.Past.{listed_past}

-- ---- bytes replaced at some places
replaced_length : (places : List ℕ) (f : ℕ → ℕ) (i : ℕ) (s : List ℕ) → length (replaced places f i s) ≡ length s
unfolding replaced
replaced_length places f i [] = refl
replaced_length places f i (b ∷ s) = ap suc (replaced_length places f (suc i) s)

replaced_byte : (places : List ℕ) (f : ℕ → ℕ) (i : ℕ) (s : List ℕ) (j : ℕ) → j < length s
    → get_or (replaced places f i s) j 0 ≡ pick (is_among (i + j) places) (f (get_or s j 0)) (get_or s j 0)
unfolding replaced
replaced_byte places f i [] j h = absurd (omega arith)
replaced_byte places f i (b ∷ s) zero h = ap (λ (n : ℕ). pick (is_among n places) (f b) b) (omega arith)
replaced_byte places f i (b ∷ s) (suc j) h =
    replaced_byte places f (suc i) s j (omega arith) ∙ ap (λ (n : ℕ). pick (is_among n places) (f (get_or s j 0)) (get_or s j 0)) (omega arith)

replaced_none : (f : ℕ → ℕ) (i : ℕ) (s : List ℕ) → replaced [] f i s ≡ s
unfolding replaced is_among
replaced_none f i [] = refl
replaced_none f i (b ∷ s) = ap (λ (t : List ℕ). b ∷ t) (replaced_none f (suc i) s)

-- ---- one entry
-- how far an entry reaches; what is not an entry looks as far as it likes
abbrev reach : {E : Type 0} → ℕ → Read (Raw E) → ℕ
reach len (gives (got (entry e) c)) = c
reach len (gives (got stop c)) = len
reach len (refused n vs) = len

moved_picked : {A : Type 0} (x : Bool) (at : ℕ) (p q : Read A) → moved at p ≡ p → moved at q ≡ q → moved at (pick x p q) ≡ pick x p q
moved_picked true at p q e f = e
moved_picked false at p q e f = f

named_moved : {A : Type 0} (code at : ℕ) (r : Read A) → moved at (named code r) ≡ named code (moved at r)
named_moved code at (gives (got v c)) = refl
named_moved code at (refused n vs) = moved_picked (eqb n 3) at (refused 3 (code ∷ [])) (refused n vs) refl refl

module _ (kinds : List ℕ) (encoding : Encoding) (endian : RunTimeEndian) where
  -- two sections, one of which has at a place what the table has for the other's byte, and behind it the same bytes as far as the entry reaches
  module _ (v : 5 ≤ encoding.version) (s t : List ℕ) (at : ℕ) (h : at < length s) (size : length t ≡ length s) (here : get_or t at 0 ≡ number_by kinds (get_or s at 0))
      (same : (i : ℕ) → at < i → i < reach (length s) (raw_range_by (by_table kinds) encoding endian s at) → get_or t i 0 ≡ get_or s i 0) where
    abbrev told : List ℕ
    told = number_by kinds (get_or s at 0) ∷ drop (suc at) s

    entry_told : raw_range_by (by_table kinds) encoding endian s at ≡ named (get_or s at 0) (moved at (range_entry_by itself encoding endian told))
    entry_told =
        raw_there (range_entry_by (by_table kinds) encoding endian) s at h
        ∙ ap (λ (p : List ℕ). moved at (range_entry_by (by_table kinds) encoding endian p)) (drop-cons s at 0 h)
        ∙ ap (moved at) (front_told kinds encoding endian v (get_or s at 0) (drop (suc at) s))
        ∙ named_moved (get_or s at 0) at (range_entry_by itself encoding endian told)

    -- the part from the place on, byte by byte
    part_byte : (n : ℕ) → at + n ≤ length s → ((i : ℕ) → at < i → i < at + n → get_or t i 0 ≡ get_or s i 0) → (k : ℕ) → k < n → get_or told k 0 ≡ get_or (drop at t) k 0
    part_byte n l f zero q = sym here ∙ ap (λ (i : ℕ). get_or t i 0) (omega arith) ∙ sym (get_or-drop at t 0 0)
    part_byte n l f (suc k) q =
        get_or-drop (suc at) s k 0 ∙ ap (λ (i : ℕ). get_or s i 0) (omega arith) ∙ sym (f (at + suc k) (omega arith) (omega arith)) ∙ sym (get_or-drop at t (suc k) 0)

    told_length : length told ≡ length s - at
    told_length = omega (arith, length-drop (suc at) s)

    whole : ((i : ℕ) → at < i → i < length s → get_or t i 0 ≡ get_or s i 0) → told ≡ drop at t
    whole f =
        ext_get_or 0 told (drop at t) (omega (arith, told_length, length-drop at t, size))
        (λ k q. part_byte (length s - at) (omega arith) (λ i a b. f i a (omega arith)) k (omega (arith, told_length)))

    there_is : raw_range encoding endian t at ≡ moved at (range_entry_by itself encoding endian (drop at t))
    there_is = raw_there (range_entry_by itself encoding endian) t at (omega (arith, size))

    -- DWARF's reading of the renumbered part, by what it is
    by_read : (r : Read (Raw RawRngListEntry)) → range_entry_by itself encoding endian told ≡ r
        → moved at (range_entry_by itself encoding endian told) ≡ moved at (range_entry_by itself encoding endian (drop at t))
    by_read (gives (got (entry e) n)) q =
        let k = rw q at (range_entry_took itself encoding endian told (drop at t)) in
        let c : raw_range_by (by_table kinds) encoding endian s at ≡ gives (got (entry e) (at + n)) = entry_told ∙ ap (λ (r : Read (Raw RawRngListEntry)). named (get_or s at 0) (moved at r)) q in
        let l : at + n ≤ length s = omega (arith, k.1, told_length) in
        let f : (i : ℕ) → at < i → i < at + n → get_or t i 0 ≡ get_or s i 0 = λ i a b. same i a (subst (λ (r : Read (Raw RawRngListEntry)). i < reach (length s) r) (sym c) b) in
        ap (moved at)
        (q ∙ sym (k.2 (record { fits = omega (arith, length-drop at t, size); same = λ j a b. part_byte n l f j b })))
    by_read (gives (got stop n)) q =
        let c : raw_range_by (by_table kinds) encoding endian s at ≡ gives (got stop (at + n)) = entry_told ∙ ap (λ (r : Read (Raw RawRngListEntry)). named (get_or s at 0) (moved at r)) q in
        ap (λ (p : List ℕ). moved at (range_entry_by itself encoding endian p)) (whole (λ i a b. same i a (subst (λ (r : Read (Raw RawRngListEntry)). i < reach (length s) r) (sym c) b)))
    by_read (refused n vs) q =
        let c : raw_range_by (by_table kinds) encoding endian s at ≡ named (get_or s at 0) (refused n vs) = entry_told ∙ ap (λ (r : Read (Raw RawRngListEntry)). named (get_or s at 0) (moved at r)) q in
        ap (λ (p : List ℕ). moved at (range_entry_by itself encoding endian p)) (whole (λ i a b. same i a (subst (λ (r : Read (Raw RawRngListEntry)). i < reach (length s) r) (sym c) (far (eqb n 3) i b))))
      where
        far : (x : Bool) (i : ℕ) → i < length s → i < reach {E = RawRngListEntry} (length s) (pick x (refused 3 (get_or s at 0 ∷ [])) (refused n vs))
        far true i b = b
        far false i b = b

    pub read_renumbered : raw_range_by (by_table kinds) encoding endian s at ≡ named (get_or s at 0) (raw_range encoding endian t at)
    read_renumbered = entry_told ∙ ap (named (get_or s at 0)) (by_read _ refl ∙ sym there_is)

-- ---- the places of kind bytes
among_head : (at : ℕ) (places : List ℕ) → is_among at (at ∷ places) ≡ true
unfolding is_among
among_head at places = rw (eq-eqb at at refl)

among_tail : (i at : ℕ) (places : List ℕ) → at < i → is_among i (at ∷ places) ≡ is_among i places
unfolding is_among
among_tail i at places h = rw (ne_eqb i at (λ e. omega arith))

module _ (l : Listing) (len : ℕ) (past : (at : ℕ) → at < len → Moved at len (l.read at)) where
  bytes_step : (n at : ℕ) → at < len → kind_bytes_from l len (suc n) at ≡ at ∷ behind (l.read at) (kind_bytes_from l len n)
  unfolding kind_bytes_from
  bytes_step n at h = simp (lt-leb len at h)

  behind_none : (r : Read (Raw l.Entry)) (n at i : ℕ) → Moved at len r → ((c : ℕ) → at < c → is_among i (kind_bytes_from l len n c) ≡ false)
      → is_among i (behind r (kind_bytes_from l len n)) ≡ false
  unfolding is_among
  behind_none (gives (got (entry e) c)) n at i m f = f c m.0
  behind_none (gives (got stop c)) n at i m f = refl
  behind_none (refused k vs) n at i m f = refl

  none_before : (n c i : ℕ) → i < c → is_among i (kind_bytes_from l len n c) ≡ false
  unfolding kind_bytes_from is_among
  none_before zero c i h = refl
  none_before (suc n) c i h =
      pick_ind (λ (places : List ℕ). is_among i places ≡ false) (leb len c) (λ _. refl)
      (λ f. rw (ne_eqb i c (λ e. omega arith)) (behind_none (l.read c) n c i (past c (leb-false len c f)) (λ d p. none_before n d i (omega arith))))

  -- the next one stands where the entry ends, or nowhere
  behind_reach : (r : Read (Raw l.Entry)) (n i : ℕ) → i < reach len r → is_among i (behind r (kind_bytes_from l len n)) ≡ false
  unfolding is_among
  behind_reach (gives (got (entry e) c)) n i h = none_before n c i h
  behind_reach (gives (got stop c)) n i h = refl
  behind_reach (refused k vs) n i h = refl

-- ---- entry after entry
-- a range list by how its entries are read
abbrev reading : (ℕ → Read (Raw RawRngListEntry)) → Listing
reading read = record { Entry = RawRngListEntry; Carried = Unit; read = read; bounds_of = λ e. e; carried = λ e. tt }

module _ (table : DebugAddrIndex → Result ℕ) (size len : ℕ) (f g : ℕ → Read (Raw RawRngListEntry)) where
  on_read_lem : (w : Walk) (r : Read (Raw RawRngListEntry)) (a b : Walk → Trace Unit)
      → ((e : RawRngListEntry) (c : ℕ) → r ≡ gives (got (entry e) c) → (v : Walk) → v.at ≡ c → a v ≡ b v)
      → on_read (reading f) table size len w r a ≡ on_read (reading g) table size len w r b
  on_read_lem w (gives (got (entry e) c)) a b h = turn_cong (convert table size w.base_address e) tt (read_to c w) a b (λ v q. h e c refl v q)
  on_read_lem w (gives (got stop c)) a b h = refl
  on_read_lem w (refused n vs) a b h = refl

module _ (kinds : List ℕ) (encoding : Encoding) (endian : RunTimeEndian) (v : 5 ≤ encoding.version) (s t : List ℕ) (same_size : length t ≡ length s) where
  abbrev byKinds : ℕ → Read (Raw RawRngListEntry)
  byKinds at = raw_range_by (by_table kinds) encoding endian s at

  abbrev byDwarf : ℕ → Read (Raw RawRngListEntry)
  byDwarf at = named (get_or s at 0) (raw_range encoding endian t at)

  past : (at : ℕ) → at < length s → Moved at (length s) (byKinds at)
  past = listed_past false (tabled kinds) encoding endian s

  -- from a place on the bytes are those of the section, those among the kind bytes renumbered
  abbrev Right : ℕ → ℕ → Type 0
  Right n at = (i : ℕ) → at ≤ i → i < length s → get_or t i 0 ≡ pick (is_among i (kind_bytes_from (reading byKinds) (length s) n at)) (number_by kinds (get_or s i 0)) (get_or s i 0)

  module _ (n at : ℕ) (h : at < length s) (right : Right (suc n) at) where
    byte_is : (i : ℕ) → at ≤ i → i < length s
        → get_or t i 0 ≡ pick (is_among i (at ∷ behind (byKinds at) (kind_bytes_from (reading byKinds) (length s) n))) (number_by kinds (get_or s i 0)) (get_or s i 0)
    byte_is i a b =
        right i a b ∙ ap (λ (places : List ℕ). pick (is_among i places) (number_by kinds (get_or s i 0)) (get_or s i 0)) (bytes_step (reading byKinds) (length s) past n at h)

    reach_within : (r : Read (Raw RawRngListEntry)) → Moved at (length s) r → reach (length s) r ≤ length s
    reach_within (gives (got (entry e) c)) m = m.1
    reach_within (gives (got stop c)) m = omega arith
    reach_within (refused k vs) m = omega arith

    read_right : byKinds at ≡ byDwarf at
    read_right =
        read_renumbered kinds encoding endian v s t at h same_size
        (byte_is at (omega arith) h ∙ ap (λ (x : Bool). pick x (number_by kinds (get_or s at 0)) (get_or s at 0)) (among_head at _))
        (λ i a b. byte_is i (omega arith) (omega (arith, reach_within (byKinds at) (past at h)))
        ∙ ap (λ (x : Bool). pick x (number_by kinds (get_or s i 0)) (get_or s i 0)) (among_tail i at _ a ∙ behind_reach (reading byKinds) (length s) past (byKinds at) n i b))

    right_behind : {e : RawRngListEntry} {c : ℕ} → byKinds at ≡ gives (got (entry e) c) → Right n c
    right_behind {e} {c} q i a b =
        let m = subst (Moved at (length s)) q (past at h) in
        byte_is i (omega arith) b
        ∙ ap (λ (x : Bool). pick x (number_by kinds (get_or s i 0)) (get_or s i 0))
        (among_tail i at _ (omega arith) ∙ ap (λ (r : Read (Raw RawRngListEntry)). is_among i (behind r (kind_bytes_from (reading byKinds) (length s) n))) q)

  from_right : (table : DebugAddrIndex → Result ℕ) (size n : ℕ) (w : Walk) → Right n w.at
      → trace_from (reading byKinds) table size (length s) n w ≡ trace_from (reading byDwarf) table size (length s) n w
  unfolding trace_from
  from_right table size zero w right = refl
  from_right table size (suc n) w right =
      pick_else (leb (length s) w.at) (over w) (λ f.
      let h = leb-false (length s) w.at f in
      on_read_lem table size (length s) byKinds byDwarf w (byKinds w.at) (trace_from (reading byKinds) table size (length s) n) (trace_from (reading byDwarf) table size (length s) n)
      (λ e c q u d. from_right table size n u (subst (Right n) (sym d) (right_behind n w.at h right q)))
      ∙ ap (λ (r : Read (Raw RawRngListEntry)). on_read (reading byDwarf) table size (length s) w r (trace_from (reading byDwarf) table size (length s) n)) (read_right n w.at h right))

-- ---- the theorem
named_gives : {A : Type 0} (code : ℕ) (r : Read A) {x : Got A} → named code r ≡ gives x → r ≡ gives x
named_gives code (gives y) q = q
named_gives code (refused n vs) {x} q = by (eqb n 3) q
  where
    by : (b : Bool) → pick b (refused 3 (code ∷ [])) (refused n vs) ≡ gives x → refused n vs ≡ gives x
    by true e = let z : ◌≡◌ {A = ℕ} 0 1 = cc in absurd (omega arith)
    by false e = e

module _ (kinds : List ℕ) (encoding : Encoding) (endian : RunTimeEndian) (s : List ℕ) where
  coded_bytes : 5 ≤ encoding.version → (at : ℕ) → kind_bytes kinds encoding endian s at ≡ kind_bytes_from (ranges_by kinds encoding endian s) (length s) (length s) at
  unfolding kind_bytes
  coded_bytes v at = rw (le-leb 5 encoding.version v)

  bare_bytes : encoding.version < 5 → (at : ℕ) → renumbered kinds encoding endian s at ≡ s
  unfolding kind_bytes
  bare_bytes v at = rw (lt-leb 5 encoding.version v) (replaced_none (number_by kinds) 0 s)

  right_at : (v : 5 ≤ encoding.version) (at : ℕ) → Right kinds encoding endian v s (renumbered kinds encoding endian s at) (replaced_length _ _ 0 s) (length s) at
  right_at v at i a b =
      replaced_byte (kind_bytes kinds encoding endian s at) (number_by kinds) 0 s i b
      ∙ ap (λ (j : ℕ). pick (is_among j (kind_bytes kinds encoding endian s at)) (number_by kinds (get_or s i 0)) (get_or s i 0)) (omega arith)
      ∙ ap (λ (places : List ℕ). pick (is_among i places) (number_by kinds (get_or s i 0)) (get_or s i 0)) (coded_bytes v at)

  -- the entry at a walk's place, in every form
  read_at : (at : ℕ) → at < length s → raw_range_by (by_table kinds) encoding endian s at ≡ named (get_or s at 0) (raw_range encoding endian (renumbered kinds encoding endian s at) at)
  read_at at h = ⊎_elim bare coded (lt_or_le encoding.version 5)
    where
      bare : encoding.version < 5 → raw_range_by (by_table kinds) encoding endian s at ≡ named (get_or s at 0) (raw_range encoding endian (renumbered kinds encoding endian s at) at)
      bare v =
          raw_there (range_entry_by (by_table kinds) encoding endian) s at h
          ∙ ap (moved at) (bare_told kinds encoding endian v (get_or s at 0) (drop at s))
          ∙ named_moved (get_or s at 0) at (range_entry_by itself encoding endian (drop at s))
          ∙ ap (named (get_or s at 0)) (sym (raw_there (range_entry_by itself encoding endian) s at h))
          ∙ ap (λ (t : List ℕ). named (get_or s at 0) (raw_range encoding endian t at)) (sym (bare_bytes v at))

      coded : 5 ≤ encoding.version → raw_range_by (by_table kinds) encoding endian s at ≡ named (get_or s at 0) (raw_range encoding endian (renumbered kinds encoding endian s at) at)
      coded v =
          let e : length s ≡ suc (length s - 1) = omega arith in
          read_right kinds encoding endian v s (renumbered kinds encoding endian s at) (replaced_length _ _ 0 s) (length s - 1) at h
          (subst (λ (n : ℕ). Right kinds encoding endian v s (renumbered kinds encoding endian s at) (replaced_length _ _ 0 s) n at) e (right_at v at))

  bare_there : encoding.version < 5 → (at : ℕ) → raw_range_by (by_table kinds) encoding endian s at ≡ named (get_or s at 0) (raw_range encoding endian s at)
  bare_there v at = ⊎_elim (λ h. read_at at h ∙ ap (λ (t : List ℕ). named (get_or s at 0) (raw_range encoding endian t at)) (bare_bytes v at))
      (λ h. raw_end (range_entry_by (by_table kinds) encoding endian) s at h ∙ ap (named (get_or s at 0)) (sym (raw_end (range_entry_by itself encoding endian) s at h))) (lt_or_le at (length s))

  walk_renumbered : (table : DebugAddrIndex → Result ℕ) (size : ℕ) (w : Walk)
      → trace (ranges_by kinds encoding endian s) table size (length s) w ≡ trace (renumbered_at kinds encoding endian s w) table size (length s) w
  unfolding trace
  walk_renumbered table size w = ⊎_elim bare coded (lt_or_le encoding.version 5)
    where
      bare : encoding.version < 5 → trace (ranges_by kinds encoding endian s) table size (length s) w ≡ trace (renumbered_at kinds encoding endian s w) table size (length s) w
      bare v =
          ap (λ (f : ℕ → Read (Raw RawRngListEntry)). trace_from (reading f) table size (length s) (length s) w) (fun_ext (bare_there v))
          ∙ ap (λ (t : List ℕ). trace_from (naming s (ranges encoding endian t)) table size (length s) (length s) w) (sym (bare_bytes v w.at))

      coded : 5 ≤ encoding.version → trace (ranges_by kinds encoding endian s) table size (length s) w ≡ trace (renumbered_at kinds encoding endian s w) table size (length s) w
      coded v = from_right kinds encoding endian v s (renumbered kinds encoding endian s w.at) (replaced_length _ _ 0 s) table size (length s) w (right_at v w.at)

  call_renumbered : (table : DebugAddrIndex → Result ℕ) (size : ℕ) (w : Walk)
      → next (ranges_by kinds encoding endian s) table size (length s) w ≡ next (renumbered_at kinds encoding endian s w) table size (length s) w
  unfolding next
  call_renumbered table size w =
      ap (λ (t : Trace Unit). pick (is_size size) (first t) (hands (refusal (UnsupportedAddressSize size)) (moved_to (length s) w))) (walk_renumbered table size w)

  -- a raw entry has the padding of the renumbered one: both by how many bytes it took
  padding_of : (at : ℕ) (h : at < length s) {e : RawRngListEntry} {c : ℕ} → raw_range_by (by_table kinds) encoding endian s at ≡ gives (got (entry e) c)
      → range_padded_by (by_table kinds) encoding endian s at ≡ range_padded encoding endian (renumbered kinds encoding endian s at) at
  padding_of at h q =
      padded_by_entry.by_length false (tabled kinds) encoding endian s at q
      ∙ sym (padded_by_entry.by_length false (dwarf false) encoding endian (renumbered kinds encoding endian s at) at (named_gives (get_or s at 0) _ (sym (read_at at h) ∙ q)))

  noted_same : (w : Walk) (r : Read (Raw RawRngListEntry)) (p q : Bool) → ((e : RawRngListEntry) (c : ℕ) → r ≡ gives (got (entry e) c) → p ≡ q) → noted p (on_raw (length s) w r) ≡ noted q (on_raw (length s) w r)
  noted_same w (gives (got (entry e) c)) p q f = ap (λ (x : Bool). noted x (on_raw (length s) w (gives (got (entry e) c)))) (f e c refl)
  noted_same w (gives (got stop c)) p q f = refl
  noted_same w (refused n vs) p q f = refl

  noted_picked : {E : Type 0} (t : Bool) (p q : Bool) (a b c d : Next E Walk) → (t ≡ true → noted p a ≡ noted q b) → (t ≡ false → noted p c ≡ noted q d)
      → noted p (pick t a c) ≡ noted q (pick t b d)
  noted_picked true p q a b c d f g = f refl
  noted_picked false p q a b c d f g = g refl

  raw_renumbered : (w : Walk)
      → noted_range_by kinds encoding endian s w
      ≡ noted (range_padded encoding endian (renumbered kinds encoding endian s w.at) w.at)
      (next_raw (renumbered_at kinds encoding endian s w) encoding.address_size (length s) w)
  unfolding next_raw
  raw_renumbered w =
      noted_picked (is_size encoding.address_size) _ _ _ _ _ _
      (λ _. noted_picked (leb (length s) w.at) _ _ _ _ _ _ (λ _. refl)
      (λ f. let h = leb-false (length s) w.at f in
      noted_same w (raw_range_by (by_table kinds) encoding endian s w.at) _ _ (λ e c q. padding_of w.at h q)
      ∙ ap (λ (r : Read (Raw RawRngListEntry)). noted (range_padded encoding endian (renumbered kinds encoding endian s w.at) w.at) (on_raw (length s) w r)) (read_at w.at h)))
      (λ _. refl)

  bare_list : encoding.version < 5 → ranges_by kinds encoding endian s ≡ ranges encoding endian s
  bare_list v =
      ap (λ (f : List ℕ → Read (Raw RawRngListEntry)). reading (λ at. raw_at f s at))
      (fun_ext (λ p. range_bare encoding endian p (by_table kinds) v ∙ sym (range_bare encoding endian p itself v)))

-- by DWARF's own table each entry is read as without one
fixed_list : (encoding : Encoding) (endian : RunTimeEndian) (s : List ℕ) → ranges_by fixed_table encoding endian s ≡ ranges encoding endian s
fixed_list encoding endian s = ap (λ (f : List ℕ → Read (Raw RawRngListEntry)). reading (λ at. raw_at f s at)) (fun_ext (fixed_told encoding endian))

pub renumbered_walks : (encoding : Encoding) (endian : RunTimeEndian) (s : List ℕ) → RenumberedWalks encoding endian s
renumbered_walks encoding endian s =
    record {
      walk = λ kinds table size w. walk_renumbered kinds encoding endian s table size w;
      call = λ kinds table size w. call_renumbered kinds encoding endian s table size w;
      raw = λ kinds w. raw_renumbered kinds encoding endian s w;
      fixed = fixed_list encoding endian s;
      bare = λ kinds v. bare_list kinds encoding endian s v;
    }
