-- What a walk did before it counted, and that it does so still, its count aside: nothing that a list does or a call answers hangs on
-- the count that was handed in, and with the counts taken out all is as it was. The proof is `uncounted_as_before` in
-- proofs/CountLaws.antt.
use Rattle.std.specs.Prelude.{ℕ, zero, suc, ◌≡◌, leb}
use Rattle.section_bytes.specs.Read.{Result, gives, refused, got, Read, pick}
use Rattle.section_bytes.specs.Error.{refusal}
use Rattle.section_bytes.specs.Reader.{is_size}
use Rattle.section_bytes.specs.declared.common.DebugAddrIndex.{DebugAddrIndex}
use Rattle.section_bytes.specs.declared.error.Error.TheVariants.{UnsupportedAddressSize}
use Rattle.tables.specs.Next.{Next, ends, hands}
use Rattle.entries.specs.Forms.{Raw, stop, entry}
use Rattle.lists.specs.Open.{walk_at, moved_to}
use Rattle.lists.specs.Convert.{convert}
use Rattle.lists.specs.Walk.{Listing, Item, Trace, over, handed, on_turn, trace, first, next, next_raw, Outcome, comes, nothing, convert_raw}
use Rattle.lists.specs.declared.Walk.{Walk}

-- a walk with no entry counted, and what a list does, and a call answers, with such walks
abbrev pub uncounted : Walk → Walk
uncounted w = walk_at w.at w.base_address 0

abbrev pub trace_uncounted : {D : Type 0} → Trace D → Trace D
trace_uncounted (over w) = over (uncounted w)
trace_uncounted (handed r w t) = handed r (uncounted w) (trace_uncounted t)

abbrev pub call_uncounted : {E : Type 0} → Next E Walk → Next E Walk
call_uncounted (hands r w) = hands r (uncounted w)
call_uncounted (ends w) = ends (uncounted w)

abbrev pub outcome_uncounted : {D : Type 0} → Outcome D → Outcome D
outcome_uncounted (comes r w) = comes r (uncounted w)
outcome_uncounted (nothing w) = nothing (uncounted w)

-- the definitions of Walk.antt as they were: a walk moves on behind an entry and is emptied, and nothing is counted
abbrev pub on_read_before : (l : Listing) → (DebugAddrIndex → Result ℕ) → ℕ → ℕ → Walk → Read (Raw l.Entry) → (Walk → Trace l.Carried) → Trace l.Carried
on_read_before l table size len w (gives (got (entry e) c)) go = on_turn (convert table size w.base_address (l.bounds_of e)) (l.carried e) (moved_to c w) go
on_read_before l table size len w (gives (got stop c)) go = over (moved_to len w)
on_read_before l table size len w (refused n vs) go = handed (refused n vs) (moved_to len w) (over (moved_to len w))

unfoldable pub trace_from_before : (l : Listing) → (DebugAddrIndex → Result ℕ) → ℕ → ℕ → ℕ → Walk → Trace l.Carried
trace_from_before l table size len zero w = over w
trace_from_before l table size len (suc n) w = pick (leb len w.at) (over w) (on_read_before l table size len w (l.read w.at) (trace_from_before l table size len n))

abbrev pub trace_before : (l : Listing) → (DebugAddrIndex → Result ℕ) → ℕ → ℕ → Walk → Trace l.Carried
trace_before l table size len w = trace_from_before l table size len len w

abbrev pub next_before : (l : Listing) → (DebugAddrIndex → Result ℕ) → ℕ → ℕ → Walk → Next (Item l.Carried) Walk
next_before l table size len w =
    pick (is_size size) (first (trace_before l table size len w)) (hands (refusal (UnsupportedAddressSize size)) (moved_to len w))

abbrev pub on_raw_before : {E : Type 0} → ℕ → Walk → Read (Raw E) → Next E Walk
on_raw_before len w (gives (got (entry e) c)) = hands (gives e) (moved_to c w)
on_raw_before len w (gives (got stop c)) = ends (moved_to len w)
on_raw_before len w (refused n vs) = hands (refused n vs) (moved_to len w)

abbrev pub next_raw_before : (l : Listing) → ℕ → ℕ → Walk → Next l.Entry Walk
next_raw_before l size len w =
    pick (is_size size)
    (pick (leb len w.at) (ends w) (on_raw_before len w (l.read w.at)))
    (hands (refusal (UnsupportedAddressSize size)) (moved_to len w))

pub record UncountedAsBefore : Type 1 where
  pub walk : (l : Listing) (table : DebugAddrIndex → Result ℕ) (size len : ℕ) (w : Walk)
      → trace_uncounted (trace l table size len w) ≡ trace_before l table size len (uncounted w)
  pub call : (l : Listing) (table : DebugAddrIndex → Result ℕ) (size len : ℕ) (w : Walk)
      → call_uncounted (next l table size len w) ≡ next_before l table size len (uncounted w)
  pub raw : (l : Listing) (size len : ℕ) (w : Walk) → call_uncounted (next_raw l size len w) ≡ next_raw_before l size len (uncounted w)
  -- a conversion counts nothing: its definition has the text that it had, and its walk keeps the count
  pub conversion : (l : Listing) (table : DebugAddrIndex → Result ℕ) (size : ℕ) (w : Walk) (e : l.Entry)
      → outcome_uncounted (convert_raw l table size w e) ≡ convert_raw l table size (uncounted w) e
