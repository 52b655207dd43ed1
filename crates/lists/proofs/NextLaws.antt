-- A call that goes from entry to entry, as the code does: what is left of the list's trace at each place. Assumes nothing.
use mathlib.Core.Path.{◌≡◌, sym, ap, ◌∙◌, subst}
use mathlib.Core.Bool.{Bool, true, false}
use mathlib.Core.List.{List}
use Prim.Native.Nat.{ℕ, ◌+◌, ◌≤◌, ◌<◌}
use lib.ListN.{length}
use Rattle.section_bytes.specs.Read.{Result, gives}
use Rattle.section_bytes.specs.Error.{refusal}
use Rattle.section_bytes.specs.Reader.{is_size}
use Rattle.section_bytes.specs.declared.error.Error.{Error}
use Rattle.section_bytes.specs.declared.error.Error.TheVariants.{UnsupportedAddressSize}
use Rattle.tables.specs.Next.{hands}
use Rattle.entries.specs.Listed.{entry_in, read_in}
use Rattle.entries.specs.Numbers.{Coding}
use Rattle.entries.specs.Told.{found, ended, step_of}
use Rattle.entries.specs.declared.Expression.{Expression}
use Rattle.entries.specs.declared.RawRngListEntry.{RawRngListEntry}
use Rattle.entries.specs.declared.RawLocListEntry.{RawLocListEntry}
use Rattle.entries.proofs.StepLaws.{step_found, step_ended, step_failed}
use Rattle.lists.specs.Open.{walk_at, moved_to}
use Rattle.lists.specs.Convert.{Turn, convert, table_in, bounds, expression_of}
use Rattle.lists.specs.Walk.{CarriedIn, data_in, listed, Trace, over, handed, on_turn, trace, first, next_in_unit}
use Rattle.lists.specs.Risen.{risen_by}
use Rattle.lists.specs.declared.Unit.{Unit as DwarfUnit}
use Rattle.lists.specs.declared.Walk.{Walk}
use Rattle.lists.proofs.Past.{listed_past}
use Rattle.lists.proofs.ListedLaws.{bounds_in_lem, carried_in_lem}
use Rattle.lists.proofs.RisenLaws.{risen_next}
use Rattle.lists.proofs.WalkLaws.{Moved, trace_over, met_end, met_refusal, met_entry, next_first, next_other}

module _ (l : Bool) (coding : Coding) (s : List ℕ) (u : DwarfUnit) where
  -- what the list does from a walk on
  abbrev pub does : Walk → Trace (CarriedIn l)
  does w = trace (listed l coding u.encoding u.endian s) (table_in u) u.encoding.address_size (length s) w

  -- a call answers what it does first
  pub next_refused : (w : Walk) → is_size u.encoding.address_size ≡ false → hands (refusal (UnsupportedAddressSize u.encoding.address_size)) (moved_to (length s) w) ≡ next_in_unit l coding s u w
  next_refused w h = sym (next_other (listed l coding u.encoding u.endian s) (table_in u) u.encoding.address_size (length s) w h)

  pub next_does : (w : Walk) {t : Trace (CarriedIn l)} → is_size u.encoding.address_size ≡ true → does w ≡ t → first t ≡ next_in_unit l coding s u w
  next_does w h q = sym (next_first (listed l coding u.encoding u.endian s) (table_in u) u.encoding.address_size (length s) w h ∙ ap first q)

  -- from a place on, where so many entries were read before and so many by the call
  module _ (at base n k : ℕ) where
    pub does_nothing : length s ≤ at → does (walk_at at base (risen_by n k)) ≡ over (walk_at at base (risen_by n k))
    does_nothing h = trace_over (listed l coding u.encoding u.endian s) (table_in u) u.encoding.address_size (length s) (listed_past l coding u.encoding u.endian s) _ h

    module _ (h : at < length s) where
      pub does_refuse : (e : Error) → refusal e ≡ step_of (read_in l coding u.encoding u.endian s at)
          → does (walk_at at base (risen_by n k)) ≡ handed (refusal e) (walk_at (length s) base (risen_by n k)) (over (walk_at (length s) base (risen_by n k)))
      does_refuse e q = met_refusal (listed l coding u.encoding u.endian s) (table_in u) u.encoding.address_size (length s) (listed_past l coding u.encoding u.endian s) _ h (step_failed _ q)

      pub does_end : gives ended ≡ step_of (read_in l coding u.encoding u.endian s at) → does (walk_at at base (risen_by n k)) ≡ over (walk_at (length s) base (risen_by n (k + 1)))
      does_end q = rw (risen_next n k) (met_end (listed l coding u.encoding u.endian s) (table_in u) u.encoding.address_size (length s) (listed_past l coding u.encoding u.endian s) _ h (step_ended _ q).1)

      module _ (raw : RawLocListEntry) {c : ℕ} (q : gives (found (entry_in l raw) c) ≡ step_of (read_in l coding u.encoding u.endian s at)) where
        pub entry_past : (at < c) × (c ≤ length s)
        entry_past = subst (Moved at (length s)) (step_found _ q) (listed_past l coding u.encoding u.endian s at h)

        pub does_turn : {b : RawRngListEntry} {t : Result Turn} {x : Expression} → b ≡ bounds raw → t ≡ convert (table_in u) u.encoding.address_size base b → x ≡ expression_of raw
            → does (walk_at at base (risen_by n k)) ≡ on_turn t (data_in l x) (walk_at c base (risen_by n (k + 1))) does
        does_turn f g e =
            rw (risen_next n k, e, carried_in_lem l raw)
            (met_entry (listed l coding u.encoding u.endian s) (table_in u) u.encoding.address_size (length s) (listed_past l coding u.encoding u.endian s) _ h (step_found _ q)
            (g ∙ ap (convert (table_in u) u.encoding.address_size base) (f ∙ sym (bounds_in_lem l raw))))
