-- A call in the profile that goes from entry to entry, as the code does: what it answers from each place on. Assumes nothing.
use Prim.Native.Nat.{ℕ, ◌+◌, ◌≤◌, ◌<◌}
use mathlib.Core.Bool.{Bool, true, false}
use mathlib.Core.List.{List}
use mathlib.Core.Path.{◌≡◌, sym, ap, ◌∙◌, subst}
use lib.ListN.{length}
use Rattle.std.specs.Prelude.{Ok, Err}
use Rattle.std.specs.declared.result.Result.{Result as Answer}
use Rattle.section_bytes.specs.Error.{refusal}
use Rattle.section_bytes.specs.Read.{Result, gives, got}
use Rattle.section_bytes.specs.Reader.{is_size}
use Rattle.section_bytes.specs.declared.error.Error.{Error}
use Rattle.section_bytes.specs.declared.error.Error.TheVariants.{UnsupportedAddressSize, PaddedNumber}
use Rattle.tables.specs.Next.{Next, ends, hands}
use Rattle.entries.specs.Forms.{entry}
use Rattle.entries.specs.Listed.{EntryIn, entry_in, read_in}
use Rattle.entries.specs.Numbers.{Coding}
use Rattle.entries.specs.Padded.{Noted, noted, padded_in}
use Rattle.entries.specs.Told.{Step, found, ended, step_of}
use Rattle.entries.specs.declared.Expression.{Expression}
use Rattle.entries.specs.declared.RawLocListEntry.{RawLocListEntry}
use Rattle.entries.specs.declared.RawRngListEntry.{RawRngListEntry}
use Rattle.entries.proofs.StepLaws.{step_found, step_ended, step_failed}
use Rattle.lists.specs.Convert.{Turn, range, rebase, skip, convert, table_in, bounds, expression_of}
use Rattle.lists.specs.Open.{walk_at}
use Rattle.lists.specs.Risen.{risen_by}
use Rattle.lists.specs.Walk.{CarriedIn, bounds_in, data_in, listed, carried_in, Item, item, Trace, on_turn, first}
use Rattle.lists.specs.declared.Unit.{Unit as DwarfUnit}
use Rattle.lists.specs.declared.Walk.{Walk}
use Rattle.lists.proofs.ListedLaws.{plain_is, padding_is, bounds_in_lem, carried_in_lem}
use Rattle.lists.proofs.Past.{listed_past}
use Rattle.lists.proofs.RisenLaws.{risen_none, risen_next}
use Rattle.lists.proofs.WalkLaws.{Moved}
use Rattle.profile.specs.Profile.{tells, of_lookups, of_entry, profile, profile_in_unit}
use Rattle.profile.proofs.ProfileLaws.{met_end, met_refusal, met_entry, met_broken, profile_over, next_first, next_other}
use Rattle.profile.proofs.TellLaws.{converted_kept, range_not_skip, rebase_not_skip, refused_not_skip}

module _ (l : Bool) (coding : Coding) (s : List ℕ) (u : DwarfUnit) where
  -- what the list does in the profile from a walk on
  abbrev does : Walk → Trace (CarriedIn l)
  does w = profile (listed l coding u.encoding u.endian s) (padded_in l coding u.encoding u.endian s) (table_in u) u.encoding.address_size (length s) w

  pub call_other : (w : Walk) → is_size u.encoding.address_size ≡ false
      → hands (refusal (UnsupportedAddressSize u.encoding.address_size)) (walk_at (length s) w.base_address (risen_by w.entries 0)) ≡ profile_in_unit l coding s u w
  call_other w h = rw (risen_none w.entries) (sym (next_other _ _ (table_in u) u.encoding.address_size (length s) w h))

  -- what a call answers from a place on, where so many entries were read before and so many by the call
  pub call_from : ℕ → ℕ → ℕ → ℕ → Next (Item (CarriedIn l)) Walk
  call_from at base n k = first (does (walk_at at base (risen_by n k)))

  pub call_start : (w : Walk) → is_size u.encoding.address_size ≡ true → profile_in_unit l coding s u w ≡ call_from w.at w.base_address w.entries 0
  unfolding call_from
  call_start w h = rw (risen_none w.entries) (next_first _ _ (table_in u) u.encoding.address_size (length s) w h)

  module _ (at base n k : ℕ) where
    pub call_over : length s ≤ at → ends (walk_at at base (risen_by n k)) ≡ call_from at base n k
    unfolding call_from
    call_over h = sym (ap first (profile_over _ _ _ _ _ (listed_past l coding u.encoding u.endian s) (walk_at at base (risen_by n k)) h))

    module _ (h : at < length s) where
      abbrev Noting : Result (Step (Noted (EntryIn l))) → Type 0
      Noting r = r ≡ noted (padded_in l coding u.encoding u.endian s at) (step_of (read_in l coding u.encoding u.endian s at))

      pub call_unread : (e : Error) → Noting (refusal e) → hands (refusal e) (walk_at (length s) base (risen_by n k)) ≡ call_from at base n k
      unfolding call_from
      call_unread e q = sym (ap first (met_refusal _ _ _ _ _ (listed_past l coding u.encoding u.endian s) (walk_at at base (risen_by n k)) h (step_failed _ (plain_is _ _ q))))

      pub call_ended : Noting (gives ended) → ends (walk_at (length s) base (risen_by n (k + 1))) ≡ call_from at base n k
      unfolding call_from
      call_ended q = rw (risen_next n k) (sym (ap first (met_end _ _ _ _ _ (listed_past l coding u.encoding u.endian s) (walk_at at base (risen_by n k)) h (step_ended _ (plain_is _ _ q)).1)))

      -- an entry that ends at c
      module _ (raw : RawLocListEntry) {p : Bool} {c : ℕ} (q : Noting (gives (found (record { entry = entry_in l raw; padded = p }) c))) where
        entry_read : read_in l coding u.encoding u.endian s at ≡ gives (got (entry (entry_in l raw)) c)
        entry_read = step_found _ (plain_is _ _ q)

        padding : p ≡ padded_in l coding u.encoding u.endian s at
        padding = padding_is _ (step_of (read_in l coding u.encoding u.endian s at)) q

        pub entry_past : (at < c) × (c ≤ length s)
        entry_past = subst (Moved at (length s)) entry_read (listed_past l coding u.encoding u.endian s at h)

        pub call_padded : p ≡ true → hands (refusal PaddedNumber) (walk_at (length s) base (risen_by n (k + 1))) ≡ call_from at base n k
        unfolding call_from
        call_padded g =
            rw (risen_next n k)
            (sym (ap first (met_broken _ _ _ _ _ (listed_past l coding u.encoding u.endian s) (walk_at at base (risen_by n k)) h entry_read {x = PaddedNumber} (rw (← padding, g)))))

        -- whose numbers are not padded, with its bounds
        module _ (g : p ≡ false) {b : RawRngListEntry} (f : b ≡ bounds raw) where
          entry_told : {y : Answer Unit Error} → y ≡ of_lookups u.encoding.address_size (tells (table_in u) u.encoding.address_size base b)
              → of_entry (padded_in l coding u.encoding u.endian s at) (table_in u) u.encoding.address_size base (bounds_in l (entry_in l raw)) ≡ y
          entry_told j = rw (← padding, g, bounds_in_lem l raw, ← f) (sym j)

          pub call_broken : (y : Error) → Err y ≡ of_lookups u.encoding.address_size (tells (table_in u) u.encoding.address_size base b)
              → hands (refusal y) (walk_at (length s) base (risen_by n (k + 1))) ≡ call_from at base n k
          unfolding call_from
          call_broken y j =
              rw (risen_next n k) (sym (ap first (met_broken _ _ _ _ _ (listed_past l coding u.encoding u.endian s) (walk_at at base (risen_by n k)) h entry_read (entry_told j))))

          entry_kept : {t : Result Turn} → t ≡ convert (table_in u) u.encoding.address_size base b → Ok tt ≡ of_lookups u.encoding.address_size (tells (table_in u) u.encoding.address_size base b)
              → does (walk_at at base (risen_by n k)) ≡ on_turn t (carried_in l (entry_in l raw)) (walk_at c base (risen_by n (k + 1))) does
          entry_kept j i =
              rw (risen_next n k)
              (met_entry _ _ _ _ _ (listed_past l coding u.encoding u.endian s) (walk_at at base (risen_by n k)) h entry_read (entry_told i)
              (j ∙ ap (convert (table_in u) u.encoding.address_size base) (f ∙ sym (bounds_in_lem l raw))))

          -- one that is not passed over
          entry_turned : {t : Result Turn} → t ≡ convert (table_in u) u.encoding.address_size base b → (t ≡ gives skip → ⊥)
              → does (walk_at at base (risen_by n k)) ≡ on_turn t (carried_in l (entry_in l raw)) (walk_at c base (risen_by n (k + 1))) does
          entry_turned {t} j i = entry_kept j (sym (converted_kept _ _ _ _ t i j))

          pub call_kept : gives skip ≡ convert (table_in u) u.encoding.address_size base b → Ok tt ≡ of_lookups u.encoding.address_size (tells (table_in u) u.encoding.address_size base b)
              → call_from at base n k ≡ call_from c base n (k + 1)
          unfolding call_from
          call_kept j i = ap first (entry_kept j i)

          pub call_rebased : {v : ℕ} → gives (rebase v) ≡ convert (table_in u) u.encoding.address_size base b → call_from at base n k ≡ call_from c v n (k + 1)
          unfolding call_from
          call_rebased j = ap first (entry_turned j rebase_not_skip)

          pub call_failed : (y : Error) → refusal y ≡ convert (table_in u) u.encoding.address_size base b → hands (refusal y) (walk_at c base (risen_by n (k + 1))) ≡ call_from at base n k
          unfolding call_from
          call_failed y j = sym (ap first (entry_turned j refused_not_skip))

          pub call_found : {v e : ℕ} {x : Expression} → gives (range v e) ≡ convert (table_in u) u.encoding.address_size base b → x ≡ expression_of raw
              → hands (gives (item v e (data_in l x))) (walk_at c base (risen_by n (k + 1))) ≡ call_from at base n k
          unfolding call_from
          call_found j i = rw (i, carried_in_lem l raw) (sym (ap first (entry_turned j range_not_skip)))

-- for the loop from entry to entry
pub ruleset calling = (call_other, call_start, call_over, call_unread, call_ended, entry_past, call_padded, call_broken, call_kept, call_rebased, call_failed, call_found)
