-- What a call of the profile reads may be counted from 0 and added afterwards, as the ordinary call's (RisenLaws of the lists). Assumes
-- nothing.
use mathlib.Core.Path.{◌≡◌, refl, ap, ◌∙◌}
use mathlib.Core.Bool.{Bool, true, false}
use mathlib.Core.List.{List}
use Prim.Native.Nat.{ℕ, zero, suc}
use lib.Dec.{leb}
use lib.ListN.{length}
use Rattle.std.specs.Prelude.{Ok, Err}
use Rattle.std.specs.declared.result.Result.{Result as Answer}
use Rattle.section_bytes.specs.declared.error.Error.{Error}
use Rattle.section_bytes.specs.Error.{refusal}
use Rattle.section_bytes.specs.Read.{Result, gives, refused, got, Read}
use Rattle.section_bytes.specs.Reader.{is_size}
use Rattle.section_bytes.specs.declared.common.DebugAddrBase.{DebugAddrBase}
use Rattle.section_bytes.specs.declared.common.DebugAddrIndex.{DebugAddrIndex}
use Rattle.section_bytes.specs.declared.common.Encoding.{Encoding}
use Rattle.section_bytes.specs.declared.endianity.RunTimeEndian.{RunTimeEndian}
use Rattle.entries.specs.Forms.{Raw, stop, entry}
use Rattle.entries.specs.Numbers.{Coding, dwarf, tabled}
use Rattle.entries.specs.Padded.{padded_in}
use Rattle.lists.specs.Open.{read_to}
use Rattle.lists.specs.Convert.{table_at}
use Rattle.lists.specs.Walk.{Listing, listed, Trace, over, handed, on_read, first}
use Rattle.lists.specs.Uncounted.{uncounted}
use Rattle.lists.specs.Risen.{risen_by, raised, call_raised}
use Rattle.lists.specs.declared.Walk.{Walk}
use Rattle.lists.proofs.CountLaws.{pick_both}
use Rattle.lists.proofs.RisenLaws.{trace_raised, first_raised, read_raised}
use Rattle.profile.specs.Profile.{of_read, unless, profile_from, profile, profile_next, profile_of, profile_range, profile_range_by, profile_location}

-- the walk that a list hands back first
abbrev walk_of : {D : Type 0} → Trace D → Walk
walk_of (over w) = w
walk_of (handed r w t) = w

module _ (l : Listing) (padded : ℕ → Bool) (table : DebugAddrIndex → Result ℕ) (size len n : ℕ) where
  -- one of the three empties the walk as the end mark does
  emptied_raised : (w : Walk) → raised n (read_to len w) ≡ read_to len (raised n w)
  emptied_raised w = ap walk_of (read_raised l table size len n w (gives (got stop len)) over over (λ _. refl))

  unless_raised : (x : Answer Unit Error) (w : Walk) (r : Read (Raw l.Entry)) (f g : Walk → Trace l.Carried) → ((u : Walk) → trace_raised n (f u) ≡ g (raised n u))
      → trace_raised n (unless x (read_to len w) (on_read l table size len w r f)) ≡ unless x (read_to len (raised n w)) (on_read l table size len (raised n w) r g)
  unless_raised (Ok x) w r f g h = read_raised l table size len n w r f g h
  unless_raised (Err x) w r f g h = ap (λ (v : Walk). handed (refusal x) v (over v)) (emptied_raised w)

  held_raised : (w : Walk) (r : Read (Raw l.Entry)) → of_read l padded table size w r ≡ of_read l padded table size (raised n w) r
  held_raised w (gives (got (entry e) c)) = refl
  held_raised w (gives (got stop c)) = refl
  held_raised w (refused m vs) = refl

  from_raised : (m : ℕ) (w : Walk) → trace_raised n (profile_from l padded table size len m w) ≡ profile_from l padded table size len m (raised n w)
  unfolding profile_from
  from_raised zero w = refl
  from_raised (suc m) w =
      pick_both (trace_raised n) (leb len w.at) refl
      (unless_raised (of_read l padded table size w (l.read w.at)) w (l.read w.at) (profile_from l padded table size len m) (profile_from l padded table size len m) (from_raised m)
      ∙ ap (λ (x : Answer Unit Error). unless x (read_to len (raised n w)) (on_read l table size len (raised n w) (l.read w.at) (profile_from l padded table size len m))) (held_raised w (l.read w.at)))

  trace_raised_lem : (w : Walk) → trace_raised n (profile l padded table size len w) ≡ profile l padded table size len (raised n w)
  unfolding profile
  trace_raised_lem w = from_raised len w

  call_raised_lem : (w : Walk) → call_raised n (profile_next l padded table size len w) ≡ profile_next l padded table size len (raised n w)
  unfolding profile_next
  call_raised_lem w = pick_both (call_raised n) (is_size size) (first_raised n (profile l padded table size len w) ∙ ap first (trace_raised_lem w)) refl

pub profile_raised : (l : Listing) (padded : ℕ → Bool) (table : DebugAddrIndex → Result ℕ) (size len : ℕ) (w : Walk)
    → call_raised w.entries (profile_next l padded table size len (uncounted w)) ≡ profile_next l padded table size len w
unfolding risen_by
profile_raised l padded table size len w = call_raised_lem l padded table size len w.entries (uncounted w)

-- of each list's calls
module _ (encoding : Encoding) (endian : RunTimeEndian) (s table : List ℕ) (tableBase : DebugAddrBase) (w : Walk) where
  listed_raised : (l : Bool) (coding : Coding)
      → call_raised w.entries (profile_of l coding encoding endian s table tableBase (uncounted w)) ≡ profile_of l coding encoding endian s table tableBase w
  listed_raised l coding =
      profile_raised (listed l coding encoding endian s) (padded_in l coding encoding endian s) (table_at endian encoding tableBase table) encoding.address_size (length s) w

  pub range_profile_raised : call_raised w.entries (profile_range encoding endian s table tableBase (uncounted w)) ≡ profile_range encoding endian s table tableBase w
  range_profile_raised = listed_raised false (dwarf false)

  pub range_profile_raised_by : (kinds : List ℕ)
      → call_raised w.entries (profile_range_by kinds encoding endian s table tableBase (uncounted w)) ≡ profile_range_by kinds encoding endian s table tableBase w
  range_profile_raised_by kinds = listed_raised false (tabled kinds)

  pub location_profile_raised : (split : Bool)
      → call_raised w.entries (profile_location split encoding endian s table tableBase (uncounted w)) ≡ profile_location split encoding endian s table tableBase w
  location_profile_raised split = listed_raised true (dwarf split)
