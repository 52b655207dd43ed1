-- Places of a part counted in its section: a read ends in its part, so the place after it fits, and a part's answer, moved,
-- is its section's. Assumes nothing.
use mathlib.Core.Path.{◌≡◌, refl, sym, ap, ◌∙◌}
use mathlib.Core.List.{List}
use Prim.Native.Nat.{ℕ, ◌+◌, ◌-◌, ◌≤◌, ◌<◌}
use lib.ListN.{length, take, drop}
use Rattle.section_bytes.specs.Read.{Result, gives, refused, got, Read}
use Rattle.section_bytes.specs.Reader.{address}
use Rattle.section_bytes.specs.declared.endianity.RunTimeEndian.{RunTimeEndian}
use Rattle.section_bytes.proofs.Took.{Took}
use Rattle.section_bytes.proofs.ReaderTook.{address_took}
use Rattle.entries.specs.Told.{Step, found, ended, step_of}
use Rattle.entries.specs.Forms.{Raw, stop, entry}
use Rattle.entries.specs.Kinds.{moved, raw_at}
use Rattle.entries.proofs.KindLaws.{raw_end, raw_there, part_is}

-- an address that was read ends in what it was read from
pub address_within : (s : List ℕ) (at : ℕ) {v c : ℕ} (endian : RunTimeEndian) (size : ℕ) → gives (got v c) ≡ address endian size s at → c ≤ length s
address_within s at {v} {c} endian size h = ends (address endian size s at) (address endian size s at) h (address_took s s size at endian)
  where
    ends : (r q : Read ℕ) → gives (got v c) ≡ r → Took (at + 1) at s s r q → c ≤ length s
    ends r q e k = let j = rw (← e) at k in j.1

module _ {E : Type 0} where
  -- the answer to what was read in a part that starts at a place
  abbrev pub stepFrom : ℕ → Read (Raw E) → Result (Step E)
  stepFrom start r = step_of (moved start r)

  -- what was answered for the part that the code hands over
  pub raw_from : (read : List ℕ → Read (Raw E)) (s : List ℕ) (at : ℕ) → at < length s → {t : Result (Step E)}
      → t ≡ stepFrom at (read (take (length s - at) (drop at s))) → t ≡ step_of (raw_at read s at)
  raw_from read s at l h = rw part_is at h ∙ ap step_of (sym (raw_there read s at l))

  -- past the section's end a list ends
  pub raw_past : (read : List ℕ → Read (Raw E)) (s : List ℕ) (at : ℕ) → length s ≤ at → gives ended ≡ step_of (raw_at read s at)
  raw_past read s at h = ap step_of (sym (raw_end read s at h))

  -- an answer's place counted in the section
  abbrev shifted : ℕ → Result (Step E) → Result (Step E)
  shifted at (gives (found e n)) = gives (found e (at + n))
  shifted at (gives ended) = gives ended
  shifted at (refused n vs) = refused n vs

  moved_step : (at : ℕ) (r : Read (Raw E)) → shifted at (step_of r) ≡ stepFrom at r
  moved_step at (gives (got stop n)) = refl
  moved_step at (gives (got (entry e) n)) = refl
  moved_step at (refused n vs) = refl

  -- answers that say the same say the same of the section
  pub moved_alike : (at : ℕ) (r q : Read (Raw E)) → step_of r ≡ step_of q → stepFrom at r ≡ stepFrom at q
  moved_alike at r q h = sym (moved_step at r) ∙ ap (shifted at) h ∙ moved_step at q
