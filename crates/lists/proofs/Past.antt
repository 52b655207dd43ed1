-- A raw entry of either list ends past its place and in the section, looks at the bytes that it takes alone, and at none before its
-- place. Assumes nothing.
use Prim.Native.Nat.{ℕ, ◌+◌, ◌≤◌, ◌<◌}
use mathlib.Core.Bool.{Bool, true, false}
use mathlib.Core.List.{List}
use mathlib.Core.Path.{◌≡◌}
use native.Mathlib.Omega.{arith}
use lib.ListN.{length}
use borrow.Author.Tests.{le-leb}
use Rattle.section_bytes.specs.Read.{gives, refused, got, Read}
use Rattle.section_bytes.specs.declared.common.Encoding.{Encoding}
use Rattle.section_bytes.specs.declared.endianity.RunTimeEndian.{RunTimeEndian}
use Rattle.section_bytes.proofs.Took.{Agree, Took}
use Rattle.entries.specs.Forms.{stop}
use Rattle.entries.specs.Kinds.{range_entry_by, location_entry, raw_at}
use Rattle.entries.specs.Listed.{read_in}
use Rattle.entries.proofs.EntryTook.{range_took, location_took, raw_same}
use Rattle.entries.specs.Numbers.{Coding}
use Rattle.lists.proofs.WalkLaws.{Moved}

moved_of : {A : Type 0} (s : List ℕ) (at : ℕ) (r : Read A) → Took (at + 1) at s s r r → Moved at (length s) r
moved_of s at (gives (got v c)) h = (omega arith, h.1)
moved_of s at (refused n vs) h = tt

pub listed_took : (l : Bool) (coding : Coding) (encoding : Encoding) (endian : RunTimeEndian) (s t : List ℕ) (at : ℕ) → at < length s
    → Took (at + 1) at s t (read_in l coding encoding endian s at) (read_in l coding encoding endian t at)
listed_took true coding encoding endian s t at h = location_took coding.split encoding endian s t at h
listed_took false coding encoding endian s t at h = range_took coding.number encoding endian s t at h

pub listed_past : (l : Bool) (coding : Coding) (encoding : Encoding) (endian : RunTimeEndian) (s : List ℕ) (at : ℕ) → at < length s → Moved at (length s) (read_in l coding encoding endian s at)
listed_past l coding encoding endian s at h = moved_of s at (read_in l coding encoding endian s at) (listed_took l coding encoding endian s s at h)

pub listed_alike : (l : Bool) (coding : Coding) (encoding : Encoding) (endian : RunTimeEndian) (s t : List ℕ) (at : ℕ) → Agree at (length s) s t
    → read_in l coding encoding endian s at ≡ read_in l coding encoding endian t at
listed_alike true coding encoding endian s t at a = raw_same (location_entry coding.split encoding endian at) s t at a
listed_alike false coding encoding endian s t at a = raw_same (range_entry_by coding.number encoding endian) s t at a

-- at and past the section's end a list ends
pub listed_ends : (l : Bool) (coding : Coding) (encoding : Encoding) (endian : RunTimeEndian) (s : List ℕ) (at : ℕ) → length s ≤ at
    → read_in l coding encoding endian s at ≡ gives (got stop at)
unfolding raw_at
listed_ends true coding encoding endian s at h = simp (le-leb _ _ h)
listed_ends false coding encoding endian s at h = simp (le-leb _ _ h)
