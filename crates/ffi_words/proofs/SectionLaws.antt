-- Where a part lies: it is told whole or not at all, and its bytes are the part's. Assumes nothing.
use mathlib.Core.List.{List}
use mathlib.Core.Logic.{⊎_elim}
use mathlib.Core.Path.{◌≡◌, sym}
use Prim.Native.Nat.{ℕ, ◌+◌, ◌≤◌, ◌<◌}
use native.Mathlib.Omega.{arith}
use borrow.Author.Tests.{le-leb, lt-leb}
use lib.ListN.{length, take, drop}
use Rattle.section_bytes.specs.Reader.{part_of}
use Rattle.section_bytes.proofs.Order.{lt_or_le}
use Rattle.section_bytes.proofs.ReaderLaws.{part_inside, part_outside}
use Rattle.ffi_words.specs.Common.{no_part}
use Rattle.ffi_words.specs.Sections.{lying}
use Rattle.ffi_words.specs.declared.common.YzPart.{YzPart}

module _ (s : List ℕ) (x : YzPart) where
  pub lies_in : x.offset + x.length ≤ length s → x ≡ lying s x
  unfolding lying
  lies_in h = simp (le-leb _ _ h)

  pub lies_out : length s < x.offset + x.length → no_part ≡ lying s x
  unfolding lying
  lies_out h = simp (lt-leb _ _ h)

  -- the part told lies in the section
  pub lying_inside : (lying s x).offset + (lying s x).length ≤ length s
  lying_inside =
      ⊎_elim (λ h. rw (← lies_out h) (omega arith)) (λ h. rw (← lies_in h) h) (lt_or_le (length s) (x.offset + x.length))

  -- and its bytes are those of the part handed in
  pub lying_bytes : take (lying s x).length (drop (lying s x).offset s) ≡ part_of s x.offset x.length
  lying_bytes =
      ⊎_elim (λ h. rw (← lies_out h) (sym (part_outside x.length s x.offset h)))
      (λ h. rw (← lies_in h) (sym (part_inside x.length s x.offset h))) (lt_or_le (length s) (x.offset + x.length))
