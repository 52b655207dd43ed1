-- What walks, conversions and lookups answer, by how an item of the list is told and what is told without one.
use Rattle.std.specs.Prelude.{ℕ, List}
use Rattle.section_bytes.specs.Read.{Result, gives, refused}
use Rattle.tables.specs.Next.{Next, ends, hands}
use Rattle.lists.specs.Walk.{Item, Outcome, nothing as skipped, comes}
use Rattle.lists.specs.declared.Walk.{Walk}
use Rattle.lookups.specs.Lookup.{Found, found, not_there as absent}
use Rattle.ffi_words.specs.Common.{ended, nothing, not_there, refused_by, Left, left}
use Rattle.ffi_words.specs.Walks.{handed_back}
use Rattle.ffi_words.specs.declared.common.YzDone.{YzDone}

abbrev pub next_told : {E A : Type 0} → (E → A) → (YzDone → A) → List ℕ → Next E Walk → Left A
next_told told without ws (hands (gives e) w) = left (told e) (handed_back ws w)
next_told told without ws (ends w) = left (without ended) (handed_back ws w)
next_told told without ws (hands (refused n vs) w) = left (without (refused_by n vs)) (handed_back ws w)

abbrev pub outcome_told : {D A : Type 0} → (Item D → A) → (YzDone → A) → List ℕ → Outcome D → Left A
outcome_told told without ws (comes (gives i) w) = left (told i) (handed_back ws w)
outcome_told told without ws (skipped w) = left (without nothing) (handed_back ws w)
outcome_told told without ws (comes (refused n vs) w) = left (without (refused_by n vs)) (handed_back ws w)

abbrev pub found_told : {D A : Type 0} → (Item D → A) → (YzDone → A) → Result (Found D) → A
found_told told without (gives (found i)) = told i
found_told told without (gives absent) = without not_there
found_told told without (refused n vs) = without (refused_by n vs)
