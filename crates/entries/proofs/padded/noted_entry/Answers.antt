-- What was read took as many bytes as lie between the places. Assumes nothing.
use mathlib.Core.Path.{sym, ◌≡◌, ◌∙◌}
use Rattle.entries.specs.Lists.{are_locations, coding_in}
use Rattle.entries.specs.Listed.{read_in, entry_in}
use Rattle.section_bytes.specs.Read.{gives}
use Rattle.entries.specs.Told.{step_of, found}
use Rattle.entries.proofs.PaddedLaws.{step_padded, noted_found}
use Rattle.entries.proofs.padded.noted_entry.Goals.{In-Some}
use Rattle.entries.proofs.padded.noted_entry.Goals as goal

-- what was read is an entry
there : (c : In-Some) → (let a = c.args in let l = are_locations a.lists.now in
    gives (found (entry_in l c.in-Some.entry) c.in-Some.after) ≡ step_of (read_in l (coding_in a.lists.now) a.encoding a.endian a.section.now a.at))
there c = rw c.in-Some.is at c.in_ok-entry.ensures

pub overflow_sub-after : goal.overflow_sub-after
overflow_sub-after c =
    let a = c.args in
    (step_padded (are_locations a.lists.now) (coding_in a.lists.now) a.encoding a.endian a.section.now a.at (there c)).0

pub returns : goal.returns
returns c =
    let a = c.args in
    let h = there (goal.at.returns c).In-Some in
    noted_found _ h (c.longer-padded.ensures ∙ sym (step_padded (are_locations a.lists.now) (coding_in a.lists.now) a.encoding a.endian a.section.now a.at h).1)
