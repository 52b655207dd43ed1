-- What is answered for the part from the place on is the section's answer there, in either list. Assumes nothing.
use mathlib.Core.Path.{◌∙◌}
use Rattle.section_bytes.specs.Common.{is_split}
use Rattle.entries.specs.Kinds.{range_entry_by, location_entry}
use Rattle.entries.specs.Lists.{are_locations, coding_in}
use Rattle.entries.specs.Numbers.{numbers_of}
use Rattle.entries.proofs.HeadLaws.{in_end, step_same}
use Rattle.entries.proofs.MovedLaws.{raw_from}
use Rattle.entries.proofs.raw.raw_entry.Goals as goal

pub returns-then-section-at : goal.returns-then-section-at
returns-then-section-at c = let a = c.args in in_end (coding_in a.lists.now) a.encoding a.endian a.section.now a.at (are_locations a.lists.now) c.if-section-at.true

pub returns-in-Ranges : goal.returns-in-Ranges
returns-in-Ranges c =
    let a = c.args in
    rw c.in-Ranges.is
    (raw_from (range_entry_by (numbers_of c.in-Ranges.kinds) a.encoding a.endian) a.section.now a.at c.if-section-at.false c.range_entry.ensures)

pub returns-in-Locations : goal.returns-in-Locations
returns-in-Locations c =
    let a = c.args in
    rw c.in-Locations.is
    (step_same _ ∙ raw_from (location_entry (is_split c.in-Locations.file) a.encoding a.endian a.at) a.section.now a.at c.if-section-at.false c.location_entry.ensures)
