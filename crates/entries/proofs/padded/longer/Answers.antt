-- By the list. Assumes nothing.
use Rattle.entries.proofs.padded.longer.Goals as goal

pub returns-in-Ranges : goal.returns-in-Ranges
returns-in-Ranges c = rw (c.in-Ranges.is, ← c.bounds_of.ensures) c.range_longer.ensures

pub returns-in-Locations : goal.returns-in-Locations
returns-in-Locations c = rw c.in-Locations.is c.location_longer.ensures
