-- Which lists are read, as the code has it, told as the definitions have it: whether they hold locations, and how their entries are
-- coded.
use Rattle.std.specs.Prelude.{Bool, true, false}
use Rattle.section_bytes.specs.Common.{is_split}
use Rattle.entries.specs.Numbers.{Coding, dwarf, numbers_of}
use Rattle.entries.specs.declared.Lists.{Lists}
use Rattle.entries.specs.declared.Lists.TheVariants.{Ranges, Locations}

abbrev pub are_locations : Lists → Bool
are_locations (Ranges kinds) = false
are_locations (Locations file) = true

abbrev pub coding_in : Lists → Coding
coding_in (Ranges kinds) = record { split = false; number = numbers_of kinds }
coding_in (Locations file) = dwarf (is_split file)
