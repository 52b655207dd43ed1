use Prim.Native.Nat.{◌-◌}
use mathlib.Core.Bool.{true}
use mathlib.Core.Path.{◌≡◌}
use lib.ListN.{length}
use Rattle.std.specs.Prelude.{Ok}
use Rattle.section_bytes.specs.Common.{is_split}
use Rattle.entries.specs.Numbers.{dwarf}
use Rattle.lookups.specs.Lookup.{told_location_found, lookup_location_from}
use Rattle.lookups.proofs.SeekLaws.{left, does}
use Rattle.lookups.proofs.location_from.Given as goal

abbrev pub invariant-loop-stepped : goal.invariant-loop-stepped
invariant-loop-stepped l = let u = l.unit in let split = is_split l.fn.file_type in
    lookup_location_from split u.encoding u.endian l.section u.debug_addr.now u.debug_addr_base l.address l.fn.start
    ≡ left l.address (told_location_found (Ok l.kept)) (does true (dwarf split) l.section u l.at l.base_address l.fn.start.entries)

abbrev pub decreases-loop-stepped : goal.decreases-loop-stepped
decreases-loop-stepped l = length l.section - l.at
