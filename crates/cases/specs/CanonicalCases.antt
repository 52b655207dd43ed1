-- The table's rows on coverage, sheets and canonical lists: the last worked example of docs/SCOPE.md, from a list's bytes, and
-- refusal 12's
-- example.
use Rattle.std.specs.Prelude.{◌≡◌, refl, [], ◌∷◌}
use Rattle.section_bytes.specs.Read.{gives, refused}
use Rattle.section_bytes.specs.Endianity.{little}
use Rattle.section_bytes.specs.Reader.{skip, uint, is_size, address}
use Rattle.section_bytes.specs.declared.common.Format.TheVariants.{Dwarf32}
use Rattle.section_bytes.specs.declared.endianity.RunTimeEndian.TheVariants.{Little, Big}
use Rattle.entries.specs.Kinds.{range_kinds, kind_of, coded, range_entry_by, raw_at}
use Rattle.lists.specs.Open.{opened}
use Rattle.lists.specs.Convert.{convert}
use Rattle.lists.specs.Walk.{trace_from, trace}
use Rattle.coverage.specs.Ranges.{insert, inserts}
use Rattle.coverage.specs.Covered.{Source, source, range_list, yielded_in, trace_of, yielded_of, coverage_of}
use Rattle.coverage.specs.Kept.{lawful_from}
use Rattle.section_bytes.specs.Written.{little_bytes, unsigned_in}
use Rattle.sheets.specs.Sheet.{address_bytes, sheet_bytes, addresses_in, is_sheet_within, sheet_ranges}
use Rattle.canonical.specs.Canonical.{entry_bytes, canonical_bytes, canonical_of}

-- ranges 0x20 to 0x30 and 0x10 to 0x20 of a list of address size 4
list : Source
list =
    record {
      section = 0x06 ∷ 0x20 ∷ 0 ∷ 0 ∷ 0 ∷ 0x30 ∷ 0 ∷ 0 ∷ 0 ∷ 0x06 ∷ 0x10 ∷ 0 ∷ 0 ∷ 0 ∷ 0x20 ∷ 0 ∷ 0 ∷ 0 ∷ 0 ∷ [];
      table = [];
      offset = 0;
      base_address = 0;
      table_base = record { 0 = 0 };
      encoding = record { address_size = 4; format = Dwarf32; version = 5 };
      endian = Little;
      holds = range_list;
    }

canonical : canonical_of list ≡ gives (0x07 ∷ 0x10 ∷ 0 ∷ 0 ∷ 0 ∷ 0 ∷ 0 ∷ 0 ∷ 0 ∷ 0x20 ∷ 0 ∷ [])
unfolding
    list canonical_of coverage_of yielded_of yielded_in trace_of opened trace trace_from convert raw_at range_entry_by coded kind_of range_kinds address uint skip is_size little
    inserts insert canonical_bytes entry_bytes little_bytes unsigned_in
canonical = refl

-- the same addresses by one range of a list of address size 3, in the other byte order
narrow : Source
narrow =
    source range_list (record { address_size = 3; format = Dwarf32; version = 5 }) Big (0x06 ∷ 0 ∷ 0 ∷ 0x10 ∷ 0 ∷ 0 ∷ 0x30 ∷ 0 ∷ []) 0 0 [] (record { 0 = 0 })

canonical_narrow : canonical_of narrow ≡ canonical_of list
unfolding
    list narrow canonical_of coverage_of yielded_of yielded_in trace_of opened trace trace_from convert raw_at range_entry_by coded kind_of range_kinds address uint skip is_size little
    inserts insert canonical_bytes entry_bytes little_bytes unsigned_in
canonical_narrow = refl

no_sheet : sheet_ranges (0x01 ∷ 0 ∷ 0x08 ∷ 0 ∷ []) ≡ refused 12 []
unfolding sheet_ranges is_sheet_within little
no_sheet = refl

sheet_back : sheet_ranges (sheet_bytes ((0x10, 0x30) ∷ (0x40, 0x50) ∷ [])) ≡ gives ((0x10, 0x30) ∷ (0x40, 0x50) ∷ [])
unfolding sheet_ranges is_sheet_within little sheet_bytes address_bytes little_bytes addresses_in lawful_from
sheet_back = refl
