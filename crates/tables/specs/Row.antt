-- Rows of a table by base and index: the base is passed over, then index rows, and the row is read (docs/SCOPE.md, "Headers and
-- tables").
use Rattle.std.specs.Prelude.{ℕ, ◌+◌, ◌*◌, ◌^◌, List, leb, Ok, Err}
use Rattle.std.specs.declared.result.Result.{Result as Answer}
use Rattle.section_bytes.specs.Read.{Result, gives, Read, read_then, pick}
use Rattle.section_bytes.specs.Error.{refusal}
use Rattle.section_bytes.specs.Common.{word_size}
use Rattle.section_bytes.specs.Reader.{skip, word}
use Rattle.section_bytes.specs.declared.common.Format.{Format}
use Rattle.section_bytes.specs.declared.common.DebugRngListsBase.{DebugRngListsBase}
use Rattle.section_bytes.specs.declared.common.DebugRngListsIndex.{DebugRngListsIndex}
use Rattle.section_bytes.specs.declared.common.DebugLocListsBase.{DebugLocListsBase}
use Rattle.section_bytes.specs.declared.common.DebugLocListsIndex.{DebugLocListsIndex}
use Rattle.section_bytes.specs.declared.common.RangeListsOffset.{RangeListsOffset}
use Rattle.section_bytes.specs.declared.common.LocationListsOffset.{LocationListsOffset}
use Rattle.section_bytes.specs.declared.error.Error.{Error}
use Rattle.section_bytes.specs.declared.endianity.RunTimeEndian.{RunTimeEndian}
use Rattle.section_bytes.specs.declared.error.Error.TheVariants.{UnsupportedOffset}

-- where the row of an index starts; a product at or above 2^64 is refused before the row is looked for
unfoldable pub row_at : ℕ → ℕ → ℕ → List ℕ → Read Unit
row_at base index width s =
    read_then (skip base s 0) (λ _ b. pick (leb (2 ^ 64) (index * width)) (refusal UnsupportedOffset) (skip (index * width) s b))

-- an offset counted from the base, counted from the section's start
abbrev pub from_base : ℕ → ℕ → Result ℕ
from_base base x = pick (leb (2 ^ 64) (base + x)) (refusal UnsupportedOffset) (gives (base + x))

unfoldable pub offset_at : RunTimeEndian → Format → ℕ → ℕ → List ℕ → Result ℕ
offset_at endian format base index s =
    read_then (row_at base index (word_size format) s) (λ _ c. read_then (word endian format s c) (λ x _. from_base base x))

-- the two sections' offsets are types of their own
abbrev pub told_range_offset : Answer RangeListsOffset Error → Result ℕ
told_range_offset (Ok x) = gives x.0
told_range_offset (Err e) = refusal e

abbrev pub range_offset : RunTimeEndian → Format → DebugRngListsBase → DebugRngListsIndex → List ℕ → Result ℕ
range_offset endian format base index s = offset_at endian format base.0 index.0 s

abbrev pub told_location_offset : Answer LocationListsOffset Error → Result ℕ
told_location_offset (Ok x) = gives x.0
told_location_offset (Err e) = refusal e

abbrev pub location_offset : RunTimeEndian → Format → DebugLocListsBase → DebugLocListsIndex → List ℕ → Result ℕ
location_offset endian format base index s = offset_at endian format base.0 index.0 s

abbrev pub range_base : ℕ → DebugRngListsBase
range_base x = record { 0 = x }

abbrev pub location_base : ℕ → DebugLocListsBase
location_base x = record { 0 = x }
