-- The calls over C that read with a walk: each with all that it is lent but the walk, and its answer, with the walk's words then, as its
-- contract has them. What marks promise of them (`Returns`, marks/specs/Returns.antt) is `words_return` in proofs/MarkLaws.antt.
use Rattle.std.specs.Prelude.{ℕ, List}
use Rattle.entries.specs.declared.RawRngListEntry.{RawRngListEntry}
use Rattle.entries.specs.declared.RawLocListEntry.{RawLocListEntry}
use Rattle.lists.specs.Walk.{next_range, noted_range, next_range_by, noted_range_by, next_location, noted_location}
use Rattle.marks.specs.Steps.{Reading}
use Rattle.ffi_words.specs.Common.{endian_in, encoding_of, Left}
use Rattle.ffi_words.specs.Entries.{RawTold, raw_range_next, raw_location_next, convert_range, convert_location}
use Rattle.ffi_words.specs.Locations.{location_next, location_outcome}
use Rattle.ffi_words.specs.Ranges.{range_next, range_outcome}
use Rattle.ffi_words.specs.Walks.{walk_in, split_in}
use Rattle.ffi_words.specs.declared.common.YzEncoding.{YzEncoding}
use Rattle.ffi_words.specs.declared.locations.YzLocation.{YzLocation}
use Rattle.ffi_words.specs.declared.locations.YzLocationEntry.{YzLocationEntry}
use Rattle.ffi_words.specs.declared.ranges.YzRange.{YzRange}
use Rattle.ffi_words.specs.declared.ranges.YzRangeEntry.{YzRangeEntry}
use Rattle.ffi_marks.specs.Marks.{Held, held, held_out}

-- by section, address table, its base, encoding, table of kind numbers and entry
pub data Call : Type 0 where
  range_next_plain : List ℕ → List ℕ → ℕ → YzEncoding → Call
  range_next_raw : List ℕ → YzEncoding → Call
  range_next_by : List ℕ → List ℕ → ℕ → YzEncoding → List ℕ → Call
  range_next_raw_by : List ℕ → YzEncoding → List ℕ → Call
  range_convert_raw : List ℕ → ℕ → YzEncoding → YzRangeEntry → Call
  location_next_plain : List ℕ → List ℕ → ℕ → YzEncoding → Call
  location_next_raw : List ℕ → YzEncoding → Call
  location_convert_raw : List ℕ → ℕ → YzEncoding → YzLocationEntry → Call

pub data Answer : Type 0 where
  range : Left YzRange → Answer
  raw_range : Left (RawTold RawRngListEntry) → Answer
  location : Left YzLocation → Answer
  raw_location : Left (RawTold RawLocListEntry) → Answer

-- to the walk in its words
abbrev pub answered : Call → List ℕ → Answer
answered (range_next_plain s table tableBase e) ws =
    range (range_next ws (next_range (encoding_of e) (endian_in e) s table (record { 0 = tableBase }) (walk_in ws)))
answered (range_next_raw s e) ws = raw_range (raw_range_next ws (noted_range (encoding_of e) (endian_in e) s (walk_in ws)))
answered (range_next_by s table tableBase e kinds) ws =
    range (range_next ws (next_range_by kinds (encoding_of e) (endian_in e) s table (record { 0 = tableBase }) (walk_in ws)))
answered (range_next_raw_by s e kinds) ws = raw_range (raw_range_next ws (noted_range_by kinds (encoding_of e) (endian_in e) s (walk_in ws)))
answered (range_convert_raw table tableBase e x) ws =
    range (range_outcome ws (convert_range (encoding_of e) (endian_in e) table (record { 0 = tableBase }) (walk_in ws) x))
answered (location_next_plain s table tableBase e) ws =
    location (location_next ws (next_location (split_in ws) (encoding_of e) (endian_in e) s table (record { 0 = tableBase }) (walk_in ws)))
answered (location_next_raw s e) ws =
    raw_location (raw_location_next ws (noted_location (split_in ws) (encoding_of e) (endian_in e) s (walk_in ws)))
answered (location_convert_raw table tableBase e x) ws =
    location (location_outcome ws (convert_location (encoding_of e) (endian_in e) table (record { 0 = tableBase }) (walk_in ws) x))

abbrev pub left_in : Answer → List ℕ
left_in (range l) = l.lent
left_in (raw_range l) = l.lent
left_in (location l) = l.lent
left_in (raw_location l) = l.lent

abbrev pub exported : Reading Held
exported = record { Call = Call; Answer = Answer; answer = λ c h. answered c (held_out h); left = λ a. held (left_in a) }
