-- LEB128 numbers with their lengths, and raw entries with their padding (docs/SCOPE.md).
use Rattle.std.specs.Prelude.{◌≡◌, refl, Bool, true, false, List, [], ◌∷◌, ◌++◌, map, ℕ, zero, suc, ◌-◌, ◌^◌, replicate}
use Rattle.section_bytes.specs.Read.{Result, gives, refused, got, Read}
use Rattle.section_bytes.specs.Endianity.{little}
use Rattle.section_bytes.specs.Leb128.{unsigned_from, unsigned}
use Rattle.section_bytes.specs.Padded.{is_padded, number_at}
use Rattle.section_bytes.specs.Reader.{skip, uint, split, is_size, address}
use Rattle.section_bytes.specs.Written.{unsigned_in}
use Rattle.section_bytes.specs.declared.common.Encoding.{Encoding}
use Rattle.section_bytes.specs.declared.endianity.RunTimeEndian.{RunTimeEndian}
use Rattle.section_bytes.specs.declared.endianity.RunTimeEndian.TheVariants.{Little, Big}
use Rattle.section_bytes.specs.declared.leb128.Number.{Number}
use Rattle.tables.specs.Next.{Next, ends, hands}
use Rattle.entries.specs.Forms.{addr_index, versioned_length, block}
use Rattle.entries.specs.Kinds.{range_kinds, location_kinds, kind_of, coded, of_pair, bare, range_entry_by, location_entry, raw_at, raw_range, raw_location}
use Rattle.entries.specs.Padded.{Noted, coded_padded, range_part, location_part, range_padded, location_padded, noted}
use Rattle.entries.specs.Told.{Step, found, ended, step_of}
use Rattle.entries.specs.declared.RawRngListEntry.{RawRngListEntry}
use Rattle.entries.specs.declared.RawRngListEntry.TheVariants.{
  AddressOrOffsetPair,
  BaseAddress,
  BaseAddressx,
  StartxEndx,
  StartxLength,
  OffsetPair,
  StartEnd,
  StartLength,
}
use Rattle.entries.specs.declared.RawLocListEntry.{RawLocListEntry}
use Rattle.entries.specs.declared.RawLocListEntry.TheVariants as loc
use Rattle.lists.specs.Counted.{left_by}
use Rattle.lists.specs.Open.{walk_at, one_more}
use Rattle.lists.specs.Walk.{next_raw, noted_range, noted_location}
use Rattle.lists.specs.declared.Walk.{Walk}
use Rattle.cases.specs.Cases.{enc, expression}

number : List ℕ → ℕ → Read Number
unfolding number_at is_padded unsigned unsigned_from unsigned_in
number s at = number_at s at

-- at the front of each of these
abbrev numbers : List (List ℕ) → List (Read Number)
numbers ss = map (λ s. number s 0) ss

-- its value, length and padding, and the place after it
abbrev reads : ℕ → ℕ → Bool → ℕ → Read Number
reads v len padded c = gives (got (record { value = v; len = len; padded = padded }) c)

-- so many times a byte, then others
abbrev run : ℕ → ℕ → List ℕ → List ℕ
run n b bs = replicate n b ++ bs

shortest : numbers ((0x00 ∷ []) ∷ (0x7f ∷ []) ∷ (0x80 ∷ 0x01 ∷ []) ∷ (0xff ∷ 0x7f ∷ []) ∷ (0x80 ∷ 0x80 ∷ 0x01 ∷ []) ∷ [])
    ≡ reads 0 1 false 1 ∷ reads 0x7f 1 false 1 ∷ reads 0x80 2 false 2 ∷ reads 0x3fff 2 false 2 ∷ reads 0x4000 3 false 3 ∷ []
unfolding number
shortest = refl

-- a last byte 00 that is not the only one
longer : numbers ((0x80 ∷ 0x00 ∷ []) ∷ (0x82 ∷ 0x00 ∷ []) ∷ (0xff ∷ 0x00 ∷ []) ∷ (0x81 ∷ 0x80 ∷ 0x00 ∷ []) ∷ (0x80 ∷ 0x81 ∷ 0x00 ∷ []) ∷ [])
    ≡ reads 0 2 true 2 ∷ reads 2 2 true 2 ∷ reads 0x7f 2 true 2 ∷ reads 1 3 true 3 ∷ reads 0x80 3 true 3 ∷ []
unfolding number
longer = refl

-- 2^63 and 2^64 - 1 need ten bytes
ten_bytes : numbers ((run 9 0x80 (0x01 ∷ [])) ∷ (run 9 0xff (0x01 ∷ [])) ∷ (run 9 0x80 (0x00 ∷ [])) ∷ (run 9 0xff (0x00 ∷ [])) ∷ (run 8 0xff (0x7f ∷ [])) ∷ [])
    ≡ reads (2 ^ 63) 10 false 10 ∷ reads (2 ^ 64 - 1) 10 false 10 ∷ reads 0 10 true 10 ∷ reads (2 ^ 63 - 1) 10 true 10 ∷ reads (2 ^ 63 - 1) 9 false 9 ∷ []
unfolding number
ten_bytes = refl

no_number : numbers ((run 9 0x80 (0x02 ∷ [])) ∷ (run 9 0x80 []) ∷ (0x80 ∷ []) ∷ [] ∷ [])
    ≡ refused 2 [] ∷ refused 1 [] ∷ refused 1 [] ∷ refused 1 [] ∷ []
unfolding number
no_number = refl

-- at a place: the bytes that were taken count, and none before or behind them
at_places : map (number (0x80 ∷ 0x80 ∷ 0x00 ∷ 0x00 ∷ [])) (0 ∷ 1 ∷ 2 ∷ 3 ∷ 4 ∷ [])
    ≡ reads 0 3 true 3 ∷ reads 0 2 true 3 ∷ reads 0 1 false 3 ∷ reads 0 1 false 4 ∷ refused 1 [] ∷ []
unfolding number
at_places = refl

-- calls of a walk from a list's front on
range_calls : RunTimeEndian → Encoding → List ℕ → ℕ → Walk → List (Next (Noted RawRngListEntry) Walk)
unfolding
    next_raw one_more range_entry_by raw_at coded bare of_pair kind_of range_kinds range_part coded_padded number_at is_padded address skip uint is_size little unsigned unsigned_from unsigned_in
range_calls endian encoding s zero w = []
range_calls endian encoding s (suc n) w = let r = noted_range encoding endian s w in r ∷ range_calls endian encoding s n (left_by r)

-- so many of them, by byte order, version, address size and bytes
abbrev ranges_in : RunTimeEndian → ℕ → ℕ → ℕ → List ℕ → List (Next (Noted RawRngListEntry) Walk)
ranges_in endian version size n s = range_calls endian (enc version size) s n (walk_at 0 0 0)

abbrev ranges : ℕ → List ℕ → List (Next (Noted RawRngListEntry) Walk)
ranges n s = ranges_in Little 5 4 n s

-- what a call gives: an entry with its padding, the end, a refusal; each with the walk's place and the entries that were read
abbrev entry : {E : Type 0} → E → Bool → ℕ → ℕ → Next (Noted E) Walk
entry e padded at n = hands (gives (record { entry = e; padded = padded })) (walk_at at 0 n)

abbrev end : {E : Type 0} → ℕ → ℕ → Next (Noted E) Walk
end at n = ends (walk_at at 0 n)

abbrev fails : {E : Type 0} → ℕ → List ℕ → ℕ → ℕ → Next (Noted E) Walk
fails k vs at n = hands (refused k vs) (walk_at at 0 n)

-- the examples
second_number : ranges 2 (0x04 ∷ 0x01 ∷ 0x82 ∷ 0x00 ∷ 0x00 ∷ []) ≡ entry (OffsetPair 1 2) true 4 1 ∷ end 5 2 ∷ []
unfolding range_calls
second_number = refl

plain : ranges 2 (0x04 ∷ 0x01 ∷ 0x02 ∷ 0x00 ∷ []) ≡ entry (OffsetPair 1 2) false 3 1 ∷ end 4 2 ∷ []
unfolding range_calls
plain = refl

base_index : ranges 2 (0x01 ∷ 0x80 ∷ 0x00 ∷ 0x00 ∷ []) ≡ entry (BaseAddressx (addr_index 0)) true 3 1 ∷ end 4 2 ∷ []
unfolding range_calls
base_index = refl

start_length : ranges 2 (0x07 ∷ 0x10 ∷ 0x00 ∷ 0x00 ∷ 0x00 ∷ 0x90 ∷ 0x00 ∷ 0x00 ∷ []) ≡ entry (StartLength 0x10 0x10) true 7 1 ∷ end 8 2 ∷ []
unfolding range_calls
start_length = refl

start_end : ranges 2 (0x06 ∷ 0x10 ∷ 0x00 ∷ 0x00 ∷ 0x00 ∷ 0x20 ∷ 0x00 ∷ 0x00 ∷ 0x00 ∷ 0x00 ∷ []) ≡ entry (StartEnd 0x10 0x20) false 9 1 ∷ end 10 2 ∷ []
unfolding range_calls
start_end = refl

refused_behind : ranges 2 (0x04 ∷ 0x80 ∷ 0x00 ∷ []) ≡ fails 1 [] 3 0 ∷ end 3 0 ∷ []
unfolding range_calls
refused_behind = refl

bare_pair : ranges_in Little 4 2 2 (0x01 ∷ 0x00 ∷ 0x02 ∷ 0x00 ∷ 0x00 ∷ 0x00 ∷ 0x00 ∷ 0x00 ∷ [])
    ≡ entry (AddressOrOffsetPair 1 2) false 4 1 ∷ end 8 2 ∷ []
unfolding range_calls
bare_pair = refl

-- each kind plain, with its first number padded, its second, both
kind_1 : ranges 2 (0x01 ∷ 0x00 ∷ 0x01 ∷ 0x80 ∷ 0x00 ∷ [])
    ≡ entry (BaseAddressx (addr_index 0)) false 2 1 ∷ entry (BaseAddressx (addr_index 0)) true 5 2 ∷ []
unfolding range_calls
kind_1 = refl

kind_2 : ranges 4 (0x02 ∷ 0x00 ∷ 0x01 ∷ 0x02 ∷ 0x80 ∷ 0x00 ∷ 0x01 ∷ 0x02 ∷ 0x00 ∷ 0x81 ∷ 0x00 ∷ 0x02 ∷ 0x80 ∷ 0x00 ∷ 0x81 ∷ 0x00 ∷ [])
    ≡ entry (StartxEndx (addr_index 0) (addr_index 1)) false 3 1 ∷ entry (StartxEndx (addr_index 0) (addr_index 1)) true 7 2
    ∷ entry (StartxEndx (addr_index 0) (addr_index 1)) true 11 3 ∷ entry (StartxEndx (addr_index 0) (addr_index 1)) true 16 4 ∷ []
unfolding range_calls
kind_2 = refl

kind_3 : ranges 4 (0x03 ∷ 0x00 ∷ 0x08 ∷ 0x03 ∷ 0x80 ∷ 0x00 ∷ 0x08 ∷ 0x03 ∷ 0x00 ∷ 0x88 ∷ 0x00 ∷ 0x03 ∷ 0x80 ∷ 0x00 ∷ 0x88 ∷ 0x00 ∷ [])
    ≡ entry (StartxLength (addr_index 0) 8) false 3 1 ∷ entry (StartxLength (addr_index 0) 8) true 7 2 ∷ entry (StartxLength (addr_index 0) 8) true 11 3
    ∷ entry (StartxLength (addr_index 0) 8) true 16 4 ∷ []
unfolding range_calls
kind_3 = refl

kind_4 : ranges 4 (0x04 ∷ 0x01 ∷ 0x02 ∷ 0x04 ∷ 0x81 ∷ 0x00 ∷ 0x02 ∷ 0x04 ∷ 0x01 ∷ 0x82 ∷ 0x00 ∷ 0x04 ∷ 0x81 ∷ 0x00 ∷ 0x82 ∷ 0x00 ∷ [])
    ≡ entry (OffsetPair 1 2) false 3 1 ∷ entry (OffsetPair 1 2) true 7 2 ∷ entry (OffsetPair 1 2) true 11 3 ∷ entry (OffsetPair 1 2) true 16 4 ∷ []
unfolding range_calls
kind_4 = refl

-- addresses whose bytes would be padded numbers; the end mark, with such bytes behind it
kinds_5_and_6 : ranges 3 (0x05 ∷ 0x80 ∷ 0x00 ∷ 0x80 ∷ 0x00 ∷ 0x06 ∷ 0x80 ∷ 0x00 ∷ 0x80 ∷ 0x00 ∷ 0x80 ∷ 0x00 ∷ 0x80 ∷ 0x00 ∷ 0x00 ∷ 0x80 ∷ 0x00 ∷ [])
    ≡ entry (BaseAddress 0x800080) false 5 1 ∷ entry (StartEnd 0x800080 0x800080) false 14 2 ∷ end 17 3 ∷ []
unfolding range_calls
kinds_5_and_6 = refl

kind_7 : ranges 3 (0x07 ∷ 0x80 ∷ 0x00 ∷ 0x80 ∷ 0x00 ∷ 0x10 ∷ 0x07 ∷ 0x10 ∷ 0x00 ∷ 0x00 ∷ 0x00 ∷ 0x90 ∷ 0x00 ∷ [])
    ≡ entry (StartLength 0x800080 0x10) false 6 1 ∷ entry (StartLength 0x10 0x10) true 13 2 ∷ end 13 2 ∷ []
unfolding range_calls
kind_7 = refl

-- numbers that need more bytes than one, plain and padded
two_bytes : ranges 5 (0x02 ∷ 0x80 ∷ 0x01 ∷ 0xff ∷ 0x7f ∷ 0x03 ∷ 0x80 ∷ 0x01 ∷ 0xff ∷ 0x7f ∷ 0x04 ∷ 0x80 ∷ 0x01 ∷ 0xff ∷ 0x7f ∷ 0x07 ∷ 0x10 ∷ 0x00 ∷ 0x00 ∷ 0x00 ∷ 0x80 ∷ 0x01 ∷ 0x01 ∷ 0x80 ∷ 0x01 ∷ [])
    ≡ entry (StartxEndx (addr_index 0x80) (addr_index 0x3fff)) false 5 1 ∷ entry (StartxLength (addr_index 0x80) 0x3fff) false 10 2
    ∷ entry (OffsetPair 0x80 0x3fff) false 15 3 ∷ entry (StartLength 0x10 0x80) false 22 4 ∷ entry (BaseAddressx (addr_index 0x80)) false 25 5 ∷ []
unfolding range_calls
two_bytes = refl

three_bytes : ranges 5 (0x02 ∷ 0x80 ∷ 0x01 ∷ 0x81 ∷ 0x80 ∷ 0x00 ∷ 0x03 ∷ 0x80 ∷ 0x80 ∷ 0x00 ∷ 0x80 ∷ 0x02 ∷ 0x04 ∷ 0xff ∷ 0x00 ∷ 0xff ∷ 0xff ∷ 0x00 ∷ 0x07 ∷ 0x10 ∷ 0x00 ∷ 0x00 ∷ 0x00 ∷ 0x80 ∷ 0x81 ∷ 0x00 ∷ 0x01 ∷ 0xff ∷ 0x00 ∷ [])
    ≡ entry (StartxEndx (addr_index 0x80) (addr_index 1)) true 6 1 ∷ entry (StartxLength (addr_index 0) 0x100) true 12 2
    ∷ entry (OffsetPair 0x7f 0x3fff) true 18 3 ∷ entry (StartLength 0x10 0x80) true 26 4 ∷ entry (BaseAddressx (addr_index 0x7f)) true 29 5 ∷ []
unfolding range_calls
three_bytes = refl

ten_byte_indexes : ranges 2 (0x01 ∷ run 9 0x80 (0x01 ∷ 0x01 ∷ run 9 0x80 (0x00 ∷ [])))
    ≡ entry (BaseAddressx (addr_index (2 ^ 63))) false 11 1 ∷ entry (BaseAddressx (addr_index 0)) true 22 2 ∷ []
unfolding range_calls
ten_byte_indexes = refl

size_3 : ranges_in Little 5 3 3 (0x07 ∷ 0x10 ∷ 0x80 ∷ 0x00 ∷ 0x10 ∷ 0x07 ∷ 0x10 ∷ 0x80 ∷ 0x00 ∷ 0x90 ∷ 0x00 ∷ [])
    ≡ entry (StartLength 0x8010 0x10) false 5 1 ∷ entry (StartLength 0x8010 0x10) true 11 2 ∷ end 11 2 ∷ []
unfolding range_calls
size_3 = refl

size_8 : ranges_in Little 5 8 3 (0x07 ∷ 0x10 ∷ 0x00 ∷ 0x00 ∷ 0x00 ∷ 0x00 ∷ 0x00 ∷ 0x80 ∷ 0x00 ∷ 0x10 ∷ 0x07 ∷ 0x10 ∷ 0x00 ∷ 0x00 ∷ 0x00 ∷ 0x00 ∷ 0x00 ∷ 0x00 ∷ 0x00 ∷ 0x90 ∷ 0x00 ∷ [])
    ≡ entry (StartLength 0x80000000000010 0x10) false 10 1 ∷ entry (StartLength 0x10 0x10) true 21 2 ∷ end 21 2 ∷ []
unfolding range_calls
size_8 = refl

big_endian : ranges_in Big 5 4 2 (0x07 ∷ 0x00 ∷ 0x00 ∷ 0x80 ∷ 0x00 ∷ 0x10 ∷ 0x07 ∷ 0x00 ∷ 0x00 ∷ 0x00 ∷ 0x10 ∷ 0x90 ∷ 0x00 ∷ [])
    ≡ entry (StartLength 0x8000 0x10) false 6 1 ∷ entry (StartLength 0x10 0x10) true 13 2 ∷ []
unfolding range_calls
big_endian = refl

-- version 6 is read as 5; a bare pair, a base and the end pair, whose first bytes would be an index
version_6 : ranges_in Little 6 4 2 (0x04 ∷ 0x01 ∷ 0x02 ∷ 0x04 ∷ 0x01 ∷ 0x82 ∷ 0x00 ∷ [])
    ≡ entry (OffsetPair 1 2) false 3 1 ∷ entry (OffsetPair 1 2) true 7 2 ∷ []
unfolding range_calls
version_6 = refl

bare_pairs : ranges_in Little 4 2 3 (0x01 ∷ 0x80 ∷ 0x00 ∷ 0x90 ∷ 0xff ∷ 0xff ∷ 0x80 ∷ 0x00 ∷ 0x00 ∷ 0x00 ∷ 0x00 ∷ 0x00 ∷ [])
    ≡ entry (AddressOrOffsetPair 0x8001 0x9000) false 4 1 ∷ entry (BaseAddress 0x80) false 8 2 ∷ end 12 3 ∷ []
unfolding range_calls
bare_pairs = refl

-- no entry, no flag: a refusal behind a padded number, an unknown kind, size 5
ten_bytes_behind : ranges 2 (0x04 ∷ 0x80 ∷ 0x00 ∷ run 9 0x80 (0x02 ∷ [])) ≡ fails 2 [] 13 0 ∷ end 13 0 ∷ []
unfolding range_calls
ten_bytes_behind = refl

unknown_kind : ranges 2 (0x08 ∷ 0x80 ∷ 0x00 ∷ []) ≡ fails 3 (0x08 ∷ []) 3 0 ∷ end 3 0 ∷ []
unfolding range_calls
unknown_kind = refl

size_5 : ranges_in Little 5 5 2 (0x01 ∷ 0x80 ∷ 0x00 ∷ []) ≡ fails 6 (5 ∷ []) 3 0 ∷ fails 6 (5 ∷ []) 3 0 ∷ []
unfolding range_calls
size_5 = refl

-- the raw reader, at a place
range_at : ℕ → List ℕ → ℕ → Result (Step (Noted RawRngListEntry))
unfolding range_calls
range_at size s at = noted (range_padded (enc 5 size) Little s at) (step_of (raw_range (enc 5 size) Little s at))

abbrev one : {E : Type 0} → E → Bool → ℕ → Result (Step (Noted E))
one e padded c = gives (found (record { entry = e; padded = padded }) c)

ranges_at : map (range_at 4 (0x04 ∷ 0x01 ∷ 0x02 ∷ 0x04 ∷ 0x81 ∷ 0x00 ∷ 0x02 ∷ 0x04 ∷ 0x81 ∷ 0x00 ∷ [])) (0 ∷ 3 ∷ 7 ∷ 10 ∷ [])
    ≡ one (OffsetPair 1 2) false 3 ∷ one (OffsetPair 1 2) true 7 ∷ refused 1 [] ∷ gives ended ∷ []
unfolding range_at
ranges_at = refl

-- a kind without an address is read at size 5 as well
index_of_size_5 : range_at 5 (0x01 ∷ 0x80 ∷ 0x00 ∷ []) 0 ≡ one (BaseAddressx (addr_index 0)) true 3
unfolding range_at
index_of_size_5 = refl

address_of_size_5 : range_at 5 (0x07 ∷ 0x10 ∷ 0x00 ∷ 0x00 ∷ 0x00 ∷ 0x00 ∷ 0x90 ∷ 0x00 ∷ []) 0 ≡ refused 6 (5 ∷ [])
unfolding range_at
address_of_size_5 = refl

-- the same of location lists, split or not
location_calls : Bool → RunTimeEndian → Encoding → List ℕ → ℕ → Walk → List (Next (Noted RawLocListEntry) Walk)
unfolding
    next_raw one_more location_entry raw_at coded bare of_pair kind_of location_kinds versioned_length block split location_part coded_padded number_at is_padded address skip uint is_size little unsigned unsigned_from
    unsigned_in
location_calls dwo endian encoding s zero w = []
location_calls dwo endian encoding s (suc n) w = let r = noted_location dwo encoding endian s w in r ∷ location_calls dwo endian encoding s n (left_by r)

abbrev locations_in : Bool → RunTimeEndian → ℕ → ℕ → ℕ → List ℕ → List (Next (Noted RawLocListEntry) Walk)
locations_in dwo endian version size n s = location_calls dwo endian (enc version size) s n (walk_at 0 0 0)

abbrev locations : ℕ → List ℕ → List (Next (Noted RawLocListEntry) Walk)
locations n s = locations_in false Little 5 4 n s

abbrev splits : ℕ → List ℕ → List (Next (Noted RawLocListEntry) Walk)
splits n s = locations_in true Little 4 4 n s

location_at : Bool → ℕ → List ℕ → ℕ → Result (Step (Noted RawLocListEntry))
unfolding location_calls
location_at dwo version s at = noted (location_padded dwo (enc version 4) Little s at) (step_of (raw_location dwo (enc version 4) Little s at))

-- the examples
expression_length : locations 2 (0x05 ∷ 0x81 ∷ 0x00 ∷ 0x50 ∷ 0x00 ∷ []) ≡ entry (loc.DefaultLocation (expression 3 1)) true 4 1 ∷ end 5 2 ∷ []
unfolding location_calls
expression_length = refl

expression_plain : locations 2 (0x05 ∷ 0x01 ∷ 0x50 ∷ 0x00 ∷ []) ≡ entry (loc.DefaultLocation (expression 2 1)) false 3 1 ∷ end 4 2 ∷ []
unfolding location_calls
expression_plain = refl

split_plain : splits 2 (0x03 ∷ 0x00 ∷ 0x08 ∷ 0x00 ∷ 0x00 ∷ 0x00 ∷ 0x01 ∷ 0x00 ∷ 0x50 ∷ 0x00 ∷ [])
    ≡ entry (loc.StartxLength (addr_index 0) 8 (expression 8 1)) false 9 1 ∷ end 10 2 ∷ []
unfolding location_calls
split_plain = refl

split_index : splits 2 (0x03 ∷ 0x80 ∷ 0x00 ∷ 0x08 ∷ 0x00 ∷ 0x00 ∷ 0x00 ∷ 0x01 ∷ 0x00 ∷ 0x50 ∷ 0x00 ∷ [])
    ≡ entry (loc.StartxLength (addr_index 0) 8 (expression 9 1)) true 10 1 ∷ end 11 2 ∷ []
unfolding location_calls
split_index = refl

split_numbers : splits 2 (0x04 ∷ 0x81 ∷ 0x00 ∷ 0x82 ∷ 0x00 ∷ 0x01 ∷ 0x00 ∷ 0x50 ∷ 0x00 ∷ [])
    ≡ entry (loc.OffsetPair 1 2 (expression 7 1)) true 8 1 ∷ end 9 2 ∷ []
unfolding location_calls
split_numbers = refl

-- each kind plain, then with each of its numbers padded, the length of its expression last
location_1 : locations 2 (0x01 ∷ 0x00 ∷ 0x01 ∷ 0x80 ∷ 0x00 ∷ [])
    ≡ entry (loc.BaseAddressx (addr_index 0)) false 2 1 ∷ entry (loc.BaseAddressx (addr_index 0)) true 5 2 ∷ []
unfolding location_calls
location_1 = refl

location_2 : locations 4 (0x02 ∷ 0x00 ∷ 0x01 ∷ 0x01 ∷ 0x50 ∷ 0x02 ∷ 0x80 ∷ 0x00 ∷ 0x01 ∷ 0x01 ∷ 0x50 ∷ 0x02 ∷ 0x00 ∷ 0x81 ∷ 0x00 ∷ 0x01 ∷ 0x50 ∷ 0x02 ∷ 0x00 ∷ 0x01 ∷ 0x81 ∷ 0x00 ∷ 0x50 ∷ [])
    ≡ entry (loc.StartxEndx (addr_index 0) (addr_index 1) (expression 4 1)) false 5 1
    ∷ entry (loc.StartxEndx (addr_index 0) (addr_index 1) (expression 10 1)) true 11 2
    ∷ entry (loc.StartxEndx (addr_index 0) (addr_index 1) (expression 16 1)) true 17 3
    ∷ entry (loc.StartxEndx (addr_index 0) (addr_index 1) (expression 22 1)) true 23 4 ∷ []
unfolding location_calls
location_2 = refl

location_3 : locations 4 (0x03 ∷ 0x00 ∷ 0x08 ∷ 0x01 ∷ 0x50 ∷ 0x03 ∷ 0x80 ∷ 0x00 ∷ 0x08 ∷ 0x01 ∷ 0x50 ∷ 0x03 ∷ 0x00 ∷ 0x88 ∷ 0x00 ∷ 0x01 ∷ 0x50 ∷ 0x03 ∷ 0x00 ∷ 0x08 ∷ 0x81 ∷ 0x00 ∷ 0x50 ∷ [])
    ≡ entry (loc.StartxLength (addr_index 0) 8 (expression 4 1)) false 5 1 ∷ entry (loc.StartxLength (addr_index 0) 8 (expression 10 1)) true 11 2
    ∷ entry (loc.StartxLength (addr_index 0) 8 (expression 16 1)) true 17 3 ∷ entry (loc.StartxLength (addr_index 0) 8 (expression 22 1)) true 23 4 ∷ []
unfolding location_calls
location_3 = refl

location_4 : locations 4 (0x04 ∷ 0x01 ∷ 0x02 ∷ 0x01 ∷ 0x50 ∷ 0x04 ∷ 0x81 ∷ 0x00 ∷ 0x02 ∷ 0x01 ∷ 0x50 ∷ 0x04 ∷ 0x01 ∷ 0x82 ∷ 0x00 ∷ 0x01 ∷ 0x50 ∷ 0x04 ∷ 0x01 ∷ 0x02 ∷ 0x81 ∷ 0x00 ∷ 0x50 ∷ [])
    ≡ entry (loc.OffsetPair 1 2 (expression 4 1)) false 5 1 ∷ entry (loc.OffsetPair 1 2 (expression 10 1)) true 11 2
    ∷ entry (loc.OffsetPair 1 2 (expression 16 1)) true 17 3 ∷ entry (loc.OffsetPair 1 2 (expression 22 1)) true 23 4 ∷ []
unfolding location_calls
location_4 = refl

-- an empty expression behind a padded length; an expression whose bytes would be a padded number
location_5 : locations 2 (0x05 ∷ 0x80 ∷ 0x00 ∷ 0x05 ∷ 0x02 ∷ 0x80 ∷ 0x00 ∷ [])
    ≡ entry (loc.DefaultLocation (expression 3 0)) true 3 1 ∷ entry (loc.DefaultLocation (expression 5 2)) false 7 2 ∷ []
unfolding location_calls
location_5 = refl

locations_6_and_7 : locations 3 (0x06 ∷ 0x80 ∷ 0x00 ∷ 0x80 ∷ 0x00 ∷ 0x07 ∷ 0x80 ∷ 0x00 ∷ 0x80 ∷ 0x00 ∷ 0x80 ∷ 0x00 ∷ 0x80 ∷ 0x00 ∷ 0x01 ∷ 0x50 ∷ 0x07 ∷ 0x10 ∷ 0x00 ∷ 0x00 ∷ 0x00 ∷ 0x20 ∷ 0x00 ∷ 0x00 ∷ 0x00 ∷ 0x81 ∷ 0x00 ∷ 0x50 ∷ [])
    ≡ entry (loc.BaseAddress 0x800080) false 5 1 ∷ entry (loc.StartEnd 0x800080 0x800080 (expression 15 1)) false 16 2
    ∷ entry (loc.StartEnd 0x10 0x20 (expression 27 1)) true 28 3 ∷ []
unfolding location_calls
locations_6_and_7 = refl

location_8 : locations 3 (0x08 ∷ 0x80 ∷ 0x00 ∷ 0x80 ∷ 0x00 ∷ 0x10 ∷ 0x01 ∷ 0x50 ∷ 0x08 ∷ 0x10 ∷ 0x00 ∷ 0x00 ∷ 0x00 ∷ 0x90 ∷ 0x00 ∷ 0x01 ∷ 0x50 ∷ 0x08 ∷ 0x10 ∷ 0x00 ∷ 0x00 ∷ 0x00 ∷ 0x10 ∷ 0x81 ∷ 0x00 ∷ 0x50 ∷ [])
    ≡ entry (loc.StartLength 0x800080 0x10 (expression 7 1)) false 8 1 ∷ entry (loc.StartLength 0x10 0x10 (expression 16 1)) true 17 2
    ∷ entry (loc.StartLength 0x10 0x10 (expression 25 1)) true 26 3 ∷ []
unfolding location_calls
location_8 = refl

two_bytes_located : locations 5 (0x02 ∷ 0x80 ∷ 0x01 ∷ 0xff ∷ 0x7f ∷ 0x01 ∷ 0x50 ∷ 0x03 ∷ 0x80 ∷ 0x01 ∷ 0xff ∷ 0x7f ∷ 0x01 ∷ 0x50 ∷ 0x04 ∷ 0x80 ∷ 0x01 ∷ 0xff ∷ 0x7f ∷ 0x01 ∷ 0x50 ∷ 0x08 ∷ 0x10 ∷ 0x00 ∷ 0x00 ∷ 0x00 ∷ 0x80 ∷ 0x01 ∷ 0x01 ∷ 0x50 ∷ 0x01 ∷ 0x80 ∷ 0x01 ∷ [])
    ≡ entry (loc.StartxEndx (addr_index 0x80) (addr_index 0x3fff) (expression 6 1)) false 7 1
    ∷ entry (loc.StartxLength (addr_index 0x80) 0x3fff (expression 13 1)) false 14 2 ∷ entry (loc.OffsetPair 0x80 0x3fff (expression 20 1)) false 21 3
    ∷ entry (loc.StartLength 0x10 0x80 (expression 29 1)) false 30 4 ∷ entry (loc.BaseAddressx (addr_index 0x80)) false 33 5 ∷ []
unfolding location_calls
two_bytes_located = refl

three_bytes_located : locations 5 (0x02 ∷ 0x80 ∷ 0x01 ∷ 0x80 ∷ 0x80 ∷ 0x00 ∷ 0x00 ∷ 0x03 ∷ 0x80 ∷ 0x80 ∷ 0x00 ∷ 0x80 ∷ 0x02 ∷ 0x00 ∷ 0x04 ∷ 0x80 ∷ 0x01 ∷ 0x80 ∷ 0x02 ∷ 0x81 ∷ 0x00 ∷ 0x50 ∷ 0x08 ∷ 0x10 ∷ 0x00 ∷ 0x00 ∷ 0x00 ∷ 0x80 ∷ 0x81 ∷ 0x00 ∷ 0x00 ∷ 0x01 ∷ 0xff ∷ 0x00 ∷ [])
    ≡ entry (loc.StartxEndx (addr_index 0x80) (addr_index 0) (expression 7 0)) true 7 1
    ∷ entry (loc.StartxLength (addr_index 0) 0x100 (expression 14 0)) true 14 2 ∷ entry (loc.OffsetPair 0x80 0x100 (expression 21 1)) true 22 3
    ∷ entry (loc.StartLength 0x10 0x80 (expression 31 0)) true 31 4 ∷ entry (loc.BaseAddressx (addr_index 0x7f)) true 34 5 ∷ []
unfolding location_calls
three_bytes_located = refl

long_expression : locations 1 (0x05 ∷ 0x80 ∷ 0x01 ∷ run 128 0x00 []) ≡ entry (loc.DefaultLocation (expression 3 128)) false 131 1 ∷ []
unfolding location_calls
long_expression = refl

long_expression_padded : locations 1 (0x05 ∷ 0x80 ∷ 0x81 ∷ 0x00 ∷ run 128 0x00 []) ≡ entry (loc.DefaultLocation (expression 4 128)) true 132 1 ∷ []
unfolding location_calls
long_expression_padded = refl

-- up to version 4 of split lists: indexes, numbers and the length of kind 8 are LEB128, the lengths of kind 3 and of expressions are not
split_1_and_2 : splits 3 (0x01 ∷ 0x80 ∷ 0x00 ∷ 0x02 ∷ 0x80 ∷ 0x00 ∷ 0x01 ∷ 0x01 ∷ 0x00 ∷ 0x50 ∷ 0x02 ∷ 0x00 ∷ 0x81 ∷ 0x00 ∷ 0x01 ∷ 0x00 ∷ 0x50 ∷ [])
    ≡ entry (loc.BaseAddressx (addr_index 0)) true 3 1 ∷ entry (loc.StartxEndx (addr_index 0) (addr_index 1) (expression 9 1)) true 10 2
    ∷ entry (loc.StartxEndx (addr_index 0) (addr_index 1) (expression 16 1)) true 17 3 ∷ []
unfolding location_calls
split_1_and_2 = refl

split_3 : splits 2 (0x03 ∷ 0x00 ∷ 0x80 ∷ 0x00 ∷ 0x00 ∷ 0x00 ∷ 0x01 ∷ 0x00 ∷ 0x50 ∷ 0x03 ∷ 0x00 ∷ 0x08 ∷ 0x00 ∷ 0x00 ∷ 0x00 ∷ 0x00 ∷ 0x00 ∷ [])
    ≡ entry (loc.StartxLength (addr_index 0) 0x80 (expression 8 1)) false 9 1 ∷ entry (loc.StartxLength (addr_index 0) 8 (expression 17 0)) false 17 2 ∷ []
unfolding location_calls
split_3 = refl

split_two_bytes : splits 3 (0x03 ∷ 0x80 ∷ 0x01 ∷ 0x80 ∷ 0x00 ∷ 0x00 ∷ 0x00 ∷ 0x00 ∷ 0x00 ∷ 0x04 ∷ 0x80 ∷ 0x01 ∷ 0x80 ∷ 0x02 ∷ 0x01 ∷ 0x00 ∷ 0x50 ∷ 0x03 ∷ 0x80 ∷ 0x80 ∷ 0x00 ∷ 0x80 ∷ 0x00 ∷ 0x00 ∷ 0x00 ∷ 0x00 ∷ 0x00 ∷ [])
    ≡ entry (loc.StartxLength (addr_index 0x80) 0x80 (expression 9 0)) false 9 1 ∷ entry (loc.OffsetPair 0x80 0x100 (expression 16 1)) false 17 2
    ∷ entry (loc.StartxLength (addr_index 0) 0x80 (expression 27 0)) true 27 3 ∷ []
unfolding location_calls
split_two_bytes = refl

split_4 : splits 3 (0x04 ∷ 0x01 ∷ 0x02 ∷ 0x01 ∷ 0x00 ∷ 0x50 ∷ 0x04 ∷ 0x81 ∷ 0x00 ∷ 0x02 ∷ 0x01 ∷ 0x00 ∷ 0x50 ∷ 0x04 ∷ 0x01 ∷ 0x82 ∷ 0x00 ∷ 0x01 ∷ 0x00 ∷ 0x50 ∷ [])
    ≡ entry (loc.OffsetPair 1 2 (expression 5 1)) false 6 1 ∷ entry (loc.OffsetPair 1 2 (expression 12 1)) true 13 2
    ∷ entry (loc.OffsetPair 1 2 (expression 19 1)) true 20 3 ∷ []
unfolding location_calls
split_4 = refl

split_5 : splits 1 (0x05 ∷ 0x80 ∷ 0x00 ∷ run 128 0x00 []) ≡ entry (loc.DefaultLocation (expression 3 128)) false 131 1 ∷ []
unfolding location_calls
split_5 = refl

split_7_and_8 : splits 3 (0x07 ∷ 0x80 ∷ 0x00 ∷ 0x80 ∷ 0x00 ∷ 0x80 ∷ 0x00 ∷ 0x80 ∷ 0x00 ∷ 0x00 ∷ 0x00 ∷ 0x08 ∷ 0x80 ∷ 0x00 ∷ 0x80 ∷ 0x00 ∷ 0x10 ∷ 0x01 ∷ 0x00 ∷ 0x50 ∷ 0x08 ∷ 0x10 ∷ 0x00 ∷ 0x00 ∷ 0x00 ∷ 0x90 ∷ 0x00 ∷ 0x01 ∷ 0x00 ∷ 0x50 ∷ [])
    ≡ entry (loc.StartEnd 0x800080 0x800080 (expression 11 0)) false 11 1 ∷ entry (loc.StartLength 0x800080 0x10 (expression 19 1)) false 20 2
    ∷ entry (loc.StartLength 0x10 0x10 (expression 29 1)) true 30 3 ∷ []
unfolding location_calls
split_7_and_8 = refl

split_big_endian : locations_in true Big 4 4 2 (0x03 ∷ 0x00 ∷ 0x00 ∷ 0x00 ∷ 0x80 ∷ 0x00 ∷ 0x00 ∷ 0x01 ∷ 0x50 ∷ 0x03 ∷ 0x80 ∷ 0x00 ∷ 0x00 ∷ 0x00 ∷ 0x00 ∷ 0x08 ∷ 0x00 ∷ 0x01 ∷ 0x50 ∷ [])
    ≡ entry (loc.StartxLength (addr_index 0) 0x8000 (expression 8 1)) false 9 1 ∷ entry (loc.StartxLength (addr_index 0) 8 (expression 18 1)) true 19 2 ∷ []
unfolding location_calls
split_big_endian = refl

split_version_5 : locations_in true Little 5 4 3 (0x03 ∷ 0x00 ∷ 0x88 ∷ 0x00 ∷ 0x01 ∷ 0x50 ∷ 0x05 ∷ 0x81 ∷ 0x00 ∷ 0x50 ∷ 0x05 ∷ 0x01 ∷ 0x50 ∷ [])
    ≡ entry (loc.StartxLength (addr_index 0) 8 (expression 5 1)) true 6 1 ∷ entry (loc.DefaultLocation (expression 9 1)) true 10 2
    ∷ entry (loc.DefaultLocation (expression 12 1)) false 13 3 ∷ []
unfolding location_calls
split_version_5 = refl

-- bare pairs: an expression has two bytes of length there, too
bare_locations : locations_in false Little 4 2 3 (0x01 ∷ 0x80 ∷ 0x00 ∷ 0x90 ∷ 0x01 ∷ 0x00 ∷ 0x50 ∷ 0xff ∷ 0xff ∷ 0x80 ∷ 0x00 ∷ 0x00 ∷ 0x00 ∷ 0x00 ∷ 0x00 ∷ [])
    ≡ entry (loc.AddressOrOffsetPair 0x8001 0x9000 (expression 6 1)) false 7 1 ∷ entry (loc.BaseAddress 0x80) false 11 2 ∷ end 15 3 ∷ []
unfolding location_calls
bare_locations = refl

bare_length : locations_in false Little 4 1 1 (0x05 ∷ 0x80 ∷ 0x80 ∷ 0x00 ∷ run 128 0x00 [])
    ≡ entry (loc.AddressOrOffsetPair 5 0x80 (expression 4 128)) false 132 1 ∷ []
unfolding location_calls
bare_length = refl

locations_at : map (location_at false 5 (0x05 ∷ 0x01 ∷ 0x50 ∷ 0x05 ∷ 0x81 ∷ 0x00 ∷ 0x50 ∷ 0x05 ∷ 0x82 ∷ 0x00 ∷ [])) (0 ∷ 3 ∷ 7 ∷ 10 ∷ [])
    ≡ one (loc.DefaultLocation (expression 2 1)) false 3 ∷ one (loc.DefaultLocation (expression 6 1)) true 7 ∷ refused 1 [] ∷ gives ended ∷ []
unfolding location_at
locations_at = refl

splits_at : map (location_at true 4 (0x05 ∷ 0x01 ∷ 0x00 ∷ 0x50 ∷ 0x01 ∷ 0x80 ∷ 0x00 ∷ [])) (0 ∷ 4 ∷ [])
    ≡ one (loc.DefaultLocation (expression 3 1)) false 4 ∷ one (loc.BaseAddressx (addr_index 0)) true 7 ∷ []
unfolding location_at
splits_at = refl

-- no entry, no flag
expression_cut : locations 2 (0x05 ∷ 0x82 ∷ 0x00 ∷ 0x50 ∷ []) ≡ fails 1 [] 4 0 ∷ end 4 0 ∷ []
unfolding location_calls
expression_cut = refl

no_expression : locations 2 (0x04 ∷ 0x81 ∷ 0x00 ∷ 0x02 ∷ []) ≡ fails 1 [] 4 0 ∷ end 4 0 ∷ []
unfolding location_calls
no_expression = refl

bad_length : locations 2 (0x02 ∷ 0x80 ∷ 0x00 ∷ 0x00 ∷ run 9 0x80 (0x02 ∷ [])) ≡ fails 2 [] 14 0 ∷ end 14 0 ∷ []
unfolding location_calls
bad_length = refl

unknown_location : locations 2 (0x09 ∷ 0x80 ∷ 0x00 ∷ []) ≡ fails 4 (0x09 ∷ []) 3 0 ∷ end 3 0 ∷ []
unfolding location_calls
unknown_location = refl

split_cut : splits 2 (0x05 ∷ 0x81 ∷ 0x00 ∷ 0x50 ∷ []) ≡ fails 1 [] 4 0 ∷ end 4 0 ∷ []
unfolding location_calls
split_cut = refl
