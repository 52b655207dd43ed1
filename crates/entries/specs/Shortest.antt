-- The fewest bytes that an entry can take, by its kind and its values, and whether one took more: what the code asks. That this is whether
-- some LEB128 number of the entry is padded is stated in Padded.
use Rattle.std.specs.Prelude.{ℕ, ◌+◌, Bool, true, false, ltb, length}
use Rattle.section_bytes.specs.Read.{pick}
use Rattle.section_bytes.specs.Written.{unsigned_bytes}
use Rattle.section_bytes.specs.declared.common.Encoding.{Encoding}
use Rattle.entries.specs.Forms.{Form, index, number, rangeLength, address, expression, Value, is_unsigned}
use Rattle.entries.specs.Listed.{EntryIn}
use Rattle.entries.specs.declared.RawRngListEntry.{RawRngListEntry}
use Rattle.entries.specs.declared.RawRngListEntry.TheVariants as rng
use Rattle.entries.specs.declared.RawLocListEntry.{RawLocListEntry}
use Rattle.entries.specs.declared.RawLocListEntry.TheVariants as loc

-- a length that is a LEB128 number or has a fixed size
abbrev pub least_length : Bool → ℕ → ℕ → ℕ
least_length unsigned size n = pick unsigned (length (unsigned_bytes n)) size

-- an operand
abbrev pub least_of : Encoding → (f : Form) → Value f → ℕ
least_of encoding index i = length (unsigned_bytes i.0)
least_of encoding number n = length (unsigned_bytes n)
least_of encoding rangeLength n = least_length (is_unsigned encoding rangeLength) 4 n
least_of encoding address a = encoding.address_size
least_of encoding expression x = least_length (is_unsigned encoding expression) 2 x.len + x.len

-- whether an entry took more bytes than its code and its operands need. Bare pairs, base addresses and pairs of addresses have one length
abbrev pub range_longer : Encoding → RawRngListEntry → ℕ → Bool
range_longer p (rng.AddressOrOffsetPair b e) len = false
range_longer p (rng.BaseAddress a) len = false
range_longer p (rng.BaseAddressx i) len = ltb (1 + least_of p index i) len
range_longer p (rng.StartxEndx i j) len = ltb (1 + least_of p index i + least_of p index j) len
range_longer p (rng.StartxLength i n) len = ltb (1 + least_of p index i + least_of p number n) len
range_longer p (rng.OffsetPair b e) len = ltb (1 + least_of p number b + least_of p number e) len
range_longer p (rng.StartEnd b e) len = false
range_longer p (rng.StartLength b n) len = ltb (1 + least_of p address b + least_of p number n) len

abbrev pub location_longer : Encoding → RawLocListEntry → ℕ → Bool
location_longer p (loc.AddressOrOffsetPair b e x) len = false
location_longer p (loc.BaseAddress a) len = false
location_longer p (loc.BaseAddressx i) len = ltb (1 + least_of p index i) len
location_longer p (loc.StartxEndx i j x) len = ltb (1 + least_of p index i + least_of p index j + least_of p expression x) len
location_longer p (loc.StartxLength i n x) len = ltb (1 + least_of p index i + least_of p rangeLength n + least_of p expression x) len
location_longer p (loc.OffsetPair b e x) len = ltb (1 + least_of p number b + least_of p number e + least_of p expression x) len
location_longer p (loc.DefaultLocation x) len = ltb (1 + least_of p expression x) len
location_longer p (loc.StartEnd b e x) len = ltb (1 + least_of p address b + least_of p address e + least_of p expression x) len
location_longer p (loc.StartLength b n x) len = ltb (1 + least_of p address b + least_of p number n + least_of p expression x) len

abbrev pub longer_in : (l : Bool) → Encoding → EntryIn l → ℕ → Bool
longer_in true encoding e len = location_longer encoding e len
longer_in false encoding e len = range_longer encoding e len
