-- Numbers written as bytes: little-endian, and as unsigned LEB128 (DWARF 5, 7.6).
use Rattle.std.specs.Prelude.{ℕ, zero, suc, ◌+◌, ◌/◌, ◌%◌, List, [], ◌∷◌, nat_lt}
use Rattle.section_bytes.specs.Read.{pick}

-- the low k bytes of a number, the lowest first
unfoldable pub little_bytes : ℕ → ℕ → List ℕ
little_bytes zero x = []
little_bytes (suc k) x = x % 256 ∷ little_bytes k (x / 256)

-- the shortest unsigned LEB128 form: seven bits a byte, the lowest first, 128 added to each that another follows; at most k
-- bytes and a last one
unfoldable pub unsigned_in : ℕ → ℕ → List ℕ
unsigned_in zero x = x ∷ []
unsigned_in (suc k) x = let more = unsigned_in k (x / 128) in pick (nat_lt x 128) (x ∷ []) ((x % 128 + 128) ∷ more)

-- a number below 2^64 has at most ten bytes
abbrev pub unsigned_bytes : ℕ → List ℕ
unsigned_bytes x = unsigned_in 9 x
