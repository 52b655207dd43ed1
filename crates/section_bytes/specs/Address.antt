-- Sums of addresses, kept to an address size. The size is a parameter; sizes that no address has are answered too.
use Rattle.std.specs.Prelude.{ℕ, ◌+◌, ◌-◌, ◌*◌, ◌%◌, ◌^◌}

-- the low 8 * size bits
abbrev pub low : ℕ → ℕ → ℕ
low size x = x % 2 ^ (8 * size)

-- a sum modulo 2^64, kept to the size
abbrev pub add_sized : ℕ → ℕ → ℕ → ℕ
add_sized a b size = low size ((a + b) % 2 ^ 64)

-- the largest address of the size: 2^(8 * size) - 1 up to size 8
abbrev pub ones : ℕ → ℕ
ones size = low size (2 ^ 64 - 1)

-- the tombstone bound, from which on an address stands for code that is not there: 2^(8 * size) - 2 for sizes 1 to 8
abbrev pub min_tombstone : ℕ → ℕ
min_tombstone size = low size (2 ^ 64 - 2)
