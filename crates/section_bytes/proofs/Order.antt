-- Two numbers, one way or the other. Assumes nothing.
use Rattle.std.proofs.Common.{ℕ, ◌<◌, ◌≤◌, ◌⊎◌, inl, inr, arith}
use native.Mathlib.Decide.{dec_lt}

of_dec : (a b : ℕ) → Dec (a < b) → (a < b) ⊎ (b ≤ a)
of_dec a b (yes h) = inl h
of_dec a b (no h) = inr (omega arith)

pub lt_or_le : (a b : ℕ) → (a < b) ⊎ (b ≤ a)
lt_or_le a b = of_dec a b (dec_lt a b)
