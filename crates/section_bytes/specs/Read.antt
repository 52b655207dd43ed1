-- What is asked for, or a refusal by its number and values: every answer has it, and every refusal is here.
use Rattle.std.specs.Prelude.{ℕ, Bool, true, false, List}

pub data Result (A : Type 0) : Type 0 where
  gives : A → Result A
  refused : ℕ → List ℕ → Result A

-- what follows what is given; a refusal is the answer
abbrev pub and_then : {A B : Type 0} → Result A → (A → Result B) → Result B
and_then (gives a) f = f a
and_then (refused n vs) f = refused n vs

-- what a read gives: a value with the place after it
pub data Got (A : Type 0) : Type 0 where
  got : A → ℕ → Got A

abbrev pub Read : Type 0 → Type 0
Read A = Result (Got A)

-- what follows a read, by the value and the place after it
abbrev pub read_then : {A B : Type 0} → Read A → (A → ℕ → Result B) → Result B
read_then (gives (got v c)) f = f v c
read_then (refused n vs) f = refused n vs

-- one of two, by a test
abbrev pub pick : {A : Type 0} → Bool → A → A → A
pick true a b = a
pick false a b = b
