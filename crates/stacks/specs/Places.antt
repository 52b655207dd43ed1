-- How the code keeps the answers of addresses by their places, and which of them wait. What an answer is, specs/Stack.antt says.
use Rattle.std.specs.Prelude.{ℕ, ◌+◌, ◌-◌, ◌^◌, ◌≤◌, ◌<◌, ◌≡◌, List, ◌⊎◌, length, get_or, set, replicate}
use Rattle.std.proofs.lemmas.List.Edits.{sets}

abbrev pub at : List ℕ → ℕ → ℕ
at l i = get_or l i 0

-- 64 addresses in ascending order
abbrev pub Ascending : List ℕ → Type 0
Ascending a = (i j : ℕ) → i ≤ j → j < 64 → at a i ≤ at a j

-- addresses at the first of 64 places, in ascending order, and 2^64 - 1 at the others
pub record Standing (l a : List ℕ) : Type 0 where
  pub up : Ascending a
  pub few : length l ≤ 64
  pub same : (m : ℕ) → m < length l → at a m ≡ at l m
  pub behind : (m : ℕ) → length l ≤ m → m < 64 → at a m ≡ 2 ^ 64 - 1

-- addresses, and 2^64 - 1, which no range holds, at the places behind them
abbrev pub padded : List ℕ → List ℕ
padded l = sets (replicate 64 (2 ^ 64 - 1)) 0 l

-- 1 where a number is below another, else 0
abbrev pub Less : ℕ → ℕ → ℕ → Type 0
Less r x y = ((r ≡ 1) × (x < y)) ⊎ ((r ≡ 0) × (y ≤ x))

-- the first place whose address is not below x
pub record FirstAt (a : List ℕ) (x r : ℕ) : Type 0 where
  pub most : r ≤ 64
  pub below : (i : ℕ) → i < r → at a i < x
  pub from : (i : ℕ) → r ≤ i → i < 64 → x ≤ at a i

-- of the first 63 places, it is one of m + 1 from k on
pub record Between (a : List ℕ) (x k m : ℕ) : Type 0 where
  pub most : k + m ≤ 63
  pub below : (i : ℕ) → i < k → at a i < x
  pub from : (i : ℕ) → k + m ≤ i → i < 63 → x ≤ at a i

-- a place waits where the number at it is not above it, and has its answer where it is
abbrev pub Waits : List ℕ → ℕ → Type 0
Waits next m = at next m ≤ m

abbrev pub Done : List ℕ → ℕ → Type 0
Done next m = m < at next m

-- from a place up to the number at it, all have theirs
pub record Hops (next : List ℕ) : Type 0 where
  pub long : length next ≡ 64
  pub most : (i : ℕ) → at next i ≤ 64
  pub over : (i m : ℕ) → i ≤ m → m < at next i → Done next m

-- the first place from low on that waits; or at or above n, where none below n does
pub record WaitingFrom (next : List ℕ) (low n r : ℕ) : Type 0 where
  pub from : low ≤ r
  pub passed : (m : ℕ) → low ≤ m → m < r → Done next m
  pub waits : r < n → Waits next r

-- an answer stands at a place: to put it there again changes nothing
abbrev pub Laid : List (List ℕ) → ℕ → List ℕ → Type 0
Laid rows m row = set rows m row ≡ rows

-- a place is as it was: it waits, or has the answer that it had
pub record Kept (next : List ℕ) (rows : List (List ℕ)) (next' : List ℕ) (rows' : List (List ℕ)) (m : ℕ) : Type 0 where
  pub done : Done next' m → Done next m
  pub still : Done next m → Done next' m
  pub laid : (row : List ℕ) → Laid rows m row → Laid rows' m row

-- a place that waited, and whose address a range holds, has it for an answer
pub record Answered (a next next' : List ℕ) (rows' : List (List ℕ)) (b e : ℕ) (row : List ℕ) (m : ℕ) : Type 0 where
  pub waited : Waits next m
  pub begun : b ≤ at a m
  pub ended : at a m < e
  pub done : Done next' m
  pub laid : Laid rows' m row

-- a range went to all places that waited and whose addresses it holds, and to no other
pub record Settled (a next : List ℕ) (rows : List (List ℕ)) (b e : ℕ) (row next' : List ℕ) (rows' : List (List ℕ)) (r : ℕ) : Type 0 where
  pub hops : Hops next'
  pub most : r ≤ 64
  pub top : e ≤ 2 ^ 64 - 1
  pub held : (m : ℕ) → m < 64 → b ≤ at a m → at a m < e → Done next' m
  pub each : (m : ℕ) → m < 64 → Kept next rows next' rows' m ⊎ Answered a next next' rows' b e row m
  -- whatever is written over all places whose addresses are below its end is there as before
  pub over : (ws : List (List ℕ)) → ((m : ℕ) → m < 64 → at a m < e → m < length ws) → sets rows' 0 ws ≡ sets rows 0 ws

-- each of the first n places that waits has the answer of its address, by its words
pub record Filled (words : ℕ → List ℕ) (a : List ℕ) (n : ℕ) (next : List ℕ) (rows rows' : List (List ℕ)) : Type 0 where
  pub laid : (m : ℕ) → m < n → Waits next m → Laid rows' m (words (at a m))
  pub kept : (m : ℕ) (row : List ℕ) → Done next m → Laid rows m row → Laid rows' m row
  pub over : (ws : List (List ℕ)) → n ≤ length ws → sets rows' 0 ws ≡ sets rows 0 ws
