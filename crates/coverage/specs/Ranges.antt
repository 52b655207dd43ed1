-- Ranges of addresses: what they cover, lists of them that keep apart, and the longest unbroken runs of what a list covers.
use Rattle.std.specs.Prelude.{ℕ, suc, ◌<◌, ◌≤◌, min, max, ◌⊎◌, List, [], ◌∷◌, nat_lt}
use Rattle.section_bytes.specs.Read.{pick}

-- a range of addresses: begin and end
abbrev pub Range : Type 0
Range = ℕ × ℕ

-- how many ranges a list may yield, and a coverage keep (docs/SCOPE.md, "Coverage" and refusal 10)
abbrev pub limit : ℕ
limit = 3000

-- an address inside a range: begin ≤ address < end (docs/SCOPE.md, "Coverage")
abbrev pub Inside : Range → ℕ → Type 0
Inside r a = (r.0 ≤ a) × (a < r.1)

-- an address inside some range of a list (docs/SCOPE.md, "Coverage")
abbrev pub Covers : List Range → ℕ → Type 0
Covers [] a = ⊥
Covers (r ∷ rs) a = Inside r a ⊎ Covers rs a

-- ascending from lo on, each begin below its end and above the end before: never overlapping or touching (docs/SCOPE.md,
-- "Coverage")
abbrev pub From : ℕ → List Range → Type 0
From lo [] = Unit
From lo (r ∷ rs) = (lo ≤ r.0) × (r.0 < r.1) × From (suc r.1) rs

-- lawful ranges: they keep apart from address 0 on (docs/SCOPE.md, "Coverage")
abbrev pub Apart : List Range → Type 0
Apart rs = From 0 rs

-- the range from b to e put into a list whose ranges keep apart: before the first, after it, or joined with it where they
-- overlap or touch
unfoldable pub insert : ℕ → ℕ → List Range → List Range
insert b e [] = (b, e) ∷ []
insert b e (r ∷ rs) =
    let after = insert b e rs in
    let joined = insert (min b r.0) (max e r.1) rs in
    pick (nat_lt e r.0) ((b, e) ∷ r ∷ rs) (pick (nat_lt r.1 b) (r ∷ after) joined)

-- ranges put one after the other into a list whose ranges keep apart
unfoldable pub inserts : List Range → List Range → List Range
inserts acc [] = acc
inserts acc (r ∷ rs) = inserts (insert r.0 r.1 acc) rs

-- the longest unbroken runs of the addresses that ranges cover (docs/SCOPE.md, "Coverage")
abbrev pub runs : List Range → List Range
runs rs = inserts [] rs
