-- Marks of a walk (docs/SCOPE.md, "Marks"): what setting one leaves, and what a return to one brings back. A walk is whatever the
-- calls that read take and hand back, and a mark whatever keeps one, so that this is said once for the structs of this crate and
-- for the words of the calls for C.
use Rattle.std.specs.Prelude.{ℕ, Bool, true, false, List, ◌≡◌, ltb, get_or, set, replicate}
use Rattle.section_bytes.specs.Read.{Result, gives, refused, pick}
use Rattle.section_bytes.specs.Error.{refusal}
use Rattle.section_bytes.specs.declared.error.Error.TheVariants.{NoSuchMark}

-- how a mark keeps a walk: one that is not set, one that is set to a walk, whether one is set, and to which walk
pub record Keeping (W M : Type 0) : Type 0 where
  pub unset : M
  pub set_to : W → M
  pub is_set : M → Bool
  pub walk_of : M → W
  pub unset_not_set : is_set unset ≡ false
  pub set_to_set : (w : W) → is_set (set_to w) ≡ true
  pub set_to_walk : (w : W) → walk_of (set_to w) ≡ w

-- a walk, and its marks by number
pub record Marked (W M : Type 0) : Type 0 where
  pub walk : W
  pub marks : List M

abbrev pub marked : {W M : Type 0} → W → List M → Marked W M
marked w ms = record { walk = w; marks = ms }

-- a walk with eight marks, none of them set
abbrev pub fresh : {W M : Type 0} → Keeping W M → W → Marked W M
fresh k w = marked w (replicate 8 k.unset)

-- setting stores the walk whole, whatever the mark was; the walk and the other marks stay
abbrev pub set_mark : {W M : Type 0} → Keeping W M → ℕ → Marked W M → Result (Marked W M)
set_mark k i m = pick (ltb i 8) (gives (marked m.walk (set m.marks i (k.set_to m.walk)))) (refusal NoSuchMark)

-- returning brings back the walk that the mark keeps; the marks stay, this one among them
abbrev pub stored : {W M : Type 0} → Keeping W M → ℕ → Marked W M → M
stored k i m = get_or m.marks i k.unset

abbrev pub return_to : {W M : Type 0} → Keeping W M → ℕ → Marked W M → Result (Marked W M)
return_to k i m =
    pick (ltb i 8)
    (pick (k.is_set (stored k i m)) (gives (marked (k.walk_of (stored k i m)) m.marks)) (refusal NoSuchMark))
    (refusal NoSuchMark)

-- what a call comes to, and the walk with its marks then: a refused call leaves both as they were
pub record Handed (W M : Type 0) : Type 0 where
  pub result : Result Unit
  pub then : Marked W M

abbrev pub handed : {W M : Type 0} → Result Unit → Marked W M → Handed W M
handed r m = record { result = r; then = m }

abbrev pub answered : {W M : Type 0} → Marked W M → Result (Marked W M) → Handed W M
answered m (gives x) = handed (gives tt) x
answered m (refused n vs) = handed (refused n vs) m
