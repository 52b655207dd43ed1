-- What a whole walk yields, from what its list does: its ranges in order, however many, and whether it is refused.
use Rattle.std.specs.Prelude.{ℕ, List, [], ◌∷◌}
use Rattle.section_bytes.specs.Read.{gives, refused}
use Rattle.lists.specs.Walk.{item, Trace, over, handed}

-- a walk that comes to its end unrefused; a failed address lookup is a refusal (docs/SCOPE.md, "Demand 3")
abbrev pub Unrefused : {D : Type 0} → Trace D → Type 0
Unrefused (over w) = Unit
Unrefused (handed (gives i) w t) = Unrefused t
Unrefused (handed (refused n vs) w t) = ⊥

-- begin and end of each range that is handed out
abbrev pub handed_out : {D : Type 0} → Trace D → List (ℕ × ℕ)
handed_out (over w) = []
handed_out (handed (gives (item b e d)) w t) = (b, e) ∷ handed_out t
handed_out (handed (refused n vs) w t) = handed_out t
