-- Counts that rise by many entries at once: for code that counts what one call reads, and adds it at the end. That a walk's count may be
-- added afterwards is `range_raised` and `location_raised` in proofs/RisenLaws.antt.
use Rattle.std.specs.Prelude.{ℕ, zero, suc}
use Rattle.tables.specs.Next.{Next, ends, hands}
use Rattle.lists.specs.Open.{walk_at, one_more}
use Rattle.lists.specs.declared.Walk.{Walk}

-- so many entries more
unfoldable pub risen_by : ℕ → ℕ → ℕ
risen_by n zero = n
risen_by n (suc k) = one_more (risen_by n k)

-- a walk whose entries were counted from 0 on, with n that were read before; and what a call answers with such a walk
abbrev pub raised : ℕ → Walk → Walk
raised n w = walk_at w.at w.base_address (risen_by n w.entries)

abbrev pub call_raised : {E : Type 0} → ℕ → Next E Walk → Next E Walk
call_raised n (hands r w) = hands r (raised n w)
call_raised n (ends w) = ends (raised n w)
