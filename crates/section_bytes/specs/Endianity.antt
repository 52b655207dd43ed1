-- The value of bytes in either order, for any number of bytes: the standard leaves the order to the target, and sections don't say it.
use Rattle.std.specs.Prelude.{ℕ, ◌+◌, ◌*◌, List, [], ◌∷◌, reverse}
use Rattle.section_bytes.specs.declared.endianity.RunTimeEndian.{RunTimeEndian}
use Rattle.section_bytes.specs.declared.endianity.RunTimeEndian.TheVariants.{Little, Big}

-- the first byte lowest
unfoldable pub little : List ℕ → ℕ
little [] = 0
little (b ∷ bs) = b + 256 * little bs

abbrev pub value : RunTimeEndian → List ℕ → ℕ
value Little bs = little bs
value Big bs = little (reverse bs)
