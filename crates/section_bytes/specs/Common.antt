-- The sizes that a format fixes (DWARF 5, 7.4), and which files are split.
use Rattle.std.specs.Prelude.{ℕ, Bool, true, false}
use Rattle.section_bytes.specs.declared.common.DwarfFileType.{DwarfFileType}
use Rattle.section_bytes.specs.declared.common.DwarfFileType.TheVariants.{Main, Dwo}
use Rattle.section_bytes.specs.declared.common.Format.{Format}
use Rattle.section_bytes.specs.declared.common.Format.TheVariants.{Dwarf32, Dwarf64}

abbrev pub initial_length_size : Format → ℕ
initial_length_size Dwarf32 = 4
initial_length_size Dwarf64 = 12

abbrev pub word_size : Format → ℕ
word_size Dwarf32 = 4
word_size Dwarf64 = 8

-- lists of a split file have the forms of GNU split DWARF up to version 4
abbrev pub is_split : DwarfFileType → Bool
is_split Main = false
is_split Dwo = true
