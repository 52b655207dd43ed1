-- Which section a number tells, and a part that lies in a section.
use Rattle.std.specs.Prelude.{ℕ, ◌+◌, List, leb, length}
use Rattle.section_bytes.specs.Read.{pick}
use Rattle.section_bytes.specs.declared.common.Encoding.{Encoding}
use Rattle.lists.specs.Open.{section_for}
use Rattle.ffi_words.specs.Common.{no_part}
use Rattle.ffi_words.specs.declared.common.YzPart.{YzPart}

-- 0 tells the section up to version 4, 1 that from 5 on
abbrev pub section_told : Encoding → ℕ
section_told encoding = section_for encoding 0 1

-- a part that lies in a section, or the empty part at the section's start; its bytes are those of `part_of` (`lying_bytes`,
-- proofs/SectionLaws.antt)
unfoldable pub lying : List ℕ → YzPart → YzPart
lying s x = pick (leb (x.offset + x.length) (length s)) x no_part
