-- Opening a list: a place in its section, a base address, and no entry read yet.
use Rattle.std.specs.Prelude.{ℕ, suc, ◌-◌, ◌^◌, List, leb, length}
use Rattle.section_bytes.specs.Read.{Result, gives, pick}
use Rattle.section_bytes.specs.Error.{refusal}
use Rattle.section_bytes.specs.Reader.{is_size}
use Rattle.section_bytes.specs.declared.common.Encoding.{Encoding}
use Rattle.section_bytes.specs.declared.error.Error.TheVariants.{UnexpectedEof, UnsupportedAddressSize}
use Rattle.lists.specs.declared.Walk.{Walk}

abbrev pub walk_at : ℕ → ℕ → ℕ → Walk
walk_at at base entries = record { at = at; base_address = base; entries = entries }

-- one raw entry more; 2^64 - 1, which no walk of a list comes to (specs/Counted.antt), stays
unfoldable pub one_more : ℕ → ℕ
one_more n = pick (leb (2 ^ 64 - 1) n) n (suc n)

-- a walk that goes on from a place, one that goes on from there with a raw entry more read, and one whose base address is replaced:
-- nothing else ever happens to a walk
abbrev pub moved_to : ℕ → Walk → Walk
moved_to at w = walk_at at w.base_address w.entries

abbrev pub read_to : ℕ → Walk → Walk
read_to at w = walk_at at w.base_address (one_more w.entries)

abbrev pub rebased : ℕ → Walk → Walk
rebased base w = walk_at w.at base w.entries

-- an offset at the section's end opens an empty list; the address size is looked at first
unfoldable pub opened : Encoding → List ℕ → ℕ → ℕ → Result Walk
opened encoding s offset base =
    pick (is_size encoding.address_size) (pick (leb offset (length s)) (gives (walk_at offset base 0)) (refusal UnexpectedEof))
    (refusal (UnsupportedAddressSize encoding.address_size))

-- of what there is for the older section and for the newer one, that of the unit: lists of version 5 and above stand in a section of
-- their own (DWARF 5, 7.28 and 7.29)
unfoldable pub section_for : {A : Type 0} → Encoding → A → A → A
section_for encoding older newer = pick (leb encoding.version 4) older newer
