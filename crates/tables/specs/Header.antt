-- The fields that each table begins with (DWARF 5, 7.27 to 7.29): unit_length, version, address_size, segment_selector_size.
use Rattle.std.specs.Prelude.{ℕ, List, eqb, length, take}
use Rattle.section_bytes.specs.Read.{gives, got, Read, read_then, pick}
use Rattle.section_bytes.specs.Error.{refusal}
use Rattle.section_bytes.specs.Reader.{uint, address_size_at, initial_length, truncate}
use Rattle.section_bytes.specs.declared.UnitLength.{UnitLength}
use Rattle.section_bytes.specs.declared.common.Encoding.{Encoding}
use Rattle.section_bytes.specs.declared.endianity.RunTimeEndian.{RunTimeEndian}
use Rattle.section_bytes.specs.declared.endianity.RunTimeEndian.TheVariants.{Little}
use Rattle.section_bytes.specs.declared.error.Error.TheVariants.{UnknownVersion, UnsupportedSegmentSize}
use Rattle.tables.specs.declared.header.Head.{Head}

-- how a unit of version 5 is written, by its fields
abbrev pub unit_encoding : Head → Encoding
unit_encoding h = record { address_size = h.address_size; format = h.format; version = 5 }

abbrev pub head_of : UnitLength → ℕ → ℕ → Head
head_of u end size = record { length = u.length; format = u.format; end = end; address_size = size }

-- the fields after the length, in the bytes up to the unit's end: only version 5, and no segment selectors
unfoldable pub fields : RunTimeEndian → List ℕ → UnitLength → ℕ → Read Head
fields endian unit u at =
    read_then (uint endian 2 unit at) (λ version c.
    pick (eqb version 5)
    (read_then (address_size_at unit c) (λ size d.
    read_then (uint Little 1 unit d) (λ segment e.
    pick (eqb segment 0) (gives (got (head_of u (length unit) size) e)) (refusal (UnsupportedSegmentSize segment)))))
    (refusal (UnknownVersion version)))

unfoldable pub head : RunTimeEndian → List ℕ → ℕ → Read Head
head endian s at =
    read_then (initial_length endian s at) (λ u c.
    read_then (truncate u.length s c) (λ end d. fields endian (take end s) u d))
