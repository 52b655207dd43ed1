-- An address table's header reads as it did with the padding rule of older tables.
-- Assumes nothing.
use mathlib.Core.Path.{◌≡◌, refl}
use mathlib.Core.List.{List}
use mathlib.Core.Logic.{⊎_elim}
use Prim.Native.Nat.{ℕ, ◌+◌, ◌≤◌}
use native.Mathlib.Omega.{arith}
use lib.Dec.{eqb}
use lib.ListN.{length, take}
use lib.Seq.{length-take-le}
use Rattle.section_bytes.specs.Read.{gives, refused, got, Read, read_then}
use Rattle.section_bytes.specs.Reader.{uint, skip, address_size_at, initial_length, truncate}
use Rattle.section_bytes.specs.declared.common.Format.{Format}
use Rattle.section_bytes.specs.declared.common.Format.TheVariants.{Dwarf32, Dwarf64}
use Rattle.section_bytes.specs.declared.UnitLength.{UnitLength}
use Rattle.section_bytes.specs.declared.endianity.RunTimeEndian.{RunTimeEndian}
use Rattle.section_bytes.specs.declared.endianity.RunTimeEndian.TheVariants.{Little}
use Rattle.section_bytes.proofs.ReaderLaws.{skip_got}
use Rattle.section_bytes.proofs.ReaderTook.{uint_moves}
use Rattle.section_bytes.proofs.Took.{pick_ind}
use Rattle.section_bytes.proofs.Inside.{Given, then_ind, initial_moves, address_size_moves, truncate_inside}
use Rattle.tables.specs.Header.{fields, head}
use Rattle.tables.specs.Addr.{table_of, addr_header}
use Rattle.tables.specs.Padded.{table_header_size, padding, padded_header, OneOfFour, SizeOneOfFour, NoRemainder}
use Rattle.tables.specs.declared.header.Head.{Head}
use Rattle.tables.specs.declared.addr.AddrHeader.{AddrHeader}
use Rattle.tables.proofs.HeaderLaws.{Fits, head_fits}

-- the fields after the length have four bytes
fields_place : (endian : RunTimeEndian) (unit : List ℕ) (u : UnitLength) (at : ℕ)
    → Given (λ h c. (h.format ≡ u.format) × (c ≡ at + 4)) (fields endian unit u at)
unfolding fields
fields_place endian unit u at =
    then_ind (Given (λ h c. (h.format ≡ u.format) × (c ≡ at + 4))) (uint endian 2 unit at) _ (λ k vs. tt) (λ v c e.
    pick_ind (Given (λ h c. (h.format ≡ u.format) × (c ≡ at + 4))) (eqb v 5) (λ h.
    then_ind (Given (λ h c. (h.format ≡ u.format) × (c ≡ at + 4))) (address_size_at unit c) _ (λ k vs. tt) (λ size d z.
    then_ind (Given (λ h c. (h.format ≡ u.format) × (c ≡ at + 4))) (uint Little 1 unit d) _ (λ k vs. tt) (λ g b y.
    pick_ind (Given (λ h c. (h.format ≡ u.format) × (c ≡ at + 4))) (eqb g 0)
    (λ x. (refl, omega (arith, uint_moves endian 2 unit at e, address_size_moves unit c z, uint_moves Little 1 unit d y))) (λ x. tt)))) (λ h. tt))

-- a header with its length has 8 or 16
moved : (u : UnitLength) (at c : ℕ) (r : Read Head) → c ≡ at + table_header_size u.format
    → Given (λ h d. (h.format ≡ u.format) × (d ≡ c)) r → Given (λ h d. d ≡ at + table_header_size h.format) r
moved u at c (gives (got h d)) e g = rw (g.0, g.1, e)
moved u at c (refused n vs) e g = tt

header_place : (endian : RunTimeEndian) (s : List ℕ) (at : ℕ) → Given (λ h c. c ≡ at + table_header_size h.format) (head endian s at)
unfolding head
header_place endian s at =
    then_ind (Given (λ h c. c ≡ at + table_header_size h.format)) (initial_length endian s at) _ (λ k vs. tt) (λ u c e.
    then_ind (Given (λ h c. c ≡ at + table_header_size h.format)) (truncate u.length s c) _ (λ k vs. tt) (λ end d z.
    let i = initial_moves endian s at e in
    let t = (truncate_inside u.length s c z).2 in
    moved u at (d + 4) (fields endian (take end s) u d) (rw (t, i) (omega arith)) (fields_place endian (take end s) u d)))

-- what a header gives, by its fields
abbrev Follows : ℕ → Read AddrHeader → Type 0
Follows at r = Given (λ t c. t.entries.offset ≡ at + table_header_size t.encoding.format) r

follow_from : (at : ℕ) (r : Read Head) → Given (λ h c. c ≡ at + table_header_size h.format) r
    → Follows at (read_then r (λ h c. gives (got (table_of at h c) h.end)))
follow_from at (gives (got h c)) g = g
follow_from at (refused n vs) g = tt

follows : (endian : RunTimeEndian) (s : List ℕ) (at : ℕ) → Follows at (addr_header endian s at)
unfolding addr_header
follows endian s at = follow_from at (head endian s at) (header_place endian s at)

follow : (endian : RunTimeEndian) (s : List ℕ) (at : ℕ) {t : AddrHeader} {c : ℕ} → addr_header endian s at ≡ gives (got t c)
    → t.entries.offset ≡ at + table_header_size t.encoding.format
follow endian s at e = rw e at (follows endian s at)

-- 8 and 16 are multiples of 1, 2, 4 and 8
by_size : (P : ℕ → Type 0) {size : ℕ} → OneOfFour size → P 1 → P 2 → P 4 → P 8 → P size
by_size P o a b c d = ⊎_elim (λ e. rw e a) (λ p. ⊎_elim (λ e. rw e b) (λ q. ⊎_elim (λ e. rw e c) (λ e. rw e d) q) p) o

none_over : (format : Format) (size : ℕ) → OneOfFour size → padding (table_header_size format) size ≡ 0
none_over Dwarf32 size o = by_size (λ n. padding (table_header_size Dwarf32) n ≡ 0) o refl refl refl refl
none_over Dwarf64 size o = by_size (λ n. padding (table_header_size Dwarf64) n ≡ 0) o refl refl refl refl

-- no byte is passed over before the first address
module _ (s : List ℕ) (at : ℕ) where
  padded : Head → ℕ → Read AddrHeader
  padded h c =
      read_then (skip (padding (table_header_size h.format) h.address_size) (take h.end s) c) (λ _ d. gives (got (table_of at h d) h.end))

  same_table : (h : Head) (c : ℕ) → Fits s h c → OneOfFour h.address_size → gives (got (table_of at h c) h.end) ≡ padded h c
  unfolding padded
  same_table h c f o =
      let l : c + 0 ≤ length (take h.end s) = rw (length-take-le h.end s f.inside) (omega (arith, f.before)) in
      let z : c + 0 ≡ c = omega arith in
      rw (none_over h.format h.address_size o, skip_got 0 (take h.end s) c l, z)

  same_header : (r : Read Head) → ((h : Head) (c : ℕ) → r ≡ gives (got h c) → Fits s h c) → SizeOneOfFour r
      → read_then r (λ h c. gives (got (table_of at h c) h.end)) ≡ read_then r padded
  same_header (gives (got h c)) f o = same_table h c (f h c refl) o
  same_header (refused n vs) f o = refl

reads_as_before : (endian : RunTimeEndian) (s : List ℕ) (at : ℕ) → SizeOneOfFour (head endian s at)
    → addr_header endian s at ≡ padded_header endian s at
unfolding addr_header padded_header padded
reads_as_before endian s at o = same_header s at (head endian s at) (λ h c e. head_fits endian s at e) o

pub no_remainder : NoRemainder
no_remainder = record { follow = follow; none_over = none_over; reads_as_before = reads_as_before }
