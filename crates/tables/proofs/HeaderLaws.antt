-- What holds of the fields that were read: where they end, where their unit ends, and which address sizes they tell.
use mathlib.Core.Path.{◌≡◌, refl, sym}
use mathlib.Core.Bool.{true}
use mathlib.Core.List.{List}
use Prim.Native.Nat.{ℕ, ◌≤◌}
use native.Mathlib.Omega.{arith}
use lib.Dec.{eqb}
use lib.ListN.{length, take}
use lib.Seq.{length-take-le}
use Rattle.section_bytes.specs.Read.{gives, refused, got, Read}
use Rattle.section_bytes.specs.Reader.{uint, is_size, address_size_at, initial_length, truncate}
use Rattle.section_bytes.specs.declared.endianity.RunTimeEndian.{RunTimeEndian}
use Rattle.section_bytes.specs.declared.endianity.RunTimeEndian.TheVariants.{Little}
use Rattle.section_bytes.specs.declared.UnitLength.{UnitLength}
use Rattle.section_bytes.proofs.ReaderLaws.{size_range}
use Rattle.section_bytes.proofs.ReaderTook.{uint_took}
use Rattle.section_bytes.proofs.Took.{pick_ind}
use Rattle.section_bytes.proofs.Inside.{then_ind, truncate_inside, address_size_is}
use Rattle.tables.specs.Header.{fields, head}
use Rattle.tables.specs.declared.header.Head.{Head}

-- a number that was read lies in its section
uint_inside : (n : ℕ) (s : List ℕ) (at : ℕ) (endian : RunTimeEndian) {v c : ℕ} → uint endian n s at ≡ gives (got v c) → c ≤ length s
uint_inside n s at endian e = (rw e at (uint_took s s n at endian)).1

-- a size that was read is a byte
pub size_small : (s : List ℕ) (at : ℕ) {n c : ℕ} → gives (got n c) ≡ address_size_at s at → n ≤ 8
size_small s at {n = n} p = (size_range n (address_size_is s at (sym p))).1

-- where a section was cut, and that the place stayed
module _ (n : ℕ) (s : List ℕ) (at : ℕ) {end c : ℕ} (p : gives (got end c) ≡ truncate n s at) where
  pub cut_length : end ≡ length (take end s)
  cut_length = sym (length-take-le end s (truncate_inside n s at (sym p)).1)

  pub cut_stays : c ≡ at
  cut_stays = (truncate_inside n s at (sym p)).2

-- fields that were read in the bytes up to an end: it is the end that they tell, and they lie before it
abbrev Within : ℕ → Read Head → Type 0
Within end (gives (got h c)) = (h.end ≡ end) × (c ≤ end) × (is_size h.address_size ≡ true)
Within end (refused k vs) = Unit

-- fields that were read in a section lie before their unit's end, which lies in it
pub record Fits (s : List ℕ) (h : Head) (c : ℕ) : Type 0 where
  pub inside : h.end ≤ length s
  pub before : c ≤ h.end
  pub size : is_size h.address_size ≡ true

abbrev Inside : List ℕ → Read Head → Type 0
Inside s (gives (got h c)) = Fits s h c
Inside s (refused k vs) = Unit

within_inside : (s : List ℕ) (end : ℕ) (r : Read Head) → end ≤ length s → Within end r → Inside s r
within_inside s end (gives (got h c)) l w = record { inside = omega arith; before = omega arith; size = w.2 }
within_inside s end (refused k vs) l w = tt

fields_within : (endian : RunTimeEndian) (unit : List ℕ) (u : UnitLength) (at : ℕ) → Within (length unit) (fields endian unit u at)
unfolding fields
fields_within endian unit u at =
    then_ind (Within (length unit)) (uint endian 2 unit at) _ (λ k vs. tt) (λ v c e.
    pick_ind (Within (length unit)) (eqb v 5) (λ h.
    then_ind (Within (length unit)) (address_size_at unit c) _ (λ k vs. tt) (λ size d z.
    then_ind (Within (length unit)) (uint Little 1 unit d) _ (λ k vs. tt) (λ g b y.
    pick_ind (Within (length unit)) (eqb g 0) (λ x. (refl, uint_inside 1 unit d Little y, address_size_is unit c z)) (λ x. tt)))) (λ h. tt))

head_inside : (endian : RunTimeEndian) (s : List ℕ) (at : ℕ) → Inside s (head endian s at)
unfolding head
head_inside endian s at =
    then_ind (Inside s) (initial_length endian s at) _ (λ k vs. tt) (λ u c e.
    then_ind (Inside s) (truncate u.length s c) _ (λ k vs. tt) (λ end d z.
    let l = (truncate_inside u.length s c z).1 in
    within_inside s end (fields endian (take end s) u d) l (rw (length-take-le end s l) at (fields_within endian (take end s) u d))))

pub head_fits : (endian : RunTimeEndian) (s : List ℕ) (at : ℕ) {h : Head} {c : ℕ} → head endian s at ≡ gives (got h c) → Fits s h c
head_fits endian s at e = rw e at (head_inside endian s at)

module _ (endian : RunTimeEndian) (s : List ℕ) (at : ℕ) {h : Head} {c : ℕ} (p : gives (got h c) ≡ head endian s at) where
  pub end_length : h.end ≡ length (take h.end s)
  end_length = sym (length-take-le h.end s (head_fits endian s at (sym p)).inside)

  pub place_inside : c ≤ h.end
  place_inside = (head_fits endian s at (sym p)).before

  -- and so does a number after them
  pub number_inside : (n : ℕ) {v d : ℕ} → gives (got v d) ≡ uint endian n (take h.end s) c → d ≤ h.end
  number_inside n q = omega (arith, end_length, uint_inside n (take h.end s) c endian (sym q))
