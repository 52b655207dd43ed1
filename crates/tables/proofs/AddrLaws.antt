-- How large the addresses of a table are, and where one ends that a walk reads.
use mathlib.Core.Path.{◌≡◌, sym, ap, subst, ◌∙◌}
use mathlib.Core.List.{List}
use Prim.Native.Nat.{ℕ, ◌+◌, ◌*◌, ◌^◌, ◌≤◌, ◌<◌}
use native.Mathlib.Omega.{arith}
use lib.ListN.{length, get_or}
use Rattle.section_bytes.specs.Read.{Result, gives, refused, got}
use Rattle.section_bytes.specs.Reader.{address, part_of}
use Rattle.section_bytes.specs.declared.common.DebugAddrBase.{DebugAddrBase}
use Rattle.section_bytes.specs.declared.common.DebugAddrIndex.{DebugAddrIndex}
use Rattle.section_bytes.specs.declared.endianity.RunTimeEndian.{RunTimeEndian}
use Rattle.section_bytes.proofs.ReaderTook.{address_took, address_lt}
use Rattle.tables.specs.Row.{row_at}
use Rattle.tables.specs.Addr.{address_at}
use Rattle.section_bytes.proofs.Inside.{then_ind, part_fits}

-- an address of a table is below 2^(8 * size)
abbrev Below : ℕ → Result ℕ → Type 0
Below n (gives a) = a < n
Below n (refused k vs) = Unit

pub address_at_lt : (endian : RunTimeEndian) (size : ℕ) (tableBase : DebugAddrBase) (index : DebugAddrIndex) (s : List ℕ) {a : ℕ}
    → ((i : ℕ) → get_or s i 0 < 256) → address_at endian size tableBase index s ≡ gives a → a < 2 ^ (8 * size)
unfolding address_at
address_at_lt endian size tableBase index s b e =
    subst (Below (2 ^ (8 * size))) e (then_ind (Below (2 ^ (8 * size))) (row_at tableBase.0 index.0 size s) _ (λ k vs. tt) (λ v c z.
    then_ind (Below (2 ^ (8 * size))) (address endian size s c) _ (λ k vs. tt) (λ a d y. address_lt endian size s c b y)))

-- the part that a walk over addresses has left
module _ (s : List ℕ) (offset len : ℕ) {part : List ℕ} (k : part ≡ part_of s offset len) (z : length part ≡ 0 → ⊥) where
  pub part_ends_inside : offset + len ≤ length s
  part_ends_inside = (part_fits s offset len (λ e. z (ap length k ∙ e))).0

  pub address_ends_inside : (endian : RunTimeEndian) (size : ℕ) {a c : ℕ} → gives (got a c) ≡ address endian size part 0 → c ≤ len
  address_ends_inside endian size {c = c} q =
      let f = (part_fits s offset len (λ e. z (ap length k ∙ e))).1 in
      let e = sym q in
      let i : c ≤ length part = (rw e at (address_took part part size 0 endian)).1 in
      omega (arith, ap length k)
