-- What a walk does with its address size is for every size but 3 what it did before that one was read: the definitions that look at
-- the size are those with `is_size_before` in place of `is_size`. The proof is `walks_as_before` in proofs/SizeLaws.antt.
use Rattle.std.specs.Prelude.{ℕ, List, ◌≡◌, leb, length}
use Rattle.section_bytes.specs.Read.{Result, gives, pick}
use Rattle.section_bytes.specs.Error.{refusal}
use Rattle.section_bytes.specs.Sizes.{is_size_before}
use Rattle.section_bytes.specs.declared.common.DebugAddrIndex.{DebugAddrIndex}
use Rattle.section_bytes.specs.declared.common.Encoding.{Encoding}
use Rattle.section_bytes.specs.declared.error.Error.TheVariants.{UnexpectedEof, UnsupportedAddressSize}
use Rattle.tables.specs.Next.{ends, hands}
use Rattle.lists.specs.Open.{walk_at, moved_to, opened}
use Rattle.lists.specs.Convert.{convert}
use Rattle.lists.specs.Walk.{Listing, first, trace, next, on_raw, next_raw, comes, outcome, convert_raw}
use Rattle.lists.specs.declared.Walk.{Walk}

pub record WalksAsBefore : Type 1 where
  pub opening : (encoding : Encoding) (s : List ℕ) (offset base : ℕ) → (encoding.address_size ≡ 3 → ⊥)
      → opened encoding s offset base
      ≡ pick (is_size_before encoding.address_size) (pick (leb offset (length s)) (gives (walk_at offset base 0)) (refusal UnexpectedEof))
      (refusal (UnsupportedAddressSize encoding.address_size))
  pub walk : (l : Listing) (table : DebugAddrIndex → Result ℕ) (size len : ℕ) (w : Walk) → (size ≡ 3 → ⊥)
      → next l table size len w
      ≡ pick (is_size_before size) (first (trace l table size len w)) (hands (refusal (UnsupportedAddressSize size)) (moved_to len w))
  pub raw : (l : Listing) (size len : ℕ) (w : Walk) → (size ≡ 3 → ⊥)
      → next_raw l size len w
      ≡ pick (is_size_before size) (pick (leb len w.at) (ends w) (on_raw len w (l.read w.at)))
      (hands (refusal (UnsupportedAddressSize size)) (moved_to len w))
  pub conversion : (l : Listing) (table : DebugAddrIndex → Result ℕ) (size : ℕ) (w : Walk) (e : l.Entry) → (size ≡ 3 → ⊥)
      → convert_raw l table size w e
      ≡ pick (is_size_before size) (outcome w (l.carried e) (convert table size w.base_address (l.bounds_of e)))
      (comes (refusal (UnsupportedAddressSize size)) w)
