-- Conversion, its lookups one after the other; opening a list, and the section that it stands in. Assumes nothing.
use mathlib.Core.Path.{◌≡◌, refl}
use mathlib.Core.Bool.{true}
use mathlib.Core.List.{List}
use Prim.Native.Nat.{ℕ, ◌≤◌, ◌<◌}
use lib.ListN.{length}
use borrow.Author.Tests.{le-leb, lt-leb}
use Rattle.std.proofs.lemmas.Result.{err_from_is_err_and}
use Rattle.section_bytes.specs.Read.{Result, gives, and_then}
use Rattle.section_bytes.specs.Error.{refusal}
use Rattle.section_bytes.specs.Reader.{is_size}
use Rattle.section_bytes.specs.Address.{add_sized}
use Rattle.section_bytes.specs.declared.common.DebugAddrIndex.{DebugAddrIndex}
use Rattle.section_bytes.specs.declared.common.Encoding.{Encoding}
use Rattle.section_bytes.specs.declared.error.Error.{Error}
use Rattle.entries.specs.declared.RawRngListEntry.TheVariants.{StartLength}
use Rattle.lists.specs.Open.{walk_at, opened, section_for}
use Rattle.lists.specs.Convert.{bounded, convert}

-- a `?` on an answer that is a value alone: the value goes on, or the refusal is the answer
module _ {A B : Type 0} {d : Result A} (f : A → Result B) where
  pub value_goes_on : {v : A} → gives v ≡ d → and_then d f ≡ f v
  value_goes_on p = rw (← p) refl

  pub value_stops : (e : Error) → refusal e ≡ d → and_then d f ≡ refusal e
  value_stops e p = rw (← p) refl

-- for functions whose steps are such answers under `?`
pub ruleset answering = (value_goes_on, value_stops, err_from_is_err_and)

-- a start and a length
pub start_length_is : (table : DebugAddrIndex → Result ℕ) (size base b n : ℕ) → convert table size base (StartLength b n) ≡ bounded size b (add_sized b n size)
unfolding convert
start_length_is table size base b n = refl

-- opening
module _ (encoding : Encoding) (s : List ℕ) (offset base : ℕ) where
  pub opened_list : is_size encoding.address_size ≡ true → offset ≤ length s → opened encoding s offset base ≡ gives (walk_at offset base 0)
  unfolding opened
  opened_list h l = simp (h, le-leb _ _ l)

module _ {A : Type 0} (encoding : Encoding) (older newer : A) where
  pub older_section : encoding.version ≤ 4 → section_for encoding older newer ≡ older
  unfolding section_for
  older_section h = simp (le-leb _ _ h)

  pub newer_section : 4 < encoding.version → section_for encoding older newer ≡ newer
  unfolding section_for
  newer_section h = simp (lt-leb _ _ h)
