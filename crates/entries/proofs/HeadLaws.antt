-- An entry of either list by what stands before its expression. Assumes nothing.
use mathlib.Core.Path.{◌≡◌, refl, ◌∙◌}
use mathlib.Core.Bool.{Bool, true, false}
use mathlib.Core.List.{List}
use Prim.Native.Nat.{ℕ, ◌+◌, ◌≤◌, ◌<◌}
use lib.Dec.{eqb}
use lib.ListN.{length}
use borrow.Author.Tests.{ne_eqb}
use Rattle.std.specs.Prelude.{IsErrAnd}
use Rattle.std.specs.declared.result.Result.{Result as Answer}
use Rattle.std.proofs.lemmas.Result.{err_from_is_err_and}
use Rattle.section_bytes.specs.Read.{Result, gives, refused, got, Read}
use Rattle.section_bytes.specs.Error.{refusal}
use Rattle.section_bytes.specs.declared.common.Encoding.{Encoding}
use Rattle.section_bytes.specs.declared.endianity.RunTimeEndian.{RunTimeEndian}
use Rattle.section_bytes.specs.declared.error.Error.{Error}
use Rattle.section_bytes.proofs.Took.{Took, pick_ind}
use Rattle.entries.specs.declared.Expression.{Expression}
use Rattle.entries.specs.declared.RawRngListEntry.{RawRngListEntry}
use Rattle.entries.specs.declared.RawLocListEntry.{RawLocListEntry}
use Rattle.entries.specs.declared.RawLocListEntry.TheVariants as loc
use Rattle.entries.specs.declared.raw.Pair.{Pair}
use Rattle.entries.specs.Forms.{expression, operand, operands, Raw, stop, entry}
use Rattle.entries.specs.Kinds.{location_kinds, kind_of, range_entry_by, moved}
use Rattle.entries.specs.Numbers.{Coding}
use Rattle.entries.specs.Told.{Step, found, ended, step_of}
use Rattle.entries.specs.Listed.{read_in, step_in}
use Rattle.entries.specs.Heads.{located_by, located_as, with_numbers, paired_in, forms_in, pair_in, bare_in}
use Rattle.entries.proofs.KindLaws.{range_bare}
use Rattle.entries.proofs.StepLaws.{step_found}
use Rattle.entries.proofs.MovedLaws.{moved_alike, raw_past}

-- a refusal that the code hands on
pub numbers_handed_on : (encoding : Encoding) (endian : RunTimeEndian) (start : ℕ) (s : List ℕ) (code : ℕ) (q : Answer (ℕ × ℕ × ℕ) Error) (e : Error) → IsErrAnd q (λ y. y ≡ e)
    → with_numbers encoding endian start s code q ≡ refusal e
numbers_handed_on encoding endian start s code q e h = let p = err_from_is_err_and q h in rw (p.1, p.2) refl

pub pair_handed_on : (l : Bool) (encoding : Encoding) (endian : RunTimeEndian) (start : ℕ) (s : List ℕ) (q : Answer Pair Error) (e : Error) → IsErrAnd q (λ y. y ≡ e)
    → paired_in l encoding endian start s q ≡ refusal e
pair_handed_on l encoding endian start s q e h = let p = err_from_is_err_and q h in rw (p.1, p.2) refl

-- a code that is not that of another kind with an expression
pub located_else : (code a b : ℕ) (x : Expression) → (code ≡ 2 → ⊥) → (code ≡ 3 → ⊥) → (code ≡ 4 → ⊥) → (code ≡ 5 → ⊥) → (code ≡ 7 → ⊥)
    → loc.StartLength a b x ≡ located_as code a b x
unfolding located_as kind_of location_kinds
located_else code a b x c2 c3 c4 c5 c7 =
    rw (ne_eqb code 2 c2, ne_eqb code 3 c3, ne_eqb code 4 c4, ne_eqb code 5 c5, ne_eqb code 7 c7)
    (pick_ind (λ k. loc.StartLength a b x ≡ located_by k a b x) (eqb code 0) (λ _. refl)
    (λ _. pick_ind (λ k. loc.StartLength a b x ≡ located_by k a b x) (eqb code 1) (λ _. refl)
    (λ _. pick_ind (λ k. loc.StartLength a b x ≡ located_by k a b x) (eqb code 6) (λ _. refl)
    (λ _. pick_ind (λ k. loc.StartLength a b x ≡ located_by k a b x) (eqb code 8) (λ _. refl) (λ _. refl)))))

-- what is answered like what is read: an entry with the place after it, which is in the part; the end; a refusal
module _ {E : Type 0} (start : ℕ) (q : Read (Raw E)) where
  pub found_step : {x : E} {c : ℕ} → gives (found x c) ≡ step_of q → gives (found x (start + c)) ≡ step_of (moved start q)
  found_step {x} {c} f = moved_alike start (gives (got (entry x) c)) q f

  pub found_within : (s : List ℕ) {x : E} {c : ℕ} → Took 1 0 s s q q → gives (found x c) ≡ step_of q → c ≤ length s
  found_within s k f = let j = rw (step_found q f) at k in j.1

  pub ended_step : gives ended ≡ step_of q → gives ended ≡ step_of (moved start q)
  ended_step f = moved_alike start (gives (got stop 0)) q f

  pub refused_step : (e : Error) → refusal e ≡ step_of q → {t : Result (Step E)} → t ≡ refusal e → t ≡ step_of (moved start q)
  refused_step e f p = p ∙ moved_alike start (refusal e) q f

-- where a range list has bare pairs
pub bare_range_there : (encoding : Encoding) (endian : RunTimeEndian) (s : List ℕ) (number_of : ℕ → ℕ) → encoding.version < 5 → {t : Result (Step RawRngListEntry)}
    → t ≡ step_of (bare_in false encoding endian 0 s) → t ≡ step_of (range_entry_by number_of encoding endian s)
bare_range_there encoding endian s number_of v f = rw (range_bare encoding endian s number_of v) f

-- a location's pair is followed by an expression
module _ (encoding : Encoding) (endian : RunTimeEndian) (start : ℕ) (s : List ℕ) (b e c : ℕ) (q : Read (Raw RawLocListEntry))
    (f : step_of (operands encoding endian start s (forms_in true) (pair_in true b e) c) ≡ step_of q) where
  pub data_stops : (x : Error) → refusal x ≡ operand encoding endian start s expression c → {t : Result (Step RawLocListEntry)} → t ≡ refusal x → t ≡ step_of (moved start q)
  data_stops x k p = refused_step start q x (rw (← k) at f) p

  pub data_step : {x : Expression} {d : ℕ} → gives (got x d) ≡ operand encoding endian start s expression c
      → gives (found (loc.AddressOrOffsetPair b e x) (start + d)) ≡ step_of (moved start q)
  data_step k = found_step start q (rw (← k) at f)

-- an answer for a location is the code's own
pub step_same : (t : Result (Step RawLocListEntry)) → step_in true t ≡ t
step_same (gives (found e c)) = refl
step_same (gives ended) = refl
step_same (refused n vs) = refl

-- past the section's end either list ends
pub in_end : (coding : Coding) (encoding : Encoding) (endian : RunTimeEndian) (s : List ℕ) (at : ℕ) (l : Bool) → length s ≤ at
    → gives ended ≡ step_of (read_in l coding encoding endian s at)
in_end coding encoding endian s at true h = raw_past _ s at h
in_end coding encoding endian s at false h = raw_past _ s at h
