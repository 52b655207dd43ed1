-- What a call of a raw reader answers says what the definitions read. Assumes nothing.
use mathlib.Core.Path.{◌≡◌, refl}
use mathlib.Core.List.{List}
use Prim.Native.Nat.{ℕ}
use native.Mathlib.Omega.{arith}
use Rattle.std.specs.Prelude.{IsErrAnd}
use Rattle.std.proofs.lemmas.Result.{err_from_is_err_and}
use Rattle.std.specs.declared.option.Option.{Option}
use Rattle.std.specs.declared.result.Result.{Result as Answer}
use Rattle.section_bytes.specs.Read.{gives, refused, got, Read}
use Rattle.section_bytes.specs.Error.{refusal}
use Rattle.section_bytes.specs.declared.error.Error.{Error}
use Rattle.entries.specs.Told.{found, ended, step_of, told_step}
use Rattle.entries.specs.Forms.{Raw, stop, entry}

module _ {E : Type 0} where
  pub step_found : (r : Read (Raw E)) {e : E} {c : ℕ} → gives (found e c) ≡ step_of r → r ≡ gives (got (entry e) c)
  step_found (gives (got stop d)) h = let z : ◌≡◌ {A = ℕ} 0 1 = cc in absurd (omega arith)
  step_found (gives (got (entry f) d)) h = cc
  step_found (refused n vs) h = let z : ◌≡◌ {A = ℕ} 0 1 = cc in absurd (omega arith)

  pub step_ended : (r : Read (Raw E)) → gives ended ≡ step_of r → (c : ℕ) × (r ≡ gives (got stop c))
  step_ended (gives (got stop d)) h = (d, refl)
  step_ended (gives (got (entry f) d)) h = let z : ◌≡◌ {A = ℕ} 0 1 = cc in absurd (omega arith)
  step_ended (refused n vs) h = let z : ◌≡◌ {A = ℕ} 0 1 = cc in absurd (omega arith)

  pub step_failed : (r : Read (Raw E)) {n : ℕ} {vs : List ℕ} → refused n vs ≡ step_of r → r ≡ refused n vs
  step_failed (gives (got stop d)) h = let z : ◌≡◌ {A = ℕ} 0 1 = cc in absurd (omega arith)
  step_failed (gives (got (entry f) d)) h = let z : ◌≡◌ {A = ℕ} 0 1 = cc in absurd (omega arith)
  step_failed (refused n vs) h = cc

-- a refusal that the code hands on
pub step_handed_on : {E : Type 0} (q : Answer (Option (E × ℕ)) Error) (e : Error) → IsErrAnd q (λ y. y ≡ e) → told_step q ≡ refusal e
step_handed_on q e h = let p = err_from_is_err_and q h in rw (p.1, p.2) refl
