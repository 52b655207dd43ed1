-- A limit is one test of the count: the others do not know it. Assumes nothing.
use mathlib.Core.Path.{◌≡◌, refl, sym, ap, ◌∙◌}
use mathlib.Core.Bool.{true}
use mathlib.Core.List.{List, [], ◌∷◌}
use mathlib.Core.Logic.{⊎_elim}
use Prim.Native.Nat.{ℕ, suc, ◌^◌, ◌≤◌, ◌<◌}
use native.Mathlib.Omega.{arith}
use lib.ListN.{length, get_or}
use borrow.Author.Tests.{le-leb, lt-leb}
use Rattle.section_bytes.specs.Read.{gives}
use Rattle.section_bytes.specs.Error.{refusal}
use Rattle.section_bytes.specs.declared.error.Error.TheVariants.{BadSheet}
use Rattle.coverage.specs.Ranges.{Range, limit}
use Rattle.coverage.specs.Kept.{ends, kept_as, lawful_from}
use Rattle.sheets.specs.Sheet.{sheet_bytes, sheet_kept, count_in, is_sheet_within, sheet_ranges_within, sheet_ranges}
use Rattle.sheets.specs.Limits.{Bytes, limit_before, Limits}
use Rattle.section_bytes.proofs.Order.{lt_or_le}
use Rattle.coverage.proofs.Small.{All}
use Rattle.coverage.proofs.KeptLaws.{lawful_from_lem, lawful_small, kept_lawful, ranges_kept}
use Rattle.sheets.proofs.SheetLaws.{back_within, count_within, ranges_within, written_within, lawful_within, sheet_kept_lem}

ends_all : (rs : List Range) → ((i : ℕ) → get_or (ends rs) i 0 < 2 ^ 64) → All (λ b e. e < 2 ^ 64) rs
ends_all [] h = tt
ends_all (r ∷ rs) h = (h 0, ends_all rs (λ i. h (suc i)))

reads : (m : ℕ) (rs : List Range) → length rs ≤ m → length rs < 2 ^ 16 → lawful_from 0 rs ≡ true
    → ((i : ℕ) → get_or (ends rs) i 0 < 2 ^ 64) → sheet_ranges_within m (sheet_bytes rs) ≡ gives rs
reads m rs h k l w = back_within rs (lawful_from_lem 0 rs l) (lawful_small 0 rs l (ends_all rs w)) (omega arith) m h

refuses : (m : ℕ) (bs : List ℕ) → m < count_in bs → sheet_ranges_within m bs ≡ refusal BadSheet
unfolding is_sheet_within
refuses m bs h = rw (lt-leb (count_in bs) m h)

-- limits that are not below the count answer alike
alike : (m k : ℕ) (bs : List ℕ) → count_in bs ≤ m → count_in bs ≤ k → sheet_ranges_within m bs ≡ sheet_ranges_within k bs
unfolding is_sheet_within
alike m k bs h l = rw (le-leb (count_in bs) m h, le-leb (count_in bs) k l)

stored : (m k : ℕ) (bs : List ℕ) {rs : List Range} → m ≤ k → sheet_ranges_within m bs ≡ gives rs → sheet_ranges_within k bs ≡ gives rs
stored m k bs h e = let c = count_within m bs e in alike k m bs (omega arith) c ∙ e

differ : (m k : ℕ) (bs : List ℕ) → m ≤ k → (sheet_ranges_within m bs ≡ sheet_ranges_within k bs → ⊥)
    → (m < count_in bs) × (count_in bs ≤ k)
differ m k bs h d =
    ⊎_elim
    (λ l. ⊎_elim (λ g. absurd (d (refuses m bs l ∙ sym (refuses k bs g)))) (λ g. (l, g)) (lt_or_le k (count_in bs)))
    (λ l. absurd (d (alike m k bs l (omega arith))))
    (lt_or_le m (count_in bs))

today : (bs : List ℕ) → sheet_ranges bs ≡ sheet_ranges_within limit bs
unfolding sheet_ranges
today bs = refl

again_before : (bs : List ℕ) {rs : List Range} → Bytes bs → sheet_ranges_within limit_before bs ≡ gives rs
    → sheet_kept (kept_as rs) ≡ gives bs
again_before bs {rs} h e =
    sheet_kept_lem (kept_as rs) (kept_lawful rs (lawful_within limit_before bs e h (omega arith)))
    ∙ ap (λ (l : List Range). gives (sheet_bytes l)) (ranges_kept rs)
    ∙ ap gives (sym (written_within limit_before bs e h))

pub limits : Limits
limits =
    record {
      reads = reads;
      lawful = λ m bs e. ranges_within m bs e;
      again = λ m bs h e. sym (written_within m bs e h);
      refuses = refuses;
      stored = stored;
      differ = differ;
      today = today;
      stored_before = λ bs e. today bs ∙ stored limit_before limit bs (omega arith) e;
      again_before = again_before;
      refused_before = refuses limit_before;
      differ_before = λ bs d. differ limit_before limit bs (omega arith) (λ e. d (e ∙ sym (today bs)));
    }
