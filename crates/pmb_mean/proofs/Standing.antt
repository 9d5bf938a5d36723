-- A history that holds what values come to holds, with one value more, what these come to
-- together: for `see`.
use Rattle.std.proofs.Common.{◌≡◌, ℕ, ◌+◌, ◌-◌, ◌^◌, ◌<◌, ◌≤◌, Bool, true, false, cond, ◌==◌, ◌||◌, Some}
use Rattle.std.proofs.Common.{None}
use Rattle.std.proofs.Common.{List, [], ◌∷◌, ◌++◌, length, fold, if◌then◌else◌, refl, sym, ap, ◌∙◌, subst}
use Rattle.std.proofs.Common.{arith}
use Rattle.std.proofs.lemmas.Bool.{ne_eqb}
use Rattle.std.proofs.lemmas.List.{length-append}
use Rattle.std.proofs.lemmas.List.Sums.{fold-append, sum_by-append}
use Rattle.pmb_quantity.specs.Fraction.{Fraction}
use Rattle.pmb_mean.specs.declared.sum.Sum.TheVariants.{Empty}
use Rattle.pmb_mean.specs.Numbers.{NumberData, greater, is_below, kept, lesser, mean}
use Rattle.pmb_mean.specs.machine.History.{HistoryData, HistoryStandsAt, Holds, added, after}
use Rattle.pmb_mean.specs.machine.History.{greatest_after, least_after}
use Rattle.pmb_mean.specs.machine.History.{mean_of, sum_of, told}
use Rattle.pmb_mean.proofs.Sums.{mean_is}
use Rattle.pmb_mean.proofs.Takes.{kept_full, kept_more, kept_none}

told_some : (count : ℕ) (q : Fraction) → told (count + 1) q ≡ Some q
told_some count q = ap (λ b. cond b None (Some q)) (ne_eqb (count + 1) 0 (λ is. omega arith))

lesser_told : (b : Bool) (q : Fraction) (n : NumberData)
    → Some (if b || is_below n.value q then n.value else q) ≡ lesser (if b then None else Some q) n
lesser_told true q n = refl
lesser_told false q n = refl

greater_told : (b : Bool) (q : Fraction) (n : NumberData)
    → Some (if b || is_below q n.value then n.value else q) ≡ greater (if b then None else Some q) n
greater_told true q n = refl
greater_told false q n = refl

-- one value more at the end of a fold
fold_one : {B : Type 0} (f : B → NumberData → B) (a : B) (numbers : List NumberData) (n : NumberData)
    → f (fold f a numbers) n ≡ fold f a (numbers ++ n ∷ [])
fold_one f a numbers n = sym (fold-append f a numbers (n ∷ []))

pub holds_more : (h : HistoryData) (n : NumberData) (numbers : List NumberData) → Holds h numbers
    → Holds (after h n) (numbers ++ n ∷ [])
holds_more h n numbers holds = record {
  count = omega (arith, length-append numbers (n ∷ []), holds.count);
  assumed = omega (
    arith,
    holds.assumed,
    sum_by-append (λ (m : NumberData). cond m.assumed 1 0) numbers (n ∷ []),
  );
  total = ap (λ s. added s n) holds.total ∙ fold_one added Empty numbers n;
  least = told_some h.count (least_after h.count h.least n.value) ∙ lesser_told (h.count == 0) h.least n
      ∙ ap (λ q. lesser q n) holds.least ∙ fold_one lesser None numbers n;
  greatest = told_some h.count (greatest_after h.count h.greatest n.value)
      ∙ greater_told (h.count == 0) h.greatest n ∙ ap (λ q. greater q n) holds.greatest
      ∙ fold_one greater None numbers n;
  last = told_some h.count n.value ∙ fold_one (λ _ m. Some m.value) None numbers n;
}

pub stands_more : (h : HistoryData) (n : NumberData) (numbers : List NumberData) → h.count < 2 ^ 64 - 1
    → HistoryStandsAt h numbers → HistoryStandsAt (after h n) (numbers ++ n ∷ [])
stands_more h n numbers room stands =
    let fewer : length (kept numbers) < 2 ^ 64 - 1 = omega (arith, stands.holds.count) in
    record {
      holds = subst (Holds (after h n)) (sym (kept_more numbers n fewer)) (holds_more h n (kept numbers) stands.holds);
    }

pub stands_full : (h : HistoryData) (n : NumberData) (numbers : List NumberData) → 2 ^ 64 - 1 ≤ h.count
    → HistoryStandsAt h numbers → HistoryStandsAt h (numbers ++ n ∷ [])
stands_full h n numbers full stands =
    let as_many : 2 ^ 64 - 1 ≤ length (kept numbers) = omega (arith, stands.holds.count) in
    record { holds = subst (Holds h) (sym (kept_full numbers n as_many)) stands.holds }

-- a new history
pub stands_first : (h : HistoryData) → h.count ≡ 0 → h.assumed ≡ 0 → h.total ≡ Empty → HistoryStandsAt h []
stands_first h count assumed total =
    let none : (q : Fraction) → told h.count q ≡ None = λ q. ap (λ c. told c q) count in
    record {
      holds = subst (Holds h) (sym kept_none) (record {
        count = count;
        assumed = assumed;
        total = total;
        least = none h.least;
        greatest = none h.greatest;
        last = none h.last;
      });
    }

-- the mean, by what is held
pub mean_held : (h : HistoryData) (numbers : List NumberData) → HistoryStandsAt h numbers
    → mean_of h.total h.count ≡ mean (kept numbers)
mean_held h numbers stands =
    ap (λ s. mean_of s h.count) stands.holds.total ∙ ap (mean_of (sum_of (kept numbers))) stands.holds.count
    ∙ sym (mean_is (kept numbers))
