-- What is counted is found: signs say what the counts of facts say.
use Rattle.std.proofs.Common.{Some, ◌≡◌, ℕ, ◌+◌, Bool, not, ◌||◌, cond, List, [], ◌∷◌, ap, arith, nat_eq}
use Rattle.std.proofs.Common.{refl, sym, ◌∙◌, inl, inr}
use Rattle.std.proofs.lemmas.Bool.{cases_Bool, ne_eqb}
use Rattle.std.proofs.lemmas.List.Sums.{sum_by-cons}
use Rattle.std.specs.List.{count_by, list_any}
use Rattle.pmb_command.specs.Parts.{DeviceParts}
use Rattle.pmb_facts.specs.Fact.{FactData}
use Rattle.pmb_stats_counts.specs.declared.fail.Fail.{Fail}
use Rattle.pmb_stats_counts.specs.declared.fail.Fail.TheVariants.{Refusals, BadTokens, Nacks, Alerts}
use Rattle.pmb_stats_counts.specs.declared.fail.Fail.TheVariants.{Faults, NoneRead}
use Rattle.pmb_stats_counts.specs.declared.fail.Signs.{Signs}
use Rattle.pmb_stats_counts.specs.Counts.{ends_packet}
use Rattle.pmb_stats_counts.specs.Fails.{fails, holds}
use Rattle.pmb_stats_counts.specs.machine.Standing.{SignsStandAt, is_given, sign}

-- no element passes a test exactly where the count of those that do is 0
pub none_counted : {X : Type 0} (p : X → Bool) (xs : List X) → not (list_any p xs) ≡ nat_eq (count_by p xs) 0
none_counted p [] = refl
none_counted p (x ∷ xs) =
    let sum : count_by p (x ∷ xs) ≡ cond (p x) 1 0 + count_by p xs = sum_by-cons (λ y. cond (p y) 1 0) x xs in
    elim (cases_Bool (p x)) [
      | inl is ↦
          let one : cond {A = ℕ} (p x) 1 0 ≡ 1 = ap {B = ℕ} (λ (b : Bool). cond b 1 0) is in
          let some : (count_by p (x ∷ xs) ≡ 0 → ⊥) = λ (e : count_by p (x ∷ xs) ≡ 0). omega arith in
          ap (λ (b : Bool). not (b || list_any p xs)) is ∙ sym (ne_eqb (count_by p (x ∷ xs)) 0 some)
      | inr is ↦
          let none : cond {A = ℕ} (p x) 1 0 ≡ 0 = ap {B = ℕ} (λ (b : Bool). cond b 1 0) is in
          let same : count_by p xs ≡ count_by p (x ∷ xs) = omega arith in
          ap (λ (b : Bool). not (b || list_any p xs)) is
          ∙ (none_counted p xs ∙ ap (λ n. nat_eq n 0) same)
    ]

any_same : {X : Type 0} (p q : X → Bool) → ((x : X) → p x ≡ q x) → (xs : List X) → list_any p xs ≡ list_any q xs
any_same p q same [] = refl
any_same p q same (x ∷ xs) =
    ap (λ (b : Bool). b || list_any p xs) (same x) ∙ ap (λ (b : Bool). q x || b) (any_same p q same xs)

-- signs say what holds
sign_holds : (signs : Signs) (profile : List DeviceParts) (facts : List FactData) → SignsStandAt signs profile facts
    → (fail : Fail) → sign signs fail ≡ holds profile facts fail
sign_holds signs profile facts stands Refusals = stands.refusals
sign_holds signs profile facts stands BadTokens = stands.bad_tokens_came
sign_holds signs profile facts stands Nacks = stands.nacks
sign_holds signs profile facts stands Alerts = stands.alerts
sign_holds signs profile facts stands Faults = stands.faults
sign_holds signs profile facts stands NoneRead =
    ap not stands.packets_came ∙ none_counted (λ (fact : FactData). ends_packet fact.what) facts

pub holds_of : (signs : Signs) (profile : List DeviceParts) (facts : List FactData) → SignsStandAt signs profile facts
    → (fail word : Fail) → fail ≡ word → sign signs word ≡ holds profile facts fail
holds_of signs profile facts stands fail word is =
    sign_holds signs profile facts stands word ∙ ap (holds profile facts) (sym is)

pub given : (signs : Signs) (profile : List DeviceParts) (facts : List FactData) → SignsStandAt signs profile facts
    → (words : List Fail) → is_given signs words ≡ fails profile (Some words) facts
given signs profile facts stands words =
    any_same (sign signs) (holds profile facts) (sign_holds signs profile facts stands) words
