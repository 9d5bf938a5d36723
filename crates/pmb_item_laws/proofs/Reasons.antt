-- A number that names a reason is that reason's: for the law `reasons_have_one_number`.
use Rattle.std.proofs.Common.{◌≡◌, ◌∙◌, ◌==◌, ℕ, Bool, cond, inl, inr, Option, Some, None, ap, sym}
use Rattle.std.proofs.lemmas.Bool.{cases_Bool, eqb-true}
use Rattle.pmb_transaction.specs.declared.reason.Reason.{Reason}
use Rattle.pmb_transaction.specs.declared.reason.Reason.TheVariants.{ReadFirst, BadRestart, BadPec, UnknownDevice}
use Rattle.pmb_transaction.specs.declared.reason.Reason.TheVariants.{UnknownCommand, TooLong, TooShort, WrongEvent}
use Rattle.pmb_transaction.specs.declared.reason.Reason.TheVariants.{Truncated}
use Rattle.pmb_items.specs.Refusal.{reason_number, reason_of}

one_reason : (a b : Reason) → Some a ≡ Some b → a ≡ b
one_reason a b same = cc same

-- a number is that of this reason, or one of those that are asked next
module _ (number : ℕ) (reason : Reason) where
  asks : (this : Reason) (next : Option Reason) → cond (number == reason_number this) (Some this) next ≡ Some reason
      → (next ≡ Some reason → number ≡ reason_number reason) → number ≡ reason_number reason
  asks this next is further =
      elim (cases_Bool (number == reason_number this)) [
        | inl same ↦
            eqb-true number (reason_number this) same
            ∙ ap reason_number (one_reason this reason
            (sym (ap (λ (v : Bool). cond v (Some this) next) same) ∙ is))
        | inr other ↦ further (sym (ap (λ (v : Bool). cond v (Some this) next) other) ∙ is)
      ]

  none_asked : None ≡ Some reason → number ≡ reason_number reason
  none_asked is = absurd (cc is)

  pub only_its_own : reason_of number ≡ Some reason → number ≡ reason_number reason
  only_its_own is =
      asks ReadFirst _ is (λ is. asks BadRestart _ is (λ is. asks BadPec _ is (λ is. asks UnknownDevice _ is (λ is.
      asks UnknownCommand _ is (λ is. asks TooLong _ is (λ is. asks TooShort _ is (λ is. asks WrongEvent _ is (λ is.
      asks Truncated _ is none_asked))))))))
