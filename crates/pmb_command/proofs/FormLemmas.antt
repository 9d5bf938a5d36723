-- Forms are told apart by their numbers: for the law `forms_are_told_apart`. The form with a
-- form's number is that form.
use Rattle.std.proofs.Common.{◌≡◌, ℕ, true, [], ◌∷◌, refl, sym, ap, ◌∙◌, subst}
use Rattle.std.specs.Prelude.{slice_index_or}
use Rattle.std.specs.Bool.{Decides}
use Rattle.std.proofs.lemmas.Bool.{eqb-true}
use Rattle.pmb_command.specs.declared.form.Form.{Form}
use Rattle.pmb_command.specs.declared.form.Form.TheVariants.{Zero, One, Two, Four, Eight, Block}
use Rattle.pmb_command.specs.Fitting.{form_number, same_form}

-- the form with a number
abbrev form_with : ℕ → Form
form_with n = slice_index_or (Zero ∷ One ∷ Two ∷ Four ∷ Eight ∷ Block ∷ []) n Zero

-- the form with a form's number is that form
form_with-form_number : (form : Form) → form_with (form_number form) ≡ form
form_with-form_number Zero = refl
form_with-form_number One = refl
form_with-form_number Two = refl
form_with-form_number Four = refl
form_with-form_number Eight = refl
form_with-form_number Block = refl

-- a form is the same as itself
same_form-self : (form : Form) → same_form form form ≡ true
same_form-self Zero = refl
same_form-self One = refl
same_form-self Two = refl
same_form-self Four = refl
same_form-self Eight = refl
same_form-self Block = refl

-- forms are the same where they are equal
pub same_form-Decides : (form other : Form) → Decides (same_form form other) (form ≡ other)
same_form-Decides form other = (
  (λ same. sym (form_with-form_number form) ∙ ap form_with (eqb-true (form_number form) (form_number other) same)
      ∙ form_with-form_number other),
  (λ is. subst (λ it. same_form form it ≡ true) is (same_form-self form)),
)
