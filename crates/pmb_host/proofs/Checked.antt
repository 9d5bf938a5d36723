-- The faults of a READ or a CALL are those of its transaction with any reply that fits: for the
-- law `faults_are_those_of_check`. The transaction has one rule more, that its reply fits; a rule
-- that is kept is never the first one that is broken, so it may be put in or left out.
use Rattle.std.proofs.Common.{◌≡◌, ◌↔◌, ℕ, inl, inr, Option, Some, None, IfSome, List, [], ◌∷◌, ◌++◌, refl, subst}
use Rattle.pmb_command.specs.declared.form.Form.{Form}
use Rattle.pmb_command.specs.Parts.{DeviceParts}
use Rattle.pmb_command.specs.Wire.{Fits}
use Rattle.pmb_transaction.specs.Transaction.{Read, Call}
use Rattle.pmb_writer.specs.declared.invalid.Invalid.{Invalid}
use Rattle.pmb_writer.specs.declared.invalid.Invalid.TheVariants.{WrongLength}
use Rattle.pmb_writer.specs.Invalid.{IsFirstBroken, IsFirstFault, Rule, allows_form, fits_form, forms_at, has_command}
use Rattle.pmb_writer.specs.Invalid.{has_device, keeps_mode, rule_unless}
use Rattle.pmb_request.specs.Request.{Command, ReadBytes, CallBytes}
use Rattle.pmb_host.specs.declared.step.HostFault.TheVariants as faults
use Rattle.pmb_host.specs.Rules.{IsFault, IsRefusedBy}

-- ---- rules

-- a rule that is kept breaks nothing
with_kept : (front back : List Rule) (rule : Rule) (fault : Invalid) → rule.need → IsFirstBroken (front ++ back) fault
    → IsFirstBroken (front ++ rule ∷ back) fault
with_kept [] back rule fault kept broken = inr (kept, broken)
with_kept (r ∷ front) back rule fault kept (inl here) = inl here
with_kept (r ∷ front) back rule fault kept (inr later) = inr (later.0, with_kept front back rule fault kept later.1)

without_kept : (front back : List Rule) (rule : Rule) (fault : Invalid) → rule.need
    → IsFirstBroken (front ++ rule ∷ back) fault → IsFirstBroken (front ++ back) fault
without_kept [] back rule fault kept (inl here) = absurd (here.0 kept)
without_kept [] back rule fault kept (inr later) = later.1
without_kept (r ∷ front) back rule fault kept (inl here) = inl here
without_kept (r ∷ front) back rule fault kept (inr later) =
    inr (later.0, without_kept front back rule fault kept later.1)

-- a rule that asks for as much is broken as well
as_much : (front back : List Rule) (of : Invalid) (Need Other : Type 0) (fault : Invalid) → (Need → Other)
    → (Other → Need)
    → IsFirstBroken (front ++ rule_unless of Need ∷ back) fault
    → IsFirstBroken (front ++ rule_unless of Other ∷ back) fault
as_much [] back of Need Other fault there back_again (inl here) = inl ((λ other. here.0 (back_again other)), here.1)
as_much [] back of Need Other fault there back_again (inr later) = inr (there later.0, later.1)
as_much (r ∷ front) back of Need Other fault there back_again (inl here) = inl here
as_much (r ∷ front) back of Need Other fault there back_again (inr later) =
    inr (later.0, as_much front back of Need Other fault there back_again later.1)

-- of a form, where there is one
both_of : (form : Option Form) (P Q : Form → Type 0) → IfSome form Q → IfSome form P → IfSome form (λ it. P it × Q it)
both_of None P Q second first = tt
both_of (Some form) P Q second first = (first, second)

first_of : (form : Option Form) (P Q : Form → Type 0) → IfSome form (λ it. P it × Q it) → IfSome form P
first_of None P Q both = tt
first_of (Some form) P Q both = both.0

-- ---- requests

refused_so : (profile : List DeviceParts) (rules : List Rule) (invalid : Invalid)
    → IsRefusedBy profile rules (faults.Invalid invalid) → IsFirstBroken rules invalid
refused_so profile rules invalid (other, same, broken) = let is : other ≡ invalid = cc same in
    subst (IsFirstBroken rules) is broken

module _ (profile : List DeviceParts) (c : Command) (reply : List ℕ) (invalid : Invalid) where
  pub read_faults : IfSome (forms_at profile c.addr c.code).read (λ form. Fits form reply)
      → IsFault profile (ReadBytes c) (faults.Invalid invalid)
      ↔ IsFirstFault profile (Read (record { addr = c.addr; code = c.code; reply = reply; pec = c.pec })) invalid
  read_faults fits =
      let form = (forms_at profile c.addr c.code).read in
      let front : List Rule = has_device profile c.addr ∷ has_command profile c.addr c.code ∷ allows_form form ∷ [] in
      let back : List Rule = keeps_mode profile c.addr c.pec ∷ [] in
      let rule : Rule = fits_form form (λ it. Fits it reply) in (
        (λ fault. with_kept front back rule invalid fits (refused_so profile (front ++ back) invalid fault)),
        (λ broken. (invalid, refl, without_kept front back rule invalid fits broken)),
      )

  pub call_faults : (bytes : List ℕ) → IfSome (forms_at profile c.addr c.code).call (λ form. Fits form reply)
      → IsFault profile (CallBytes c bytes) (faults.Invalid invalid)
      ↔ IsFirstFault profile (Call (record {
        addr = c.addr;
        code = c.code;
        bytes = bytes;
        reply = reply;
        pec =
            c.pec;
      })) invalid
  call_faults bytes fits =
      let form = (forms_at profile c.addr c.code).call in
      let front : List Rule = has_device profile c.addr ∷ has_command profile c.addr c.code ∷ allows_form form ∷ [] in
      let back : List Rule = keeps_mode profile c.addr c.pec ∷ [] in
      let sent : Type 0 = IfSome form (λ it. Fits it bytes) in
      let both : Type 0 = IfSome form (λ it. Fits it bytes × Fits it reply) in
      let there : sent → both = λ first. both_of form (λ it. Fits it bytes) (λ it. Fits it reply) fits first in
      let back_again : both → sent = λ all. first_of form (λ it. Fits it bytes) (λ it. Fits it reply) all in (
        (λ fault. as_much front back WrongLength sent both invalid there back_again
            (refused_so profile (front ++ rule_unless WrongLength sent ∷ back) invalid fault)),
        (λ broken. (invalid, refl, as_much front back WrongLength both sent invalid back_again there broken)),
      )
