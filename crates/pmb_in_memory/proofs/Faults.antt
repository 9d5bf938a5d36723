-- A text says one thing as a profile, so that its fault is the one that is told: for the law `faults_are_told`.
use Rattle.std.proofs.Common.{◌≡◌, ◌∙◌, ℕ, List, Some, Result, Ok, Err, inl, inr, refl, sym, ap}
use Rattle.pmb_io.specs.Runs.{Job}
use Rattle.pmb_io.specs.declared.tally.Tally.{Tally}
use Rattle.pmb_table.specs.Profile.{ProfileParts, SaysBus, profile_of}
use Rattle.pmb_table.specs.declared.fault.ProfileFault.{ProfileFault}
use Rattle.pmb_in_memory.specs.Profile.{HasBus, HasFault, IsProfile, IsToldOf}
use Rattle.pmb_in_memory.specs.Put.{Puts}
use Rattle.pmb_in_memory.specs.declared.fault.WholeFault.{WholeFault}
use Rattle.pmb_in_memory.specs.declared.fault.WholeFault.TheVariants.{Profile, Memory, Write}
use Rattle.pmb_in_memory.specs.declared.put.Put.{Put}

one_value : {A : Type 0} (a b : A) → Some a ≡ Some b → a ≡ b
one_value a b same = cc same

one_saying : (text : List ℕ) (a b : Result ProfileParts ProfileFault) → SaysBus text a → SaysBus text b → a ≡ b
one_saying text a b (inl one) (inl other) =
    one.2 ∙ ap profile_of (one_value one.0 other.0 (sym one.1.1 ∙ other.1.1)) ∙ sym other.2
one_saying text a b (inl one) (inr none) = absurd (none.0 one.0 one.1)
one_saying text a b (inr none) (inl one) = absurd (none.0 one.0 one.1)
one_saying text a b (inr none) (inr other) = none.1 ∙ sym other.1

abbrev faulty : ProfileFault → Result ProfileParts ProfileFault
faulty fault = Err fault

one_fault : (a b : ProfileFault) → faulty a ≡ faulty b → b ≡ a
one_fault a b same = cc same

no_bus : (fault : ProfileFault) (bus : ProfileParts) → faulty fault ≡ Ok bus → ⊥
no_bus fault bus same = cc same

module _ (text : List ℕ) (fault : ProfileFault) (says : SaysBus text (Err fault)) where
  has_no_bus : (bus : ProfileParts) → HasBus text bus → ⊥
  has_no_bus bus has = no_bus fault bus (one_saying text (Err fault) (Ok bus) says has.says)

  is_that : (other : ProfileFault) → HasFault text other → other ≡ fault
  is_that other has = one_fault fault other (one_saying text (Err fault) (Err other) says has.says)

  pub told_of : (answer : Result ProfileParts WholeFault) → IsProfile text answer → IsToldOf fault answer
  told_of (Ok bus) has = absurd (has_no_bus bus has)
  told_of (Err (Profile other)) has = inl (ap (λ (f : ProfileFault). Err (Profile f)) (is_that other has))
  told_of (Err Memory) lacks = inr refl
  told_of (Err Write) never = absurd never

  pub told_of_put : (job : ProfileParts → Job Tally) (input before after : List ℕ) (answer : Result Put WholeFault)
      → Puts job text input before after answer → IsToldOf fault answer
  told_of_put job input before after (Ok put) puts = absurd (has_no_bus puts.bus puts.of_profile)
  told_of_put job input before after (Err (Profile other)) has =
      inl (ap (λ (f : ProfileFault). Err (Profile f)) (is_that other has.0))
  told_of_put job input before after (Err Memory) lacks = inr refl
  told_of_put job input before after (Err Write) never = absurd never
