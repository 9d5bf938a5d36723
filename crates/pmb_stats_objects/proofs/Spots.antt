-- What there is to tell of a spot, where the profile has its command, and where it hasn't.
use Rattle.std.proofs.Common.{◌≡◌, ◌∙◌, Bool, true, false, cond, Option, Some, None, List, [], ap, refl, subst, sym}
use Rattle.pmb_command.specs.declared.entry.Kind.{Kind}
use Rattle.pmb_command.specs.Parts.{CommandParts, DeviceParts, device_with}
use Rattle.pmb_json_objects.specs.Seen.{command_of}
use Rattle.pmb_mean.specs.Numbers.{kept}
use Rattle.pmb_observed.specs.declared.spot.Spot.{Spot}
use Rattle.pmb_observed.specs.Observed.{Observation, numbers_at, reads_at}
use Rattle.pmb_observed.specs.Spot.{command_if, command_in, has_place, is_numeric, is_of, is_register}
use Rattle.pmb_observed.specs.Spot.{command_on}
use Rattle.pmb_observed.specs.Told.{bits_told, command_numbers, numbers_told, register_bits}
use Rattle.pmb_stats_objects.specs.machine.Written.{has_any}

-- ---- a status register

module _ (told : List Observation) (spot : Spot) where
  pub no_register : (e : Option CommandParts) → is_of is_register e ≡ false → register_bits told spot e ≡ []
  no_register None lacks = refl
  no_register (Some command) lacks =
      ap (λ (b : Bool). cond b (bits_told spot.page spot.phase command (reads_at spot told) 16) []) lacks

  pub some_register : (e : Option CommandParts) (command : CommandParts) → is_of is_register e ≡ true → e ≡ Some command
      → register_bits told spot e ≡ bits_told spot.page spot.phase command (reads_at spot told) 16
  some_register None command has is = absurd (cc has)
  some_register (Some other) command has is =
      ap (λ (b : Bool). cond b (bits_told spot.page spot.phase other (reads_at spot told) 16) []) has
      ∙ ap (λ (x : CommandParts). bits_told spot.page spot.phase x (reads_at spot told) 16) (cc is)

  pub any_register : (e : Option CommandParts) (any : Bool) → is_of is_register e ≡ true
      → ((command : CommandParts) → any ≡ has_any (bits_told spot.page spot.phase command (reads_at spot told) 16))
      → any ≡ has_any (register_bits told spot e)
  any_register None any has each = absurd (cc has)
  any_register (Some command) any has each =
      each command ∙ ap has_any (sym (some_register (Some command) command has refl))

  -- ---- numbers

  pub no_command : (e : Option CommandParts) → is_of is_numeric e ≡ false → command_numbers told spot e ≡ []
  no_command None lacks = refl
  no_command (Some command) lacks =
      ap (λ (b : Bool). cond b (numbers_told spot.page spot.phase command (kept (numbers_at spot told))) []) lacks

  pub some_command : (e : Option CommandParts) (command : CommandParts) → is_of is_numeric e ≡ true → e ≡ Some command
      → command_numbers told spot e ≡ numbers_told spot.page spot.phase command (kept (numbers_at spot told))
  some_command None command has is = absurd (cc has)
  some_command (Some other) command has is =
      ap (λ (b : Bool). cond b (numbers_told spot.page spot.phase other (kept (numbers_at spot told))) []) has
      ∙ ap (λ (x : CommandParts). numbers_told spot.page spot.phase x (kept (numbers_at spot told))) (cc is)

  pub any_command : (e : Option CommandParts) (any : Bool) → is_of is_numeric e ≡ true
      → ((command : CommandParts)
      → any ≡ has_any (numbers_told spot.page spot.phase command (kept (numbers_at spot told))))
      → any ≡ has_any (command_numbers told spot e)
  any_command None any has each = absurd (cc has)
  any_command (Some command) any has each =
      each command ∙ ap has_any (sym (some_command (Some command) command has refl))

-- ---- the command at a spot is that of the device

module _ (profile : List DeviceParts) (device : DeviceParts) (spot : Spot)
    (known : device_with spot.addr profile ≡ Some device) where
  command_found : (e : Option CommandParts) → command_of (Some device) spot.code ≡ e
      → command_on profile spot ≡ command_if device spot e
  command_found e is =
      ap (λ (d : Option DeviceParts). command_in d spot) known ∙ ap (command_if device spot) is

  only_one : (b : Bool) (e : CommandParts) (is : Kind → Bool) → is_of is (cond b (Some e) None) ≡ true
      → cond b (Some e) None ≡ Some e
  only_one true e is has = refl
  only_one false e is has = absurd (cc has)

  pub command_is : (e : CommandParts) (is : Kind → Bool) → command_of (Some device) spot.code ≡ Some e
      → is_of is (command_on profile spot) ≡ true → command_on profile spot ≡ Some e
  command_is e is found has =
      let here = command_found (Some e) found in
      here ∙ only_one (has_place device e spot) e is
      (subst (λ (o : Option CommandParts). is_of is o ≡ true) here has)

  pub no_command_there : (is : Kind → Bool) → command_of (Some device) spot.code ≡ None
      → is_of is (command_on profile spot) ≡ true → ⊥
  no_command_there is found has =
      let none = subst (λ (o : Option CommandParts). is_of is o ≡ true) (command_found None found) has in cc none
