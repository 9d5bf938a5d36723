-- Members that are said of a command of a device, where the profile has both. They are appended (for
-- `append_command` of `src/members.rt`, `append_data` and `append_call` of `src/data.rt`), and what holds
-- of those of each command holds of them (for the law `objects_are_json`).
use Rattle.std.proofs.Common.{◌≡◌, ℕ, nat_eq, Option, Some, None, List, [], ◌++◌, refl, ap, subst, ◌∙◌}
use Rattle.std.specs.Prelude.{IfSome}
use Rattle.pmb_command.specs.Bus.{IsBus, IsCommand, IsDevice}
use Rattle.pmb_command.specs.Parts.{CommandParts, DeviceParts, command_with, device_with}
use Rattle.pmb_json_text.specs.declared.item_order.ItemOrder.TheVariants.{Later}
use Rattle.pmb_json_text.specs.Member.{Member, members_text}
use Rattle.pmb_json_objects.specs.Laws.{AreOfWords, HasFormats, IsOfWords}
use Rattle.pmb_json_objects.specs.Members.{at_command, of_command, of_device_command}
use Rattle.pmb_json_objects.specs.Seen.{SeenData, command_of}
use Rattle.pmb_json_objects.proofs.Fine.{HasTexts, command_texts, of_found}
use Rattle.pmb_json_objects.proofs.Lists.{nothing}

-- ---- they are appended

module _ (old : List ℕ) (known : SeenData) (addr code : ℕ) (members : DeviceParts → CommandParts → List Member) where
  -- nothing where there is no such device
  pub no_device : None ≡ device_with addr known.profile
      → old ≡ old ++ members_text Later (at_command known addr code members)
  no_device none =
      nothing old ∙ ap (λ d. old ++ members_text Later (of_device_command members d code)) none

  module _ (device : DeviceParts) (here : Some device ≡ device_with addr known.profile) where
    -- .. or the device has no such command
    pub no_command : None ≡ command_with code device.commands
        → old ≡ old ++ members_text Later (at_command known addr code members)
    no_command none =
        nothing old ∙ ap (λ c. old ++ members_text Later (of_command members device c)) none
        ∙ ap (λ d. old ++ members_text Later (of_device_command members d code)) here

    pub the_command : (c : CommandParts) {new : List ℕ} → Some c ≡ command_with code device.commands
        → new ≡ old ++ members_text Later (members device c)
        → new ≡ old ++ members_text Later (at_command known addr code members)
    the_command c {new} there written =
        written ∙ ap (λ o. old ++ members_text Later (of_command members device o)) there
        ∙ ap (λ d. old ++ members_text Later (of_device_command members d code)) here

-- ---- what holds of each command

module _ (P : List Member → Type 0) (none : P []) (members : DeviceParts → CommandParts → List Member) where
  of_each : (device : DeviceParts) (o : Option CommandParts) → ((c : CommandParts) → o ≡ Some c → P (members device c))
      → P (of_command members device o)
  of_each device None each = none
  of_each device (Some c) each = each c refl

  of_device : (o : Option DeviceParts) (code : ℕ)
      → ((device : DeviceParts) (c : CommandParts) → o ≡ Some device → command_with code device.commands ≡ Some c
      → P (members device c))
      → P (of_device_command members o code)
  of_device None code each = none
  of_device (Some device) code each = of_each device (command_with code device.commands) (λ c. each device c refl)

  -- holds of that of the device with an address, where there are both
  pub at_each : (seen : SeenData) (addr code : ℕ)
      → ((device : DeviceParts) (c : CommandParts) → device_with addr seen.profile ≡ Some device
      → command_with code device.commands ≡ Some c → P (members device c))
      → P (at_command seen addr code members)
  at_each seen addr code each = of_device (device_with addr seen.profile) code each

-- ---- what is known of that device and its command

module _ (seen : SeenData) (addr : ℕ) (device : DeviceParts) (here : device_with addr seen.profile ≡ Some device) where
  pub is_device : IsBus seen.profile → IsDevice device
  is_device bus =
      subst (λ o. IfSome o IsDevice) here (of_found IsDevice (λ d. nat_eq d.address addr) seen.profile bus.devices)

  module _ (code : ℕ) where
    pub vout_has_words : HasFormats seen addr code → IfSome device.vout_direct AreOfWords
    vout_has_words formats = subst (λ o. IfSome o (λ d. IfSome d.vout_direct AreOfWords)) here formats.vout

    module _ (c : CommandParts) (there : command_with code device.commands ≡ Some c) where
      pub has_texts : IsBus seen.profile → HasTexts c
      has_texts bus =
          let is : IsCommand c = subst (λ o. IfSome o IsCommand) there
          (of_found IsCommand (λ c. nat_eq c.entry.code code) device.commands (is_device bus).commands) in
          command_texts c is

      pub kind_has_words : HasFormats seen addr code → IsOfWords c.entry.kind
      kind_has_words formats =
          subst (λ o. IfSome o (λ c. IsOfWords c.entry.kind)) there
          (subst (λ o. IfSome (command_of o code) (λ c. IsOfWords c.entry.kind)) here formats.kind)
