-- What a table of a profile says of one device, apart from its commands.
use Rattle.std.specs.Prelude.{ℕ, Bool, true, false, not, Option, Some, None, Result, Ok, List, [], ◌∷◌, codes, nat_eq}
use Rattle.std.specs.Prelude.{replicate}
use Rattle.std.specs.List.{list_any}
use Rattle.toml.specs.Data.{Data, Items, no_items, Members, as_integer, as_bool, as_array, as_str, as_table}
use Rattle.pmb_coefficients.specs.Coefficients.{Coefficients}
use Rattle.pmb_keys.specs.declared.fault.FaultKind.{FaultKind}
use Rattle.pmb_keys.specs.declared.fault.FaultKind.TheVariants as faults
use Rattle.pmb_command.specs.Names.{is_device_name}
use Rattle.pmb_command.specs.declared.pec_mode.PecMode.{PecMode}
use Rattle.pmb_command.specs.declared.pec_mode.PecMode.TheVariants.{Off, On, Optional}
use Rattle.pmb_command.specs.Parts.{VidParts}
use Rattle.pmb_keys.specs.CommandRules.{byte_rule, word_rule, coefficients, of_words}
use Rattle.pmb_keys.specs.Addresses.{also_rule}
use Rattle.pmb_keys.specs.VidRule.{vid_rule}
use Rattle.pmb_keys.specs.Rules.{bind, or_fault, unless, natural_within, only, typed, required, optional, defaulted}
use Rattle.pmb_keys.specs.Rules.{each_of, item_count}

-- the keys of a device's table
abbrev pub device_key_names : List (List ℕ)
device_key_names =
    codes "address" ∷ codes "pec" ∷ codes "pages" ∷ codes "vout_mode" ∷ codes "standard" ∷ codes "vout_direct"
    ∷ codes "command"
    ∷ codes "name" ∷ codes "vid" ∷ codes "phases" ∷ codes "protect" ∷ codes "also" ∷ []

-- 08h to 77h without 0ch (SMBus 3.0 appendix C: the others are reserved, and 0ch is the Alert
-- Response Address), no earlier device's, and none of those that are ignored
abbrev pub address_rule : List ℕ → List ℕ → Data → Result ℕ FaultKind
address_rule taken ignored d =
    bind (typed as_integer d) (λ z.
    bind (or_fault faults.BadAddress (natural_within 0x08 0x77 z)) (λ address.
    bind (unless faults.BadAddress (not (nat_eq address 0x0c))) (λ _.
    bind (unless faults.AddressTwice (not (list_any (nat_eq address) taken))) (λ _.
    bind (unless faults.BadValue (not (list_any (nat_eq address) ignored))) (λ _.
    Ok address)))))

abbrev pub pec_words : List (List ℕ × PecMode)
pec_words = (codes "off", Off) ∷ (codes "on", On) ∷ (codes "optional", Optional) ∷ []

abbrev pub pages_rule : Data → Result ℕ FaultKind
pages_rule d = bind (typed as_integer d) (λ z. or_fault faults.BadPages (natural_within 1 32 z))

-- VOUT_MODE of each page at first, by a value that may be an array: one byte for all pages, or an item
-- for each
abbrev pub modes_of : ℕ → Data → Option Items → Result (List ℕ) FaultKind
modes_of pages d None = bind (byte_rule d) (λ mode. Ok (replicate pages mode))
modes_of pages d (Some items) =
    bind (each_of byte_rule items) (λ modes.
    bind (unless faults.BadValue (nat_eq (item_count items) pages)) (λ _.
    Ok modes))

abbrev pub modes_rule : ℕ → Data → Result (List ℕ) FaultKind
modes_rule pages d = modes_of pages d (as_array d)

-- the name of a device
abbrev pub name_rule : Data → Result (List ℕ) FaultKind
name_rule d = bind (typed as_str d) (λ text. bind (unless faults.BadName (is_device_name text)) (λ _. Ok text))

-- a number of phases
abbrev pub phases_rule : Data → Result ℕ FaultKind
phases_rule d = bind (typed as_integer d) (λ z. or_fault faults.BadValue (natural_within 1 255 z))

-- the table of `vout_direct`
abbrev pub coefficients_rule : Data → Result Coefficients FaultKind
coefficients_rule d =
    bind (typed as_table d) (λ ms.
    bind (only (codes "m" ∷ codes "b" ∷ codes "r" ∷ codes "unsigned" ∷ []) ms) (λ _.
    bind (coefficients ms) (λ direct.
    bind (defaulted (typed as_bool) false (codes "unsigned") ms) (λ unsigned.
    Ok (of_words unsigned direct)))))

-- what the keys of a device say
pub record DeviceKeys : Type 0 where
  pub address : ℕ
  pub pec : PecMode
  pub pages : ℕ
  pub modes : List ℕ
  pub standard : Bool
  pub vout_direct : Option Coefficients
  pub commands : Items
  pub name : Option (List ℕ)
  pub vid : Option VidParts
  pub phases : Option ℕ
  pub protect : Bool
  pub also : List ℕ

-- the keys that may be there, each ruled in its turn, after those that have to be, where the tables of the
-- profile's devices name these addresses
abbrev pub other_keys : List ℕ → ℕ → PecMode → Members → Result DeviceKeys FaultKind
other_keys named address pec ms =
    bind (defaulted pages_rule 1 (codes "pages") ms) (λ pages.
    bind (defaulted (modes_rule pages) (replicate pages 0x17) (codes "vout_mode") ms) (λ modes.
    bind (defaulted (typed as_bool) true (codes "standard") ms) (λ standard.
    bind (optional coefficients_rule (codes "vout_direct") ms) (λ vout_direct.
    bind (defaulted (typed as_array) no_items (codes "command") ms) (λ commands.
    bind (optional name_rule (codes "name") ms) (λ name.
    bind (optional (vid_rule pages) (codes "vid") ms) (λ vid.
    bind (optional phases_rule (codes "phases") ms) (λ phases.
    bind (defaulted (typed as_bool) false (codes "protect") ms) (λ protect.
    bind (defaulted (also_rule named) [] (codes "also") ms) (λ also.
    Ok (record {
      address = address;
      pec = pec;
      pages = pages;
      modes = modes;
      standard = standard;
      vout_direct = vout_direct;
      commands = commands;
      name = name;
      vid = vid;
      phases = phases;
      protect = protect;
      also = also;
    })))))))))))

-- each key ruled in its turn, where earlier devices have the addresses `taken`, those in `ignored` are none
-- of devices, and the tables of the profile's devices name those in `named`
abbrev pub device_keys : List ℕ → List ℕ → List ℕ → Members → Result DeviceKeys FaultKind
device_keys taken ignored named ms =
    bind (only device_key_names ms) (λ _.
    bind (required (address_rule taken ignored) (codes "address") ms) (λ address.
    bind (required (word_rule faults.BadValue pec_words) (codes "pec") ms) (λ pec.
    other_keys named address pec ms)))
