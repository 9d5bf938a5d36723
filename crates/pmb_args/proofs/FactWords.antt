-- What `clap` finds in the words of `pmb json`, `pmb log` and `pmb stats`: the law `fact_words_ask`. Flags without a
-- value are computed from the words; with `--digits N` and `--device HH` the matches choose what N or HH spells.
use Rattle.std.proofs.Common.{◌≡◌, ℕ, ◌<◌, Some, None, [], ◌∷◌, codes, refl, sym, ap, ◌∙◌, subst, arith}
use Rattle.std.specs.Char.{digit_value}
use Rattle.hex.specs.Hex.{hex_digit_value}
use Rattle.clap.specs.Words.{Text}
use Rattle.clap.proofs.OnLiterals.{clap_on_literals}
use Rattle.pmb_args.specs.Asked.{AskFor, AskForNothing, Asking, FlagsAsk, UnderProfile, wanted_by}
use Rattle.pmb_args.specs.Facts.{FactsCommand, FactsWanted, SpellDevices, SpellsAddress, SpellsDigits, json, log}
use Rattle.pmb_args.specs.Facts.{stats, at_first}
use Rattle.pmb_args.specs.Faults.{AreWrong}
use Rattle.pmb_args.specs.declared.facts_fault.FactsFault.TheVariants.{NeedsLate, BadDigits, BadAddress}
use Rattle.pmb_scan.specs.declared.after_bad_token.AfterBadToken.TheVariants.{Continue}
use Rattle.pmb_unknown_start.specs.declared.start.Start.TheVariants.{LateFixedMode, Late}
use Rattle.pmb_args.specs.declared.profile_place.ProfilePlace.TheVariants.{Sample, Front}
use Rattle.pmb_args.specs.Words.{IsFlag}
use Rattle.pmb_args.proofs.Addresses.{no_devices}
use Rattle.pmb_args.proofs.AskedOnce.{facts_nothing}
use Rattle.pmb_args.proofs.AskedWords.{IsNoFlag, no_device, no_flag}
use Rattle.pmb_args.proofs.GivenWords.{choice_given, device_to, digits_to, fact_words, json_device, json_digits}
use Rattle.pmb_args.proofs.GivenWords.{log_device, log_digits, nothing_given, rows_given, stats_device, stats_digits}

-- ---- flags that no word follows

-- the capture, where a profile comes first, is written by this choice
abbrev in_front : FactsCommand → FactsWanted → Asking
in_front command choice = UnderProfile Front (wanted_by command choice)

pub asks_late : (name : Text) (command : FactsCommand) → AskFor (fact_words command name (codes "--late" ∷ []))
    (in_front command (record (at_first command) { start = Late }))
unfolding clap_on_literals
asks_late name json = record {
  no_fault = refl;
  asks = (_, refl, refl, record { start = refl; after_bad_token = refl; digits = refl; devices = no_device });
}
asks_late name log = record {
  no_fault = refl;
  asks = (_, refl, refl, record { start = refl; after_bad_token = refl; digits = refl; devices = no_device });
}
asks_late name stats = record {
  no_fault = refl;
  asks = (
    _,
    refl,
    refl,
    record {
      form = refl;
      facts = record { start = refl; after_bad_token = refl; digits = refl; devices = no_device };
      fail_on = refl;
    },
  );
}

pub asks_late_fixed : (name : Text) (command : FactsCommand)
    → AskFor (fact_words command name (codes "--late" ∷ codes "--fixed-vout-mode" ∷ []))
    (in_front command (record (at_first command) { start = LateFixedMode }))
unfolding clap_on_literals
asks_late_fixed name json = record {
  no_fault = refl;
  asks = (_, refl, refl, record { start = refl; after_bad_token = refl; digits = refl; devices = no_device });
}
asks_late_fixed name log = record {
  no_fault = refl;
  asks = (_, refl, refl, record { start = refl; after_bad_token = refl; digits = refl; devices = no_device });
}
asks_late_fixed name stats = record {
  no_fault = refl;
  asks = (
    _,
    refl,
    refl,
    record {
      form = refl;
      facts = record { start = refl; after_bad_token = refl; digits = refl; devices = no_device };
      fail_on = refl;
    },
  );
}

pub asks_to_go_on : (name : Text) (command : FactsCommand) → AskFor (fact_words command name (codes "--keep-going" ∷ []))
    (in_front command (record (at_first command) { after_bad_token = Continue }))
unfolding clap_on_literals
asks_to_go_on name json = record {
  no_fault = refl;
  asks = (_, refl, refl, record { start = refl; after_bad_token = refl; digits = refl; devices = no_device });
}
asks_to_go_on name log = record {
  no_fault = refl;
  asks = (_, refl, refl, record { start = refl; after_bad_token = refl; digits = refl; devices = no_device });
}
asks_to_go_on name stats = record {
  no_fault = refl;
  asks = (
    _,
    refl,
    refl,
    record {
      form = refl;
      facts = record { start = refl; after_bad_token = refl; digits = refl; devices = no_device };
      fail_on = refl;
    },
  );
}

pub asks_two : (name : Text) (command : FactsCommand)
    → AskFor (fact_words command name (codes "--keep-going" ∷ codes "--sample" ∷ []))
    (UnderProfile Sample (wanted_by command (record (at_first command) { after_bad_token = Continue })))
unfolding clap_on_literals
asks_two name json = record {
  no_fault = refl;
  asks = (_, refl, refl, record { start = refl; after_bad_token = refl; digits = refl; devices = no_device });
}
asks_two name log = record {
  no_fault = refl;
  asks = (_, refl, refl, record { start = refl; after_bad_token = refl; digits = refl; devices = no_device });
}
asks_two name stats = record {
  no_fault = refl;
  asks = (
    _,
    refl,
    refl,
    record {
      form = refl;
      facts = record { start = refl; after_bad_token = refl; digits = refl; devices = no_device };
      fail_on = refl;
    },
  );
}

-- `--fixed-vout-mode` alone
pub alone_is_nothing : (name : Text) (command : FactsCommand)
    → AskForNothing (fact_words command name (codes "--fixed-vout-mode" ∷ []))
unfolding clap_on_literals
alone_is_nothing name json = record { no_fault = refl; nothing = facts_nothing json _ _ NeedsLate refl refl }
alone_is_nothing name log = record { no_fault = refl; nothing = facts_nothing log _ _ NeedsLate refl refl }
alone_is_nothing name stats = record { no_fault = refl; nothing = facts_nothing stats _ _ NeedsLate refl refl }

-- ---- `--digits N`

digits_are_no_flag : (N : Text) (n : ℕ) → SpellsDigits N n → IsNoFlag N
digits_are_no_flag [] n spells = tt
digits_are_no_flag (c ∷ cs) n spells = λ hyphen.
    let small : digit_value 45 < 10 = subst (λ x. digit_value x < 10) hyphen spells.numeral.1.0 in
    absurd (omega (arith, small))

-- N is chosen
digits_ask : (command : FactsCommand) (N : Text) (n : ℕ) → SpellsDigits N n
    → FlagsAsk (rows_given (digits_to command) N) (wanted_by command (record (at_first command) { digits = n }))
unfolding clap_on_literals
digits_ask json N n spells = record { start = refl; after_bad_token = refl; digits = spells; devices = no_device }
digits_ask log N n spells = record { start = refl; after_bad_token = refl; digits = spells; devices = no_device }
digits_ask stats N n spells = record {
  form = refl;
  facts = record { start = refl; after_bad_token = refl; digits = spells; devices = no_device };
  fail_on = refl;
}

pub asks_digits : (name : Text) (command : FactsCommand) (N : Text) (n : ℕ) → SpellsDigits N n
    → AskFor (fact_words command name (codes "--digits" ∷ N ∷ []))
    (in_front command (record (at_first command) { digits = n }))
asks_digits name json N n spells =
    choice_given json_digits name N _ refl (digits_are_no_flag N n spells) (digits_ask json N n spells)
asks_digits name log N n spells =
    choice_given log_digits name N _ refl (digits_are_no_flag N n spells) (digits_ask log N n spells)
asks_digits name stats N n spells =
    choice_given stats_digits name N _ refl (digits_are_no_flag N n spells) (digits_ask stats N n spells)

-- another N is wrong
digits_wrong : (command : FactsCommand) (N : Text) → ((n : ℕ) → ¬ (SpellsDigits N n))
    → AreWrong (rows_given (digits_to command) N) BadDigits
unfolding clap_on_literals
digits_wrong json N none = none
digits_wrong log N none = none
digits_wrong stats N none = none

pub bad_digits_ask_nothing : (name : Text) (command : FactsCommand) (N : Text) → (IsFlag N → ⊥)
    → ((n : ℕ) → ¬ (SpellsDigits N n)) → AskForNothing (fact_words command name (codes "--digits" ∷ N ∷ []))
bad_digits_ask_nothing name json N no_hyphen none = nothing_given json_digits name N (no_flag N no_hyphen)
    (λ is. facts_nothing json _ _ BadDigits is (digits_wrong json N none))
bad_digits_ask_nothing name log N no_hyphen none = nothing_given log_digits name N (no_flag N no_hyphen)
    (λ is. facts_nothing log _ _ BadDigits is (digits_wrong log N none))
bad_digits_ask_nothing name stats N no_hyphen none = nothing_given stats_digits name N (no_flag N no_hyphen)
    (λ is. facts_nothing stats _ _ BadDigits is (digits_wrong stats N none))

-- ---- `--device HH`

address_is_no_flag : (HH : Text) (address : ℕ) → SpellsAddress HH address → IsNoFlag HH
address_is_no_flag [] address spells = tt
address_is_no_flag (c ∷ cs) address spells = λ hyphen.
    let first : c ≡ spells.high = let two : c ∷ cs ≡ spells.high ∷ spells.low ∷ [] = spells.two in cc in
    let clash : None ≡ Some spells.high_value = ap hex_digit_value (sym hyphen ∙ first) ∙ spells.high_is in
    cc

-- HH spells one device
one_device : (HH : Text) (address : ℕ) → SpellsAddress HH address → SpellDevices (HH ∷ []) (address ∷ [])
one_device HH address spells = record { addresses = address ∷ []; spell = (spells, tt); once = refl }

device_asks : (command : FactsCommand) (HH : Text) (address : ℕ) → SpellsAddress HH address
    → FlagsAsk (rows_given (device_to command) HH)
    (wanted_by command (record (at_first command) { devices = address ∷ [] }))
unfolding clap_on_literals
device_asks json HH address spells =
    record { start = refl; after_bad_token = refl; digits = refl; devices = one_device HH address spells }
device_asks log HH address spells =
    record { start = refl; after_bad_token = refl; digits = refl; devices = one_device HH address spells }
device_asks stats HH address spells = record {
  form = refl;
  facts = record { start = refl; after_bad_token = refl; digits = refl; devices = one_device HH address spells };
  fail_on = refl;
}

pub asks_device : (name : Text) (command : FactsCommand) (HH : Text) (address : ℕ) → SpellsAddress HH address
    → AskFor (fact_words command name (codes "--device" ∷ HH ∷ []))
    (in_front command (record (at_first command) { devices = address ∷ [] }))
asks_device name json HH address spells =
    choice_given json_device name HH _ refl (address_is_no_flag HH address spells) (device_asks json HH address spells)
asks_device name log HH address spells =
    choice_given log_device name HH _ refl (address_is_no_flag HH address spells) (device_asks log HH address spells)
asks_device name stats HH address spells =
    choice_given stats_device name HH _ refl (address_is_no_flag HH address spells)
    (device_asks stats HH address spells)

-- another HH is wrong
device_wrong : (command : FactsCommand) (HH : Text) → ((address : ℕ) → ¬ (SpellsAddress HH address))
    → AreWrong (rows_given (device_to command) HH) BadAddress
unfolding clap_on_literals
device_wrong json HH none = no_devices (HH ∷ []) 0 [] (omega arith) none
device_wrong log HH none = no_devices (HH ∷ []) 0 [] (omega arith) none
device_wrong stats HH none = no_devices (HH ∷ []) 0 [] (omega arith) none

pub bad_device_asks_nothing : (name : Text) (command : FactsCommand) (HH : Text) → (IsFlag HH → ⊥)
    → ((address : ℕ) → ¬ (SpellsAddress HH address))
    → AskForNothing (fact_words command name (codes "--device" ∷ HH ∷ []))
bad_device_asks_nothing name json HH no_hyphen none = nothing_given json_device name HH (no_flag HH no_hyphen)
    (λ is. facts_nothing json _ _ BadAddress is (device_wrong json HH none))
bad_device_asks_nothing name log HH no_hyphen none = nothing_given log_device name HH (no_flag HH no_hyphen)
    (λ is. facts_nothing log _ _ BadAddress is (device_wrong log HH none))
bad_device_asks_nothing name stats HH no_hyphen none = nothing_given stats_device name HH (no_flag HH no_hyphen)
    (λ is. facts_nothing stats _ _ BadAddress is (device_wrong stats HH none))
