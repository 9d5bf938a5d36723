-- What the flags say that `json`, `log` and `stats` have: N of `--digits`, HH of each `--device`, and where the
-- capture begins.
use Rattle.std.specs.Prelude.{◌≡◌, ◌≤◌, ◌<◌, ◌+◌, ◌*◌, ℕ, Bool, true, false, nat_eq, Option, Some, None, List, []}
use Rattle.std.specs.Prelude.{◌∷◌, codes, unwrap_or, if◌then◌else◌}
use Rattle.std.specs.List.{AllZip}
use Rattle.std.specs.Str.Parse.{IsNumeral, digits_value}
use Rattle.clap.specs.Words.{Row, Text, all_of, first_of}
use Rattle.hex.specs.Hex.{hex_digit_value}
use Rattle.pmb_scan.specs.declared.after_bad_token.AfterBadToken.{AfterBadToken}
use Rattle.pmb_scan.specs.declared.after_bad_token.AfterBadToken.TheVariants.{End, Continue}
use Rattle.pmb_args.specs.declared.fact_arguments.FactArguments.{FactArguments}
use Rattle.pmb_unknown_start.specs.declared.start.Start.{Start}
use Rattle.pmb_unknown_start.specs.declared.start.Start.TheVariants.{AllKnown, LateFixedMode, Late}
use Rattle.pmb_args.specs.Flags.{has_flag}
use Rattle.pmb_args.specs.Once.{each_once}

-- The subcommands that have these flags.
pub data FactsCommand : Type 0 where
  json : FactsCommand
  log : FactsCommand
  stats : FactsCommand

-- their names
abbrev pub command_name : FactsCommand → Text
command_name json = codes "json"
command_name log = codes "log"
command_name stats = codes "stats"

-- the most digits after a point, where there is no N; of `stats` in its table
abbrev pub default_digits : FactsCommand → ℕ
default_digits json = 6
default_digits log = 4
default_digits stats = 4

-- What is wanted: what is known of PAGE and VOUT_MODE at first, what is done after a word that is
-- no token, the most digits after a point, and the devices, all where there is none.
pub record FactsWanted : Type 0 where
  pub start : Start
  pub after_bad_token : AfterBadToken
  pub digits : ℕ
  pub devices : List ℕ

-- the same as it is kept
abbrev pub facts_wanted_of : FactArguments → FactsWanted
facts_wanted_of choice = record {
  start = choice.start;
  after_bad_token = choice.after_bad_token;
  digits = choice.digits;
  devices = choice.devices.items;
}

-- what is wanted where no flag is given
abbrev pub at_first : FactsCommand → FactsWanted
at_first command = record {
  start = AllKnown;
  after_bad_token = End;
  digits = default_digits command;
  devices = [];
}

-- ---- N and HH

-- N: a number of at most 12, in decimal digits, at least one
pub record SpellsDigits (word : Text) (n : ℕ) : Type 0 where
  pub numeral : IsNumeral 10 word
  pub value : n ≡ digits_value 10 word
  pub most : n ≤ 12

-- the digits that are chosen: those that N spells, and the default where there is no N
abbrev pub ChoosesDigits : (default : ℕ) → Option Text → ℕ → Type 0
ChoosesDigits default None n = n ≡ default
ChoosesDigits default (Some N) n = SpellsDigits N n

-- there is an N, and it spells none
abbrev pub SpellsNone : Option Text → Type 0
SpellsNone None = ⊥
SpellsNone (Some N) = (n : ℕ) → ¬ (SpellsDigits N n)

-- HH: an address of seven bits, in two hexadecimal digits of either case
pub record SpellsAddress (word : Text) (address : ℕ) : Type 0 where
  pub high : ℕ
  pub low : ℕ
  pub high_value : ℕ
  pub low_value : ℕ
  pub two : word ≡ high ∷ low ∷ []
  pub high_is : hex_digit_value high ≡ Some high_value
  pub low_is : hex_digit_value low ≡ Some low_value
  pub value : address ≡ high_value * 16 + low_value
  pub seven_bits : address < 0x80

-- words that spell addresses, and each of these once
pub record SpellDevices (words : List Text) (devices : List ℕ) : Type 0 where
  pub addresses : List ℕ
  pub spell : AllZip SpellsAddress words addresses
  pub once : devices ≡ each_once nat_eq addresses

-- ---- what is among the matches

-- by `--late` and `--fixed-vout-mode`, which is nothing without the first
abbrev pub start_by : (late fixed : Bool) → Option Start
start_by false false = Some AllKnown
start_by true false = Some Late
start_by true true = Some LateFixedMode
start_by false true = None

abbrev pub start_in : List Row → Option Start
start_in rows = start_by (has_flag (codes "late") rows) (has_flag (codes "fixed-vout-mode") rows)

-- reading continues with `--keep-going`
abbrev pub after_bad_token_in : List Row → AfterBadToken
after_bad_token_in rows = if has_flag (codes "keep-going") rows then Continue else End

-- N, if any
abbrev pub digits_in : List Row → Option Text
digits_in rows = first_of (codes "digits") rows

-- each HH, in their order
abbrev pub devices_in : List Row → List Text
devices_in rows = unwrap_or (all_of (codes "device") rows) []

-- The matches choose this, with the default digits where there is no N.
pub record FactsAsk (default : ℕ) (rows : List Row) (wanted : FactsWanted) : Type 0 where
  pub start : start_in rows ≡ Some wanted.start
  pub after_bad_token : wanted.after_bad_token ≡ after_bad_token_in rows
  pub digits : ChoosesDigits default (digits_in rows) wanted.digits
  pub devices : SpellDevices (devices_in rows) wanted.devices
