-- The flags that `json`, `log` and `stats` have choose one thing, or have a fault and choose nothing: for
-- `read_facts`, `work_of` and the law `one_asking`. Each part of the choice is known from the matches.
use Rattle.std.proofs.Common.{◌≡◌, ℕ, Option, Some, None, List, sym, ap, ◌∙◌}
use Rattle.clap.specs.Words.{Row, Text}
use Rattle.pmb_args.specs.Facts.{ChoosesDigits, FactsAsk, FactsWanted, SpellsNone, devices_in, digits_in}
use Rattle.pmb_args.specs.Faults.{AreWrong}
use Rattle.pmb_args.specs.declared.facts_fault.FactsFault.{FactsFault}
use Rattle.pmb_args.specs.declared.facts_fault.FactsFault.TheVariants.{NeedsLate, BadDigits, BadAddress}
use Rattle.pmb_scan.specs.declared.after_bad_token.AfterBadToken.{AfterBadToken}
use Rattle.pmb_unknown_start.specs.declared.start.Start.{Start}
use Rattle.pmb_args.proofs.Addresses.{one_list_of_devices}

abbrev made : Start → AfterBadToken → ℕ → List ℕ → FactsWanted
made start after digits devices = record { start = start; after_bad_token = after; digits = digits; devices = devices }

-- N chooses one number, or the default is chosen
one_number : (default : ℕ) (N : Option Text) (a b : ℕ) → ChoosesDigits default N a → ChoosesDigits default N b → a ≡ b
one_number default None a b left right = left ∙ sym right
one_number default (Some N) a b left right = left.value ∙ sym right.value

-- an N that spells nothing chooses nothing
pub none_chosen : (default : ℕ) (N : Option Text) (n : ℕ) → SpellsNone N → ¬ (ChoosesDigits default N n)
none_chosen default None n none chosen = none
none_chosen default (Some N) n none chosen = none n chosen

-- One thing is wanted.
pub one_wanted : (default : ℕ) (rows : List Row) (a b : FactsWanted) → FactsAsk default rows a → FactsAsk default rows b
    → a ≡ b
one_wanted default rows a b left right =
    let same : Some a.start ≡ Some b.start = sym left.start ∙ right.start in
    let same_start : a.start ≡ b.start = cc in
    ap (λ k. made k a.after_bad_token a.digits a.devices) same_start
    ∙ ap (λ w. made b.start w a.digits a.devices) (left.after_bad_token ∙ sym right.after_bad_token)
    ∙ ap (λ n. made b.start b.after_bad_token n a.devices)
    (one_number default (digits_in rows) a.digits b.digits left.digits right.digits)
    ∙ ap (λ ds. made b.start b.after_bad_token b.digits ds)
    (one_list_of_devices (devices_in rows) a.devices b.devices left.devices right.devices)

-- Where something is wrong, nothing is.
pub wrong_asks_nothing : (default : ℕ) (rows : List Row) (fault : FactsFault) → AreWrong rows fault
    → (wanted : FactsWanted) → ¬ (FactsAsk default rows wanted)
wrong_asks_nothing default rows NeedsLate none wanted asks =
    let clash : Some wanted.start ≡ None = sym asks.start ∙ none in cc
wrong_asks_nothing default rows BadDigits none wanted asks =
    none_chosen default (digits_in rows) wanted.digits none asks.digits
wrong_asks_nothing default rows BadAddress none wanted asks = none wanted.devices asks.devices
