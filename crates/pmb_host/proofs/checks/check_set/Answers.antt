use Rattle.std.proofs.Common.{rules, ◌≡◌, List, MatchResult, ℕ, refl}
use Rattle.std.specs.Prelude.{Option, Some, Result, Ok, Err, ◌≢◌}
use Rattle.pmb_command.specs.declared.form.Form.{Form}
use Rattle.pmb_command.specs.declared.form.Form.TheVariants.{Zero}
use Rattle.pmb_command.specs.Entry.{EntryParts}
use Rattle.pmb_command.specs.Parts.{DeviceParts}
use Rattle.pmb_quantity.specs.Fraction.{Fraction}
use Rattle.pmb_format.specs.Coding.{IsInRange, IsNearest}
use Rattle.pmb_writer.specs.Invalid.{AreKept}
use Rattle.pmb_value.specs.declared.number_format.NumberFormat.{NumberFormat}
use Rattle.pmb_host.specs.declared.step.HostFault.{HostFault}
use Rattle.pmb_value.specs.NumberFormat.{number_coding}
use Rattle.pmb_request.specs.Request.{Command}
use Rattle.pmb_host.specs.machine.Checks.{Finds}
use Rattle.pmb_host.specs.Rules.{CanSet, HasNumber, IsOutside, IsSetFault, no_number, outside, set_rules}
use Rattle.pmb_host.proofs.checks.check_set.Goals as goal

-- a command that is found, and written with data, keeps the rules
kept : (profile : List DeviceParts) (command : Command) (device : DeviceParts) (entry : EntryParts) (form : Form)
    → Finds profile command.addr command.code device entry → entry.shape.write ≡ Some form → form ≢ Zero
    → AreKept (set_rules profile command)
kept profile command device entry form finds written some = rw (finds.known, finds.has, finds.entry_is, written)
    (search rules)

-- what the format makes of the quantity
answer : (profile : List DeviceParts) (command : Command) (value : Fraction) (mode : Option ℕ) (number : NumberFormat)
    → AreKept (set_rules profile command) → HasNumber profile command mode number
    → (word : Result ℕ HostFault) → MatchResult word
    (λ code. IsInRange (number_coding number) value × IsNearest (number_coding number) value code)
    (IsOutside number value)
    → ((a b : ℕ) → IsNearest (number_coding number) value a → IsNearest (number_coding number) value b → a ≡ b)
    → MatchResult word (CanSet profile command value mode) (IsSetFault profile command value mode)
answer profile command value mode number rules_kept has (Ok word) (inside, nearest) one = record {
  kept = rules_kept;
  number = number;
  has = has;
  in_range = inside;
  nearest = nearest;
  only = λ code also. one code word also nearest;
}
answer profile command value mode number rules_kept has (Err fault) out one = outside rules_kept number has out

pub returns-in-Ok-format_of : goal.returns-in-Ok-format_of
returns-in-Ok-format_of c =
    let command : Command = record { addr = c.args.addr; code = c.args.code; pec = c.args.pec } in
    answer c.args.profile.now command c.args.value.now c.args.mode c.in-Ok-format_of.format
    (kept c.args.profile.now command _ _ c.in-Some.field-0 c.in-Ok.ensures (search rules) (search rules))
    (c.in-Ok-format_of.ensures c.args.profile.now command c.in-Ok.ensures refl)
    c.word_of.result c.word_of.ensures.word c.word_of.ensures.only

pub returns-in-Err-format_of : goal.returns-in-Err-format_of
returns-in-Err-format_of c =
    let command : Command = record { addr = c.args.addr; code = c.args.code; pec = c.args.pec } in
    no_number (kept c.args.profile.now command _ _ c.in-Some.field-0 c.in-Ok.ensures (search rules) (search rules))
    (c.in-Err-format_of.ensures c.args.profile.now command c.in-Ok.ensures refl)
