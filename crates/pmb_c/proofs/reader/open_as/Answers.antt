use Rattle.std.proofs.Common.{◌≡◌, ◌⊎◌, ℕ, ℤ, List, Option, None, Result, Ok, ap, inl, inr, refl, sym, ◌∙◌}
use Rattle.std.specs.Arc.{arc_value}
use Rattle.std.specs.Int.{w32, cast_signed, cast_unsigned}
use Rattle.pmb_in_memory.specs.declared.json_choice.JsonChoice.{JsonChoice}
use Rattle.pmb_firmware.specs.CallStatus.{number_of}
use Rattle.pmb_firmware.specs.declared.call_status.CallStatus.{CallStatus}
use Rattle.pmb_firmware.specs.declared.call_status.CallStatus.TheVariants as status
use Rattle.pmb_c.specs.Handle.{HoldsProfile, profile_in}
use Rattle.pmb_c.specs.Reader.{OpensReader, Opened, Unchosen, Closed, NoMemory}
use Rattle.pmb_c.specs.declared.held.Held.{Held}
use Rattle.pmb_c.specs.declared.held.ReaderKind.{ReaderKind}
use Rattle.pmb_firmware.proofs.Statuses.{fits}
use Rattle.pmb_c.proofs.reader.open_as.Goals as goal

-- a reader over the profile that is lent was made, and is held
pub returns-in-Ok-opened-clause-opens : goal.returns-in-Ok-opened-clause-opens
returns-in-Ok-opened-clause-opens c =
    Opened c.in-Ok.choice (arc_value c.in-Ok-lent.bus) c.in-Ok-opened.held.value (sym c.in-Ok.ensures)
    c.in-Ok-lent.ensures.lends
    c.in-Ok-opened.ensures c.of.ensures (rw c.number-in-Ok-opened.ensures refl)

-- there was no memory for it,
pub returns-in-Err-opened-clause-opens : goal.returns-in-Err-opened-clause-opens
returns-in-Err-opened-clause-opens c =
    NoMemory c.in-Ok.choice (sym c.in-Ok.ensures) (arc_value c.in-Ok-lent.bus, c.in-Ok-lent.ensures.lends) c.closed.ensures
    (rw c.number-in-Err-opened.ensures refl)

-- or no profile is lent
unlent : (kind : ReaderKind) (asked : Result JsonChoice CallStatus) (devices : List ℕ) (from after : Option Held) (number : ℤ)
    (choice : JsonChoice) (why : CallStatus) → asked ≡ Ok choice
    → ((why ≡ status.Closed) × (profile_in from ≡ None)) ⊎ ((why ≡ status.NoMemory) × HoldsProfile from) → after ≡ None
    → number ≡ number_of why → OpensReader kind asked devices from after (cast_signed w32 (cast_unsigned w32 number))
unlent kind asked devices from after number choice why is (inl closed) none told =
    Closed choice is closed.1 none (rw (told ∙ ap number_of closed.0) refl)
unlent kind asked devices from after number choice why is (inr lacks) none told =
    NoMemory choice is lacks.1 none (rw (told ∙ ap number_of lacks.0) refl)

pub returns-in-Err-lent-clause-opens : goal.returns-in-Err-lent-clause-opens
returns-in-Err-lent-clause-opens c =
    unlent c.args.kind _ c.args.devices.now c.args.profile.now.held _ c.number-in-Err-lent.result c.in-Ok.choice
    c.in-Err-lent.why (sym c.in-Ok.ensures) c.in-Err-lent.ensures.lends c.closed.ensures c.number-in-Err-lent.ensures

-- or the choice has a fault
pub returns-in-Err-clause-opens : goal.returns-in-Err-clause-opens
returns-in-Err-clause-opens c =
    Unchosen c.in-Err.why (sym c.in-Err.ensures) c.closed.ensures (rw c.number.ensures (fits c.in-Err.why))
