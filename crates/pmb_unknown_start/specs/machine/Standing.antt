-- Where a `Late` stands.
use Rattle.std.specs.Prelude.{◌≡◌, List}
use Rattle.pmb_command.specs.Parts.{DeviceParts}
use Rattle.pmb_unknown_start.specs.Past.{PastData}
use Rattle.pmb_unknown_start.specs.declared.late.Late.{Late}
use Rattle.pmb_unknown_start.specs.declared.start.Start.{Start}
use Rattle.pmb_unknown_start.specs.declared.start.Start.TheVariants as starts
use Rattle.pmb_unknown_start.specs.machine.Keeping.{Keeps, KeptData, kept}

-- A `Late` of a profile keeps this of each device by its start, and had the capture begun in the middle.
pub record StandsSo (late : Late) (profile : List DeviceParts) (start : Start)
    (now late_now : DeviceParts → KeptData) : Type 0 where
  pub profile_is : late.profile.now ≡ profile
  pub start_is : late.start ≡ start
  pub known : Keeps late.known.items profile now
  pub told : Keeps late.told.items profile late_now

-- A `Late` of a profile was given what went before.
abbrev pub HasSeen : Late → List DeviceParts → Start → List PastData → Type 0
HasSeen late profile start past =
    StandsSo late profile start (λ device. kept start device past) (λ device. kept starts.Late device past)
