-- What a profile keeps to that is accepted.
use Rattle.pmb_command.specs.Bus.{IsBus}
use Rattle.pmb_json.specs.Lines.{AllMakeFormats}
use Rattle.pmb_table.specs.Profile.{AreApart, ProfileParts, ignored_addresses}

-- The bus is one that a profile may describe; its coefficients have 16 bits and make formats, and its
-- exponents have five; and no device has an address that is ignored.
pub record IsAccepted (bus : ProfileParts) : Type 0 where
  pub devices : IsBus bus.devices
  pub formats : AllMakeFormats bus.devices
  pub apart : AreApart (ignored_addresses bus.ignored) bus.devices
