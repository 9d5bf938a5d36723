use Rattle.std.proofs.Common.{refl, sym, subst}
use Rattle.pmb_bus_session.specs.declared.devices.Devices.{Devices}
use Rattle.pmb_bus_session.specs.Devices.{OpensFresh}
use Rattle.pmb_bus_session.proofs.devices.Devices.around.Goals as goal

-- The bench is new.
pub returns-in-Ok-new-2 : goal.returns-in-Ok-new-2
returns-in-Ok-new-2 c =
    subst (λ (devices : Devices). OpensFresh c.args.profile.now devices) (sym c.in-Ok-new-2.ensures.ok) (record {
      profile_is = c.new-3.ensures.profile;
      fresh = c.new-3.ensures.begins;
      read = c.new-3.ensures.read;
      lines = refl;
      ended = refl;
    })
