-- What an exchange does next.
--
-- `ExchangeStandsAt exchange bus standing` says where an exchange stands on a bus. What this says of its
-- fields is in `machine`, and nothing here needs it to be understood.
use Rattle.std.specs.Prelude.{◌≡◌, ◌+◌, ◌<◌, List, [], ◌++◌, map}
use Rattle.pmb_command.specs.Parts.{DeviceParts}
use Rattle.pmb_registers.specs.State.{InState}
use Rattle.pmb_devices.specs.declared.bus.Bus.{Bus}
use Rattle.pmb_devices.specs.Bus.{AnsweredSignal}
use Rattle.pmb_devices.specs.Signal.{BusStandsAt}
use Rattle.pmb_request.specs.Request.{RequestData}
use Rattle.pmb_host.specs.declared.host.Host.{Host}
use Rattle.pmb_host.specs.Host.{IsNewHost}
use Rattle.pmb_host.specs.Task.{task_of}
use Rattle.pmb_exchange.specs.declared.exchange.Exchange.{Exchange}
use Rattle.pmb_exchange.specs.declared.exchange.ExchangeStep.{ExchangeStep}
use Rattle.pmb_exchange.specs.declared.exchange.ExchangeStep.TheVariants.{Recorded, End}
pub use Rattle.pmb_exchange.specs.machine.Standing.{ExchangeStanding, ExchangeStandsAt, IsOver}

-- A host that was not asked for a step, and a bus of its profile's devices between packets.
pub record Begins (profile : List DeviceParts) (request : RequestData) (host : Host) (bus : Bus) : Type 0 where
  pub new : IsNewHost profile request host
  pub past : List (List AnsweredSignal)
  pub members : List InState
  pub devices_are : map (λ member. member.device) members ≡ profile
  pub stands : BusStandsAt bus (record { past = past; members = members; history = [] })

-- where their exchange stands: nothing was sent
abbrev pub beginning : (profile : List DeviceParts) (request : RequestData) (host : Host) (bus : Bus)
    → Begins profile request host bus → ExchangeStanding
beginning profile request host bus b = record {
  job = record { profile = profile; task = task_of request b.new.word; number = b.new.number };
  past = b.past;
  members = b.members;
  events = [];
  sent = 0;
}

-- One signal more was recorded, of at most 4,161; or the exchange is over, and its end is told, and will
-- be told again.
abbrev pub StepsTo : ExchangeStanding → ExchangeStep → Exchange → Bus → Type 0
StepsTo standing (Recorded recorded) exchange bus =
    (standing.sent < 4161)
    × ExchangeStandsAt exchange bus (record standing {
      events = standing.events ++ recorded.events;
      sent =
          standing.sent + 1;
    })
StepsTo standing (End step) exchange bus = IsOver standing step bus × ExchangeStandsAt exchange bus standing
