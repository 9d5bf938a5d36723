-- A call on a device has one answer, and leads to one place. For the law `devices_go_alike`.
use Rattle.std.proofs.Common.{◌≡◌, subst}
use Rattle.pmb_command.specs.Bus.{IsDevice}
use Rattle.pmb_registers.specs.State.{DeviceState}
use Rattle.pmb_device.specs.declared.signal.HostSignal.{HostSignal}
use Rattle.pmb_device.specs.declared.signal.HostSignal.TheVariants.{Start, Byte, Ask, Ack, Nack, Stop}
use Rattle.pmb_device.specs.declared.signal.DeviceSignal.{DeviceSignal}
use Rattle.pmb_device.specs.declared.device.Device.{Device}
use Rattle.pmb_device.specs.Device.{DeviceStanding, DeviceStandsAt, Leads, Moves}
use Rattle.pmb_device.specs.Legs.{Legs, Outside, with_signal}
use Rattle.pmb_device_laws.specs.Calls.{StandAlike}
use Rattle.pmb_device_laws.proofs.Alike.{MoveAlike}
use Rattle.pmb_device_laws.proofs.OneAnswer.{one_answer}
use Rattle.pmb_device_laws.proofs.OneEnd.{one_end}

-- a device that stands anywhere is an accepted one
pub is_accepted : (device : Device) (standing : DeviceStanding) → DeviceStandsAt device standing
    → IsDevice standing.device
is_accepted device standing stands = stands.exchange.accepted

module _ (standing : DeviceStanding) (one second : Device) where
  -- after a signal other than STOP
  both_behind : (legs : Legs) → DeviceStandsAt one (record standing { legs = legs })
      → DeviceStandsAt second (record standing { legs = legs }) → StandAlike DeviceStandsAt one second
  both_behind legs a b = record { standing = record standing { legs = legs }; here = a; there = b }

  -- a signal leads to one place
  leads_alike : (signal : HostSignal) → Leads standing signal one → Leads standing signal second
      → StandAlike DeviceStandsAt one second
  leads_alike Start a b = both_behind (with_signal standing.legs Start) a b
  leads_alike (Byte byte) a b = both_behind (with_signal standing.legs (Byte byte)) a b
  leads_alike Ask a b = both_behind (with_signal standing.legs Ask) a b
  leads_alike Ack a b = both_behind (with_signal standing.legs Ack) a b
  leads_alike Nack a b = both_behind (with_signal standing.legs Nack) a b
  leads_alike Stop a b =
      let state_is : b.0 ≡ a.0 = one_end standing.device standing.state b.0 a.0 standing.legs b.1 a.1 in
      record {
        standing = record standing { state = a.0; legs = Outside };
        here = a.2;
        there = subst
            (λ (state : DeviceState). DeviceStandsAt second (record standing { state = state; legs = Outside }))
            state_is b.2;
      }

  -- a call has one answer, and leads to one place
  pub one_move : (before : Device) (signal : HostSignal) (result other : DeviceSignal) → DeviceStandsAt before standing
      → Moves standing signal result one → Moves standing signal other second
      → MoveAlike DeviceStandsAt Moves result other one second
  one_move before signal result other stands a b = record {
    answer = one_answer standing.device (is_accepted before standing stands) standing.state standing.legs signal result
        other a.answers b.answers;
    stand = leads_alike signal a.leads b.leads;
  }
