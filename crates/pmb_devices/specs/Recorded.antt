-- What is recorded of one signal, as contracts see it.
use Rattle.std.specs.Prelude.{List}
use Rattle.pmb_bus.specs.declared.event.Event.{Event}
use Rattle.pmb_device.specs.declared.signal.DeviceSignal.{DeviceSignal}

-- the answer on the bus, and the events
pub record RecordedData : Type 0 where
  pub result : DeviceSignal
  pub events : List Event
