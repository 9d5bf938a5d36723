-- What is on the wire of the signals of messages, by the answers to them.
--
-- It is what is recorded of them (`recorded` of pmb_devices), but for an Ask to which no device gives a byte:
-- nobody pulls the data line low, so the host reads ffh, and a capture has that byte (I2C-bus specification
-- UM10204 section 3.1.1). So the events of a message are those of an analyser, and each has its place in a
-- packet's text.
use Rattle.std.specs.Prelude.{ℕ, List, [], ◌∷◌, ◌++◌}
use Rattle.pmb_bus.specs.declared.event.Event.{Event}
use Rattle.pmb_bus.specs.declared.event.Event.TheVariants as events
use Rattle.pmb_device.specs.declared.signal.HostSignal.{HostSignal}
use Rattle.pmb_device.specs.declared.signal.HostSignal.TheVariants.{Start, Byte, Ask, Ack, Nack, Stop}
use Rattle.pmb_device.specs.declared.signal.DeviceSignal.{DeviceSignal}
use Rattle.pmb_device.specs.declared.signal.DeviceSignal.TheVariants as answers
use Rattle.pmb_devices.specs.Bus.{AnsweredSignal, recorded}

-- what the host reads: the byte that a device gave, or ffh
abbrev pub byte_read : DeviceSignal → ℕ
byte_read answers.Silent = 0xff
byte_read answers.Ack = 0xff
byte_read answers.Nack = 0xff
byte_read (answers.Byte byte) = byte

-- the events of a signal and the answer to it
abbrev pub on_wire : HostSignal → DeviceSignal → List Event
on_wire Start result = recorded Start result
on_wire (Byte b) result = recorded (Byte b) result
on_wire Ask result = events.Byte (byte_read result) ∷ []
on_wire Ack result = recorded Ack result
on_wire Nack result = recorded Nack result
on_wire Stop result = recorded Stop result

-- the events of signals, in order
abbrev pub wire_events : List AnsweredSignal → List Event
wire_events [] = []
wire_events (one ∷ more) = on_wire one.signal one.result ++ wire_events more
