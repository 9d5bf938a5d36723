-- What an event does to the packet under way.
--
-- `StandsIn profile u events` says that these are the events of the packet under way, of a
-- profile's devices: none between packets. Some packet begins with them, and they hold no whole
-- one, as
-- `laws::some_packet_is_under_way` has it. `packet_of u` is the transaction whose packet ended
-- last: it is said directly after the event that ended it. What this says of the fields is in
-- `machine`, and nothing here needs it to be understood.
use Rattle.std.specs.Prelude.{◌≡◌, List, [], ◌∷◌, ◌++◌}
use Rattle.pmb_bus.specs.declared.event.Event.{Event}
use Rattle.pmb_command.specs.Parts.{DeviceParts}
use Rattle.pmb_transaction.specs.Packet.{Packet}
use Rattle.pmb_transaction.specs.Capture.{MayFollow}
use Rattle.pmb_packet_state.specs.declared.packet_state.Move.{Move}
use Rattle.pmb_packet_state.specs.declared.packet_state.Move.TheVariants as moves
use Rattle.pmb_packet_state.specs.declared.packet_state.PacketState.{PacketState}
pub use Rattle.pmb_packet_state.specs.machine.PacketState.{StandsIn, packet_of}

-- The result of an event: the packet continues, it ends, or no packet can have this event here.
-- Then nothing changes, also not the transaction that is kept.
abbrev pub Moves : List DeviceParts → PacketState → List Event → Event → Move → PacketState → Type 0
Moves profile before events event moves.On after = StandsIn profile after (events ++ event ∷ [])
Moves profile before events event moves.Packet after = Packet profile (packet_of after) (events ++ event ∷ [])
    × StandsIn profile after []
Moves profile before events event moves.Refused after = (MayFollow profile events event → ⊥) × (after ≡ before)
