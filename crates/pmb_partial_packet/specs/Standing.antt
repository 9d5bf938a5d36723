-- What a `PartialPacket` was given: `SaidStandsAt said events` says that these are the events since `new` or
-- `begin`. What that says of its own fields is in `machine`, and nothing else needs it to be
-- understood.
pub use Rattle.pmb_partial_packet.specs.machine.Keeping.{SaidStandsAt}
