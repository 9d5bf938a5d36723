-- What a room was told: `RoomStandsAt room profile observations` says that a room was made for a profile, and
-- was then given these observations. What that says of its own fields is in `machine`, and nothing else needs
-- it to be understood.
pub use Rattle.pmb_stats_room.specs.machine.Standing.{RoomStandsAt}
