-- What a room has.
use Rattle.std.specs.Prelude.{ℕ, List}
use Rattle.pmb_in_memory.specs.declared.room.Room.{Room}

-- the bytes in it
abbrev pub room_bytes : {P : Type 0} {g : _} → Room P g → List ℕ
room_bytes room = room.room.now

-- all bytes that were written into it, also those that didn't fit
abbrev pub room_written : {P : Type 0} {g : _} → Room P g → List ℕ
room_written room = room.written.bytes
