-- What contracts see of the bytes of a packet.
use Rattle.std.specs.Prelude.{ℕ, List}

pub record PacketBytesData : Type 0 where
  pub items : List ℕ
