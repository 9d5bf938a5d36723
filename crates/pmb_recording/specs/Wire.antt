-- What the sources share of packets on the wire.
use Rattle.std.specs.Prelude.{ℕ, true, false, Bool}

-- the most bytes of a packet, addresses and packet error codes counted
abbrev pub most_wire : ℕ
most_wire = 16384

-- the lowest bit of an address byte: 1 where the device is read
abbrev pub bit_of : Bool → ℕ
bit_of true = 1
bit_of false = 0

-- whether two directions, or two other answers to one question, are the same
abbrev pub same : Bool → Bool → Bool
same true true = true
same true false = false
same false true = false
same false false = true
