-- The data of a command, and how they go: written, read, sent in a process call whose reply isn't known, or
-- sent and replied in one. Blocks are without their counts.
use Rattle.std.specs.Prelude.{ℕ, List, ◌++◌}
use Rattle.pmb_meaning.specs.declared.payload.Payload.{Payload}
use Rattle.pmb_meaning.specs.declared.payload.Payload.TheVariants.{Written, Read, Sent, Called}

pub data Exchange : Type 0 where
  written : List ℕ → Exchange
  read : List ℕ → Exchange
  sent : List ℕ → Exchange
  called : List ℕ → List ℕ → Exchange

-- all bytes, those of the reply last
abbrev pub bytes_of : Exchange → List ℕ
bytes_of (written bytes) = bytes
bytes_of (read bytes) = bytes
bytes_of (sent bytes) = bytes
bytes_of (called first reply) = first ++ reply

-- what contracts see of the data that the code has
abbrev pub exchange : Payload → Exchange
exchange (Written bytes) = written bytes.now
exchange (Read bytes) = read bytes.now
exchange (Sent bytes) = sent bytes.now
exchange (Called first reply) = called first.now reply.now
