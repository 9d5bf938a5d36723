-- The pieces of a recording of wires, and the capture of all of them.
use Rattle.std.specs.Prelude.{ℕ, List, [], ◌∷◌, ◌++◌}
use Rattle.pmb_wire_packets.specs.Packets.{Item, Says, Breaks, capture}
use Rattle.pmb_wires.specs.Changes.{Rises}
use Rattle.pmb_wires.specs.Signals.{signals_of_piece}
use Rattle.pmb_wires.specs.declared.moment.Moment.{Moment}
use Rattle.pmb_wires.specs.declared.signal.Signal.{Signal}

-- What is read: the wires are given levels at a time, or reading fails at a line, for a reason in words.
pub data Read : Type 0 where
  Gives : Moment → Read
  Fails : ℕ → List ℕ → Read

-- the first piece: up to the first fault
abbrev pub first_piece : List Read → List Moment
first_piece [] = []
first_piece (Gives m ∷ reads) = m ∷ first_piece reads
first_piece (Fails line why ∷ reads) = []

abbrev pub all_say : List Signal → List Item
all_say [] = []
all_say (signal ∷ signals) = Says signal ∷ all_say signals

-- the signals of a first piece, whose spikes are gone
abbrev pub first_items : ℕ → List Read → List Item
first_items glitch reads = all_say (signals_of_piece glitch (first_piece reads))

-- what stands behind the first piece: the fault that ended it, and the other pieces
abbrev pub items_behind : ℕ → List Read → List Item
items_behind glitch [] = []
items_behind glitch (Gives m ∷ reads) = items_behind glitch reads
items_behind glitch (Fails line why ∷ reads) =
    Breaks line why ∷ (first_items glitch reads ++ items_behind glitch reads)

-- the signals of all pieces, and the faults between them
abbrev pub items : ℕ → List Read → List Item
items glitch reads = first_items glitch reads ++ items_behind glitch reads

-- the capture of all that is read
abbrev pub capture_of : ℕ → ℕ → ℕ → List Read → List ℕ
capture_of glitch timeout origin reads = capture origin timeout (items glitch reads)

-- times rise within each piece
abbrev pub RisesBehind : List Read → Type 0
RisesBehind [] = Unit {0}
RisesBehind (Gives m ∷ reads) = RisesBehind reads
RisesBehind (Fails line why ∷ reads) = Rises (first_piece reads) × RisesBehind reads

abbrev pub EachRises : List Read → Type 0
EachRises reads = Rises (first_piece reads) × RisesBehind reads
