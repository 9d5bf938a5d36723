use Rattle.std.proofs.Common.{◌≡◌, take}
use Rattle.pmb_io.specs.Outgoing.{PutsText}
use Rattle.pmb_colour.specs.Painting.{held_after, pieces_of}
use Rattle.pmb_colour.specs.Pieces.{shown}
use Rattle.pmb_colour.specs.machine.Painter.{held_by, inner_of, waiting_of}
use Rattle.pmb_colour.proofs.painter.Painter.paint_all.Given as goal

-- what goes out with the bytes so far was put out
abbrev pub invariant-loop-byte : goal.invariant-loop-byte
invariant-loop-byte g l = record {
  puts : PutsText (g.W.Sink.told (inner_of l.fn.self)).held (waiting_of l.fn.self)
      (g.W.Sink.told (inner_of l.self)).held (waiting_of l.self)
      (shown (pieces_of l.lines (held_by l.fn.self) (take l.byte-index l.bytes)));
  held : held_by l.self ≡ held_after (held_by l.fn.self) (take l.byte-index l.bytes);
  failures : (g.W.Sink.told (inner_of l.self)).failures ≡ (g.W.Sink.told (inner_of l.fn.self)).failures;
}
