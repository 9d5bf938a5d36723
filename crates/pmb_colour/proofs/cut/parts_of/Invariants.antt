use Rattle.std.proofs.Common.{◌≡◌, ◌≤◌, drop}
use Rattle.pmb_colour.specs.Cut.{parts_from, parts_of}
use Rattle.pmb_colour.proofs.Cutting.{so_far}
use Rattle.pmb_colour.proofs.cut.parts_of.Given as goal

-- the parts so far, with the bytes that are left, are those of the line
abbrev pub invariant-loop-index : goal.invariant-loop-index
invariant-loop-index l = record {
  before : l.cell ≤ l.tail;
  after : l.tail ≤ l.index;
  parts : parts_from (so_far l.line l.cell l.tail l.index) (drop l.index l.line) ≡ parts_of l.line;
}
