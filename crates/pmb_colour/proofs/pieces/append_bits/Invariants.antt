use Rattle.std.proofs.Common.{◌≡◌, ◌≤◌, ◌+◌, ◌-◌, ◌*◌, ◌++◌, [], length, take, drop}
use Rattle.pmb_colour.specs.declared.cut.Cut.TheVariants.{Words}
use Rattle.pmb_colour.specs.Log.{bit_piece}
use Rattle.pmb_colour.proofs.Cutting.{shown_from}
use Rattle.pmb_colour.proofs.pieces.append_bits.Given as goal

-- what was appended, and what is to come, are all of it
abbrev pub invariant-loop-index : goal.invariant-loop-index
invariant-loop-index g l = record {
  after : l.start ≤ l.index;
  says : l.out.items ++ shown_from Words bit_piece (take (l.index - l.start) (drop l.start l.text)) (drop l.index l.text)
      ≡ l.fn.out.items ++ shown_from Words bit_piece [] l.text;
  room : length l.out.items + (l.index - l.start) ≤ length l.fn.out.items + 10 * l.index;
}
