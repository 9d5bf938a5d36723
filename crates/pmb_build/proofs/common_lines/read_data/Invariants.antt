use Rattle.std.proofs.Common.{◌≡◌, ◌++◌, length}
use Rattle.pmb_command.specs.Wire.{AreByteValues}
use Rattle.pmb_line.specs.Spelling.{bytes}
use Rattle.pmb_build.specs.machine.CommonLines.{after_spaces}
use Rattle.pmb_build.proofs.common_lines.read_data.Given as goal

-- bytes were read up to the rest
abbrev pub invariant-loop-rest : goal.invariant-loop-rest
invariant-loop-rest l = record {
  small : AreByteValues l.bytes.items;
  so_far : l.fn.text ≡ after_spaces (bytes l.bytes.items) ++ l.rest;
}

abbrev pub decreases-loop-rest : goal.decreases-loop-rest
decreases-loop-rest l = length l.rest
