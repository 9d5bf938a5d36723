use Rattle.pmb_preamble.specs.machine.Front.{NoneEndsWithin}
use Rattle.pmb_preamble.proofs.front_reader.find_mark.Given as goal

-- no line `%%` ends in the bytes that were looked at
abbrev pub invariant-loop-i : goal.invariant-loop-i
invariant-loop-i l = NoneEndsWithin l.bytes l.i
