-- A fault of a line's words is one of the line under any profile. For `read_line`, which finds the
-- words' faults first, and for the law `parse_or_fault`. By the two definitions, case by case.
use Rattle.std.proofs.Common.{ℕ, List}
use Rattle.pmb_command.specs.Parts.{DeviceParts}
use Rattle.pmb_line.specs.declared.word_fault.WordFault.{WordFault}
use Rattle.pmb_line.specs.declared.word_fault.WordFault.TheVariants.{Blank, BadWord, TooLong}
use Rattle.pmb_line.specs.Fault.{IsFault}
use Rattle.pmb_line.specs.LineFault.{IsLineFault, word_fault}

pub told : (profile : List DeviceParts) (line : List ℕ) (fault : WordFault) → IsFault line fault
    → IsLineFault profile line (word_fault fault)
told profile line Blank is = is
told profile line (BadWord at) is = is
told profile line (TooLong at) is = is
