use Rattle.pmb_registers.proofs.StatusCodes.{AreStatusCodesBelow}
use Rattle.pmb_registers.proofs.forms.status_codes.Given as goal

abbrev pub invariant-loop-i : goal.invariant-loop-i
invariant-loop-i l = AreStatusCodesBelow l.device l.i l.codes.items
