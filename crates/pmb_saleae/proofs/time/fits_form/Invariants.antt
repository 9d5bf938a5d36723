use Rattle.std.proofs.Common.{◌≡◌, length}
use Rattle.pmb_saleae.specs.Time.{has_form}
use Rattle.pmb_saleae.proofs.time.fits_form.Given as goal

-- the bytes so far fit
abbrev pub invariant-loop-form_left : goal.invariant-loop-form_left
invariant-loop-form_left l = has_form l.fn.form l.fn.text ≡ has_form l.form_left l.left

abbrev pub decreases-loop-form_left : goal.decreases-loop-form_left
decreases-loop-form_left l = length l.form_left
