-- The table tells.
use Rattle.pmb_json_text.proofs.Plain.{plain_read}
use Rattle.pmb_json_text.proofs.text.is_plain.Goals as goal

pub returns : goal.returns
returns c = plain_read c.args.byte c.ranges.byte.fits
