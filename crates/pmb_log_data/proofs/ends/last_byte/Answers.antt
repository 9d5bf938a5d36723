use Rattle.std.proofs.Common.{sym, ap, ◌∙◌}
use Rattle.pmb_json_objects.specs.Packets.{last_byte}
use Rattle.pmb_json_objects.proofs.LastByte.{the_last}
use Rattle.pmb_log_data.proofs.ends.last_byte.Goals as goal

pub returns-in-Some : goal.returns-in-Some
returns-in-Some c = sym (ap last_byte c.in-Some.ensures ∙ the_last c.in-Some._front.now c.in-Some.last)
