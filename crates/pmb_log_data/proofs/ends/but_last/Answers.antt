use Rattle.std.proofs.Common.{sym, ap, ◌∙◌}
use Rattle.pmb_partial_packet.specs.PartialPacket.{but_last}
use Rattle.pmb_json_objects.proofs.LastByte.{before_last}
use Rattle.pmb_log_data.proofs.ends.but_last.Goals as goal

pub returns-in-Some-clause-bytes : goal.returns-in-Some-clause-bytes
returns-in-Some-clause-bytes c = sym (ap but_last c.in-Some.ensures ∙ before_last c.in-Some.front.now _)
