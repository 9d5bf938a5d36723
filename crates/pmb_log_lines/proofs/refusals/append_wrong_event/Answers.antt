use Rattle.std.proofs.Common.{◌&&◌, ap, arith}
use Rattle.pmb_partial_packet.specs.PartialPacket.{written_to}
use Rattle.pmb_log_data.proofs.Texts.{at_most, called, then}
use Rattle.pmb_log_lines.specs.Refusals.{device_of, if_so, is_leg_end, lacks_write_code, missing_hint}
use Rattle.pmb_log_lines.proofs.refusals.append_wrong_event.Goals as goal

pub returns-clause-says : goal.returns-clause-says
returns-clause-says g c = λ known profile front sees viable stands.
    let device = device_of known (written_to front) in
    at_most 900 (omega arith)
    (then (then (then (then (then c.append_got.ensures c.append.ensures) c.append_kinds.ensures) c.append-2.ensures)
    (c.append_off_hint.ensures.says known profile front sees viable stands))
    (called (ap (λ b. if_so (is_leg_end c.args.event && lacks_write_code device b) missing_hint)
    (c.sent.ensures.bytes profile front viable stands))
    (c.append_end_hint.ensures.says known front sees stands)))
