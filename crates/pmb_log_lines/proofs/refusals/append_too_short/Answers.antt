use Rattle.std.proofs.Common.{ap, ◌∙◌, arith}
use Rattle.pmb_partial_packet.specs.PartialPacket.{leg_or_none, said_device, sent}
use Rattle.pmb_log_lines.specs.Refusals.{device_of, if_so, lacks_code, missing_hint}
use Rattle.pmb_log_data.specs.Text.{bytes_says}
use Rattle.pmb_log_data.proofs.Texts.{at_most, called, then}
use Rattle.pmb_log_lines.proofs.refusals.append_too_short.Goals as goal

pub returns-clause-says : goal.returns-clause-says
returns-clause-says g c = λ known profile front event expected sees viable stands.
    let device = device_of known (said_device front) in
    at_most 900 (omega (arith, c.replied.ensures.short))
    (then (then (then c.append.ensures
    (called (ap bytes_says (c.replied.ensures.bytes profile front viable stands)) c.append_bytes.ensures))
    c.append-2.ensures)
    (called (ap (λ b. if_so (lacks_code device b c.replied-2.result.now) missing_hint)
    (c.sent.ensures.bytes profile front viable stands)
    ∙ ap (λ b. if_so (lacks_code device (leg_or_none (sent front)) b) missing_hint)
    (c.replied-2.ensures.bytes profile front viable stands))
    (c.append_short_hint.ensures.says known front sees stands)))
