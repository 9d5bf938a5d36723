use Rattle.std.proofs.Common.{◌&&◌, ap, ◌∙◌, arith}
use Rattle.pmb_log_data.proofs.Texts.{at_most, called}
use Rattle.pmb_log_lines.specs.Refusals.{device_of, if_so, is_leg_end, lacks_write_code, missing_hint}
use Rattle.pmb_log_lines.proofs.hints.append_end_hint.Goals as goal

pub returns-clause-says : goal.returns-clause-says
returns-clause-says g c = λ known front sees stands.
    let ends = c.is_leg_end.ensures in
    let lacks = c.lacks_write_code.ensures
    ∙ ap (λ d. lacks_write_code d c.args.sent.now)
    (c.device_of.ensures known sees ∙ ap (device_of known) (c.written_to.ensures front stands)) in
    called (ap (λ first. if_so (first && c.lacks_write_code.result) missing_hint) ends
    ∙ ap (λ second. if_so (is_leg_end c.args.event && second) missing_hint) lacks)
    (at_most 60 (omega arith) c.append_if_both.ensures)
