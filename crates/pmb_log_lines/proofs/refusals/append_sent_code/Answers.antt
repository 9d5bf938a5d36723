use Rattle.std.proofs.Common.{ap, drop, ◌∙◌, arith}
use Rattle.pmb_log_data.specs.Text.{after_says, byte_after_blank}
use Rattle.pmb_log_data.proofs.Texts.{at_most, called, then}
use Rattle.pmb_log_lines.proofs.refusals.append_sent_code.Goals as goal

pub returns : goal.returns
returns g c =
    let code = called (ap byte_after_blank c.last_byte.ensures) c.append_optional_byte.ensures in
    let after = called (ap after_says (c.but_first.ensures.bytes ∙ ap (drop 1) c.but_last.ensures.bytes))
    c.append_after.ensures in
    at_most 830 (omega (arith, c.requires.sent, c.but_last.ensures.short, c.but_first.ensures.short))
    (then (then (then (then c.append.ensures code) after) c.append-2.ensures) c.append_right.ensures)
