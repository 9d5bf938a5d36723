use Rattle.std.proofs.Common.{ap, arith}
use Rattle.pmb_log_data.specs.Text.{bytes_says}
use Rattle.pmb_log_data.proofs.Texts.{at_most, called, then}
use Rattle.pmb_log_lines.proofs.refusals.append_too_long.Goals as goal

pub returns-clause-says : goal.returns-clause-says
returns-clause-says g c = λ known profile front event expected sees viable stands.
    at_most 900 (omega (arith, c.replied.ensures.short))
    (then (then (then c.append.ensures
    (called (ap bytes_says (c.replied.ensures.bytes profile front viable stands)) c.append_bytes.ensures))
    c.append-2.ensures) (c.append_long_hint.ensures.says known front sees stands))
