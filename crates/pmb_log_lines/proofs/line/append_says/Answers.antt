use Rattle.std.proofs.Common.{ap, sym, subst, arith}
use Rattle.pmb_log_lines.specs.Line.{says}
use Rattle.pmb_facts.specs.Stands.{IsRefusal, Stands}
use Rattle.pmb_log_data.proofs.Texts.{at_most, called}
use Rattle.pmb_log_lines.proofs.line.append_says.Goals as goal

pub returns-in-Refusal-clause-says : goal.returns-in-Refusal-clause-says
returns-in-Refusal-clause-says g c = λ known what sees stands.
    let refusal : IsRefusal c.in-Refusal.said.now c.in-Refusal.event c.in-Refusal.reason c.in-Refusal.expected what =
    subst (λ w. Stands w what) c.in-Refusal.is stands in
    called (ap (says known c.args.place) (sym refusal.is))
    (at_most 3229 (omega arith) (c.append_refusal.ensures.says known refusal.profile refusal.front sees refusal.viable
    refusal.given))
