-- What `finish` answers is what the end of the events reads as.
use Rattle.std.proofs.Common.{sym, ◌∙◌, refl, subst}
use Rattle.pmb_scan.specs.Scan.{Truncates}
use Rattle.pmb_scan.proofs.Reporting.{ends, none_inside}
use Rattle.pmb_scan.proofs.scan.Scan.truncation.Goals as goal

pub returns-clause-ends : goal.returns-clause-ends
returns-clause-ends c reached read =
    subst (λ r. Truncates reached r) (sym c.err.ensures.value)
    (ends reached reached.standing c.finish.result refl read.reads
    (c.finish.ensures reached.profile reached.standing read.stands))

pub returns-clause-none : goal.returns-clause-none
returns-clause-none c reached n front read standing none =
    none_inside reached.standing reached.profile c.finish.result n front standing (sym c.err.ensures.value ∙ none)
    (c.finish.ensures reached.profile reached.standing read.stands)
