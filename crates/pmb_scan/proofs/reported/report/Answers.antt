-- What each answer of the reader to the event comes to.
use Rattle.std.proofs.Common.{refl, subst, sym}
use Rattle.pmb_reader.specs.Reader.{ReaderTakes}
use Rattle.pmb_scan.specs.machine.Reported.{ReportsAs}
use Rattle.pmb_scan.proofs.Reporting.{reports_used, reports_refusal}
use Rattle.pmb_scan.proofs.reported.report.Goals as goal

pub returns-in-Refused : goal.returns-in-Refused
returns-in-Refused c reached read =
    let takes = subst (λ took. ReaderTakes reached.profile reached.standing c.args.event took c.take-took.new.self)
    c.in-Refused.is (c.take-took.ensures reached.profile reached.standing read.stands) in
    subst (λ took. ReportsAs reached c.args.event took c.pass_over.new.reader) (sym c.in-Refused.is)
    (reports_refusal c.passing_goes_on.ensures.other reached reached.standing c.args.event c.in-Refused.field-0
    c.take-took.new.self c.pass_over.new.reader refl read.reads takes (c.pass_over.ensures reached.profile))

pub returns-in_default : goal.returns-in_default
returns-in_default c reached read =
    reports_used c.packets_under_way.ensures c.passing_goes_on.ensures.other reached c.args.event c.take-took.result
    c.take-took.new.self read.reads
    c.in_default.not-Refused (c.take-took.ensures reached.profile reached.standing read.stands)
