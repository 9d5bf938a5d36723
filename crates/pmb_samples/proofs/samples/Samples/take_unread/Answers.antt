use Rattle.std.proofs.Common.{ap, sym}
use Rattle.pmb_samples.specs.Lines.{unread_at}
use Rattle.pmb_samples.specs.declared.lines.Place.{Place}
use Rattle.pmb_samples.proofs.Joined.{now_same, puts_same}
use Rattle.pmb_samples.proofs.samples.Samples.take_unread.Goals as goal

pub returns-in-Head-clause-now : goal.returns-in-Head-clause-now
returns-in-Head-clause-now g c =
    now_same c.take_fault.result c.take_fault.new.self _ _ c.take_fault.ensures.now
    (ap (λ (p : Place). (unread_at p c.args.self.now).now) (sym c.in-Head.is))

pub returns-in-Head-clause-puts : goal.returns-in-Head-clause-puts
returns-in-Head-clause-puts g c =
    puts_same c.take_fault.result _ _ _ _ _ _ c.take_fault.ensures.puts
    (ap (λ (p : Place). (unread_at p c.args.self.now).text) (sym c.in-Head.is))

pub returns-in-Rows-clause-now : goal.returns-in-Rows-clause-now
returns-in-Rows-clause-now g c =
    now_same c.fail_row.result c.fail_row.new.self _ _ c.fail_row.ensures.now
    (ap (λ (p : Place). (unread_at p c.args.self.now).now) (sym c.in-Rows.is))

pub returns-in-Rows-clause-puts : goal.returns-in-Rows-clause-puts
returns-in-Rows-clause-puts g c =
    puts_same c.fail_row.result _ _ _ _ _ _ c.fail_row.ensures.puts
    (ap (λ (p : Place). (unread_at p c.args.self.now).text) (sym c.in-Rows.is))
