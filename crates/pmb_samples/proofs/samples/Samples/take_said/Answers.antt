use Rattle.std.proofs.Common.{ap, sym}
use Rattle.pmb_samples.specs.Lines.{text_at}
use Rattle.pmb_samples.specs.declared.lines.Place.{Place}
use Rattle.pmb_samples.proofs.Joined.{now_same, puts_same}
use Rattle.pmb_samples.proofs.samples.Samples.take_said.Goals as goal

pub returns-in-Head-clause-now : goal.returns-in-Head-clause-now
returns-in-Head-clause-now g c =
    now_same c.take_head.result c.take_head.new.self _ _ c.take_head.ensures.now
    (ap (λ (p : Place). (text_at p c.args.self.now c.args.text.now).now) (sym c.in-Head.is))

pub returns-in-Head-clause-puts : goal.returns-in-Head-clause-puts
returns-in-Head-clause-puts g c =
    puts_same c.take_head.result _ _ _ _ _ _ c.take_head.ensures.puts
    (ap (λ (p : Place). (text_at p c.args.self.now c.args.text.now).text) (sym c.in-Head.is))

pub returns-in-Rows-clause-now : goal.returns-in-Rows-clause-now
returns-in-Rows-clause-now g c =
    now_same c.take_row.result c.take_row.new.self _ _ c.take_row.ensures.now
    (ap (λ (p : Place). (text_at p c.args.self.now c.args.text.now).now) (sym c.in-Rows.is))

pub returns-in-Rows-clause-puts : goal.returns-in-Rows-clause-puts
returns-in-Rows-clause-puts g c =
    puts_same c.take_row.result _ _ _ _ _ _ c.take_row.ensures.puts
    (ap (λ (p : Place). (text_at p c.args.self.now c.args.text.now).text) (sym c.in-Rows.is))
