use Rattle.std.proofs.Common.{ap, sym}
use Rattle.pmb_samples.specs.Lines.{end_at}
use Rattle.pmb_samples.specs.declared.lines.Place.{Place}
use Rattle.pmb_samples.proofs.Joined.{now_same, puts_same}
use Rattle.pmb_samples.proofs.samples.Samples.take_last.Goals as goal

pub returns-in-Head-clause-now : goal.returns-in-Head-clause-now
returns-in-Head-clause-now g c =
    now_same c.end_headless.result c.end_headless.new.self _ _ c.end_headless.ensures.now
    (ap (λ (p : Place). (end_at p c.args.self.now).now) (sym c.in-Head.is))

pub returns-in-Head-clause-puts : goal.returns-in-Head-clause-puts
returns-in-Head-clause-puts g c =
    puts_same c.end_headless.result _ _ _ _ _ _ c.end_headless.ensures.puts
    (ap (λ (p : Place). (end_at p c.args.self.now).text) (sym c.in-Head.is))

pub returns-in-Rows-clause-now : goal.returns-in-Rows-clause-now
returns-in-Rows-clause-now g c =
    now_same c.end_reader.result c.end_reader.new.self _ _ c.end_reader.ensures.now
    (ap (λ (p : Place). (end_at p c.args.self.now).now) (sym c.in-Rows.is))

pub returns-in-Rows-clause-puts : goal.returns-in-Rows-clause-puts
returns-in-Rows-clause-puts g c =
    puts_same c.end_reader.result _ _ _ _ _ _ c.end_reader.ensures.puts
    (ap (λ (p : Place). (end_at p c.args.self.now).text) (sym c.in-Rows.is))

pub returns-in-Over-clause-now : goal.returns-in-Over-clause-now
returns-in-Over-clause-now g c =
    now_same c.end_reader-in-Over.result c.end_reader-in-Over.new.self _ _ c.end_reader-in-Over.ensures.now
    (ap (λ (p : Place). (end_at p c.args.self.now).now) (sym c.in-Over.is))

pub returns-in-Over-clause-puts : goal.returns-in-Over-clause-puts
returns-in-Over-clause-puts g c =
    puts_same c.end_reader-in-Over.result _ _ _ _ _ _ c.end_reader-in-Over.ensures.puts
    (ap (λ (p : Place). (end_at p c.args.self.now).text) (sym c.in-Over.is))
