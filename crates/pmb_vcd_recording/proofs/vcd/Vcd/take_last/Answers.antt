use Rattle.std.proofs.Common.{ap, sym}
use Rattle.pmb_vcd_recording.specs.Lines.{end_at}
use Rattle.pmb_vcd_recording.specs.declared.lines.Place.{Place}
use Rattle.pmb_vcd_recording.proofs.Joined.{now_same, puts_same}
use Rattle.pmb_vcd_recording.proofs.vcd.Vcd.take_last.Goals as goal

pub returns-in-Head-clause-now : goal.returns-in-Head-clause-now
returns-in-Head-clause-now g c =
    now_same c.end_headless.result c.end_headless.new.self _ _ c.end_headless.ensures.now
    (ap (λ (p : Place). (end_at p c.args.self.now).now) (sym c.in-Head.is))

pub returns-in-Head-clause-puts : goal.returns-in-Head-clause-puts
returns-in-Head-clause-puts g c =
    puts_same c.end_headless.result _ _ _ _ _ _ c.end_headless.ensures.puts
    (ap (λ (p : Place). (end_at p c.args.self.now).text) (sym c.in-Head.is))

pub returns-in-Body-clause-now : goal.returns-in-Body-clause-now
returns-in-Body-clause-now g c =
    now_same c.end_body.result c.end_body.new.self _ _ c.end_body.ensures.now
    (ap (λ (p : Place). (end_at p c.args.self.now).now) (sym c.in-Body.is))

pub returns-in-Body-clause-puts : goal.returns-in-Body-clause-puts
returns-in-Body-clause-puts g c =
    puts_same c.end_body.result _ _ _ _ _ _ c.end_body.ensures.puts
    (ap (λ (p : Place). (end_at p c.args.self.now).text) (sym c.in-Body.is))

pub returns-in-Over-clause-now : goal.returns-in-Over-clause-now
returns-in-Over-clause-now g c =
    now_same c.end_over.result c.end_over.new.self _ _ c.end_over.ensures.now
    (ap (λ (p : Place). (end_at p c.args.self.now).now) (sym c.in-Over.is))

pub returns-in-Over-clause-puts : goal.returns-in-Over-clause-puts
returns-in-Over-clause-puts g c =
    puts_same c.end_over.result _ _ _ _ _ _ c.end_over.ensures.puts
    (ap (λ (p : Place). (end_at p c.args.self.now).text) (sym c.in-Over.is))
