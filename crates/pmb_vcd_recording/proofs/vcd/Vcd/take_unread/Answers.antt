use Rattle.std.proofs.Common.{ap, sym}
use Rattle.pmb_vcd_recording.specs.Lines.{fed}
use Rattle.pmb_vcd_recording.specs.Source as source
use Rattle.pmb_vcd_recording.specs.declared.lines.Place.{Place}
use Rattle.pmb_vcd_recording.proofs.Joined.{now_same, puts_same}
use Rattle.pmb_vcd_recording.proofs.vcd.Vcd.take_unread.Goals as goal

pub returns-in-Head-clause-now : goal.returns-in-Head-clause-now
returns-in-Head-clause-now g c =
    let v = c.args.self.now in
    now_same c.take_fault.result c.take_fault.new.self _ _ c.take_fault.ensures.now
    (ap (λ (p : Place). (fed v (source.unread_at p v.lines)).now) (sym c.in-Head.is))

pub returns-in-Head-clause-puts : goal.returns-in-Head-clause-puts
returns-in-Head-clause-puts g c =
    let v = c.args.self.now in
    puts_same c.take_fault.result _ _ _ _ _ _ c.take_fault.ensures.puts
    (ap (λ (p : Place). (fed v (source.unread_at p v.lines)).text) (sym c.in-Head.is))

pub returns-in-Body-clause-now : goal.returns-in-Body-clause-now
returns-in-Body-clause-now g c =
    let v = c.args.self.now in
    now_same c.fail_body.result c.fail_body.new.self _ _ c.fail_body.ensures.now
    (ap (λ (p : Place). (fed v (source.unread_at p v.lines)).now) (sym c.in-Body.is))

pub returns-in-Body-clause-puts : goal.returns-in-Body-clause-puts
returns-in-Body-clause-puts g c =
    let v = c.args.self.now in
    puts_same c.fail_body.result _ _ _ _ _ _ c.fail_body.ensures.puts
    (ap (λ (p : Place). (fed v (source.unread_at p v.lines)).text) (sym c.in-Body.is))
