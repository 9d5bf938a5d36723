use Rattle.std.proofs.Common.{◌∙◌, ap}
use Rattle.pmb_recording.specs.Recording.{Step as StepOf}
use Rattle.pmb_recording.proofs.Puts.{then_last}
use Rattle.pmb_vcd_recording.specs.declared.vcd.Vcd.{Vcd}
use Rattle.pmb_vcd_recording.proofs.Joined.{body_now, body_text, last_is}
use Rattle.pmb_vcd_recording.proofs.vcd.Vcd.end_body.Goals as goal

pub returns-clause-now : goal.returns-clause-now
returns-clause-now g c =
    let last = last_is c.args.self.now c.end_body-moment.new.self c.end_body-moment.result c.end_body-moment.ensures.now
    c.end_body-moment.ensures.given in
    body_now c.end.result c.args.self.now c.take_moment.new.self c.end.new.self
    (c.in_ok-take_moment.ensures.now ∙ ap (λ (s : StepOf Vcd). s.now) last) c.end.ensures.now

pub returns-clause-puts : goal.returns-clause-puts
returns-clause-puts g c =
    let last = last_is c.args.self.now c.end_body-moment.new.self c.end_body-moment.result c.end_body-moment.ensures.now
    c.end_body-moment.ensures.given in
    then_last c.texts_add_up.ensures.both c.end.result _ _ _ _ _ _ _ _ _ c.in_ok-take_moment.ensures.puts
    c.end.ensures.puts
    (body_text c.args.self.now c.take_moment.new.self _
    (c.in_ok-take_moment.ensures.now ∙ ap (λ (s : StepOf Vcd). s.now) last) (ap (λ (s : StepOf Vcd). s.text) last))
