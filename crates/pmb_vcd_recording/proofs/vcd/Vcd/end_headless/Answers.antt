use Rattle.pmb_recording.proofs.Puts.{then_last}
use Rattle.pmb_vcd_recording.proofs.Joined.{headless_now, headless_text}
use Rattle.pmb_vcd_recording.proofs.vcd.Vcd.end_headless.Goals as goal

pub returns-clause-now : goal.returns-clause-now
returns-clause-now g c =
    headless_now c.end.result c.args.self.now c.count_fault.new.self c.end.new.self c.count_fault.ensures
    c.end.ensures.now

pub returns-clause-puts : goal.returns-clause-puts
returns-clause-puts g c =
    then_last c.texts_add_up.ensures.both c.end.result _ _ _ _ _ _ _ _ _ c.in_ok-put.ensures.ok c.end.ensures.puts
    (headless_text c.args.self.now c.count_fault.new.self c.count_fault.ensures)
