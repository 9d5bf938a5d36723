use Rattle.std.proofs.Common.{ap}
use Rattle.pmb_recording.specs.Recording.{Step as StepOf}
use Rattle.pmb_vcd_recording.specs.declared.vcd.Vcd.{Vcd}
use Rattle.pmb_vcd_recording.proofs.Joined.{fault_is, now_same, puts_same}
use Rattle.pmb_vcd_recording.proofs.vcd.Vcd.take_fault.Goals as goal

pub returns-in-Some-clause-now : goal.returns-in-Some-clause-now
returns-in-Some-clause-now g c =
    now_same c.break_off.result c.break_off.new.self _ _ c.break_off.ensures.now
    (ap (λ (s : StepOf Vcd). s.now)
    (fault_is c.args.self.now c.args.fault c.in-Some.why c.words_of.result.now c.in-Some.is c.words_of.ensures))

pub returns-in-Some-clause-puts : goal.returns-in-Some-clause-puts
returns-in-Some-clause-puts g c =
    puts_same c.break_off.result _ _ _ _ _ _ c.break_off.ensures.puts
    (ap (λ (s : StepOf Vcd). s.text)
    (fault_is c.args.self.now c.args.fault c.in-Some.why c.words_of.result.now c.in-Some.is c.words_of.ensures))
