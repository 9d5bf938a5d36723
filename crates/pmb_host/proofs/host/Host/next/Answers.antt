use Rattle.std.proofs.Common.{◌≡◌, ◌++◌, None, sym, subst}
use Rattle.std.specs.Prelude.{MatchOption}
use Rattle.pmb_device.specs.declared.signal.DeviceSignal.{DeviceSignal}
use Rattle.pmb_host.specs.declared.host.Host.{Host}
use Rattle.pmb_host.specs.declared.step.HostStep.{HostStep}
use Rattle.pmb_host.specs.Host.{FirstSteps, HostStanding, HostStandsAt, Steps, heard_with}
use Rattle.pmb_host.specs.machine.Standing.{InPhase, answered}
use Rattle.pmb_host.proofs.Ending.{end_steps}
use Rattle.pmb_host.proofs.host.Host.next.Goals as goal

-- none told the end before
first : (standing : HostStanding) (answer : DeviceSignal) (step : HostStep) (new : Host) → standing.ended ≡ None
    → FirstSteps standing (heard_with standing answer) step new
    → Steps standing answer step new
first standing answer step new none steps =
    subst (λ ended. MatchOption ended (FirstSteps standing (heard_with standing answer) step new)
    (λ last. (step ≡ last) × HostStandsAt new standing)) (sym none) steps

pub returns-in-Start : goal.returns-in-Start
returns-in-Start c = λ standing at.
    let here = subst (InPhase c.args.self.now standing) c.in-Start.is at in
    first standing c.args.answer c.start.result c.start.new.self here.0
    (c.start.ensures standing _ (here.1 c.args.answer))

pub returns-in-Address : goal.returns-in-Address
returns-in-Address c = λ standing at.
    let here = subst (InPhase c.args.self.now standing) c.in-Address.is at in
    first standing c.args.answer c.go_on.result c.go_on.new.self here.0
    (c.go_on.ensures standing _ (here.1 c.args.answer))

pub returns-in-Byte : goal.returns-in-Byte
returns-in-Byte c = λ standing at.
    let here = subst (InPhase c.args.self.now standing) c.in-Byte.is at in
    first standing c.args.answer c.heard_of_byte.result c.heard_of_byte.new.self here.0
    (c.heard_of_byte.ensures standing here.1)

pub returns-in-Ask : goal.returns-in-Ask
returns-in-Ask c = λ standing at.
    let here = subst (InPhase c.args.self.now standing) c.in-Ask.is at in
    first standing c.args.answer c.ask.result c.ask.new.self here.0 (c.ask.ensures standing _ (here.1 c.args.answer))

pub returns-in-Given : goal.returns-in-Given
returns-in-Given c = λ standing at.
    let here = subst (InPhase c.args.self.now standing) c.in-Given.is at in
    first standing c.args.answer c.heard_of_ask.result c.heard_of_ask.new.self here.0
    (subst (λ last. FirstSteps standing (standing.heard ++ answered last c.args.answer) c.heard_of_ask.result
    c.heard_of_ask.new.self) (sym here.1)
    (c.heard_of_ask.ensures standing standing.heard here.2))

pub returns-in-Stop : goal.returns-in-Stop
returns-in-Stop c = λ standing at.
    let here = subst (InPhase c.args.self.now standing) c.in-Stop.is at in
    first standing c.args.answer c.stop.result c.stop.new.self here.0 (c.stop.ensures standing _ (here.1 c.args.answer))

pub returns-in-End : goal.returns-in-End
returns-in-End c = λ standing at.
    end_steps standing c.args.answer c.args.self.now c.end.result c.in-End.is at c.end.ensures
