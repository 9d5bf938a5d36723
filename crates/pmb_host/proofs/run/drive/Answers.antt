use Rattle.std.proofs.Common.{Err, arith}
use Rattle.pmb_host.specs.declared.step.HostFault.TheVariants.{NoByte}
use Rattle.pmb_host.specs.Run.{Drives}
use Rattle.pmb_host.proofs.Runs.{does, has_failed, is_done, puts}
use Rattle.pmb_host.proofs.run.drive.Goals as goal

pub loop-preserved : goal.loop-preserved
loop-preserved g c = λ job new.
    let way = c.loop.invariant job new in
    puts job c.loop.host c.loop.answer c.loop.counter _ _ way c.next.new.self c.in-Send.signal c.put-answer.result _
    (does job c.loop.host c.loop.answer c.loop.counter _ _ way c.next.result _ c.next.new.self c.in-Send.is
    c.next.ensures) c.put-answer.ensures

pub returns-in-Done : goal.returns-in-Done
returns-in-Done g c = λ job new.
    let way = c.loop.invariant job new in
    is_done job c.loop.host c.loop.answer c.loop.counter _ _ way c.next.new.self c.in-Done.reply
    (does job c.loop.host c.loop.answer c.loop.counter _ _ way c.next.result _ c.next.new.self c.in-Done.is
    c.next.ensures)

pub returns-in-Failed : goal.returns-in-Failed
returns-in-Failed g c = λ job new.
    let way = c.loop.invariant job new in
    has_failed job c.loop.host c.loop.answer c.loop.counter _ _ way c.next.new.self c.in-Failed.fault
    (does job c.loop.host c.loop.answer c.loop.counter _ _ way c.next.result _ c.next.new.self c.in-Failed.is
    c.next.ensures)

-- no run has so many signals
pub returns : goal.returns
returns g c = λ job new.
    let few = (c.loop.invariant job new).few in
    let none : ⊥ = omega (arith, few) in
    absurd {A = Drives job (g.W.Wire.StandsAt c.args.wire.now) (g.W.Wire.StandsAt c.loop.wire) c.loop.host (Err NoByte)}
    none
