use Rattle.std.proofs.Common.{subst, sym}
use Rattle.std.specs.Box.{with_value}
use Rattle.pmb_keeper.specs.Setting.{IsNothing}
use Rattle.pmb_keeper.specs.declared.nothing.Nothing.{Nothing}
use Rattle.pmb_telling.specs.declared.engine.Teller.{Teller}
use Rattle.pmb_telling.specs.machine.Standing.{HasPutOut}
use Rattle.pmb_telling.proofs.Telling.{ends_told}
use Rattle.pmb_telling.proofs.capture_teller.CaptureTeller.end.Goals as goal

pub returns-clause-ends : goal.returns-clause-ends
returns-clause-ends g c choice profile after given told stands =
    ends_told choice profile after c.args.self.now
    (record { teller = with_value c.args.self.now.teller c.end.new.self }) given told stands _ _ _ _
    c.end.result (c.end.ensures.ends stands.start given told
    (subst (λ (t : Teller Nothing). HasPutOut IsNothing stands.start t given told)
    (sym c.deref_mut-teller.ensures.value) stands.put_out))
