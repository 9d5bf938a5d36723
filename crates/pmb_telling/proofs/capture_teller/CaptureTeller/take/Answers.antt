use Rattle.std.proofs.Common.{subst, sym}
use Rattle.std.specs.Box.{with_value}
use Rattle.pmb_keeper.specs.Setting.{IsNothing}
use Rattle.pmb_keeper.specs.declared.nothing.Nothing.{Nothing}
use Rattle.pmb_telling.specs.declared.engine.Teller.{Teller}
use Rattle.pmb_telling.specs.machine.Standing.{HasPutOut}
use Rattle.pmb_telling.proofs.Telling.{takes_told}
use Rattle.pmb_telling.proofs.capture_teller.CaptureTeller.take.Goals as goal

pub returns-clause-takes : goal.returns-clause-takes
returns-clause-takes g c choice profile after given told stands =
    takes_told choice profile after c.args.self.now
    (record { teller = with_value c.args.self.now.teller c.take.new.self }) given told stands _ _ _ _
    c.args.piece.now c.take.result (c.take.ensures.takes stands.start given told
    (subst (λ (t : Teller Nothing). HasPutOut IsNothing stands.start t given told)
    (sym c.deref_mut-teller.ensures.value) stands.put_out))
