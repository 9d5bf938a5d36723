use Rattle.std.proofs.Common.{not, refl, ap, sym, ◌∙◌}
use Rattle.std.specs.Prelude.{Box}
use Rattle.std.specs.declared.alloc.Global.{Global}
use Rattle.pmb_bus_session.specs.declared.devices.Devices.{Devices}
use Rattle.pmb_bus_session.specs.Devices.{OpensFresh}
use Rattle.pmb_bus_session.specs.Session.{Opens, session_profile}
use Rattle.pmb_bus_session.proofs.Made.{made_inside, none_inside, some_inside}
use Rattle.pmb_bus_session.proofs.session.BusSession.answer_open.Goals as goal

-- They are there.
pub returns-then-is_some-clause-opens : goal.returns-then-is_some-clause-opens
returns-then-is_some-clause-opens c =
    let devices = some_inside (λ (it : Box Devices Global). it.value) c.args.self.now.devices
    (sym c.is_some.ensures ∙ c.if-is_some.true) in
    Opens.there devices.0 devices.1 (record { profile = refl; devices = refl; text = refl }) c.plain.ensures

-- They were not, and are made.
pub returns-else-is_none-clause-opens : goal.returns-else-is_none-clause-opens
returns-else-is_none-clause-opens c =
    let none = none_inside (λ (it : Box Devices Global). it.value) c.args.self.now.devices
    (sym c.is_some.ensures ∙ c.if-is_some.false) in
    let devices = made_inside (λ (it : Box Devices Global). it.value) (OpensFresh (session_profile c.args.self.now))
    c.boxed.result c.boxed.ensures (c.is_none.ensures ∙ ap not c.if-is_none.false) in
    Opens.made devices.0 none devices.1.0 devices.1.1 refl refl c.plain.ensures
