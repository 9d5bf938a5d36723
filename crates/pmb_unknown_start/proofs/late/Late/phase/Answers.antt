use Rattle.std.proofs.Common.{◌≡◌, ◌∙◌, List, None, Some, ap, sym}
use Rattle.std.specs.Option.{is_some}
use Rattle.pmb_command.specs.Parts.{DeviceParts, device_with}
use Rattle.pmb_unknown_start.proofs.Keeping.{phase_at}
use Rattle.pmb_unknown_start.proofs.late.Late.phase.Goals as goal

pub returns-in-Some : goal.returns-in-Some
returns-in-Some c = λ profile start past seen.
    let device : DeviceParts = c.in_ok-device.device.now in
    let found : device_with c.args.addr profile ≡ Some device =
    sym (c.in_ok-device.ensures.device
    ∙ ap (λ (devices : List DeviceParts). device_with c.args.addr devices) seen.profile_is) in
    c.phase.ensures
    ∙ phase_at profile start past c.args.addr (Some c.in-Some.kept.now) (c.in-Some.ensures profile start past seen)
    seen.known.bus device found
    (sym (c.is_some.ensures ∙ ap is_some c.phases.ensures.phases) ∙ c.if-not-is_some.false)

pub returns-in-None : goal.returns-in-None
returns-in-None c = λ profile start past seen.
    let device : DeviceParts = c.in_ok-device.device.now in
    let found : device_with c.args.addr profile ≡ Some device =
    sym (c.in_ok-device.ensures.device
    ∙ ap (λ (devices : List DeviceParts). device_with c.args.addr devices) seen.profile_is) in
    phase_at profile start past c.args.addr None (c.in-None.ensures profile start past seen)
    seen.known.bus device found
    (sym (c.is_some.ensures ∙ ap is_some c.phases.ensures.phases) ∙ c.if-not-is_some.false)
