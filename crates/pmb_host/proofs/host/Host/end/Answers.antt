use Rattle.std.proofs.Common.{◌≡◌, ℕ, ◌≤◌, ◌∙◌, Option, Some, None, length, refl, sym, ap, subst, arith}
use Rattle.pmb_command.specs.declared.form.Form.{Form}
use Rattle.pmb_command.specs.declared.form.Form.TheVariants.{Zero, One, Two, Four, Eight, Block}
use Rattle.pmb_command.specs.Wire.{Takes}
use Rattle.pmb_host.specs.declared.reply.Incoming.{Incoming}
use Rattle.pmb_host.specs.declared.step.HostFault.{HostFault}
use Rattle.pmb_host.specs.declared.step.HostStep.TheVariants.{Done}
use Rattle.pmb_host.specs.machine.Replies.{told_data}
use Rattle.pmb_host.specs.machine.Standing.{IsToldOf}
use Rattle.pmb_host.proofs.host.Host.end.Goals as goal

-- no fault is kept
none_kept : (fault : Option HostFault) → ((f : HostFault) → fault ≡ Some f → ⊥) → fault ≡ None
none_kept None not_some = refl
none_kept (Some f) not_some = absurd (not_some f refl)

-- no form takes more than 255 bytes
few_taken : (form : Form) (n : ℕ) → Takes form n → n ≤ 255
few_taken Zero n takes = omega (arith, takes)
few_taken One n takes = omega (arith, takes)
few_taken Two n takes = omega (arith, takes)
few_taken Four n takes = omega (arith, takes)
few_taken Eight n takes = omega (arith, takes)
few_taken Block n takes = takes

pub returns-in-Some-reply : goal.returns-in-Some-reply
returns-in-Some-reply c =
    let host = c.args.self.now in
    let step = Done c.reply_of.result in
    let told : IsToldOf None (Some c.in-Some-reply.reply) host.number step = λ content holds.
    let data_is = c.data.ensures content holds in
    let few = few_taken c.in-Some-reply.reply.form (length content) holds.fits.taken in
    let many = ap length data_is in
    (c.reply_of.result, refl, c.reply_of.ensures (omega (arith, few, many)) ∙ ap (told_data host.number) data_is) in
    subst (λ (fault : Option HostFault). IsToldOf fault host.reply host.number step)
    (sym (none_kept host.fault c.in_default.not-Some))
    (subst (λ (reply : Option Incoming). IsToldOf None reply host.number step) (sym c.in-Some-reply.is) told)
