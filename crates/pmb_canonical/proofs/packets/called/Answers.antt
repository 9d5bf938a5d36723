use Rattle.std.proofs.Common.{◌≡◌, ℕ, ◌+◌, Some, List, get_or, take, refl, sym, ap, subst, ◌∙◌, arith}
use Rattle.std.proofs.lemmas.Option.{same_Some}
use Rattle.pmb_bus.specs.Address.{write_address}
use Rattle.pmb_command.specs.declared.form.Form.{Form}
use Rattle.pmb_command.specs.Parts.{DeviceParts}
use Rattle.pmb_command.specs.declared.pec_mode.PecMode.{PecMode}
use Rattle.pmb_command.specs.PecMode.{AllowsPec}
use Rattle.pmb_command.specs.Wire.{Fits, wire}
use Rattle.pmb_transaction.specs.Body.{checked, forms}
use Rattle.pmb_command.specs.Entry.{entry_parts}
use Rattle.pmb_canonical.proofs.Behind.{call_reply, spells_call}
use Rattle.pmb_canonical.proofs.Found.{call_form}
use Rattle.pmb_canonical.proofs.packets.called.Goals as goal

pub returns-in_err-reply-clause-found : goal.returns-in_err-reply-clause-found
returns-in_err-reply-clause-found c address code sent reply with_pec says =
    let stand = call_reply c.args.profile.now address code sent reply with_pec c.args.bytes.now c.args.written says in
    let first : get_or c.args.bytes.now 0 0 ≡ write_address address = ap (λ (l : List ℕ). get_or l 0 0) says.spelled in
    let second : get_or c.args.bytes.now 1 0 ≡ code = ap (λ (l : List ℕ). get_or l 1 0) says.spelled in
    let device : c.in_ok-device.device.now ≡ says.device =
    same_Some c.in_ok-device.device.now says.device
    (c.in_ok-device.ensures.found address says.device first says.known) in
    let called : (forms c.in_ok-device.device.now (get_or c.args.bytes.now 1 0)).call ≡ Some c.in_ok-form.form =
    call_form c.in_ok-device.device.now (get_or c.args.bytes.now 1 0) (entry_parts c.in_ok-entry.field-0.now)
    c.in_ok-form.form c.in_ok-entry.ensures.entry
    c.in_ok-form.was in
    let same_call : (forms c.in_ok-device.device.now (get_or c.args.bytes.now 1 0)).call
    ≡ (forms says.device code).call =
    ap (λ (d : DeviceParts). (forms d (get_or c.args.bytes.now 1 0)).call) device
    ∙ ap (λ (n : ℕ). (forms says.device n).call) second in
    let form : says.form ≡ c.in_ok-form.form = same_Some says.form c.in_ok-form.form
    (sym says.called ∙ sym same_call ∙ called) in
    let mode : says.device.pec ≡ c.pec.result = sym (c.pec.ensures ∙ ap (λ (d : DeviceParts). d.pec) device) in
    absurd (cc (c.in_err-reply.ensures.found reply with_pec (subst (λ (f : Form). Fits f reply) form says.fits)
    (subst (λ (m : PecMode). AllowsPec m with_pec) mode says.mode)
    (stand ∙ ap (λ (f : Form). checked with_pec (take (c.args.written + 1) c.args.bytes.now) (wire f reply)) form)))

pub returns-clause-says : goal.returns-clause-says
returns-clause-says c =
    let bytes = c.args.bytes.now in
    let written = c.args.written in
    let device = c.in_ok-device.device.now in
    let form = c.in_ok-form.form in
    let address : c.address-2.result ≡ device.address = c.address-2.ensures.address in
    let called : (forms device (get_or bytes 1 0)).call ≡ Some form =
    call_form device (get_or bytes 1 0) (entry_parts c.in_ok-entry.field-0.now) form c.in_ok-entry.ensures.entry
    c.in_ok-form.was in
    let spells =
    spells_call device form (get_or bytes 1 0) c.in_ok-sent.sent.now c.in_ok-reply.reply.bytes.now
    c.in_ok-reply.reply.pec bytes written
    (record {
      enough = c.in-len2-up.len_at_least;
      to_write = c.in_ok-device.ensures.known.0;
      command_code = refl;
      within = (c.in_ok-get.ensures.lookup.0.0, c.in_ok-to_read.ensures.lookup.3.0);
      sends = sym c.in_ok-get.ensures.lookup.0.2 ∙ c.in_ok-sent.ensures.says.1;
      to_read = omega (arith, c.in_ok-to_read.ensures.lookup.3.1 0);
      replies = c.in_ok-reply.ensures.says.2;
    }) in
    rw address
    (record {
      device = device;
      form = form;
      known = c.in_ok-device.ensures.known.1;
      called = called;
      sends = c.in_ok-sent.ensures.says.0;
      fits = c.in_ok-reply.ensures.says.0;
      mode = subst (λ (m : PecMode). AllowsPec m c.in_ok-reply.reply.pec) c.pec.ensures c.in_ok-reply.ensures.says.1;
      first = spells.0;
      spelled = spells.1;
    })
