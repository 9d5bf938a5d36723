use Rattle.std.proofs.Common.{◌≡◌, ◌∙◌, ℕ, [], ◌∷◌, get_or, ap, arith, refl, subst}
use Rattle.std.proofs.lemmas.Grind.{common_steps}
use Rattle.pmb_bus.specs.Address.{write_address}
use Rattle.pmb_command.specs.declared.pec_mode.PecMode.{PecMode}
use Rattle.pmb_command.specs.Entry.{entry_parts}
use Rattle.pmb_command.specs.PecMode.{AllowsPec}
use Rattle.pmb_command.specs.Wire.{wire}
use Rattle.pmb_transaction.specs.Body.{checked}
use Rattle.pmb_canonical.proofs.Behind.{spells_write, written_data}
use Rattle.pmb_canonical.proofs.Found.{write_form}
use Rattle.pmb_canonical.proofs.packets.written.Goals as goal

pub returns-in_err-data-clause-found : goal.returns-in_err-data-clause-found
returns-in_err-data-clause-found c address code data_bytes with_pec says =
    let stand = written_data c.args.profile.now address code data_bytes with_pec c.args.bytes.now says in
    grind (arith, common_steps, stand, c.in_err-data.ensures.found data_bytes with_pec)

pub returns-clause-says : goal.returns-clause-says
returns-clause-says c =
    let bytes = c.args.bytes.now in
    let code = get_or bytes 1 0 in
    let device = c.in_ok-device.device.now in
    let form = c.in_ok-form.form in
    let said = c.in_ok-data.data in
    let body = checked said.pec (write_address device.address ∷ []) (code ∷ wire form said.bytes.now) in
    let spelled : bytes ≡ write_address device.address ∷ body =
    spells_write said.pec bytes (wire form said.bytes.now) c.in-len2-up.len_at_least c.in_ok-data.ensures.says.2
    ∙ ap (λ (a : ℕ). a ∷ checked said.pec (a ∷ []) (code ∷ wire form said.bytes.now)) c.in_ok-device.ensures.known.0 in
    rw (c.address.ensures.address)
    (record {
      device = device;
      body = body;
      known = c.in_ok-device.ensures.known.1;
      allowed = record {
        form = form;
        written = write_form device code (entry_parts c.in_ok-entry.field-0.now) form c.in_ok-entry.ensures.entry
            c.in_ok-form.was;
        fits = c.in_ok-data.ensures.says.0;
        mode = subst (λ (m : PecMode). AllowsPec m said.pec) c.pec.ensures c.in_ok-data.ensures.says.1;
        spelled = refl;
      };
      spelled = spelled;
    })
