use Rattle.std.proofs.Common.{◌∙◌, ℕ, None, [], ◌∷◌, ap, sym}
use Rattle.pmb_registers.proofs.Beginning.{begins_with_mode, begins_with_zeros, mode_at, zeros_at}
use Rattle.pmb_registers.proofs.first.first_bytes.Goals as goal

pub returns-then-code-eq-VOUT_MODE-clause-command : goal.returns-then-code-eq-VOUT_MODE-clause-command
returns-then-code-eq-VOUT_MODE-clause-command c = λ command is.
    c.list_of.ensures ∙ ap (λ (mode : ℕ). mode ∷ []) c.first_mode.ensures
    ∙ sym (begins_with_mode c.args.device.now c.args.page c.args.code command c.args.form is
    c.if-code-eq-VOUT_MODE.true)

pub returns-then-code-eq-VOUT_MODE-clause-lacking : goal.returns-then-code-eq-VOUT_MODE-clause-lacking
returns-then-code-eq-VOUT_MODE-clause-lacking c = λ none.
    c.list_of.ensures ∙ ap (λ (mode : ℕ). mode ∷ []) c.first_mode.ensures
    ∙ sym (mode_at c.args.device.now c.args.page c.args.code c.args.form None c.if-code-eq-VOUT_MODE.true)

pub returns-in-None-clause-command : goal.returns-in-None-clause-command
returns-in-None-clause-command c = λ command is.
    c.list_of-in-None.ensures ∙ c.zeros.ensures.value
    ∙ sym (begins_with_zeros c.args.device.now c.args.page c.args.code command c.args.form is
    c.if-code-eq-VOUT_MODE.false c.in-None.ensures.bytes)

pub returns-in-None-clause-lacking : goal.returns-in-None-clause-lacking
returns-in-None-clause-lacking c = λ none.
    c.list_of-in-None.ensures ∙ c.zeros.ensures.value
    ∙ sym (zeros_at c.args.device.now c.args.page c.args.code c.args.form c.if-code-eq-VOUT_MODE.false)
