use Rattle.std.proofs.Common.{◌-◌, ◌*◌, codes, ap, ◌∙◌, arith}
use Rattle.pmb_keys.specs.CommandView.{command_parts}
use Rattle.pmb_json_fields.specs.Value.{set_bit, set_bits}
use Rattle.pmb_json_fields.proofs.Registers.{highest_first}
use Rattle.pmb_json_text.specs.Member.{place_after}
use Rattle.pmb_log_data.specs.Text.{joined}
use Rattle.pmb_log_data.proofs.Joined.{after_both, then_joined}
use Rattle.pmb_log_data.proofs.Texts.{at_most, called}
use Rattle.pmb_log_data.proofs.bits.+append_set_bits.Goals as goal

pub returns-then-bits-gt0-clause-bits : goal.returns-then-bits-gt0-clause-bits
returns-then-bits-gt0-clause-bits g t c =
    let command = command_parts c.args.command.now in
    let value = c.args.value in
    called (ap (joined (codes " ") c.args.place)
    (highest_first command value c.args.bits (c.args.bits - 1) (omega (arith, c.if-bits-gt0.true))))
    (at_most (33 * c.args.bits) (omega (arith, c.if-bits-gt0.true))
    (then_joined (codes " ") c.args.place (set_bit command value (c.args.bits - 1))
    (set_bits command value (c.args.bits - 1)) c.append_set_bit-next.ensures.place
    c.append_set_bit-next.ensures.bit c.append_set_bits.ensures.bits))

pub returns-then-bits-gt0-clause-place : goal.returns-then-bits-gt0-clause-place
returns-then-bits-gt0-clause-place g t c =
    let command = command_parts c.args.command.now in
    let first = set_bit command c.args.value (c.args.bits - 1) in
    let others = set_bits command c.args.value (c.args.bits - 1) in
    c.append_set_bits.ensures.place
    ∙ ap (λ place. place_after place others) c.append_set_bit-next.ensures.place
    ∙ after_both c.args.place first others
    ∙ ap (place_after c.args.place)
    (highest_first command c.args.value c.args.bits (c.args.bits - 1) (omega (arith, c.if-bits-gt0.true)))
