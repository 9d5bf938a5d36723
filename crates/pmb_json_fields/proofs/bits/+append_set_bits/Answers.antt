use Rattle.std.proofs.Common.{◌≡◌, ℕ, ◌-◌, ◌*◌, ap, arith}
use Rattle.pmb_keys.specs.CommandView.{command_parts}
use Rattle.pmb_json_fields.specs.Value.{set_bits}
use Rattle.pmb_json_fields.proofs.Registers.{highest_first}
use Rattle.pmb_json_fields.proofs.Pieces.{at_most_texts, called_texts, no_text, then_texts}
use Rattle.pmb_json_fields.proofs.bits.+append_set_bits.Goals as goal

pub returns-then-bits-gt0 : goal.returns-then-bits-gt0
returns-then-bits-gt0 g t c =
    called_texts (highest_first (command_parts c.args.command.now) c.args.value c.args.bits (c.args.bits - 1)
    (omega (arith, c.if-bits-gt0.true)))
    (at_most_texts (195 * c.args.bits) (omega (arith, c.if-bits-gt0.true))
    (then_texts c.append_set_bit-next.ensures.place c.append_set_bit-next.ensures.bit c.append_set_bits.ensures))

pub returns-else-bits-gt0 : goal.returns-else-bits-gt0
returns-else-bits-gt0 g t c =
    let none : 0 ≡ c.args.bits = omega (arith, c.if-bits-gt0.false) in
    called_texts (ap (λ (bits : ℕ). set_bits (command_parts c.args.command.now) c.args.value bits) none)
    (no_text c.args.place (195 * c.args.bits) c.args.out.now.items)
