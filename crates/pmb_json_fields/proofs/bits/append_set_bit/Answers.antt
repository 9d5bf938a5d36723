use Rattle.std.proofs.Common.{◌∙◌, ℕ, List, [], ◌∷◌, Bool, cond, ap, sym}
use Rattle.pmb_command.specs.Parts.{CommandParts}
use Rattle.pmb_command_data.specs.Bits.{bit_text_in}
use Rattle.pmb_keys.specs.CommandView.{command_parts}
use Rattle.pmb_note.specs.Note.{named_bit}
use Rattle.pmb_json_fields.proofs.Pieces.{called_texts, no_text}
use Rattle.pmb_json_fields.proofs.bits.append_set_bit.Goals as goal

-- a bit that is not set has no text
pub returns-else-is_set-clause-bit : goal.returns-else-is_set-clause-bit
returns-else-is_set-clause-bit g c =
    let command : CommandParts = command_parts c.args.command.now in
    let name : List ℕ = named_bit (bit_text_in command.bits command.entry.code c.args.bit) c.args.bit in
    called_texts (ap (λ (b : Bool). cond b (name ∷ []) []) (sym c.if-is_set.false ∙ c.is_set.ensures))
    (no_text c.args.place 195 c.args.out.now.items)
