-- The text is a key, an array of names, and its end.
use Rattle.std.proofs.Common.{◌*◌, List, [], ◌∷◌, ℕ, map, ap, arith}
use Rattle.pmb_json_text.specs.Json.{string}
use Rattle.pmb_json_text.specs.Member.{array_of, named}
use Rattle.pmb_keys.specs.CommandView.{command_parts}
use Rattle.pmb_json_fields.specs.Value.{set_bits}
use Rattle.pmb_json_fields.proofs.Pieces.{array_appended, called}
use Rattle.pmb_json_fields.proofs.bits.append_register.Goals as goal

pub returns : goal.returns
returns g c =
    let names = set_bits (command_parts c.args.command.now) c.args.value c.args.bits in
    called (ap (λ (key : List ℕ). named key (array_of (map string names)) ∷ []) c.bits_key.ensures.key)
    (array_appended c.bits_key.result.now names (195 * c.args.bits) 3142 c.bits_key.ensures.plain
    c.begin_array.ensures.begun c.begin_array.ensures.short c.append_set_bits.ensures c.end_array.ensures.ended
    (omega (arith, c.requires.few)))
