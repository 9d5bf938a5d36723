-- Only two bytes are a word.
use Rattle.std.proofs.Common.{◌≡◌, ℕ, List, ◌+◌, ◌*◌, true, false, ltb, get_or, length, rules, arith}
use Rattle.pmb_value.specs.declared.number_format.NumberFormat.{NumberFormat}
use Rattle.pmb_keys.specs.CommandView.{command_parts}
use Rattle.pmb_keys.specs.declared.command.Command.{Command}
use Rattle.pmb_json_text.specs.Member.{Member}
use Rattle.pmb_json_fields.specs.Value.{number_members}
use Rattle.pmb_json_fields.proofs.Pieces.{called, nothing, too_long, too_short, two_bytes}
use Rattle.pmb_json_fields.proofs.number.append_number.Goals as goal

-- what a word says
abbrev said : ℕ → Command → NumberFormat → ℕ → List Member
said digits command format word = number_members digits (command_parts command).unit format word

pub returns-then-bytes-lt2 : goal.returns-then-bytes-lt2
returns-then-bytes-lt2 g c =
    let few : ltb (length c.args.bytes.now) 2 ≡ true = search rules in
    called (too_short (said c.args.digits c.args.command.now c.args.format) c.args.bytes.now few)
    (nothing 463 c.args.out.now.items)

pub returns-in-len2 : goal.returns-in-len2
returns-in-len2 g c =
    let word : c.from_le_bytes.result ≡ get_or c.args.bytes.now 0 0 + 256 * get_or c.args.bytes.now 1 0 =
    omega (arith, c.from_le_bytes.ensures) in
    called (two_bytes (said c.args.digits c.args.command.now c.args.format) c.from_le_bytes.result c.args.bytes.now
    (omega (arith, c.in-len2.len_at_least, c.in-len2.len_below)) word) c.append_word.ensures

pub returns-else-bytes-lt3 : goal.returns-else-bytes-lt3
returns-else-bytes-lt3 g c =
    let many : ltb (length c.args.bytes.now) 3 ≡ false = search rules in
    called (too_long (said c.args.digits c.args.command.now c.args.format) c.args.bytes.now many)
    (nothing 463 c.args.out.now.items)
