-- Only two bytes are a word.
use Rattle.std.proofs.Common.{◌≡◌, ℕ, ◌+◌, ◌*◌, List, true, false, ltb, get_or, length, rules, arith}
use Rattle.pmb_json_text.specs.Member.{Member}
use Rattle.pmb_voltage.specs.Voltage.{voltages_data}
use Rattle.pmb_keys.specs.CommandView.{command_parts}
use Rattle.pmb_json_fields.specs.Value.{vout_members}
use Rattle.pmb_json_fields.proofs.Pieces.{called, nothing, too_long, too_short, two_bytes}
use Rattle.pmb_json_fields.proofs.voltage.append_voltage.Goals as goal

pub returns-then-bytes-lt2 : goal.returns-then-bytes-lt2
returns-then-bytes-lt2 g c =
    let few : ltb (length c.args.bytes.now) 2 ≡ true = search rules in
    let members : ℕ → List Member =
    vout_members c.args.digits (voltages_data c.args.voltages.now) c.args.basis (command_parts c.args.command.now)
    c.args.sign in
    called (too_short members c.args.bytes.now few) (nothing 528 c.args.out.now.items)

pub returns-in-len2 : goal.returns-in-len2
returns-in-len2 g c =
    let word : c.from_le_bytes.result ≡ get_or c.args.bytes.now 0 0 + 256 * get_or c.args.bytes.now 1 0 =
    omega (arith, c.from_le_bytes.ensures) in
    let members : ℕ → List Member =
    vout_members c.args.digits (voltages_data c.args.voltages.now) c.args.basis (command_parts c.args.command.now)
    c.args.sign in
    called (two_bytes members c.from_le_bytes.result c.args.bytes.now
    (omega (arith, c.in-len2.len_at_least, c.in-len2.len_below)) word) c.append_word.ensures

pub returns-else-bytes-lt3 : goal.returns-else-bytes-lt3
returns-else-bytes-lt3 g c =
    let many : ltb (length c.args.bytes.now) 3 ≡ false = search rules in
    let members : ℕ → List Member =
    vout_members c.args.digits (voltages_data c.args.voltages.now) c.args.basis (command_parts c.args.command.now)
    c.args.sign in
    called (too_long members c.args.bytes.now many) (nothing 528 c.args.out.now.items)
