-- Only one byte or two are a register.
use Rattle.std.proofs.Common.{◌≡◌, ◌+◌, ◌*◌, true, false, ltb, get_or, length, rules, arith}
use Rattle.pmb_keys.specs.CommandView.{command_parts}
use Rattle.pmb_json_fields.proofs.Registers.{no_byte, too_many, two_bytes}
use Rattle.pmb_json_fields.proofs.Pieces.{called, nothing}
use Rattle.pmb_json_fields.proofs.bits.append_status.Goals as goal

pub returns-then-bytes-lt1 : goal.returns-then-bytes-lt1
returns-then-bytes-lt1 g c =
    let few : ltb (length c.args.bytes.now) 1 ≡ true = search rules in
    called (no_byte c.args.access (command_parts c.args.command.now) c.args.bytes.now few)
    (nothing 3142 c.args.out.now.items)

pub returns-in-len2 : goal.returns-in-len2
returns-in-len2 g c =
    let word : c.from_le_bytes.result ≡ get_or c.args.bytes.now 0 0 + 256 * get_or c.args.bytes.now 1 0 =
    omega (arith, c.from_le_bytes.ensures) in
    called (two_bytes c.args.access (command_parts c.args.command.now) c.from_le_bytes.result c.args.bytes.now
    (omega (arith, c.in-len2.len_at_least, c.in-len2.len_below)) word) c.append_register-in-len2.ensures

pub returns-else-bytes-lt3 : goal.returns-else-bytes-lt3
returns-else-bytes-lt3 g c =
    let many : ltb (length c.args.bytes.now) 3 ≡ false = search rules in
    called (too_many c.args.access (command_parts c.args.command.now) c.args.bytes.now many)
    (nothing 3142 c.args.out.now.items)
