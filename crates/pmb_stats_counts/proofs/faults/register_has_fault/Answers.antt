use Rattle.std.proofs.Common.{◌≡◌, ◌+◌, ◌*◌, ◌∙◌, arith, get_or, map}
use Rattle.pmb_keys.specs.CommandView.{bit_parts}
use Rattle.pmb_stats_counts.proofs.Registers.{two_bytes}
use Rattle.pmb_stats_counts.proofs.faults.register_has_fault.Goals as goal

pub returns-in-len2 : goal.returns-in-len2
returns-in-len2 c =
    let word : c.from_le_bytes.result ≡ get_or c.args.bytes.now 0 0 + 256 * get_or c.args.bytes.now 1 0 =
    omega (arith, c.from_le_bytes.ensures) in
    c.has_fault_bit-in-len2.ensures
    ∙ two_bytes (map bit_parts c.args.names.now) c.args.code c.from_le_bytes.result c.args.bytes.now
    (omega (arith, c.in-len2.len_at_least, c.in-len2.len_below)) word
