use Rattle.std.proofs.Common.{◌-◌, arith, map}
use Rattle.pmb_keys.specs.CommandView.{bit_parts}
use Rattle.pmb_stats_counts.proofs.Registers.{at_highest, below_highest, no_bits}
use Rattle.pmb_stats_counts.proofs.faults.+has_fault_bit.Goals as goal

pub returns-then-bits-eq0 : goal.returns-then-bits-eq0
returns-then-bits-eq0 t c =
    no_bits (map bit_parts c.args.names.now) c.args.code c.args.value c.args.bits c.if-bits-eq0.true

pub returns-then-is_fault_set : goal.returns-then-is_fault_set
returns-then-is_fault_set t c =
    at_highest (map bit_parts c.args.names.now) c.args.code c.args.value c.args.bits (c.args.bits - 1)
    c.is_fault_set.result (omega arith) c.is_fault_set.ensures c.if-is_fault_set.true

pub returns-else-is_fault_set : goal.returns-else-is_fault_set
returns-else-is_fault_set t c =
    below_highest (map bit_parts c.args.names.now) c.args.code c.args.value c.args.bits (c.args.bits - 1)
    c.is_fault_set.result c.has_fault_bit.result (omega arith) c.is_fault_set.ensures c.if-is_fault_set.false
    c.has_fault_bit.ensures
