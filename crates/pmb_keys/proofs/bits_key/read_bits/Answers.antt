use Rattle.std.proofs.Common.{map}
use Rattle.toml.specs.View.{view}
use Rattle.pmb_command.specs.Entry.{entry_parts}
use Rattle.pmb_keys.specs.CommandView.{bit_parts}
use Rattle.pmb_keys.proofs.NamedBits.{named_bits, no_bits}
use Rattle.pmb_keys.proofs.bits_key.read_bits.Goals as goal

pub returns-in-Some-clause-fits : goal.returns-in-Some-clause-fits
returns-in-Some-clause-fits c =
    named_bits (entry_parts c.args.entry.now) (view c.in-Some.value.now) c.bits_rule.result
    (λ bits. map bit_parts bits.items) c.bits_rule.ensures

pub returns-in-None-clause-fits : goal.returns-in-None-clause-fits
returns-in-None-clause-fits c = rw c.new.ensures (no_bits (entry_parts c.args.entry.now))
