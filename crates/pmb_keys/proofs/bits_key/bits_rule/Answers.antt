use Rattle.std.proofs.Common.{◌∙◌, [], ap, sym}
use Rattle.toml.specs.View.{table_view, view}
use Rattle.pmb_command.specs.Entry.{entry_parts}
use Rattle.pmb_keys.specs.FurtherKeys.{bits_from}
use Rattle.pmb_keys.proofs.NamedBits.{bits_of_keys, refused_key}
use Rattle.pmb_keys.proofs.bits_key.bits_rule.Goals as goal

-- the fault of a key that is no bit
pub returns-then-not-has_only : goal.returns-then-not-has_only
returns-then-not-has_only c =
    refused_key (entry_parts c.args.entry.now) (view c.args.value.now) (table_view c.in_ok-table.table.now) _
    c.in_ok-table.ensures (sym c.is_status.ensures ∙ c.if-not-is_status.false) c.bit_keys-keys.ensures.keys
    (sym c.has_only.ensures ∙ c.if-not-has_only.true)

pub returns : goal.returns
returns c =
    let ms = table_view c.in_ok-table.table.now in
    c.bits_of_keys.ensures ∙ ap (λ keys. bits_from 0 keys [] ms) c.bit_keys-keys.ensures.keys
    ∙ bits_of_keys (entry_parts c.args.entry.now) (view c.args.value.now) ms _ c.in_ok-table.ensures
    (sym c.is_status.ensures ∙ c.if-not-is_status.false) c.bit_keys-keys.ensures.keys
    (sym c.has_only.ensures ∙ c.if-not-has_only.false)
