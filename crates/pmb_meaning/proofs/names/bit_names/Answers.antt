use Rattle.std.proofs.Common.{◌*◌, ◌≤◌, ◌++◌, ◌∙◌, Bor, List, ℕ, ap, map, subst, sym}
use Rattle.pmb_command.specs.Parts.{NamedBit}
use Rattle.pmb_keys.specs.CommandView.{bit_parts}
use Rattle.pmb_meaning.specs.Field.{texts}
use Rattle.pmb_meaning.specs.Names.{set_names}
use Rattle.pmb_meaning.specs.machine.Room.{words_room}
use Rattle.pmb_meaning.proofs.ValueLemmas.{mask_names_have_room}
use Rattle.pmb_meaning.proofs.names.bit_names.Goals as goal

pub returns-clause-short : goal.returns-clause-short
returns-clause-short c =
    let named = map bit_parts c.bits.result.now in
    subst (λ (names : List (List ℕ)). words_room names ≤ 8 * 195)
    (sym (c.push_names.ensures
    ∙ ap (λ (items : List (Bor (List ℕ))). texts items ++ set_names named c.args.register c.args.mask 8)
    c.new-names.ensures
    ∙ ap (λ (bits : List NamedBit). set_names bits c.args.register c.args.mask 8) c.bits.ensures.bits))
    (mask_names_have_room c.args.device.now c.accepted_device.ensures c.args.register c.args.mask)
