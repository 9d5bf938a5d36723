use Rattle.std.proofs.Common.{◌∙◌, ◌++◌, [], ◌∷◌, List, ℕ, ap, codes, refl}
use Rattle.pmb_json_text.specs.declared.item_order.ItemOrder.TheVariants.{First, Later}
use Rattle.pmb_json_text.specs.Json.{string}
use Rattle.pmb_json_text.specs.Member.{digits, named}
use Rattle.pmb_stats_objects.specs.Pages.{phase_member}
use Rattle.pmb_stats_objects.proofs.Pieces.{braced, in_order, said, then}
use Rattle.pmb_stats_objects.proofs.command.begin_item.Goals as goal

pub returns-clause-begun : goal.returns-clause-begun
returns-clause-begun g c =
    let code = named (codes "code") (digits (c.args.entry.now.code ∷ [])) ∷ [] in
    let command = named (codes "command") (string c.args.entry.now.name.bytes) ∷ [] in
    let phase = phase_member c.args.phase in
    let name = said Later _ (ap (λ (t : List ℕ). named (codes "command") (string t) ∷ [])
    (c.as_bytes.ensures.value ∙ c.deref.ensures.0)) c.text_member.ensures.member in
    braced c.args.place (code ++ (command ++ phase)) c.args.out.now.items c.append_comma.ensures.text
    c.begin.ensures.begun
    (in_order First Later code (command ++ phase) _ refl c.hex_member.ensures.member
    (then command phase _ name c.append_phase.ensures.member))
