use Rattle.std.proofs.Common.{◌∙◌, ◌++◌, List, ℕ, ap, map, sym, arith}
use Rattle.std.specs.List.{flat_map}
use Rattle.pmb_transaction.specs.declared.part.Part.{Part}
use Rattle.pmb_transaction.specs.declared.transaction.Transaction.{Transaction}
use Rattle.pmb_transaction.specs.Transaction.{part_data, transaction_data}
use Rattle.pmb_note.specs.Note.{part_text_before, refused_text, text_under}
use Rattle.pmb_note.specs.machine.Standing.{mode_in}
use Rattle.pmb_note.proofs.Texts.{at_most, called, then}
use Rattle.pmb_note.proofs.context.Context.append_text.Goals as goal

pub returns-in-Refused : goal.returns-in-Refused
returns-in-Refused g c =
    let profile = c.args.self.now.profile.now in
    let modes = mode_in c.args.self.now in
    let parts_are = ap (λ (ps : List Part). flat_map (part_text_before profile modes) (map part_data ps)
    ++ c.refused_text.result.now) c.as_slice-in-Refused.ensures.value in
    let end_is = ap (λ (text : List ℕ). flat_map (part_text_before profile modes)
    (map part_data c.in-Refused.parts.items) ++ text)
    (c.refused_text.ensures.text ∙ ap (λ (sent : List ℕ). refused_text sent c.in-Refused.at_read)
    c.as_slice-in-Refused-2.ensures.value) in
    let said = ap (λ (t : Transaction). text_under profile modes (transaction_data t)) (sym c.in-Refused.is) in
    called (parts_are ∙ end_is ∙ said) (at_most 8192
    (omega (arith, c.as_slice-in-Refused.ensures.fits, c.refused_text.ensures.few))
    (then c.append_parts_before.ensures c.append.ensures))
