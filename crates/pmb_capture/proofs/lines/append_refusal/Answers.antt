-- The line is made of seven pieces.
use Rattle.std.proofs.Common.{decimal, codes, ap, ◌∙◌, ◌++◌}
use Rattle.pmb_transaction.specs.Names.{reason_name}
use Rattle.pmb_capture.proofs.Texts.{behind_seven}
use Rattle.pmb_capture.proofs.lines.append_refusal.Goals as goal

pub returns : goal.returns
returns c =
    let placed = c.append_slice.ensures ∙ ap (λ t. c.append.new.line.items ++ t)
    (c.as_bytes.ensures.value ∙ c.format.ensures.text) in
    let named = c.append_slice-2.ensures ∙ ap (λ t. c.append-2.new.line.items ++ t) c.name.ensures.name in
    behind_seven (codes "# refusal at ") (decimal c.args.refusal.at) (codes ": ") (reason_name c.args.refusal.reason)
    (codes ", expected ") _ (codes "\n") _ _ _ _ _ _ _ _
    c.append.ensures placed c.append-2.ensures named c.append-3.ensures c.append_kinds.ensures.names c.append-4.ensures
