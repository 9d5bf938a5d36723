use Rattle.std.proofs.Common.{◌≡◌, subst, ◌++◌, sym, ap, ◌∙◌}
use Rattle.std.specs.Str.{IsUtf8}
use Rattle.pmb_transaction.specs.Transaction.{PartData, part_data}
use Rattle.pmb_transaction.specs.Transaction as says
use Rattle.pmb_line.specs.Spelling.{line}
use Rattle.pmb_line.proofs.Writings.{line_is_text, ok_from_text}
use Rattle.pmb_line.proofs.line_text.line_of.Goals as goal

pub unwrap-text-requires : goal.unwrap-text-requires
unwrap-text-requires c =
    let t = says.transaction_data c.args.transaction.now in
    let written : c.as_slice.result.now ≡ line t = c.as_slice.ensures.value ∙ c.append_line.ensures.line
    ∙ ap (λ xs. xs ++ line t) c.new-bytes.ensures in
    ok_from_text c.from_utf8.result c.as_slice.result.now _ _ c.from_utf8.ensures.cases
    (subst IsUtf8 (sym written) (line_is_text t))
