use Rattle.std.proofs.Common.{◌≡◌, ◌++◌, ℕ, OnOk, Option, subst, sym}
use Rattle.pmb_draft.specs.Left.{bad_line}
use Rattle.pmb_draft.proofs.Lines.{three_appended}
use Rattle.pmb_draft.proofs.draft.put_bad_line.Goals as goal

pub returns : goal.returns
unfolding bad_line
returns c =
    subst (λ (bad : Option ℕ). OnOk c.put-2.result (c.put-2.new.self.bytes.items
    ≡ c.args.text.now.bytes.items ++ bad_line bad)) (sym c.in-Some.is)
    (three_appended _ _ _ _ _ _ _ c.put-2.result c.in_ok-put.ensures c.in_ok-put_number.ensures c.put-2.ensures)
