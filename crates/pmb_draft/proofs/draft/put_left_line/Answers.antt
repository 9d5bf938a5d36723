use Rattle.std.proofs.Common.{◌≡◌, ◌++◌, ℕ, List, OnOk, subst}
use Rattle.pmb_draft.specs.Left.{left_line}
use Rattle.pmb_draft.proofs.Lines.{three_appended}
use Rattle.pmb_draft.proofs.draft.put_left_line.Goals as goal

pub returns : goal.returns
unfolding left_line
returns c =
    let reason = subst (λ (why : List ℕ). OnOk c.put-2.result (c.put-2.new.self.bytes.items
    ≡ c.put_byte.new.self.bytes.items ++ why)) c.left_reason.ensures c.put-2.ensures in
    three_appended _ _ _ _ _ _ _ c.put-2.result c.in_ok-put.ensures c.in_ok-put_byte.ensures reason
