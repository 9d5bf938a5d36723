use Rattle.std.proofs.Common.{◌≡◌, ◌++◌, ◌∙◌, List, ℕ, ap, subst, sym}
use Rattle.std.specs.Str.{IsUtf8}
use Rattle.pmb_transaction.specs.Transaction.{transaction_data}
use Rattle.pmb_note.specs.Note.{text_under}
use Rattle.pmb_note.specs.machine.Standing.{mode_in}
use Rattle.pmb_note.proofs.Notes.{ok_from_text}
use Rattle.pmb_note.proofs.context.Context.note.Goals as goal

pub unwrap-text-requires : goal.unwrap-text-requires
unwrap-text-requires c =
    let text = text_under c.args.self.now.profile.now (mode_in c.args.self.now)
    (transaction_data c.args.transaction.now) in
    let written : c.as_slice.result.now ≡ text = c.as_slice.ensures.value ∙ c.append_text.ensures.items
    ∙ ap (λ (xs : List ℕ). xs ++ text) c.new-bytes.ensures in
    ok_from_text c.from_utf8.result c.as_slice.result.now _ _ c.from_utf8.ensures.cases
    (subst IsUtf8 (sym written) c.append_text.ensures.utf8)
