use Rattle.std.proofs.Common.{◌∙◌, ◌++◌, List, ℕ, ap}
use Rattle.pmb_transaction.specs.Transaction.{transaction_data}
use Rattle.pmb_note.proofs.Notes.{note_is}
use Rattle.pmb_note.proofs.context.Context.append_note.Goals as goal

pub returns-clause-note : goal.returns-clause-note
returns-clause-note g c = λ profile ts seen.
    c.append_text.ensures.items ∙ ap (λ (text : List ℕ). c.args.out.now.items ++ text)
    (note_is c.args.self.now profile ts seen (transaction_data c.args.transaction.now))
