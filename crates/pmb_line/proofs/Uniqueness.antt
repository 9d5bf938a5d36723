-- Words spell one transaction at most. For the laws `one_transaction`, `line_spells` and
-- `packet_has_line`. A reader takes the words of both and stands at one place (Completeness), where
-- it finds one transaction.
use Rattle.std.proofs.Common.{◌≡◌, ℕ, Some, List, sym, ap, ◌∙◌}
use Rattle.pmb_transaction.specs.Transaction.{TransactionData}
use Rattle.pmb_line.specs.Spelling.{SpellsTransaction}
use Rattle.pmb_line.specs.machine.Reading.{nothing, run, finish}
use Rattle.pmb_line.proofs.Completeness.{reached}

pub one_transaction : (ws : List (List ℕ)) (t u : TransactionData) → SpellsTransaction ws t → SpellsTransaction ws u
    → t ≡ u
one_transaction ws t u first second =
    let a = reached t first.has_line in
    let b = reached u second.has_line in
    let there : Some a.at ≡ Some b.at = sym a.ran ∙ ap (run (Some nothing)) (sym first.says ∙ second.says) ∙ b.ran in
    let same : a.at ≡ b.at = cc there in
    let both : Some t ≡ Some u = sym a.finished ∙ ap finish same ∙ b.finished in
    cc both
