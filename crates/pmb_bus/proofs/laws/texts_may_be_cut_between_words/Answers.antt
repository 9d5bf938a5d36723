use Rattle.pmb_bus.proofs.Joins.{bad, lines, spelled}
use Rattle.pmb_bus.proofs.laws.texts_may_be_cut_between_words.Goals as goal

pub returns-clause-spelled : goal.returns-clause-spelled
returns-clause-spelled c = λ front back events more between first second. spelled front back events more between first
    second

pub returns-clause-bad : goal.returns-clause-bad
returns-clause-bad c = λ front back events more place between first word. bad front back events more place between first
    word

pub returns-clause-lines : goal.returns-clause-lines
returns-clause-lines c = λ text. lines text
