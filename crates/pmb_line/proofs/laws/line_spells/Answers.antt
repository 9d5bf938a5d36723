use Rattle.pmb_line.specs.Words.{texts, line_words}
use Rattle.pmb_line.specs.Spelling.{line}
use Rattle.pmb_line.proofs.Lines.{line_spells}
use Rattle.pmb_line.proofs.Uniqueness.{one_transaction}
use Rattle.pmb_line.proofs.laws.line_spells.Goals as goal

pub returns-clause-spells : goal.returns-clause-spells
returns-clause-spells c = line_spells

pub returns-clause-alone : goal.returns-clause-alone
returns-clause-alone c t u has_line has_bytes other = one_transaction (texts (line_words (line t))) t u
    (line_spells t has_line has_bytes) other
