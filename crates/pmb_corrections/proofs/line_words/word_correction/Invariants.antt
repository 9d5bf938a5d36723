use Rattle.std.proofs.Common.{length}
use Rattle.pmb_line.specs.Left.{words_left}
use Rattle.pmb_corrections.proofs.line_words.word_correction.Given as goal

abbrev pub decreases-loop-word : goal.decreases-loop-word
decreases-loop-word l = length (words_left l.words)
