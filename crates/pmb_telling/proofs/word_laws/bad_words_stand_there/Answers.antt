use Rattle.std.proofs.Common.{◌++◌}
use Rattle.pmb_telling.proofs.Behind.{between_behind, ends_with_word}
use Rattle.pmb_telling.proofs.word_laws.bad_words_stand_there.Goals as goal

pub returns-clause-opened : goal.returns-clause-opened
returns-clause-opened c read front word first second solid =
    let go_on = c.open_words_go_on.ensures in
    c.open_words_stand_there.ensures.opened (read ++ front) word
    (between_behind go_on.longer go_on.comment go_on.separator read front first second) solid

pub returns-clause-placed : goal.returns-clause-placed
returns-clause-placed c read front word first second solid some =
    let go_on = c.open_words_go_on.ensures in
    let there = c.open_words_stand_there.ensures in
    there.place (read ++ front) word some (there.opened (read ++ front) word
    (between_behind go_on.longer go_on.comment go_on.separator read front first second) solid)

pub returns-clause-begun : goal.returns-clause-begun
returns-clause-begun c text = ends_with_word text
    (λ some. let found = c.open_words_stand_there.ensures.found text some in (found.0, found.1))

pub returns-clause-under_way : goal.returns-clause-under_way
returns-clause-under_way c = c.open_words_stand_in_front.ensures.last
