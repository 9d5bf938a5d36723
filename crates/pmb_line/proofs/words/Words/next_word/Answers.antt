use Rattle.std.proofs.Common.{◌≡◌, ◌-◌, length, take, drop, arith}
use Rattle.pmb_line.proofs.WordLemmas.{first_word, take_all}
use Rattle.pmb_line.proofs.words.Words.next_word.Goals as goal

pub returns-clause-some : goal.returns-clause-some
returns-clause-some c =
    let w = c.args.self.now in
    let start = c.blanks-start.result in
    let len = c.word_len-len.result in
    let text = take (length w.rest.now - start) (drop start w.rest.now) in
    let whole : text ≡ drop start w.rest.now = take_all start w.rest.now in
    first_word w.at start len w.rest.now text (c.blanks-start.ensures.passed w.at) whole
    (omega arith) c.word_len-len.ensures.within c.word_len-len.ensures.each c.word_len-len.ensures.stops
