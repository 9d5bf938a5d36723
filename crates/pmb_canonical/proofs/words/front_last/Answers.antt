use Rattle.pmb_canonical.proofs.FrontWords.{last_there, last_word, other_behind, other_end, other_nack, other_stop}
use Rattle.pmb_canonical.proofs.FrontWords.{short_last}
use Rattle.pmb_canonical.proofs.words.front_last.Goals as goal

pub returns-in_default-clause-only : goal.returns-in_default-clause-only
returns-in_default-clause-only c byte rest small same =
    absurd (short_last c.args.text.now byte rest c.in_default.len_below same)

pub returns-clause-only : goal.returns-clause-only
returns-clause-only c byte rest small same = c.spelled_byte.ensures.only byte small
    (last_word c.args.text.now byte rest same)

pub returns-then-not-are_word-clause-only : goal.returns-then-not-are_word-clause-only
returns-then-not-are_word-clause-only c byte rest small same =
    let word = c.are_word.ensures.1 (
      other_nack c.args.text.now byte rest same,
      other_behind c.args.text.now byte rest same,
    ) in
    absurd (cc (word, c.if-not-are_word.true))

pub returns-then-not-are_word-2-clause-only : goal.returns-then-not-are_word-2-clause-only
returns-then-not-are_word-2-clause-only c byte rest small same =
    let word = c.are_word-2.ensures.1 (
      other_stop c.args.text.now byte rest same,
      other_end c.args.text.now byte rest same,
    ) in
    absurd (cc (word, c.if-not-are_word-2.true))

pub returns-clause-spelled : goal.returns-clause-spelled
returns-clause-spelled c =
    let nack = c.are_word.ensures.0 c.if-not-are_word.false in
    let stop = c.are_word-2.ensures.0 c.if-not-are_word-2.false in
    last_there c.args.text.now c.spelled_byte.result c.in-len7-up.len_at_least c.spelled_byte.ensures.spelled nack.0
    nack.1 stop.0 stop.1
