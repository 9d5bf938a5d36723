use Rattle.pmb_canonical.proofs.FrontWords.{acked_there, acked_word, other_ack, other_space, short_acked}
use Rattle.pmb_canonical.proofs.words.front_acked.Goals as goal

pub returns-in_default-clause-only : goal.returns-in_default-clause-only
returns-in_default-clause-only c byte rest small same =
    absurd (short_acked c.args.text.now byte rest c.in_default.len_below same)

pub returns-then-not-are_word-clause-only : goal.returns-then-not-are_word-clause-only
returns-then-not-are_word-clause-only c byte rest small same =
    let word = c.are_word.ensures.1 (
      other_ack c.args.text.now byte rest same,
      other_space c.args.text.now byte rest same,
    ) in
    absurd (cc (word, c.if-not-are_word.true))

pub returns-clause-spelled : goal.returns-clause-spelled
returns-clause-spelled c =
    let word = c.are_word.ensures.0 c.if-not-are_word.false in
    acked_there c.args.text.now c.spelled_byte.result c.in-len5-up.len_at_least c.spelled_byte.ensures.spelled word.0
    word.1

pub returns-clause-only : goal.returns-clause-only
returns-clause-only c byte rest small same = c.spelled_byte.ensures.only byte small
    (acked_word c.args.text.now byte rest same)
