use Rattle.std.proofs.Common.{◌∙◌, arith, sym}
use Rattle.pmb_vcd.proofs.WordLemmas.{first_is, fits, no_bytes, none_is, some_bytes}
use Rattle.pmb_vcd.proofs.words.first_word.Goals as goal

pub returns-then-is_empty-clause-none : goal.returns-then-is_empty-clause-none
returns-then-is_empty-clause-none c =
    none_is c.args.text.now c.from_word-from.result.now c.from_word-from.ensures
    (no_bytes c.from_word-from.result.now (sym c.is_empty.ensures ∙ c.if-is_empty.true))

pub split_at-requires : goal.split_at-requires
split_at-requires c = omega (arith, fits c.from_word-from.result.now)

pub returns-clause-some : goal.returns-clause-some
returns-clause-some c =
    first_is c.args.text.now c.from_word-from.result.now c.split_at.result.0.now c.split_at.result.1.now
    c.word_length.result c.from_word-from.ensures
    (some_bytes c.from_word-from.result.now (sym c.is_empty.ensures ∙ c.if-is_empty.false)) c.word_length.ensures
    c.split_at.ensures.front c.split_at.ensures.back
