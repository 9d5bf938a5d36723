use Rattle.std.proofs.Common.{sym, ◌∙◌}
use Rattle.pmb_line.specs.Left.{end, text_word}
use Rattle.pmb_request.proofs.Standing.{byte_on, byte_unfit}
use Rattle.pmb_request.proofs.command_words.take_byte.Goals as goal

pub returns-in-Some-byte_of-clause-takes : goal.returns-in-Some-byte_of-clause-takes
returns-in-Some-byte_of-clause-takes c all s next wants stands =
    byte_on all s next c.in-Some-byte_of.byte (text_word c.in-Some.word) _ _ wants stands c.in-Some.ensures.some
    (sym c.byte_of.ensures ∙ c.in-Some-byte_of.is)

pub returns-in-None-clause-takes : goal.returns-in-None-clause-takes
returns-in-None-clause-takes c all s next wants stands =
    byte_unfit all (end c.args.words.now) s next (text_word c.in-Some.word) _ _ wants stands c.in-Some.ensures.some
    (sym c.byte_of.ensures ∙ c.in-None.is)
