use Rattle.std.proofs.Common.{◌∙◌, sym}
use Rattle.pmb_firmware.proofs.Resumed.{resumes_two}
use Rattle.pmb_firmware.proofs.Somewhere.{two_somewhere}
use Rattle.pmb_firmware.proofs.lexer.PmbLexer.after_two.Goals as goal

pub returns-then-is_of_word-2-clause-stands : goal.returns-then-is_of_word-2-clause-stands
returns-then-is_of_word-2-clause-stands c = λ n text events stands.
    resumes_two c.args.self.now n text events stands c.requires c.lexer_behind.result c.lexer_behind.ensures

pub returns-then-is_of_word-2-clause-somewhere : goal.returns-then-is_of_word-2-clause-somewhere
returns-then-is_of_word-2-clause-somewhere c =
    two_somewhere c.args.self.now c.requires c.has_begun.ensures.fits
    (c.has_begun.ensures.begun.0 c.if-has_begun.true) (sym c.is_of_word.ensures ∙ c.if-is_of_word.true)
    (sym c.is_of_word-then-is_of_word.ensures ∙ c.if-is_of_word-2.true)
    c.lexer_behind.result c.lexer_behind.ensures
