use Rattle.std.proofs.Common.{arith}
use Rattle.pmb_firmware.proofs.Resumed.{comment_used, resumes_comment}
use Rattle.pmb_firmware.proofs.Somewhere.{comment_somewhere}
use Rattle.pmb_firmware.proofs.lexer.PmbLexer.after_hash.Goals as goal

pub returns-then-self-gt0-clause-stands : goal.returns-then-self-gt0-clause-stands
returns-then-self-gt0-clause-stands c = λ n text events stands.
    resumes_comment c.args.self.now n text events stands c.requires c.lexer_behind.result c.lexer_behind.ensures

pub returns-then-self-gt0-clause-somewhere : goal.returns-then-self-gt0-clause-somewhere
returns-then-self-gt0-clause-somewhere c =
    comment_somewhere c.args.self.now c.requires (omega arith) (omega arith) c.lexer_behind.result

-- no lexer is in a comment before its first byte
pub returns-else-self-gt0-clause-stands : goal.returns-else-self-gt0-clause-stands
returns-else-self-gt0-clause-stands c = λ n text events stands.
    omega (arith, comment_used c.args.self.now n text events stands c.requires)
