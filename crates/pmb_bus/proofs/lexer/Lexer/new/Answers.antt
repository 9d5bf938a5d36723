use Rattle.std.proofs.Common.{[], refl}
use Rattle.pmb_bus.proofs.lexer.Lexer.new.Goals as goal

pub returns : goal.returns
returns c = record { ended = refl; begins = ([], [], refl); counted = refl; place = (refl, refl) }
