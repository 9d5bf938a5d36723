use Rattle.std.proofs.Common.{arith}
use Rattle.pmb_line.proofs.TwoDigits.{pushed}
use Rattle.pmb_line.proofs.byte_text.append_byte.Goals as goal

pub returns-clause-text : goal.returns-clause-text
returns-clause-text g c =
    pushed c.args.out.now.items c.push.new.self.items c.push-2.new.self.items c.push-3.new.self.items c.args.byte
    c.from-place.result (omega arith) c.from-place.ensures
    c.push.ensures.items c.push-2.ensures.items c.push-3.ensures.items
