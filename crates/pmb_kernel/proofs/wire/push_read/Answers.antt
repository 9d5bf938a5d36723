use Rattle.pmb_kernel.proofs.WireLemmas.{pushed}
use Rattle.pmb_kernel.proofs.wire.push_read.Goals as goal

pub returns-in-len1-up : goal.returns-in-len1-up
returns-in-len1-up c =
    pushed c.args.wire.now.items c.push_written.new.wire.items c.push.new.self.items c.args.bytes.now
    c.in-len1-up.len_at_least c.push_written.ensures c.push.ensures.items
