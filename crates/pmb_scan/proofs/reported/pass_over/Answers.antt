use Rattle.pmb_reader.specs.Reader.{Held, Passing}
use Rattle.pmb_scan.proofs.Reporting.{passed}
use Rattle.pmb_scan.proofs.reported.pass_over.Goals as goal

pub returns : goal.returns
returns c profile n refusal stands =
    passed profile n c.args.event c.take.result c.take.new.self
    (c.take.ensures profile (Passing n) (c.resync.ensures.resumes profile (Held n refusal) stands))
