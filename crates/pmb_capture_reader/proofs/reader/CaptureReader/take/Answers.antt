use Rattle.std.proofs.Common.{◌≡◌, ◌++◌, take, arith}
use Rattle.std.proofs.lemmas.Grind.{common_steps}
use Rattle.pmb_capture_reader.specs.Reader.{reader_ready}
use Rattle.pmb_capture_reader.proofs.Reading.{takes_some}
use Rattle.pmb_capture_reader.proofs.reader.CaptureReader.take.Goals as goal

pub returns-clause-stands : goal.returns-clause-stands
returns-clause-stands c choice profile after given taken stands =
    let moved : reader_ready c.args.self.now ≡ take c.take.result c.take.new.room ++ c.take.new.self.left =
    grind (arith, common_steps) in
    takes_some choice profile after given taken c.args.self.now (take c.take.result c.take.new.room) c.take.new.self
    moved stands
