use Rattle.std.proofs.Common.{◌++◌}
use Rattle.pmb_capture_reader.specs.Fresh.{fresh_bytes}
use Rattle.pmb_capture_reader.specs.Reader.{reader_ready}
use Rattle.pmb_capture_reader.proofs.Reading.{end_tells, gathers_no_more, told_before}
use Rattle.pmb_capture_reader.proofs.reader.CaptureReader.end_more.Goals as goal

pub returns-clause-ends : goal.returns-clause-ends
returns-clause-ends c = gathers_no_more c.tell_end-made.result c.gather-self.result (reader_ready c.args.self.now)
    c.gather-self.new.queue.left (fresh_bytes c.tell_end-made.new.fresh) c.gather-self.ensures.gathers c.tell_end-made.ensures.never

pub returns-clause-stands : goal.returns-clause-stands
returns-clause-stands c choice profile after given taken stands =
    let old = c.args.self.now in
    let ready = reader_ready old in
    let never = c.tell_end-made.ensures.never in record {
      tells = end_tells choice profile after c.tell_end-made.new.teller taken ready
          (fresh_bytes c.tell_end-made.new.fresh) c.gather-self.new.queue.left given c.tell_end-made.result c.gather-self.result
          c.gather-self.ensures.gathers never
          (c.tell_end-made.ensures.told choice profile after given (taken ++ ready) (stands.teller c.requires))
          (told_before choice profile after given taken old c.requires stands);
      teller = λ more. absurd (gathers_no_more c.tell_end-made.result c.gather-self.result ready
          c.gather-self.new.queue.left (fresh_bytes c.tell_end-made.new.fresh) c.gather-self.ensures.gathers never more);
    }
