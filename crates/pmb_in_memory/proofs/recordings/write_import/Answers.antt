use Rattle.std.proofs.Common.{Result, subst, sym}
use Rattle.pmb_io.specs.declared.tally.Tally.{Tally}
use Rattle.pmb_import.specs.Importing.{importing_of}
use Rattle.pmb_recorder.specs.Recorded.{recorded_of}
use Rattle.pmb_in_memory.specs.Whole.{WorksUnder}
use Rattle.pmb_in_memory.specs.declared.fault.WholeFault.{WholeFault}
use Rattle.pmb_in_memory.proofs.Works.{works}
use Rattle.pmb_in_memory.proofs.recordings.write_import.Goals as goal

-- How it ended is told as that of a work.
pub returns : goal.returns
returns g c =
    subst (λ (r : Result Tally WholeFault). WorksUnder g.W.Sink.told (importing_of (recorded_of c.args.recorder))
    c.args.recording.now c.args.out.now c.import_whole.new.writer r) (sym c.ended.ensures)
    (works g.W.Sink.told (importing_of (recorded_of c.args.recorder)) c.args.recording.now c.args.out.now
    c.import_whole.new.writer c.import_whole.result c.import_whole.ensures)
