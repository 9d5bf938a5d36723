use Rattle.std.proofs.Common.{refl}
use Rattle.pmb_c.specs.Recorder.{Imports, Refuses}
use Rattle.pmb_recorder.specs.Recorded.{recorded_of}
use Rattle.pmb_c.proofs.recording.imported.Goals as goal

-- what it names is imported
pub returns-in-Ok : goal.returns-in-Ok
returns-in-Ok c =
    Imports (recorded_of c.in-Ok.recorder) c.put_import.result c.in-Ok.ensures c.put_import.ensures c.of.ensures

-- it is refused, for the first reason
pub returns-in-Err : goal.returns-in-Err
returns-in-Err c = Refuses c.in-Err.why c.in-Err.ensures (record { room = refl; tells = c.of_status.ensures })
