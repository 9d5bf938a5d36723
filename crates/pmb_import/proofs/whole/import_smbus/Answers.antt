use Rattle.std.proofs.Common.{◌∙◌, subst}
use Rattle.pmb_recording.specs.Runs.{importing}
use Rattle.pmb_smbus.specs.declared.transfers.Transfers.{Transfers}
use Rattle.pmb_smbus.specs.Transfers as source
use Rattle.pmb_whole_input.specs.Whole.{WritesOrNoMemory}
use Rattle.pmb_import.proofs.whole.import_smbus.Goals as goal

pub follow_smbus-requires : goal.follow_smbus-requires
follow_smbus-requires g c = c.deref_mut-machine.ensures.value ∙ c.in-Some.ensures

-- A source of no bus that follows this one is a source of this bus.
pub returns : goal.returns
returns g c =
    subst (λ (s : Transfers). WritesOrNoMemory g.W.Sink.told (importing source.take_line source.take_end
    (λ s. s.recording) s) c.args.recording.now c.args.writer.now c.whole_lines.new.writer c.whole_lines.result)
    c.follow_smbus.ensures c.whole_lines.ensures
