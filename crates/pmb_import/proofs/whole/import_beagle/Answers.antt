use Rattle.std.proofs.Common.{◌∙◌, subst}
use Rattle.pmb_recording.specs.Runs.{importing}
use Rattle.pmb_beagle.specs.declared.beagle.Beagle.{Beagle}
use Rattle.pmb_beagle.specs.Packets as source
use Rattle.pmb_whole_input.specs.Whole.{WritesOrNoMemory}
use Rattle.pmb_import.proofs.whole.import_beagle.Goals as goal

pub returns : goal.returns
returns g c =
    subst (λ (s : Beagle). WritesOrNoMemory g.W.Sink.told (importing source.take_line source.take_end
    (λ s. s.recording) s) c.args.recording.now c.args.writer.now c.whole_lines.new.writer c.whole_lines.result)
    (c.deref_mut-machine.ensures.value ∙ c.in-Some.ensures) c.whole_lines.ensures
