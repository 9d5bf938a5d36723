use Rattle.std.proofs.Common.{◌∙◌, None, ap, subst}
use Rattle.pmb_recording.specs.Runs.{importing}
use Rattle.pmb_recording.specs.declared.recording.Recording.{Recording}
use Rattle.pmb_kernel.specs.declared.transfers.Transfers.{Transfers}
use Rattle.pmb_kernel.specs.declared.kernel.Kernel.{Kernel}
use Rattle.pmb_kernel.specs.Transfers as source
use Rattle.pmb_whole_input.specs.Whole.{WritesOrNoMemory}
use Rattle.pmb_import.proofs.whole.import_kernel.Goals as goal

pub follow-requires : goal.follow-requires
follow-requires g c = ap (λ (s : Transfers). s.recording)
    (ap (λ (k : Kernel). k.transfers) c.deref_mut-machine.ensures.value ∙ c.in-Some.ensures)

-- A source of no bus that follows this one is a source of this bus.
pub returns : goal.returns
returns g c =
    subst (λ (s : Transfers). WritesOrNoMemory g.W.Sink.told (importing source.take_line source.take_end (λ s. s.recording) s)
    c.args.recording.now c.args.writer.now c.whole_lines.new.writer c.whole_lines.result)
    (ap (λ (s : Transfers). record s { recording = c.follow.new.recording })
    (ap (λ (k : Kernel). k.transfers) c.deref_mut-machine.ensures.value ∙ c.in-Some.ensures)
    ∙ ap (λ (r : Recording). record (source.start None) { recording = r }) c.follow.ensures)
    c.whole_lines.ensures
