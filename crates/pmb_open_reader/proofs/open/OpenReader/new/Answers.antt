use Rattle.std.proofs.Common.{◌≡◌, ◌∙◌, Some, subst}
use Rattle.pmb_capture_reader.specs.Work.{StandsFresh}
use Rattle.pmb_capture_reader.specs.declared.reader.CaptureReader.{CaptureReader}
use Rattle.pmb_capture_reader.specs.declared.reader_ground.ReaderGround.{ReaderGround}
use Rattle.pmb_open_reader.proofs.Looked.{looked}
use Rattle.pmb_open_reader.proofs.open.OpenReader.new.Goals as goal

-- the box was taken apart as it was made
pub returns-in-Some-clause-fresh : goal.returns-in-Some-clause-fresh
returns-in-Some-clause-fresh c =
    let same : c.of.result.value ≡ c.args.base = c.of.ensures ∙ c.in_ok-below.ensures.ok in
    subst (λ (base : ReaderGround). (reader : CaptureReader) × (c.act.new.self.is ≡ Some reader) ×
    StandsFresh base reader)
    same (looked c.tie-open.result.is c.act.new.self.is c.new-work.result c.act.new.work c.of.result.value
    c.in-Some.field-0 c.new-work.ensures.task c.in-Some.is c.act.ensures.acts c.tie-open.ensures.fresh)
