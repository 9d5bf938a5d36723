use Rattle.std.proofs.Common.{◌≡◌, ◌∙◌, ℕ, ap, length, refl, arith}
use Rattle.std.specs.Prelude.{◌/◌}
use Rattle.pmb_capture_reader.specs.Reader.{reader_ready, reader_tally}
use Rattle.pmb_capture_reader.specs.declared.reader.CaptureReader.{CaptureReader}
use Rattle.pmb_capture_reader.specs.declared.work.Answer.{Answer}
use Rattle.pmb_c.specs.Items.{Moved, NoneReady, record_bytes, result_of_items, result_of_look, result_of_ready}
use Rattle.pmb_c.proofs.items.pmb_reader_next.Goals as goal

-- what is told is of what the reader has ready
told_so : (look : Answer) (reader : CaptureReader) → look.ready ≡ length (reader_ready reader)
    → look.tally ≡ reader_tally reader → result_of_look look ≡ result_of_ready reader
told_so look reader ready tally =
    ap (λ (n : ℕ). result_of_items (n / record_bytes) look.tally) ready
    ∙ ap (result_of_items (length (reader_ready reader) / record_bytes)) tally

-- none is ready,
pub returns-then-answer-lt-RECORD : goal.returns-then-answer-lt-RECORD
returns-then-answer-lt-RECORD c =
    let got = c.in-Some.ensures in
    NoneReady got.0 got.1 got.2 (omega (arith, got.3, c.if-answer-lt-RECORD.true)) refl
    (c.told_of_look.ensures ∙ told_so c.in-Some.answer got.0 got.3 got.4) refl

-- or the oldest was moved
pub returns : goal.returns
returns c =
    let got = c.in-Some.ensures in
    let took = c.take_record.ensures got.0 got.2 (omega (arith, got.3, c.if-answer-lt-RECORD.false)) in
    Moved got.0 took.0 got.1 took.1 took.2 (c.told_of_look.ensures ∙ told_so c.in-Some.answer got.0 got.3 got.4) refl
