-- A run that wrote nothing, to one place, after which a text was written to another. For `write_draft`. What the
-- reader gave stays what the run read of it; the writer holds the text after what it held before.
use Rattle.std.proofs.Common.{ℕ, List, ◌++◌, inl, inr}
use Rattle.std.specs.Io.KnownBytes.{Appends}
use Rattle.pmb_io.specs.Runs.{Done, Job, Through}
use Rattle.pmb_io.specs.Told.{ReaderTold, WriterTold, told_by}
use Rattle.pmb_io.proofs.Running.{open_weaker}

module _ {R N W : Type 0} (reader_told : R → ReaderTold) (other_told : N → WriterTold) (writer_told : W → WriterTold)
    (first text : List ℕ) (reader reader_new : R) (other other_new : N) (out out_new : W)
    (appended : Appends (writer_told out).held (writer_told out_new).held text)
  where
    -- the input was read as far, and the text is written
    unfoldable pub through_then : (Old New : List ℕ → List ℕ → Type 0)
        → ((bytes others : List ℕ) → Old bytes others → New bytes text)
        → Through Old first (told_by reader_told other_told (reader, other))
        (told_by reader_told other_told (reader_new, other_new))
        → Through New first (told_by reader_told writer_told (reader, out))
        (told_by reader_told writer_told (reader_new, out_new))
    through_then Old New then through = record {
      read = through.read;
      text = text;
      consumed = through.consumed;
      given = through.given;
      appended = appended;
      holds = then (first ++ through.read) through.text through.holds;
    }

    -- A job that wrote nothing is done, and another one with the text, where that holds of the same bytes.
    pub done_then : {A B : Type 0} (job : Job A) (next : Job B) (answer : A) (answered : B)
        → ((bytes others : List ℕ) → job.Whole answer bytes others → next.Whole answered bytes text)
        → ((bytes others : List ℕ) → job.Stops answer bytes others → next.Stops answered bytes text)
        → ((bytes : List ℕ) → job.IsOpen bytes → next.IsOpen bytes)
        → Done reader_told other_told job answer first (reader, other) (reader_new, other_new)
        → Done reader_told writer_told next answered first (reader, out) (reader_new, out_new)
    unfolding through_then
    done_then job next answer answered whole stops opens (inl ended) = inl (record {
      through = through_then (job.Whole answer) (next.Whole answered) whole ended.through;
      ended = ended.ended;
      at_end = ended.at_end;
    })
    done_then job next answer answered whole stops opens (inr stopped) = inr (record {
      through = through_then (job.Stops answer) (next.Stops answered) stops stopped.through;
      in_time = open_weaker reader_told job.IsOpen next.IsOpen first reader reader_new stopped.through.read opens
          stopped.in_time;
    })
