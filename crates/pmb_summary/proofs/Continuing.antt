-- A run that wrote nothing, after which a text was written. For `write_table` and `write_objects`. What the
-- reader gave stays what the run read of it; the writer holds the text after what it held before.
use Rattle.std.proofs.Common.{◌≡◌, ◌∙◌, ℕ, Option, Some, None, List, [], ◌++◌, inl, inr, subst, ap, append-nil}
use Rattle.std.specs.Io.KnownBytes.{Appends}
use Rattle.pmb_io.specs.Runs.{Done, Job, Through}
use Rattle.pmb_io.specs.Told.{ReaderTold, WriterTold, told_by}
use Rattle.pmb_io.proofs.Running.{open_weaker}

-- nothing was appended, and then a text
pub appended_alone : (h0 h1 h2 : Option (List ℕ)) (text : List ℕ) → Appends h0 h1 [] → Appends h1 h2 text
    → Appends h0 h2 text
appended_alone None h1 h2 text nothing appended = tt
appended_alone (Some xs) None h2 text nothing appended = absurd nothing
appended_alone (Some xs) (Some ys) None text nothing appended = absurd appended
appended_alone (Some xs) (Some ys) (Some zs) text nothing appended =
    appended ∙ ap (λ (t : List ℕ). t ++ text) (nothing ∙ append-nil xs)

module _ {R W : Type 0} (reader_told : R → ReaderTold) (writer_told : W → WriterTold) (first text : List ℕ)
    (reader reader_new : R) (out mid out_new : W) (appended : Appends (writer_told mid).held (writer_told out_new).held text)
  where
    -- the input was read as far, and the text is written
    through_then : (Old New : List ℕ → List ℕ → Type 0)
        → ((bytes others : List ℕ) → Old bytes others → (others ≡ []) × New bytes text)
        → Through Old first (told_by reader_told writer_told (reader, out))
        (told_by reader_told writer_told (reader_new, mid))
        → Through New first (told_by reader_told writer_told (reader, out))
        (told_by reader_told writer_told (reader_new, out_new))
    through_then Old New then through =
        let after = then (first ++ through.read) through.text through.holds in record {
          read = through.read;
          text = text;
          consumed = through.consumed;
          given = through.given;
          appended = appended_alone (writer_told out).held (writer_told mid).held (writer_told out_new).held text
              (subst (λ (t : List ℕ). Appends (writer_told out).held (writer_told mid).held t) after.0 through.appended)
              appended;
          holds = after.1;
        }

    -- A job that wrote nothing is done, and another one with the text, where that holds of the same bytes.
    pub done_then : {A B : Type 0} (job : Job A) (other : Job B) (answer : A) (answered : B)
        → ((bytes others : List ℕ) → job.Whole answer bytes others → (others ≡ []) × other.Whole answered bytes text)
        → ((bytes others : List ℕ) → job.Stops answer bytes others → (others ≡ []) × other.Stops answered bytes text)
        → ((bytes : List ℕ) → job.IsOpen bytes → other.IsOpen bytes)
        → Done reader_told writer_told job answer first (reader, out) (reader_new, mid)
        → Done reader_told writer_told other answered first (reader, out) (reader_new, out_new)
    unfolding through_then
    done_then job other answer answered whole stops opens (inl ended) = inl (record {
      through = through_then (job.Whole answer) (other.Whole answered) whole ended.through;
      ended = ended.ended;
      at_end = ended.at_end;
    })
    done_then job other answer answered whole stops opens (inr stopped) = inr (record {
      through = through_then (job.Stops answer) (other.Stops answered) stops stopped.through;
      in_time = open_weaker reader_told job.IsOpen other.IsOpen first reader reader_new stopped.through.read opens
          stopped.in_time;
    })
