-- What each task's text is, by its own definition: for an input that was read to its end, and where no
-- more of it was wanted, whatever follows. For the law `the_library_puts_what_the_program_writes`.
use Rattle.std.proofs.Common.{ℕ, List, ◌++◌, inl, inr}
use Rattle.pmb_build.specs.Lines.{BuildsInput, building}
use Rattle.pmb_capture.specs.Check.{Checks, checking}
use Rattle.pmb_capture.specs.Show.{Shows, showing}
use Rattle.pmb_command.specs.Parts.{DeviceParts}
use Rattle.pmb_fact_stream.specs.Choice.{ChoiceData}
use Rattle.pmb_io.specs.Runs.{Job}
use Rattle.pmb_io.specs.declared.tally.Tally.{Tally}
use Rattle.pmb_run.specs.Lines.{RunsInput, running}
use Rattle.pmb_scan.specs.declared.after_bad_token.AfterBadToken.{AfterBadToken}
use Rattle.pmb_telling.specs.Tell.{telling_job}
use Rattle.pmb_telling.specs.Text.{WritesTold}
use Rattle.pmb_whole_input.specs.Whole.{IsText}

-- A job's text for an input, of which the bytes before `more` may be all that was wanted, is this one.
pub record Means (job : Job Tally) (T : List ℕ → List ℕ → Tally → Type 0) : Type 0 where
  pub whole : (tally : Tally) (input text : List ℕ) → job.Whole tally input text → T input text tally
  pub stops : (tally : Tally) (input text more : List ℕ) → job.Stops tally input text → T (input ++ more) text tally
  pub either : (tally : Tally) (input text : List ℕ) → IsText job tally input text → T input text tally

module _ (devices : List DeviceParts) where
  pub shown : Means (showing devices) (Shows devices)
  shown = record {
    whole = λ tally input text is. is.writes;
    stops = λ tally input text more is. inr (is.whatever_follows more);
    either = λ tally input text. by tally input text;
  }
    where
      by : (tally : Tally) (input text : List ℕ) → IsText (showing devices) tally input text
          → Shows devices input text tally
      by tally input text (inl whole) = whole.writes
      by tally input text (inr stopped) = inr stopped.writes

  pub checked : Means (checking devices) (Checks devices)
  checked = record {
    whole = λ tally input text is. is.writes;
    stops = λ tally input text more is. inr (is.whatever_follows more);
    either = λ tally input text. by tally input text;
  }
    where
      by : (tally : Tally) (input text : List ℕ) → IsText (checking devices) tally input text
          → Checks devices input text tally
      by tally input text (inl whole) = whole.writes
      by tally input text (inr stopped) = inr stopped.writes

  pub built : Means (building devices) (λ input text tally. BuildsInput devices tally input text)
  built = record {
    whole = λ tally input text is. is;
    stops = λ tally input text more is. absurd is;
    either = λ tally input text. by tally input text;
  }
    where
      by : (tally : Tally) (input text : List ℕ) → IsText (building devices) tally input text
          → BuildsInput devices tally input text
      by tally input text (inl whole) = whole
      by tally input text (inr never) = absurd never

  pub ran : Means (running devices) (λ input text tally. RunsInput devices tally input text)
  ran = record {
    whole = λ tally input text is. is;
    stops = λ tally input text more is. absurd is;
    either = λ tally input text. by tally input text;
  }
    where
      by : (tally : Tally) (input text : List ℕ) → IsText (running devices) tally input text
          → RunsInput devices tally input text
      by tally input text (inl whole) = whole
      by tally input text (inr never) = absurd never

  pub told : (choice : ChoiceData) (after : AfterBadToken)
      → Means (telling_job choice devices after) (λ input text tally. WritesTold choice devices after input text tally)
  told choice after = record {
    whole = λ tally input text is. is;
    stops = λ tally input text more is. is.whatever_follows more;
    either = λ tally input text. by tally input text;
  }
    where
      by : (tally : Tally) (input text : List ℕ) → IsText (telling_job choice devices after) tally input text
          → WritesTold choice devices after input text tally
      by tally input text (inl whole) = whole
      by tally input text (inr stopped) = stopped.writes
