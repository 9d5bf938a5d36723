-- The text of a whole input, as the laws of each task say it: for the law `one_text`. A run that
-- ended, or that wanted no more, has written what the task's own definition says.
use Rattle.std.proofs.Common.{ℕ, List, inl, inr}
use Rattle.pmb_build.specs.Lines.{BuildsInput, building}
use Rattle.pmb_capture.specs.Check.{Checks, checking}
use Rattle.pmb_capture.specs.Show.{Shows, showing}
use Rattle.pmb_command.specs.Parts.{DeviceParts}
use Rattle.pmb_io.specs.declared.tally.Tally.{Tally}
use Rattle.pmb_telling.specs.Tell.{telling_job}
use Rattle.pmb_telling.specs.Text.{WritesTold}
use Rattle.pmb_scan.specs.declared.after_bad_token.AfterBadToken.{AfterBadToken}
use Rattle.pmb_run.specs.Lines.{RunsInput, running}
use Rattle.pmb_fact_stream.specs.Choice.{ChoiceData}
use Rattle.pmb_whole_input.specs.Whole.{IsText}

module _ (devices : List DeviceParts) (input text : List ℕ) (tally : Tally) where
  pub shown : IsText (showing devices) tally input text → Shows devices input text tally
  shown (inl ended) = ended.writes
  shown (inr stopped) = inr stopped.writes

  pub checked : IsText (checking devices) tally input text → Checks devices input text tally
  checked (inl ended) = ended.writes
  checked (inr stopped) = inr stopped.writes

  pub built : IsText (building devices) tally input text → BuildsInput devices tally input text
  built (inl whole) = whole
  built (inr never) = absurd never

  pub ran : IsText (running devices) tally input text → RunsInput devices tally input text
  ran (inl whole) = whole
  ran (inr never) = absurd never

  pub told : (choice : ChoiceData) (after : AfterBadToken) → IsText (telling_job choice devices after) tally input text
      → WritesTold choice devices after input text tally
  told choice after (inl whole) = whole
  told choice after (inr stopped) = stopped.writes
