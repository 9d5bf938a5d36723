-- What `stats` writes of a capture.
use Rattle.std.specs.Prelude.{◌≡◌, ℕ, Bool, true, false, List, [], ◌++◌}
use Rattle.pmb_command.specs.Parts.{DeviceParts}
use Rattle.pmb_facts.specs.Fact.{FactData}
use Rattle.pmb_fact_stream.specs.Before.{at_first}
use Rattle.pmb_io.specs.Runs.{Job}
use Rattle.pmb_io.specs.Tally.{IsTallyOf}
use Rattle.pmb_io.specs.declared.tally.Tally.{Tally}
use Rattle.pmb_json_objects.specs.Counts.{CountsData}
use Rattle.pmb_scan.specs.declared.after_bad_token.AfterBadToken.TheVariants.{End}
use Rattle.pmb_stats_counts.specs.Counts.{packets}
use Rattle.pmb_stats_counts.specs.Fails.{fails}
use Rattle.pmb_stats_objects.specs.Objects.{objects_text}
use Rattle.pmb_stats_table.specs.Table.{table_text}
use Rattle.pmb_telling.specs.Tell.{IsOpenCapture}
use Rattle.pmb_telling.specs.Text.{BadLine, FactsFrom}
use Rattle.pmb_summary.specs.Choice.{SumsData, setting_of}

-- the sums of facts, as a table
abbrev pub table_of : SumsData → List DeviceParts → List FactData → List ℕ
table_of sums profile facts = table_text sums.digits sums.devices (setting_of sums profile) facts

-- .. and as objects
abbrev pub objects_of : SumsData → List DeviceParts → List FactData → List ℕ
objects_of sums profile facts = objects_text sums.digits (setting_of sums profile) facts sums.devices

-- A tally tells the status: where that is to be 1, it has one refusal, and none else.
abbrev pub one_if : Bool → ℕ
one_if true = 1
one_if false = 0

module _ (text_of : List FactData → List ℕ) (sums : SumsData) (profile : List DeviceParts) where
  -- The bytes of a whole capture have these facts, the text is that of their sums, and the status is as they
  -- are to make it.
  pub record WritesSums (tally : Tally) (bytes text : List ℕ) : Type 0 where
    pub bad : List BadLine
    pub facts : List FactData
    pub counts : CountsData
    pub from_first : FactsFrom sums.ignored profile sums.after_bad_token at_first bytes bad facts counts
    pub sums_are : text ≡ text_of facts
    pub tallied : IsTallyOf (packets facts) (one_if (fails profile sums.fail_on facts)) tally

  -- No more is wanted: this is all that is written, whatever follows.
  pub record StopsSums (tally : Tally) (bytes text : List ℕ) : Type 0 where
    pub ends : sums.after_bad_token ≡ End
    pub writes : WritesSums tally bytes text
    pub whatever_follows : (more : List ℕ) → WritesSums tally (bytes ++ more) text

  -- Nothing is written before the end.
  abbrev pub summing : Job Tally
  summing = record {
    Whole = WritesSums;
    Stops = StopsSums;
    Front = λ bytes text. text ≡ [];
    IsOpen = IsOpenCapture sums.after_bad_token;
  }
