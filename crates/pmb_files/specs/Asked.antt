-- What `pmb` does by the words of its command line, of which `log` and `stats` have `--color`.
use Rattle.std.specs.Prelude.{◌≡◌, ◌≢◌, ◌⊎◌, ℕ, true, false, Option, None, List, [], codes}
use Rattle.pmb_io.specs.Told.{WriterTold}
use Rattle.pmb_args.specs.Words.{faults_of}
use Rattle.pmb_args.specs.declared.exit_status.ExitStatus.{ExitStatus}
use Rattle.pmb_files.specs.Color.{asked_choice, color_words}
use Rattle.pmb_files.specs.Contradictions.{has_two_inputs, has_two_profiles, subcommand_name}
use Rattle.pmb_files.specs.Faults.{IsSaid, command_line}
use Rattle.pmb_files.specs.Known.{Known}
use Rattle.pmb_files.specs.Program.{HadNoMemory, RanFiles, Refused}
use Rattle.pmb_files.specs.Words.{FileWords, Text, split_words}

-- something is wrong with the words: `clap` finds it, of which a call for help is one, or they contradict each other
pub data HasFault (said : FileWords) : Type 0 where
  of_words : faults_of said.tool ≢ [] → HasFault said
  two_profiles : has_two_profiles said ≡ true → HasFault said
  two_inputs : has_two_inputs said ≡ true → HasFault said

-- nothing is
pub record HasNoFault (said : FileWords) : Type 0 where
  pub no_words : faults_of said.tool ≡ []
  pub one_profile : has_two_profiles said ≡ false
  pub one_input : has_two_inputs said ≡ false

module _ {F O W E : Type 0} (known : F → Text → Known) (left : O → Option (List ℕ)) (out_told : W → WriterTold)
    (err_told : E → WriterTold) (sample : List ℕ) (files : F) where
  -- What was done for the words of a command line.
  pub data RanAsked (words : List Text) (old new : W × E) (status : ExitStatus) : Type 0 where
    -- No word of `--color` is bad, or the other words have a fault: all is as without those words.
    ran : (asked_choice (color_words words).colors ≢ None) ⊎ HasFault (split_words (color_words words).left)
        → RanFiles known left out_told err_told sample files (split_words (color_words words).left) old new status
        → RanAsked words old new status
    -- One is bad, which is said, and nothing is written.
    bad_color : asked_choice (color_words words).colors ≡ None → HasNoFault (split_words (color_words words).left)
        → Refused known left out_told err_told sample files
        (IsSaid (command_line (subcommand_name (color_words words).left) (codes "BadColor"))) old new status
        → RanAsked words old new status
    no_memory : HadNoMemory known left out_told err_told sample files old new status → RanAsked words old new status
