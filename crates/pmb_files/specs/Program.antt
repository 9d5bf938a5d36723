-- What `pmb` does over files, by the words of its command line: the first of these that holds stops it, or it runs.
use Rattle.std.specs.Prelude.{◌≡◌, ◌≢◌, ◌<◌, ◌⊎◌, ℕ, true, false, Option, Some, None}
use Rattle.std.specs.Prelude.{Ok, Err, List, [], ◌∷◌, ◌++◌, codes, length, ⊤}
use Rattle.std.specs.List.{All}
use Rattle.std.specs.Fmt.{decimal}
use Rattle.pmb_io.specs.Told.{WriterTold}
use Rattle.pmb_args.specs.Asked.{AskFor, AskForNothing, Asking}
use Rattle.pmb_args.specs.ExitStatus.{IsTold}
use Rattle.pmb_args.specs.Words.{faults_of}
use Rattle.pmb_args.specs.declared.exit_status.ExitStatus.{ExitStatus}
use Rattle.pmb_args.specs.declared.exit_status.ExitStatus.TheVariants.{BadArguments, IoFailed, NoMemory}
use Rattle.pmb_files.specs.Contradictions.{
  has_several,
  has_two_inputs,
  has_two_profiles,
  names_nothing,
  names_of,
  subcommand_name,
}
use Rattle.pmb_files.specs.Faults.{IsSaid, SaysFault, command_line, file_line}
use Rattle.pmb_files.specs.Head.{HasMarkAt, IsTooLong, IsWhole, head_of, with_line_end}
use Rattle.pmb_files.specs.Each.{RanEach}
use Rattle.pmb_files.specs.Headings.{heading_of}
use Rattle.pmb_files.specs.Known.{Known}
use Rattle.pmb_files.specs.Over.{RanOver}
use Rattle.pmb_files.specs.Values.{values_text}
use Rattle.pmb_files.specs.Words.{FileWords, Text}
use Rattle.pmb_files.specs.declared.file_fault.FileFault.{FileFault}

-- ---- what the words say, and what is known of the files

-- the words ask for something, and what they name is no contradiction
pub record Asks (said : FileWords) : Type 0 where
  pub asking : Asking
  pub asks : AskFor said.tool asking
  pub one_profile : has_two_profiles said ≡ false
  pub one_input : has_two_inputs said ≡ false

-- and they have no values, so that files are read, or standard input
pub record AskOver (said : FileWords) : Type 0 where
  pub asks : Asks said
  pub no_values : said.values ≡ []

-- a look at it may find no fault
abbrev pub MayBeFine : Known → Type 0
MayBeFine None = ⊤
MayBeFine (Some (Ok bytes)) = ⊤
MayBeFine (Some (Err fault)) = ⊥

-- a look at it may find this
abbrev pub MayFault : Known → FileFault → Type 0
MayFault None fault = ⊤
MayFault (Some (Ok bytes)) fault = ⊥
MayFault (Some (Err known)) fault = fault ≡ known

-- of the names, this is the first whose file can't be read, and why
pub record FirstFault (known : Text → Known) (names : List Text) (name : Text) (fault : FileFault) : Type 0 where
  pub before : List Text
  pub after : List Text
  pub whole : names ≡ before ++ name ∷ after
  pub fine : All (λ other. MayBeFine (known other)) before
  pub bad : MayFault (known name) fault

-- how many bytes are read of a profile at most, and one read more: with more it is too long, whatever follows
abbrev pub most_text : ℕ
most_text = 1048580

-- these bytes were read of it: all, or more than a profile may have
abbrev pub IsReadOf : Known → List ℕ → Type 0
IsReadOf None bytes = ⊤
IsReadOf (Some (Ok all)) bytes = (more : List ℕ) × (all ≡ bytes ++ more) × ((more ≡ []) ⊎ (most_text < length bytes))
IsReadOf (Some (Err fault)) bytes = ⊤

-- the head of the input: nothing, or that of the profile that is named
abbrev pub IsHead : (Text → Known) → List Text → List ℕ → Type 0
IsHead known [] head = head ≡ []
IsHead known (profile ∷ others) head = (bytes : List ℕ) × IsReadOf (known profile) bytes
    × IsWhole (with_line_end bytes) × (head ≡ head_of bytes)

-- ---- what is done

module _ {F O W E : Type 0} (known : F → Text → Known) (left : O → Option (List ℕ)) (out_told : W → WriterTold)
    (err_told : E → WriterTold) (sample : List ℕ) (files : F) where
  -- There was no memory, which is said, and nothing was written.
  pub record HadNoMemory (old new : W × E) (status : ExitStatus) : Type 0 where
    pub is : status ≡ NoMemory
    pub unwritten : new.0 ≡ old.0
    pub told : IsTold (err_told old.1) (err_told new.1)

  -- Something is wrong, which is said so, and nothing was written.
  pub record Refused (Says : WriterTold → WriterTold → Type 0) (old new : W × E) (status : ExitStatus) : Type 0 where
    pub is : status ≡ BadArguments
    pub unwritten : new.0 ≡ old.0
    pub says : Says (err_told old.1) (err_told new.1)

  -- What was done for the words of a command line, which were split.
  pub data RanFiles (said : FileWords) (old new : W × E) (status : ExitStatus) : Type 0 where
    -- The words name no file, and none is a value: all is as the tool does it over standard input.
    over_input : names_nothing said ≡ true
        → RanOver known left out_told err_told sample files said.tool [] (names_of said) old new status
        → RanFiles said old new status
    -- Of the other cases each but the last holds only where none of them before it does.
    --
    -- `clap` finds a fault in the words that are left for the tool, of which a call for help is one: nothing is read.
    by_words : faults_of said.tool ≢ []
        → RanOver known left out_told err_told sample files said.tool [] [] old new status → RanFiles said old new status
    two_profiles : faults_of said.tool ≡ [] → has_two_profiles said ≡ true
        → Refused (IsSaid (command_line (subcommand_name said.tool) (codes "TwoProfiles"))) old new status
        → RanFiles said old new status
    two_inputs : faults_of said.tool ≡ [] → has_two_profiles said ≡ false
        → has_two_inputs said ≡ true
        → Refused (IsSaid (command_line (subcommand_name said.tool) (codes "TwoInputs"))) old new status
        → RanFiles said old new status
    -- The words ask for nothing, as by a flag: nothing is read.
    by_flags : AskForNothing said.tool → has_two_profiles said ≡ false
        → has_two_inputs said ≡ false
        → RanOver known left out_told err_told sample files said.tool [] [] old new status → RanFiles said old new status
    -- The words have values: the tool does with their lines what it does with standard input.
    ran_values : Asks said → said.values ≢ []
        → RanOver known left out_told err_told sample files said.tool (values_text said.values) [] old new status
        → RanFiles said old new status
    -- A file can't be read: of the profile and the files the first.
    unreadable : AskOver said → (name : Text) → (fault : FileFault)
        → FirstFault (known files) (said.profiles ++ names_of said) name fault
        → Refused (SaysFault name fault) old new status → RanFiles said old new status
    -- The profile is too long, or has a line `%%`, also by the LF that is added.
    too_long : AskOver said → (profile : Text) → (said.profiles ≡ profile ∷ [])
        → (bytes : List ℕ) → IsReadOf (known files profile) bytes → IsTooLong (with_line_end bytes)
        → Refused (IsSaid (file_line profile (codes "profile too long"))) old new status
        → RanFiles said old new status
    has_mark : AskOver said → (profile : Text) → (said.profiles ≡ profile ∷ [])
        → (bytes : List ℕ) → IsReadOf (known files profile) bytes → (line : ℕ) → HasMarkAt (with_line_end bytes) line
        → Refused (IsSaid (file_line profile (codes "line " ++ (decimal line ++ codes " is %%")))) old new status
        → RanFiles said old new status
    -- Reading the profile failed.
    profile_unread : AskOver said → (profile : Text) → (said.profiles ≡ profile ∷ [])
        → (status ≡ IoFailed) → (new.0 ≡ old.0) → IsTold (err_told old.1) (err_told new.1)
        → RanFiles said old new status
    -- Files that are captures of their own: each has its heading, and what the tool does over the head and it.
    ran_each : AskOver said → has_several said ≡ true
        → All (λ name. MayBeFine (known files name)) (said.profiles ++ names_of said)
        → (head : List ℕ) → IsHead (known files) said.profiles head
        → RanEach known left out_told err_told sample files said.tool (heading_of said) head (names_of said) old new
        status → RanFiles said old new status
    -- All else is as the tool does it, over the head and the files as one.
    ran : AskOver said → has_several said ≡ false
        → All (λ name. MayBeFine (known files name)) (said.profiles ++ names_of said)
        → (head : List ℕ) → IsHead (known files) said.profiles head
        → RanOver known left out_told err_told sample files said.tool head (names_of said) old new status
        → RanFiles said old new status
    no_memory : HadNoMemory old new status → RanFiles said old new status
