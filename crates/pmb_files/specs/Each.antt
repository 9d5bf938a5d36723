-- Files that are captures of their own, each announced by its name.
use Rattle.std.specs.Prelude.{◌≡◌, ℕ, nat_le, Option, List, [], ◌∷◌, ◌++◌, codes}
use Rattle.std.specs.Prelude.{if◌then◌else◌}
use Rattle.std.specs.Io.KnownBytes.{Appends}
use Rattle.pmb_io.specs.Count.{raised}
use Rattle.pmb_io.specs.Told.{WriterTold}
use Rattle.pmb_json_text.specs.Spelling.{all_escaped}
use Rattle.pmb_args.specs.ExitStatus.{IsTold, code_of}
use Rattle.pmb_args.specs.declared.exit_status.ExitStatus.{ExitStatus}
use Rattle.pmb_args.specs.declared.exit_status.ExitStatus.TheVariants.{Done, IoFailed, NoMemory}
use Rattle.pmb_files.specs.Known.{Known}
use Rattle.pmb_files.specs.Over.{RanOver}
use Rattle.pmb_files.specs.Words.{Text}
use Rattle.pmb_files.specs.declared.heading.Heading.{Heading}
use Rattle.pmb_files.specs.declared.heading.Heading.TheVariants.{Comment, Object}

-- the line that announces a file
abbrev pub heading_line : Heading → Text → List ℕ
heading_line Comment name = codes "# file " ++ (all_escaped name ++ codes "\n")
heading_line Object name = codes "{\"kind\":\"file\",\"file\":\"" ++ (all_escaped name ++ codes "\"}\n")

-- of two statuses the one with the greater number
abbrev pub greatest : ExitStatus → ExitStatus → ExitStatus
greatest a b = if nat_le (code_of a) (code_of b) then b else a

module _ {F O W E : Type 0} (known : F → Text → Known) (left : O → Option (List ℕ)) (out_told : W → WriterTold)
    (err_told : E → WriterTold) (sample : List ℕ) (files : F) (words : List Text) (heading : Heading)
    (head : List ℕ) where
  -- A file was announced, and the tool has run over it.
  pub record RanFile (name : Text) (old new : W × E) (status : ExitStatus) : Type 0 where
    pub announced : W
    pub line : Appends (out_told old.0).held (out_told announced).held (heading_line heading name)
    pub written : (out_told announced).failures ≡ (out_told old.0).failures
    pub ran : RanOver known left out_told err_told sample files words head (name ∷ []) (announced, old.1) new status

  -- These files were, one after the other. The status is the greatest of theirs.
  pub data RanAll (old : W × E) : List Text → W × E → ExitStatus → Type 0 where
    none : RanAll old [] old Done
    next : (names : List Text) (name : Text) (middle new : W × E) (status last : ExitStatus)
        → RanAll old names middle status → RanFile name middle new last
        → RanAll old (names ++ name ∷ []) new (greatest status last)

  -- The tool has run over each file; or it ended where one was to be announced: standard output failed, or there was no
  -- memory for the line.
  pub data RanEach (names : List Text) (old new : W × E) (status : ExitStatus) : Type 0 where
    all : RanAll old names new status → RanEach names old new status
    unannounced : (before : List Text) (name : Text) (after : List Text) → names ≡ before ++ name ∷ after
        → (middle : W × E) (so_far : ExitStatus) → RanAll old before middle so_far
        → (out_told new.0).failures ≡ raised (out_told middle.0).failures 1
        → IsTold (err_told middle.1) (err_told new.1)
        → status ≡ greatest so_far IoFailed → RanEach names old new status
    no_memory : (before : List Text) (name : Text) (after : List Text) → names ≡ before ++ name ∷ after
        → (middle : W × E) (so_far : ExitStatus) → RanAll old before middle so_far → new.0 ≡ middle.0
        → IsTold (err_told middle.1) (err_told new.1) → status ≡ NoMemory → RanEach names old new status
