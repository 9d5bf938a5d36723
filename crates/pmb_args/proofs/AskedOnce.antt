-- The words ask for one thing at most: the law `one_asking`, and for `parse_command`, `task_of`
-- and `work_of`. One subcommand was met, with one name and one list of matches, which choose one thing
-- (`Names`). A fault, help or the version ask for nothing else.
use Rattle.std.proofs.Common.{◌≡◌, ◌⊎◌, Option, Some, List, [], ◌∷◌, codes, inl, inr, refl, sym, ap, ◌∙◌, subst}
use Rattle.clap.specs.Words.{IsAmong, Kinds, Row, Text, subcommand_of}
use Rattle.clap.specs.declared.error.kind.ErrorKind.{ErrorKind}
use Rattle.pmb_args.specs.declared.exit_status.ExitStatus.{ExitStatus}
use Rattle.pmb_args.specs.declared.exit_status.ExitStatus.TheVariants.{Done, BadArguments, IoFailed, NoMemory}
use Rattle.pmb_args.specs.declared.profile_place.ProfilePlace.{ProfilePlace}
use Rattle.clap.specs.declared.error.kind.ErrorKind.TheVariants.{DisplayHelp, DisplayVersion, OutOfMemory}
use Rattle.pmb_recorder.specs.Recorded.{Recorded}
use Rattle.pmb_args.specs.Import.{ImportAsks}
use Rattle.pmb_args.proofs.ImportOnce.{MakeOne, one_recorded}
use Rattle.pmb_args.specs.Words.{AskToTell, IsTelling, help, version, faults_of, pmb_app}
use Rattle.pmb_args.specs.Asked.{AskFor, Asking, AsksNothing, Convert, FlagsAsk, HasBadFormat, Import, NameAsks, Scan}
use Rattle.pmb_args.specs.Asked.{NamesNone, SubcommandAsks, UnderProfile, Wanted, converter, format_in, place_in}
use Rattle.pmb_args.specs.Asked.{wanted_by}
use Rattle.pmb_args.specs.Facts.{FactsCommand, stats, at_first, command_name}
use Rattle.pmb_args.specs.Faults.{AreWrong, AreWrongStats}
use Rattle.pmb_args.specs.declared.direction.Direction.{Direction}
use Rattle.pmb_args.specs.declared.facts_fault.FactsFault.{FactsFault}
use Rattle.pmb_args.specs.declared.stats_fault.StatsFault.{StatsFault}
use Rattle.pmb_args.proofs.Names.{converts_no_import, facts_want_none, is_named, one_direction, one_name, one_of_name}
use Rattle.pmb_args.proofs.Names.{one_rows, other_name, stats_want_none, wants_no_import}
use Rattle.pmb_args.proofs.Names.{converts_no_scan, scan_is_no_import, wants_no_scan}

-- ---- one thing is asked for

pub one_asking : MakeOne → (found : Option (Text × List Row)) (a b : Asking) → SubcommandAsks found a
    → SubcommandAsks found b → a ≡ b
one_asking one found (Import recorded) (Import other) is also =
    ap Import (one_recorded one also.0 recorded other (subst (λ (rs : List Row). ImportAsks rs recorded)
    (one_rows found _ _ is.0 also.0 is.1 also.1) is.2) also.2)
one_asking one found (Import recorded) (UnderProfile place wanted) is also =
    absurd (wants_no_import wanted (one_name found _ _ also.0 is.0 also.1 is.1))
one_asking one found (Import recorded) (Convert direction format) is also =
    absurd (converts_no_import direction (one_name found _ _ also.0 is.0 also.1 is.1))
one_asking one found (UnderProfile place wanted) (Import recorded) is also =
    absurd (wants_no_import wanted (one_name found _ _ is.0 also.0 is.1 also.1))
one_asking one found (Convert direction format) (Import recorded) is also =
    absurd (converts_no_import direction (one_name found _ _ is.0 also.0 is.1 also.1))
one_asking one found (UnderProfile place wanted) (UnderProfile other others) is also =
    let rows = one_rows found _ _ is.0 also.0 is.1 also.1 in
    let flags = subst (λ (rs : List Row). FlagsAsk rs wanted) rows is.3 in
    ap (λ (p : ProfilePlace). UnderProfile p wanted) (is.2 ∙ ap place_in rows ∙ sym also.2)
    ∙ ap (UnderProfile other) (one_of_name also.0 wanted others (one_name found _ _ is.0 also.0 is.1 also.1) flags
    also.3)
one_asking one found (UnderProfile place wanted) (Convert direction format) is also =
    absurd (other_name wanted direction (one_name found _ _ is.0 also.0 is.1 also.1))
one_asking one found (Convert direction format) (UnderProfile place wanted) is also =
    absurd (other_name wanted direction (one_name found _ _ also.0 is.0 also.1 is.1))
one_asking one found (Convert direction format) (Convert other others) is also =
    ap (λ (d : Direction). Convert d format)
    (one_direction direction other (one_name found _ _ is.0 also.0 is.1 also.1))
    ∙ ap (Convert other) (is.2 ∙ ap format_in (one_rows found _ _ is.0 also.0 is.1 also.1) ∙ sym also.2)
one_asking one found Scan Scan is also = refl
one_asking one found Scan (Import recorded) is also =
    absurd (scan_is_no_import (one_name found _ _ is.0 also.0 is.1 also.1))
one_asking one found Scan (UnderProfile place wanted) is also =
    absurd (wants_no_scan wanted (one_name found _ _ also.0 is.0 also.1 is.1))
one_asking one found Scan (Convert direction format) is also =
    absurd (converts_no_scan direction (one_name found _ _ also.0 is.0 also.1 is.1))
one_asking one found (Import recorded) Scan is also =
    absurd (scan_is_no_import (one_name found _ _ also.0 is.0 also.1 is.1))
one_asking one found (UnderProfile place wanted) Scan is also =
    absurd (wants_no_scan wanted (one_name found _ _ is.0 also.0 is.1 also.1))
one_asking one found (Convert direction format) Scan is also =
    absurd (converts_no_scan direction (one_name found _ _ is.0 also.0 is.1 also.1))

-- ---- a subcommand that asks for nothing

-- where its name and its matches want nothing, it doesn't convert, it isn't `scan`, and it isn't `import`, or its
-- matches have a fault
pub nothing_named : (found : Option (Text × List Row)) (name : Text) (rows : List Row) → found ≡ Some (name, rows)
    → ((wanted : Wanted) → ¬ (NameAsks name rows wanted)) → ((direction : Direction) → ¬ (name ≡ converter direction))
    → ¬ (name ≡ codes "scan")
    → (name ≡ codes "import" → (recorded : Recorded) → ¬ (ImportAsks rows recorded)) → AsksNothing found
nothing_named found name rows named none_wanted none_converts none_scans none_imports (Import recorded) is =
    none_imports (one_name found _ _ rows is.0 named is.1) recorded
    (subst (λ (rs : List Row). ImportAsks rs recorded) (one_rows found _ _ is.0 rows is.1 named) is.2)
nothing_named found name rows named none_wanted none_converts none_scans none_imports (UnderProfile place wanted) is =
    none_wanted wanted (
      one_name found _ _ rows is.0 named is.1,
      subst (λ (rs : List Row). FlagsAsk rs wanted)
          (one_rows found _ _ is.0 rows is.1 named) is.3,
    )
nothing_named found name rows named none_wanted none_converts none_scans none_imports (Convert direction format) is =
    none_converts direction (one_name found _ _ rows is.0 named is.1)
nothing_named found name rows named none_wanted none_converts none_scans none_imports Scan is =
    none_scans (one_name found _ _ rows is.0 named is.1)

named_nothing : (command : FactsCommand) (found : Option (Text × List Row)) (rows : List Row)
    → found ≡ Some (command_name command, rows)
    → ((wanted : Wanted) → ¬ (NameAsks (command_name command) rows wanted)) → AsksNothing found
named_nothing command found rows is none =
    let named = is_named command (at_first command) in
    let wanted = wanted_by command (at_first command) in
    nothing_named found (command_name command) rows is none
    (λ direction same. other_name wanted direction (named ∙ same)) (λ same. wants_no_scan wanted (named ∙ same))
    (λ same. absurd (wants_no_import wanted (named ∙ same)))

pub facts_nothing : (command : FactsCommand) (found : Option (Text × List Row)) (rows : List Row) (fault : FactsFault)
    → found ≡ Some (command_name command, rows) → AreWrong rows fault → AsksNothing found
facts_nothing command found rows fault is wrong =
    named_nothing command found rows is (facts_want_none command rows fault wrong)

pub stats_nothing : (found : Option (Text × List Row)) (rows : List Row) (fault : StatsFault)
    → found ≡ Some (command_name stats, rows) → AreWrongStats rows fault → AsksNothing found
stats_nothing found rows fault is wrong = named_nothing stats found rows is (stats_want_none rows fault wrong)

-- of `import`, where its matches ask for nothing
pub import_nothing : (found : Option (Text × List Row)) (rows : List Row) → found ≡ Some (codes "import", rows)
    → ((recorded : Recorded) → ¬ (ImportAsks rows recorded)) → AsksNothing found
import_nothing found rows named none = nothing_named found (codes "import") rows named
    (λ wanted asks. wants_no_import wanted (sym asks.0)) (λ direction same. converts_no_import direction (sym same))
    (λ same. scan_is_no_import (sym same)) (λ same. none)

-- ---- a format that is none

-- what is asked for has a bad format where the words have one
pub bad_format : MakeOne → (words : List Text) (asking : Asking) → AskFor words asking → HasBadFormat words → NamesNone asking
bad_format one words asking ask bad = subst NamesNone
    (one_asking one (subcommand_of pmb_app words) (Convert bad.direction bad.format) asking bad.asks.asks ask.asks)
    (bad.fault, bad.bad)

-- and only there
pub names_none : (words : List Text) (asking : Asking) → AskFor words asking → NamesNone asking → HasBadFormat words
names_none words (Import recorded) ask none = absurd none
names_none words (UnderProfile place wanted) ask none = absurd none
names_none words Scan ask none = absurd none
names_none words (Convert direction format) ask none =
    record { direction = direction; format = format; asks = ask; fault = none.0; bad = none.1 }

-- ---- no fault

-- where `clap` finds no fault, the words are read but for memory
pub only_memory : (kinds : Kinds) (kind : ErrorKind) (Memory : Type 0) → kinds ≡ [] → Memory ⊎ IsAmong kind kinds
    → Memory
only_memory kinds kind Memory none (inl memory) = memory
only_memory kinds kind Memory none (inr among) = absurd (subst (λ (ks : Kinds). IsAmong kind ks) none among)

-- words without a fault ask for no text about `pmb`
pub no_telling : (words : List Text) → faults_of words ≡ [] → AskToTell words → ⊥
no_telling words none (help is) = let clash : DisplayHelp ∷ [] ≡ [] = sym is ∙ none in cc
no_telling words none (version is) = let clash : DisplayVersion ∷ [] ≡ [] = sym is ∙ none in cc

-- a fault among those of refused words asks for none either
pub refused_is_no_telling : (kinds : Kinds) (kind : ErrorKind) → (IsAmong DisplayHelp kinds → ⊥)
    → (IsAmong DisplayVersion kinds → ⊥) → (kind ≡ OutOfMemory) ⊎ IsAmong kind kinds → IsTelling kind → ⊥
refused_is_no_telling kinds kind no_help no_version (inl memory) (inl same) = let clash : OutOfMemory ≡ DisplayHelp =
    sym memory ∙ same in cc
refused_is_no_telling kinds kind no_help no_version (inl memory) (inr same) = let clash : OutOfMemory ≡ DisplayVersion =
    sym memory ∙ same in cc
refused_is_no_telling kinds kind no_help no_version (inr among) (inl same) =
    no_help (subst (λ (k : ErrorKind). IsAmong k kinds) same among)
refused_is_no_telling kinds kind no_help no_version (inr among) (inr same) =
    no_version (subst (λ (k : ErrorKind). IsAmong k kinds) same among)

-- where a text about `pmb` is asked for, the fault is that call, or memory is lacking
only_one : (kind other : ErrorKind) → IsAmong kind (other ∷ []) → kind ≡ other
only_one kind other (inl same) = same
only_one kind other (inr none) = absurd none

pub is_telling : (words : List Text) (kind : ErrorKind) → AskToTell words
    → (kind ≡ OutOfMemory) ⊎ IsAmong kind (faults_of words) → (kind ≡ OutOfMemory) ⊎ IsTelling kind
is_telling words kind ask (inl memory) = inl memory
is_telling words kind (help is) (inr among) =
    inr (inl (only_one kind DisplayHelp (subst (λ (ks : Kinds). IsAmong kind ks) is among)))
is_telling words kind (version is) (inr among) =
    inr (inr (only_one kind DisplayVersion (subst (λ (ks : Kinds). IsAmong kind ks) is among)))

-- ---- the status of what was told

-- where there was no memory, the words are not told to be bad
pub memory_is_not_bad : (status : ExitStatus) → status ≡ BadArguments → status ≡ NoMemory → ⊥
memory_is_not_bad status bad memory = let clash : BadArguments ≡ NoMemory = sym bad ∙ memory in cc

-- nor where a text about `pmb` was asked for
pub told_is_not_bad : (status : ExitStatus) → status ≡ BadArguments → (status ≡ Done) ⊎ (status ≡ IoFailed)
    ⊎ (status ≡ NoMemory) → ⊥
told_is_not_bad status bad (inl done) = let clash : BadArguments ≡ Done = sym bad ∙ done in cc
told_is_not_bad status bad (inr (inl failed)) = let clash : BadArguments ≡ IoFailed = sym bad ∙ failed in cc
told_is_not_bad status bad (inr (inr memory)) = memory_is_not_bad status bad memory
