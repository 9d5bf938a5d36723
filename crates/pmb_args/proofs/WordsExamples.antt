-- What `clap` finds in some words, computed: no function needs it, but it shows that the cases
-- that the contracts speak of are there.
use Rattle.std.proofs.Common.{◌≡◌, [], ◌∷◌, codes, refl}
use Rattle.clap.proofs.OnLiterals.{clap_on_literals}
use Rattle.clap.specs.declared.error.kind.ErrorKind.TheVariants.{DisplayHelp, DisplayHelpOnMissingArgumentOrSubcommand}
use Rattle.clap.specs.declared.error.kind.ErrorKind.TheVariants.{InvalidSubcommand, UnknownArgument}
use Rattle.pmb_args.specs.Words.{faults_of}

-- `pmb` alone is told the help, as a fault.
no_words : faults_of (codes "pmb" ∷ []) ≡ DisplayHelpOnMissingArgumentOrSubcommand ∷ []
unfolding clap_on_literals
no_words = refl

-- `pmb shw` may be a misspelt subcommand.
misspelt : faults_of (codes "pmb" ∷ codes "shw" ∷ codes "--sample" ∷ []) ≡ UnknownArgument ∷ InvalidSubcommand ∷ []
unfolding clap_on_literals
misspelt = refl

-- `pmb show --sample more` has a word too many.
one_more_word : faults_of (codes "pmb" ∷ codes "show" ∷ codes "--sample" ∷ codes "more" ∷ []) ≡ UnknownArgument ∷ []
unfolding clap_on_literals
one_more_word = refl

-- `pmb help` may ask for help, or name a subcommand that is none.
help_subcommand : faults_of (codes "pmb" ∷ codes "help" ∷ []) ≡ DisplayHelp ∷ InvalidSubcommand ∷ []
unfolding clap_on_literals
help_subcommand = refl
