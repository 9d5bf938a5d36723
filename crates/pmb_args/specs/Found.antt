-- What words come to, as it is told where nothing is written about them.
use Rattle.std.specs.Prelude.{◌≢◌, List, []}
use Rattle.clap.specs.Words.{Text}
use Rattle.pmb_args.specs.Asked.{AskFor, AskForNothing, Asking}
use Rattle.pmb_args.specs.Words.{faults_of}
use Rattle.pmb_args.specs.declared.words_found.WordsFound.{WordsFound}
use Rattle.pmb_args.specs.declared.words_found.WordsFound.TheVariants.{Fault, Nothing, Task}

-- the words come to this
abbrev pub ComeTo : List Text → WordsFound → Type 0
ComeTo words Fault = faults_of words ≢ []
ComeTo words Nothing = AskForNothing words
ComeTo words Task = (asking : Asking) × AskFor words asking
