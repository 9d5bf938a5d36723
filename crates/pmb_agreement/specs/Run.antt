-- A run of the program, and what the library puts for the same profile and input.
use Rattle.std.specs.Prelude.{◌≡◌, Option, Some, List, ℕ, ◌++◌}
use Rattle.pmb_args.specs.Asked.{Wanted, Show, Check, Json, Build, Run}
use Rattle.pmb_args.specs.Facts.{FactsWanted}
use Rattle.pmb_cli.specs.Works.{DoneUnderFront, working}
use Rattle.pmb_in_memory.specs.declared.json_choice.JsonChoice.{JsonChoice}
use Rattle.pmb_in_memory.specs.declared.memory_task.MemoryTask.{MemoryTask}
use Rattle.pmb_in_memory.specs.declared.memory_task.MemoryTask.TheVariants as tasks
use Rattle.pmb_in_memory.specs.declared.put.Put.{Put}
use Rattle.pmb_io.specs.Told.{ReaderTold, WriterTold}
use Rattle.pmb_io.specs.declared.tally.Tally.{Tally}
use Rattle.pmb_preamble.specs.Front.{FirstMark}

-- the subcommand that does a task of the library
abbrev pub subcommand_of : MemoryTask → Wanted
subcommand_of tasks.Show = Show
subcommand_of tasks.Check = Check
subcommand_of tasks.Build = Build
subcommand_of tasks.Run = Run

-- `json` with the flags that say what was chosen of the objects, and of the devices
abbrev pub flags_of : JsonChoice → List ℕ → FactsWanted
flags_of choice devices = record {
  start = choice.start;
  after_bad_token = choice.bad_words;
  digits = choice.digits;
  devices = devices;
}

module _ {R W : Type 0} (reader_told : R → ReaderTold) (out_told : W → WriterTold) where
  -- The program has done what is wanted under the profile that comes first in these bytes, all that its
  -- reader had left; standard output held `held` before. It read the line `%%` behind the profile.
  pub record HasRun (wanted : Wanted) (bytes held : List ℕ) (tally : Tally) (old new : R × W) : Type 0 where
    pub done : DoneUnderFront reader_told out_told (working wanted) tally old new
    pub marked : FirstMark done.begins.read done.begins.profile done.begins.rest
    pub left : (reader_told old.0).left ≡ Some bytes
    pub held_before : (out_told old.1).held ≡ Some held

-- Standard output holds this text more, and the tallies are one.
abbrev pub WritesTheSame : Option (List ℕ) → List ℕ → List ℕ → Tally → Put → Type 0
WritesTheSame holds held text tally put = (holds ≡ Some (held ++ text)) × (tally ≡ put.tally)
