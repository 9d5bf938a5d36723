-- What `json` is to write of a whole capture.
use Rattle.std.specs.Prelude.{ℕ, List}
use Rattle.pmb_io.specs.Runs.{Job}
use Rattle.pmb_io.specs.declared.tally.Tally.{Tally}
use Rattle.pmb_telling.specs.Tell.{telling_job}
use Rattle.pmb_fact_stream.specs.declared.telling.Telling.TheVariants.{Objects}
use Rattle.pmb_table.specs.Profile.{ProfileParts}
use Rattle.pmb_in_memory.specs.declared.json_choice.JsonChoice.{JsonChoice}

-- The objects of devices at these addresses, or of all, as it is chosen, under a profile: under its
-- devices, and with the addresses that it ignores.
abbrev pub telling : JsonChoice → List ℕ → ProfileParts → Job Tally
telling choice devices bus = telling_job (record {
  digits = choice.digits;
  start = choice.start;
  devices = devices;
  ignored = bus.ignored;
  telling = Objects;
}) bus.devices choice.bad_words
