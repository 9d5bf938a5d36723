-- What each work is to write.
use Rattle.pmb_build.specs.Lines.{building}
use Rattle.pmb_capture.specs.Check.{checking}
use Rattle.pmb_capture.specs.Show.{showing}
use Rattle.pmb_io.specs.Runs.{Job}
use Rattle.pmb_io.specs.declared.tally.Tally.{Tally}
use Rattle.pmb_run.specs.Lines.{running}
use Rattle.pmb_table.specs.Profile.{ProfileParts}
use Rattle.pmb_in_memory.specs.declared.memory_task.MemoryTask.{MemoryTask}
use Rattle.pmb_in_memory.specs.declared.memory_task.MemoryTask.TheVariants.{Show, Check, Build, Run}

-- What each work is to write under a profile. None looks at the addresses that it ignores.
abbrev pub working : MemoryTask → ProfileParts → Job Tally
working Show bus = showing bus.devices
working Check bus = checking bus.devices
working Build bus = building bus.devices
working Run bus = running bus.devices
