use Rattle.pmb_in_memory.specs.MemoryTask.{working}
use Rattle.pmb_in_memory.proofs.Works.{works_on}
use Rattle.pmb_in_memory.proofs.whole.write_whole.Goals as goal

-- the work was done under the profile that was read, if one was
pub returns : goal.returns
returns g c =
    works_on g.W.Sink.told (working c.args.work) c.args.profile.now c.args.input.now c.args.out.now c.work_if.new.out
    c.read_profile-read.result c.read_profile-read.ensures c.work_if.result c.work_if.ensures
