use Rattle.pmb_in_memory.specs.Json.{telling}
use Rattle.pmb_in_memory.specs.MemoryTask.{working}
use Rattle.pmb_in_memory.proofs.Faults.{told_of, told_of_put}
use Rattle.pmb_in_memory.proofs.laws.faults_are_told.Goals as goal

pub returns-clause-read : goal.returns-clause-read
returns-clause-read c text fault answer says is = told_of text fault says answer is

pub returns-clause-put : goal.returns-clause-put
returns-clause-put c work profile input before after fault answer says puts =
    told_of_put profile fault says (working work) input before after answer puts

pub returns-clause-json : goal.returns-clause-json
returns-clause-json c choice devices profile capture before after fault answer says puts =
    told_of_put profile fault says (telling choice devices) capture before after answer puts
