use Rattle.pmb_in_memory.specs.declared.memory_task.MemoryTask.TheVariants.{Show, Check, Build, Run}
use Rattle.pmb_in_memory.proofs.Texts.{built, checked, ran, shown, told}
use Rattle.pmb_in_memory.proofs.laws.one_text.Goals as goal

pub returns-clause-work : goal.returns-clause-work
returns-clause-work c Show bus input a b s t accepted one other =
    c.one_showing.ensures bus.devices input a b s t accepted (shown bus.devices input a s one)
    (shown bus.devices input b t other)
returns-clause-work c Check bus input a b s t accepted one other =
    c.one_check.ensures bus.devices input a b s t accepted (checked bus.devices input a s one)
    (checked bus.devices input b t other)
returns-clause-work c Build bus input a b s t accepted one other =
    c.one_building.ensures bus.devices input a b s t accepted (built bus.devices input a s one)
    (built bus.devices input b t other)
returns-clause-work c Run bus input a b s t accepted one other =
    c.one_running.ensures bus.devices s t input a b accepted (ran bus.devices input a s one)
    (ran bus.devices input b t other)

pub returns-clause-json : goal.returns-clause-json
returns-clause-json c choice after devices input a b s t bus one other =
    c.one_text_is_told.ensures choice devices after input a b s t bus (told devices input a s choice after one)
    (told devices input b t choice after other)
