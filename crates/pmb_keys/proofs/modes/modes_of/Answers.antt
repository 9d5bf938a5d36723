use Rattle.toml.specs.View.{view}
use Rattle.pmb_keys.proofs.modes.modes_of.Goals as goal

pub returns-in-Some-clause-read : goal.returns-in-Some-clause-read
returns-in-Some-clause-read c =
    let d = view c.args.value.now in
    let read = c.each_mode.ensures.read d in
    rw (← c.in-Some.ensures) (rw c.as_slice.ensures.value at read)
