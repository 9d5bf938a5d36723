use Rattle.std.proofs.Common.{refl}
use Rattle.pmb_host.specs.Task.{task_of}
use Rattle.pmb_host.specs.machine.Standing.{Job}
use Rattle.pmb_host.proofs.Making.{asked_suits, at_first_leg, has_job}
use Rattle.pmb_host.proofs.host.Host.of.Goals as goal

pub returns : goal.returns
returns c = λ request word allowed task_is incoming.
    let job : Job = record { profile = c.args.profile.now; task = task_of request word; number = c.args.number } in
    let suits = asked_suits c.args.profile.now c.accepted_bus.ensures request word c.args.number allowed in
    record {
      word = word;
      number = c.args.number;
      allowed = allowed;
      stands = (
        refl,
        λ result. at_first_leg _ job
            (has_job _ job request word refl task_is refl refl allowed c.accepted_bus.ensures suits) suits incoming refl
            refl refl,
      );
    }
