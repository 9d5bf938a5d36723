use Rattle.std.proofs.Common.{◌∙◌, Option, List, ℕ, ap, option_map}
use Rattle.pmb_command.specs.Parts.{DeviceParts}
use Rattle.pmb_fact_stream.specs.declared.telling.Telling.TheVariants.{Objects}
use Rattle.pmb_telling.specs.Tell.{telling_job}
use Rattle.pmb_in_memory.specs.Json.{telling}
use Rattle.pmb_in_memory.proofs.Works.{works_as}
use Rattle.pmb_in_memory.proofs.whole.json_under.Goals as goal

-- What `json` was given is of the profile: its devices, and the addresses that it ignores.
pub returns : goal.returns
returns g c = works_as g.W.Sink.told _ c.args.capture.now c.args.out.now c.tell_whole.new.writer
    (telling c.args.choice c.args.devices.now c.args.bus.now)
    (ap (λ (devices : List DeviceParts). telling_job (record {
      digits = c.args.choice.digits;
      start = c.args.choice.start;
      devices = c.args.devices.now;
      ignored = option_map (λ i. i.now) c.ignored.result;
      telling = Objects;
    }) devices c.args.choice.bad_words) c.profile.ensures.profile
    ∙ ap (λ (ignored : Option (List ℕ)). telling_job (record {
      digits = c.args.choice.digits;
      start = c.args.choice.start;
      devices = c.args.devices.now;
      ignored = ignored;
      telling = Objects;
    }) c.args.bus.now.devices c.args.choice.bad_words) c.ignored.ensures)
    c.tell_whole.result c.tell_whole.ensures
