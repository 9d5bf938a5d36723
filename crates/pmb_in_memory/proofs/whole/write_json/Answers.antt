use Rattle.pmb_in_memory.specs.Json.{telling}
use Rattle.pmb_in_memory.proofs.Works.{works_on}
use Rattle.pmb_in_memory.proofs.whole.write_json.Goals as goal

-- the objects were written under the profile that was read, if one was
pub returns : goal.returns
returns g c =
    works_on g.W.Sink.told (telling c.args.choice c.args.devices.now) c.args.profile.now c.args.capture.now
    c.args.out.now c.json_if.new.out c.read_profile-read.result c.read_profile-read.ensures c.json_if.result
    c.json_if.ensures
