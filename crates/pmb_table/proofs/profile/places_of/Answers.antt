use Rattle.std.proofs.Common.{◌≡◌, ◌<◌, ◌≤◌, ◌∙◌, Some, arith, length, refl, subst}
use Rattle.std.specs.Prelude.{slice_get}
use Rattle.std.proofs.lemmas.List.{length-set, take_all}
use Rattle.std.proofs.lemmas.Option.{slice_get_read}
use Rattle.pmb_table.specs.machine.Places.{ArePlaces}
use Rattle.pmb_table.specs.machine.Profile.{addresses_of}
use Rattle.pmb_table.proofs.DeviceSteps.{places-next}
use Rattle.pmb_table.proofs.profile.places_of.Goals as goal

pub loop-i-preserved : goal.loop-i-preserved
loop-i-preserved c =
    let devices = c.args.devices.now in
    let d = c.index-devices-i.result in
    let within : c.loop-i.i < length devices = omega arith in
    let here : slice_get devices c.loop-i.i ≡ Some d =
    slice_get_read devices (length devices) c.loop-i.i d refl within c.index-devices-i.is in
    let in_places : d.address < length c.loop-i.places = omega arith in
    rw c.address-address.ensures.address record {
      places = places-next devices c.loop-i.places c.loop-i.i d c.requires.own_addresses here in_places
          c.loop-i.invariant.places;
      count = length-set c.loop-i.places d.address c.loop-i.i ∙ c.loop-i.invariant.count;
    }

pub returns : goal.returns
returns c =
    let all : length c.args.devices.now ≤ c.loop-i.i = omega arith in
    subst (λ ds. ArePlaces c.loop-i.places (addresses_of ds)) (take_all c.loop-i.i c.args.devices.now all)
    c.loop-i.invariant.places
