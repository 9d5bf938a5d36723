use Rattle.std.proofs.Common.{◌∙◌, ◌≤◌, List, ap, arith, length, map, refl, sym, take, take_all}
use Rattle.std.specs.List.{flat_map}
use Rattle.std.proofs.lemmas.List.{map-append}
use Rattle.pmb_keys.specs.CommandView.{command_parts}
use Rattle.pmb_observed.specs.declared.spot.PhaseKey.{PhaseKey}
use Rattle.pmb_observed.specs.Observing.{observations}
use Rattle.pmb_observed.specs.Spot.{phase_keys}
use Rattle.pmb_observed.specs.Told.{spot_bits}
use Rattle.pmb_stats_objects.specs.Pages.{bit_item}
use Rattle.pmb_stats_objects.proofs.Lists.{one_more_at}
use Rattle.pmb_stats_objects.proofs.Phases.{no_phases, phases_are}
use Rattle.pmb_stats_objects.proofs.Putting.{both_put, called_items, no_ok, none_put}
use Rattle.pmb_stats_objects.proofs.pages.DevicePages.put_code_bits.Goals as goal

-- the device has no such command
pub returns-in_default-clause-puts : goal.returns-in_default-clause-puts
returns-in_default-clause-puts g c = λ setting facts stands.
    let self = c.args.self.now in
    let item = spot_bits setting.profile (observations setting facts) self.addr c.args.page c.args.code in
    called_items (sym (ap (λ (phases : List PhaseKey). map bit_item (flat_map item phases))
    (no_phases setting.profile self.profile.now self.addr c.args.code stands.device c.in_default.ensures)))
    (none_put c.args.place.now (c.texts_add_up.ensures.nothing _ _))

pub loop-index-init : goal.loop-index-init
loop-index-init g c = record {
  put = λ setting facts stands. none_put c.args.place.now (c.texts_add_up.ensures.nothing _ _);
  failures = refl;
}

pub returns-in_err-put_bits_at-clause-puts : goal.returns-in_err-put_bits_at-clause-puts
returns-in_err-put_bits_at-clause-puts g c = λ setting facts stands. no_ok _ c.from_residual.result
    c.from_residual.ensures.0

pub loop-index-preserved : goal.loop-index-preserved
loop-index-preserved g c = record {
  put = λ setting facts stands.
      let self = c.args.self.now in
      let item = spot_bits setting.profile (observations setting facts) self.addr c.args.page c.args.code in
      let phases = phase_keys c.phases_of-phases.result in
      let i = c.loop-index.index in
      let phase = c.phase_at.result in
      called_items (sym (map-append bit_item (flat_map item (take i phases)) (item phase))
      ∙ ap (map bit_item) (one_more_at item phases i phase c.phase_at.ensures))
      (both_put c.texts_add_up.ensures.both (c.loop-index.invariant.put setting facts stands)
      (c.in_ok-put_bits_at.ensures.puts setting facts stands));
  failures = c.in_ok-put_bits_at.ensures.failed ∙ c.loop-index.invariant.failures;
}

pub returns-clause-puts : goal.returns-clause-puts
returns-clause-puts g c = λ setting facts stands.
    let self = c.args.self.now in
    let item = spot_bits setting.profile (observations setting facts) self.addr c.args.page c.args.code in
    let phases = phase_keys c.phases_of-phases.result in
    let all = phases_are setting.profile self.profile.now self.addr c.args.code stands.device
    (command_parts c.in-Some.command.now) c.phases_of-phases.result c.in-Some.ensures c.phases_of-phases.ensures in
    let past : length phases ≤ c.loop-index.index = omega (
      arith,
      c.phase_count-index-end.ensures.count,
      c.loop-index-test.false,
    ) in
    called_items (ap (λ (these : List PhaseKey). map bit_item (flat_map item these))
    (take_all c.loop-index.index phases past ∙ sym all)) (c.loop-index.invariant.put setting facts stands)
