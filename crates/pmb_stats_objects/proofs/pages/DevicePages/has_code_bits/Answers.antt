use Rattle.std.proofs.Common.{◌∙◌, ◌≤◌, ◌||◌, Bool, List, ap, arith, length, refl, sym, take, take_all}
use Rattle.std.specs.List.{flat_map}
use Rattle.pmb_keys.specs.CommandView.{command_parts}
use Rattle.pmb_observed.specs.declared.spot.PhaseKey.{PhaseKey}
use Rattle.pmb_observed.specs.Observing.{observations}
use Rattle.pmb_observed.specs.Spot.{phase_keys}
use Rattle.pmb_observed.specs.Told.{spot_bits}
use Rattle.pmb_stats_objects.specs.machine.Written.{has_any}
use Rattle.pmb_stats_objects.proofs.Lists.{any_in, any_of_both, one_more_at}
use Rattle.pmb_stats_objects.proofs.Phases.{no_phases, phases_are}
use Rattle.pmb_stats_objects.proofs.pages.DevicePages.has_code_bits.Goals as goal

pub returns-in_default : goal.returns-in_default
returns-in_default c = λ setting facts stands.
    let self = c.args.self.now in
    let item = spot_bits setting.profile (observations setting facts) self.addr c.args.page c.args.code in
    sym (ap (λ (phases : List PhaseKey). has_any (flat_map item phases))
    (no_phases setting.profile self.profile.now self.addr c.args.code stands.device c.in_default.ensures))

pub loop-index-init : goal.loop-index-init
loop-index-init c = record { none = λ setting facts stands. refl }

pub returns-then-has_bits_at : goal.returns-then-has_bits_at
returns-then-has_bits_at c = λ setting facts stands.
    let self = c.args.self.now in
    let item = spot_bits setting.profile (observations setting facts) self.addr c.args.page c.args.code in
    let phases = phase_keys c.phases_of-phases.result in
    let all = phases_are setting.profile self.profile.now self.addr c.args.code stands.device
    (command_parts c.in-Some.command.now) c.phases_of-phases.result c.in-Some.ensures c.phases_of-phases.ensures in
    let some = any_in item phases c.loop-index.index c.phase_at.result c.phase_at.ensures
    (sym (c.has_bits_at.ensures setting facts stands) ∙ c.if-has_bits_at.true) in
    sym (ap (λ (phases : List PhaseKey). has_any (flat_map item phases)) all ∙ some)

pub loop-index-preserved : goal.loop-index-preserved
loop-index-preserved c = record {
  none = λ setting facts stands.
      let self = c.args.self.now in
      let item = spot_bits setting.profile (observations setting facts) self.addr c.args.page c.args.code in
      let phases = phase_keys c.phases_of-phases.result in
      let i = c.loop-index.index in
      let phase = c.phase_at.result in
      sym (ap has_any (one_more_at item phases i phase c.phase_at.ensures))
      ∙ any_of_both (flat_map item (take i phases)) (item phase)
      ∙ ap (λ (any : Bool). any || has_any (item phase)) (c.loop-index.invariant.none setting facts stands)
      ∙ sym (c.has_bits_at.ensures setting facts stands) ∙ c.if-has_bits_at.false;
}

pub returns : goal.returns
returns c = λ setting facts stands.
    let self = c.args.self.now in
    let item = spot_bits setting.profile (observations setting facts) self.addr c.args.page c.args.code in
    let phases = phase_keys c.phases_of-phases.result in
    let all = phases_are setting.profile self.profile.now self.addr c.args.code stands.device
    (command_parts c.in-Some.command.now) c.phases_of-phases.result c.in-Some.ensures c.phases_of-phases.ensures in
    let past : length phases ≤ c.loop-index.index = omega (
      arith,
      c.phase_count-index-end.ensures.count,
      c.loop-index-test.false,
    ) in
    sym (ap (λ (these : List PhaseKey). has_any (flat_map item these))
    (all ∙ sym (take_all c.loop-index.index phases past))
    ∙ c.loop-index.invariant.none setting facts stands)
