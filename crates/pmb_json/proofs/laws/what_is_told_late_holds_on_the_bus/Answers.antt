-- What is known late holds in each state that the bus may have brought a device to, and each object goes by what is
-- known.
use Rattle.std.proofs.Common.{List, ◌++◌, sym, subst}
use Rattle.pmb_unknown_start.specs.Past.{PastData}
use Rattle.pmb_unknown_start.specs.declared.start.Start.{Start}
use Rattle.pmb_unknown_start.specs.declared.start.Start.TheVariants.{AllKnown, Late}
use Rattle.pmb_fact_stream.specs.Lost.{lost_in}
use Rattle.pmb_fact_stream.specs.Spans.{past_in}
use Rattle.pmb_facts.specs.Object.{object_of}
use Rattle.pmb_json.specs.OnBus.{past_of_all}
use Rattle.pmb_json.specs.Pieces.{SameTimes, SaysNoMore}
use Rattle.pmb_json.proofs.Pieces.{object_said}
use Rattle.pmb_json.proofs.ToldOnBus.{all_agree, its_own}
use Rattle.pmb_json.proofs.laws.what_is_told_late_holds_on_the_bus.Goals as goal

pub returns : goal.returns
returns c choice profile states stretches n events spans shown head what is_late bus each =
    let past : List PastData = past_of_all profile stretches ++ past_in (lost_in profile n events) spans in
    let on_bus = c.what_is_known_late_holds_on_the_bus.ensures in
    subst (λ (start : Start). SaysNoMore SameTimes
    (object_of (record { digits = choice.digits; start = start; profile = profile; before = past }) head what)
    (object_of (record { digits = choice.digits; start = AllKnown; profile = profile; before = shown }) head what))
    (sym is_late)
    (object_said SameTimes choice.digits profile Late AllKnown past shown
    (all_agree profile past shown states (λ addr device found.
    let is = (each addr device found).0 in
    let last = states device in
    record {
      page_holds = λ number known. on_bus.page profile addr device is.first is.mid last stretches n events spans
          number bus found is.begins is.before is.last known;
      mode_holds = λ number known. on_bus.mode profile addr device is.first is.mid last stretches n events spans
          number bus found is.begins is.before is.last known;
      none_holds = λ known. on_bus.no_mode profile addr device is.first is.mid last stretches n events spans
          bus found is.begins is.before is.last known;
      phase_holds = λ number known. on_bus.phase profile addr device is.first is.mid last stretches n events spans
          number bus found is.begins is.before is.last known;
      shown = (each addr device found).1;
    })) head head (its_own head.time) what)
