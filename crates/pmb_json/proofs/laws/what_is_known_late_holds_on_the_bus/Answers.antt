-- What went before allows each state that is reached (`reach`), and so what is known is so by the law that it is
-- certain; PHASE was told last (`phase_is`).
use Rattle.std.proofs.Common.{◌++◌, ap, ◌∙◌, sym}
use Rattle.std.specs.Option.{option_and_then}
use Rattle.pmb_unknown_start.specs.Known.{known, mode_of}
use Rattle.pmb_unknown_start.specs.declared.start.Start.TheVariants.{Late}
use Rattle.pmb_fact_stream.specs.Lost.{lost_in}
use Rattle.pmb_fact_stream.specs.Spans.{past_in}
use Rattle.pmb_fact_stream.proofs.Spans.{facts_append}
use Rattle.pmb_json.specs.OnBus.{past_of_all}
use Rattle.pmb_json.proofs.OnBus.{phase_is, reach}
use Rattle.pmb_json.proofs.laws.what_is_known_late_holds_on_the_bus.Goals as goal

pub returns-clause-page : goal.returns-clause-page
returns-clause-page c profile addr device first mid last stretches n events spans number bus found state all reaches is =
    let past = past_of_all profile stretches ++ past_in (lost_in profile n events) spans in
    c.what_is_known_is_certain.ensures.page Late device past number
    (sym (ap (option_and_then (λ d. (known Late d past).page)) found) ∙ is) first.paging last.paging
    (state.page, state.modes) (reach profile bus addr device found first mid last stretches n events spans state all reaches)

pub returns-clause-mode : goal.returns-clause-mode
returns-clause-mode c profile addr device first mid last stretches n events spans number bus found state all reaches is =
    let past = past_of_all profile stretches ++ past_in (lost_in profile n events) spans in
    c.what_is_known_is_certain.ensures.mode Late device past number
    (sym (ap (mode_of (λ d. known Late d past)) found) ∙ is) first.paging last.paging
    (state.page, state.modes) (reach profile bus addr device found first mid last stretches n events spans state all reaches)

pub returns-clause-no_mode : goal.returns-clause-no_mode
returns-clause-no_mode c profile addr device first mid last stretches n events spans bus found state all reaches is =
    let past = past_of_all profile stretches ++ past_in (lost_in profile n events) spans in
    c.what_is_known_is_certain.ensures.no_mode Late device past
    (sym (ap (mode_of (λ d. known Late d past)) found) ∙ is) first.paging last.paging
    (state.page, state.modes) (reach profile bus addr device found first mid last stretches n events spans state all reaches)

pub returns-clause-phase : goal.returns-clause-phase
returns-clause-phase c profile addr device first mid last stretches n events spans number bus found state all reaches is =
    phase_is profile bus addr device found first mid last stretches n events spans number all reaches is

pub returns-clause-facts : goal.returns-clause-facts
returns-clause-facts c ignored place times profile stretches n events spans others =
    facts_append ignored place times (lost_in profile n events) (past_of_all profile stretches) spans others
