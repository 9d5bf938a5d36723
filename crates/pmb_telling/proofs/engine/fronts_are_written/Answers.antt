use Rattle.std.proofs.Common.{◌≡◌, List, subst, sym}
use Rattle.pmb_bus.specs.declared.event.Event.{Event}
use Rattle.pmb_command.specs.Bus.{IsBus}
use Rattle.pmb_telling.specs.machine.Standing.{teller_choice, teller_profile}
use Rattle.pmb_telling.proofs.Endings.{ends_in}
use Rattle.pmb_telling.proofs.Fronts.{so_far_in}
use Rattle.pmb_telling.proofs.OpenOthers.{OthersAreTold, ends_open, leads_to_more}
use Rattle.pmb_reader.specs.Reader.{ReaderStandsAt, Standing}
use Rattle.pmb_scan.specs.Reached.{Reached}
use Rattle.pmb_scan.specs.Scan.{HasRead}
use Rattle.pmb_telling.proofs.engine.fronts_are_written.Goals as goal

pub returns : goal.returns
returns g c start now bytes text bus stands =
    let laws = c.scans_lead_on.ensures in
    let choice = teller_choice start in
    let profile = teller_profile start in
    let told : OthersAreTold = record {
      facts = c.others_are_told.ensures.facts;
      rest = c.others_are_told.ensures.rest;
      counts = c.others_are_told.ensures.counts;
      whole = c.others_are_told.ensures.whole;
    } in
    let ends = λ (reached : Reached) (same : reached.profile ≡ teller_profile start) (read : HasRead now.scan reached).
    let accepted = subst IsBus (sym same) bus in
    ends_open told choice.ignored reached read.reads
    (λ n events. c.each_list_has_spans.ensures reached.profile n events accepted)
    (λ n events a b x y. c.one_list_of_spans.ensures reached.profile n events a b accepted x y)
    (laws.ends now.scan reached accepted read) in
    let follows = λ (reached : Reached) (rest : List Event) (same : reached.profile ≡ teller_profile start)
    (read : HasRead now.scan reached).
    let accepted = subst IsBus (sym same) bus in
    leads_to_more choice.ignored reached rest read.reads
    (λ n events. c.each_list_has_spans.ensures reached.profile n events accepted)
    (λ n events at. c.some_packet_is_read.ensures reached.profile now.scan.reader n events
    (subst (λ (s : Standing). ReaderStandsAt reached.profile now.scan.reader s) at read.stands))
    (laws.follows now.scan reached rest accepted read) in
    let more = ends_in g.K.Keeper.Keeps now.inside start now bytes text c.spans_move.ensures
    c.spelled_has_no_bad_word.ensures
    c.ended_words_lead_on.ensures ends follows stands in record {
      rest = more.0;
      tally = more.1;
      so_far = so_far_in g.K.Keeper.Keeps now.inside start now bytes text c.spans_move.ensures ends stands;
      writes = more.2;
    }
