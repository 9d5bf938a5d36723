-- The whole has the facts of the first piece and others that say what those of the second say, by `cut`, and
-- no other facts.
use Rattle.std.proofs.Common.{ℕ, inl, List, [], ◌++◌, length, refl, sym, ap, ◌∙◌}
use Rattle.pmb_facts.specs.Fact.{FactData, WhatData}
use Rattle.pmb_json_objects.specs.Counts.{nothing_counted}
use Rattle.pmb_unknown_start.specs.declared.start.Start.TheVariants.{AllKnown}
use Rattle.pmb_fact_stream.specs.Before.{at_first}
use Rattle.pmb_fact_stream.specs.Choice.{ChoiceData}
use Rattle.pmb_fact_stream.specs.Lost.{lost_in}
use Rattle.pmb_fact_stream.specs.Spans.{after_spans, event_place, event_time, past_in}
use Rattle.pmb_fact_stream.specs.declared.telling.Telling.TheVariants.{Objects}
use Rattle.pmb_telling.specs.Text.{FactsFrom}
use Rattle.pmb_json.specs.Cut.{AreFactsOf, said_in}
use Rattle.pmb_json.specs.Pieces.{OtherTimes}
use Rattle.pmb_json.proofs.Cut.{CutLaws, FirstPiece, cut, firsts_in}
use Rattle.pmb_json.proofs.Said.{SayTheSame, said_in_both, same_across, spans_say_anywhere}
use Rattle.pmb_json.proofs.laws.pieces_say_the_same.Goals as goal

pub returns-clause-said : goal.returns-clause-said
returns-clause-said c ignored profile after front back firsts others whole bus pieces =
    let laws : CutLaws profile = record {
      spans_move = λ n k events spans reads. c.spans_move.ensures profile n k events spans reads;
      spelled = c.texts_may_be_cut_between_words.ensures.spelled;
      bad_word = c.texts_may_be_cut_between_words.ensures.bad;
      joined = c.spans_may_be_cut.ensures.joined profile;
      whole = c.spans_may_be_cut.ensures.whole profile;
    } in
    let events = pieces.cut.events in
    let read = c.each_list_has_spans.ensures profile 0 events bus in
    let first : FirstPiece profile front = record { cut = pieces.cut; spans = read.0; reads = read.1 } in
    -- the facts of the first piece are those of its spans
    let lost = lost_in profile 0 events in
    let own : FactsFrom ignored profile after at_first front [] (firsts_in ignored lost first.spans front)
    (after_spans ignored nothing_counted first.spans) = record {
      events = events;
      spans = first.spans;
      spells = pieces.cut.spells;
      reads = first.reads;
      all = refl;
      behind = refl;
    } in
    let firsts_are = c.one_list_of_facts.ensures ignored profile after front pieces.first.bad [] firsts
    (firsts_in ignored lost first.spans front) pieces.first.counts (after_spans ignored nothing_counted first.spans) bus
    pieces.first.from_first own in
    -- those of the whole are these, as it has them, and others
    let both = cut ignored OtherTimes profile laws front first SayTheSame
    (same_across ignored OtherTimes (length events) (past_in lost first.spans)) (λ back k. inl refl) after
    pieces.second.bad back others pieces.second.counts pieces.second.from_first in
    let there = firsts_in ignored both.lost first.spans both.text in
    let whole_is = c.one_list_of_facts.ensures ignored profile after (front ++ back) pieces.both.bad both.bad whole
    (there ++ both.others) pieces.both.counts both.counts bus pieces.both.from_first both.from_first in
    let said_there = spans_say_anywhere ignored (event_place [] 0 both.text) (event_place [] 0 front)
    (event_time 0 both.text) (event_time 0 front) both.lost lost first.spans [] [] in
    ap said_in whole_is.0
    ∙ said_in_both there both.others
    ∙ ap (λ (l : List WhatData). l ++ said_in both.others) (said_there ∙ ap said_in (sym firsts_are.0))
    ∙ ap (λ (l : List WhatData). said_in firsts ++ l) (sym both.beside)

pub returns-clause-facts : goal.returns-clause-facts
returns-clause-facts c ignored profile after front back bus cut =
    let choice : ChoiceData = record {
      digits = 0;
      start = AllKnown;
      devices = [];
      ignored = ignored;
      telling = Objects;
    } in
    let facts_of : (bytes : List ℕ) → (facts : List FactData) × AreFactsOf ignored profile after bytes facts =
    λ (bytes : List ℕ).
    let told = (c.some_text_is_told.ensures choice profile after bytes bus).2 in
    (told.facts, record { bad = told.bad; counts = told.counts; from_first = told.from_first }) in
    let first = facts_of front in
    let second = facts_of back in
    let both = facts_of (front ++ back) in
    (first.0, second.0, both.0, record { cut = cut; first = first.1; second = second.1; both = both.1 })
