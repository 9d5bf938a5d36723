use Rattle.std.proofs.Common.{◌++◌, ◌∷◌, [], List, ℕ, append_assoc, filter, refl, subst, sym, ◌∙◌}
use Rattle.pmb_bus.specs.declared.event.Event.{Event}
use Rattle.pmb_bus.specs.Text.{Spells}
use Rattle.pmb_command.specs.Parts.{DeviceParts}
use Rattle.pmb_io.specs.Engines.{PutsOut}
use Rattle.pmb_io.specs.Outgoing.{PutsText}
use Rattle.pmb_io.proofs.Writing.{writes_then}
use Rattle.pmb_telling.specs.Kept.{WritesKept}
use Rattle.pmb_telling.specs.Text.{text_facts}
use Rattle.pmb_telling.specs.machine.Standing.{behind_bytes, teller_bad_words, teller_choice, teller_profile}
use Rattle.pmb_telling.specs.machine.Standing.{teller_tally}
use Rattle.pmb_telling.specs.machine.Standing.{HasKept, KeptIn, last_word_lines, open_word_fact}
use Rattle.pmb_telling.proofs.MetWords.{met, met_knows}
use Rattle.pmb_telling.proofs.OpenOthers.{OthersAreTold, tells_open}
use Rattle.pmb_telling.proofs.Reading.{ended_kept, ends_met, ends_told, keeps_all, on_ok_all, reads_end, told_by}
use Rattle.pmb_telling.proofs.Reading.{told_so_far, under}
use Rattle.pmb_telling.proofs.Steps.{behind_put, ends_in_word}
use Rattle.pmb_fact_stream.specs.Lines.{fact_lines, last_lines}
use Rattle.pmb_scan.specs.Scan.{TakesEnd, end_spans}
use Rattle.pmb_spans.specs.Spans.{moved_spans}
use Rattle.pmb_fact_stream.specs.Choice.{ChoiceData}
use Rattle.pmb_fact_stream.specs.Spans.{CountsTally, after_spans}
use Rattle.pmb_fact_stream.specs.Before.{past_of, with_reached}
use Rattle.pmb_fact_stream.specs.Lost.{lost_in}
use Rattle.pmb_fact_stream.specs.Others.{is_untold}
use Rattle.pmb_fact_stream.specs.Stream.{StreamKnows, StreamStands, kept_by, stream_profile, stream_tally, stream_time}
use Rattle.pmb_telling.proofs.engine.Teller.end_words.Goals as goal

-- the bytes spell events
pub returns-in-None-clause-ends : goal.returns-in-None-clause-ends
returns-in-None-clause-ends g c start bytes text stands =
    let choice = teller_choice start in
    let profile = teller_profile start in
    let old = c.args.self.now in
    let behind = stands.behind in
    let b = behind.b in
    let words = behind.holds in
    let kept = c.take_end.new.visitor in
    let stream = kept.stream in
    let taken = subst (λ end. PutsOut (λ more. TakesEnd
    (StreamStands g.K.Keeper.Keeps (kept_by words.begun behind.keeper) kept) words.reached end
    c.take_end.new.self (behind.put ++ more))
    (g.W.Sink.told c.args.writer.now).held c.args.waiting.now.items (g.W.Sink.told c.take_end.new.writer).held
    c.take_end.new.waiting.items) c.in-None.is
    (c.in_ok-take_end.ensures.takes (kept_by words.begun behind.keeper) words.reached behind.put words.scans
    words.told) in
    let ends = taken.holds in
    let there = ends.there in
    let told = ends.visited.told b words.begins in
    let last = end_spans there.standing c.truncation-end.result in
    let end = c.truncation-end.ensures.ends there ends.reads in
    let none = λ (n : ℕ) (front : List Event). c.truncation-end.ensures.none there n front ends.reads in
    let others : OthersAreTold = record {
      facts = c.others_are_told.ensures.facts;
      rest = c.others_are_told.ensures.rest;
      counts = c.others_are_told.ensures.counts;
      whole = c.others_are_told.ensures.whole;
    } in
    let tells = tells_open others choice.ignored there c.truncation-end.result none end in
    let counts = after_spans choice.ignored b.counts (there.spans ++ last) in
    let lines = λ (k : ChoiceData) (p : List DeviceParts).
    fact_lines k p (text_facts k.ignored b there.text (lost_in there.profile b.n there.events) (b.past ++ past_of there)
    (moved_spans b.n (filter (is_untold k.ignored) last)))
    ++ last_lines k p (after_spans k.ignored b.counts (there.spans ++ last)) in
    let said = lines choice profile in
    let spells = subst (λ (l : List ℕ). Spells l there.events) (sym ends.same_text) ends.spells in
    let puts = c.put_end.ensures.puts b there told.at spells end none in
    let reads = reads_end g.K.Keeper.Keeps choice profile behind.keeper b old.scan old.kept behind.used behind.put words
    taken.text said c.take_end.new.self kept last c.spans_move.ensures ends tells end refl in
    let so_told = told_by g.K.Keeper.Keeps choice profile behind.keeper b old.scan old.kept behind.used behind.put words
    there (behind.put ++ taken.text) kept told [] [] in
    let At = KeptIn g.K.Keeper.Keeps choice profile in
    let left = λ (k : ChoiceData). text_facts k.ignored b there.text (lost_in there.profile b.n there.events)
    (b.past ++ past_of there)
    (moved_spans b.n (filter (is_untold k.ignored) last)) in
    on_ok_all c.put_end.result (λ put tallied ended. record {
      text = taken.text ++ said;
      writes = writes_then _ _ _ _ _ _ taken.text said taken.writes
          (subst (λ (p : List DeviceParts). PutsText (g.W.Sink.told c.take_end.new.writer).held
          c.take_end.new.waiting.items (g.W.Sink.told c.put_end.new.writer).held c.put_end.new.waiting.items
          (lines choice p)) (told.same.profile ∙ words.same_profile)
          (subst (λ (k : ChoiceData). PutsText (g.W.Sink.told c.take_end.new.writer).held c.take_end.new.waiting.items
          (g.W.Sink.told c.put_end.new.writer).held c.put_end.new.waiting.items (lines k (stream_profile stream)))
          (told.same.choice ∙ words.same_choice) put));
      holds = ends_told g.K.Keeper.Keeps choice profile (teller_bad_words start) start.kept.keeper _ _ bytes text
          (taken.text ++ said) counts _ behind (reads.0, reads.1, reads.2)
          (subst (λ (k : ChoiceData). CountsTally (after_spans k.ignored b.counts (there.spans ++ last))
          (stream_tally c.put_end.new.self)) (told.same.choice ∙ words.same_choice) tallied)
          (keeps_all (At start.kept.keeper) (At behind.keeper) (At kept.keeper) (At c.put_end.new.keeper) behind.facts
          (told_so_far g.K.Keeper.Keeps choice profile behind.keeper b old.scan old.kept behind.used behind.put words
          there []) (left choice) reads.0 behind.kept so_told.kept
          (ended_kept g.K.Keeper.Keeps choice profile stream (told.same.choice ∙ words.same_choice)
          (told.same.profile ∙ words.same_profile) kept.keeper c.put_end.new.keeper left ended) reads.3);
    }) puts (c.put_end.ensures.tally b there told.at end none) (c.put_end.ensures.kept b there told.at spells end none)

-- they end in a word that is no token
pub returns-in-Some-clause-ends : goal.returns-in-Some-clause-ends
returns-in-Some-clause-ends g c start bytes text stands =
    let choice = teller_choice start in
    let profile = teller_profile start in
    let old = c.args.self.now in
    let behind = stands.behind in
    let b = behind.b in
    let words = behind.holds in
    let laws = c.bad_words_stand_there.ensures in
    let kept = c.take_end.new.visitor in
    let stream = kept.stream in
    let taken = subst (λ end. PutsOut (λ more. TakesEnd
    (StreamStands g.K.Keeper.Keeps (kept_by words.begun behind.keeper) kept) words.reached end
    c.take_end.new.self (behind.put ++ more))
    (g.W.Sink.told c.args.writer.now).held c.args.waiting.now.items (g.W.Sink.told c.take_end.new.writer).held
    c.take_end.new.waiting.items) c.in-Some.is
    (c.in_ok-take_end.ensures.takes (kept_by words.begun behind.keeper) words.reached behind.put words.scans
    words.told) in
    let ends = taken.holds in
    let there = words.reached in
    let told = ends.visited.told b words.begins in
    let last = end_spans there.standing c.truncation.result in
    let end = c.truncation.ensures.ends there ends.reads in
    let others : OthersAreTold = record {
      facts = c.others_are_told.ensures.facts;
      rest = c.others_are_told.ensures.rest;
      counts = c.others_are_told.ensures.counts;
      whole = c.others_are_told.ensures.whole;
    } in
    let tells = tells_open others choice.ignored there c.truncation.result
    (λ n front. c.truncation.ensures.none there n front ends.reads) end in
    let front = laws.begun there.text in
    let bad = met choice profile b there front.0 last in
    let is = ends_met g.K.Keeper.Keeps choice profile behind.keeper b old.scan old.kept behind.used behind.put words
    taken.text _ c.take_end.new.self kept last c.spans_move.ensures c.open_times_stay.ensures laws.begun
    laws.under_way ends tells
    end in
    let same = under g.K.Keeper.Keeps choice profile behind.keeper b old.scan old.kept behind.used behind.put words there
    (behind.put ++ taken.text) kept told in
    let knows = met_knows choice profile b there front.0 last stream tells end front.1 same
    (subst (λ (k : ChoiceData). StreamKnows (with_reached k.ignored b there) stream)
    (told.same.choice ∙ words.same_choice) told.at.knows) in
    let time = stream_time stream in
    let lines = λ (k : ChoiceData) (p : List DeviceParts).
    last_word_lines k p time (behind_bytes choice.ignored profile b bad) in
    let said = lines choice profile in
    let later = behind_put g.K.Keeper.Keeps choice profile (teller_bad_words start) _ _
    (λ keeper at used put. Unit {0}) bytes text taken.text
    behind tt in
    on_ok_all c.put_last_word.result (λ put after ended. record {
      text = taken.text ++ said;
      writes = writes_then _ _ _ _ _ _ taken.text said taken.writes
          (subst (λ (p : List DeviceParts). PutsText (g.W.Sink.told c.take_end.new.writer).held
          c.take_end.new.waiting.items (g.W.Sink.told c.put_last_word.new.writer).held
          c.put_last_word.new.waiting.items (lines choice p)) (told.same.profile ∙ words.same_profile)
          (subst (λ (k : ChoiceData). PutsText (g.W.Sink.told c.take_end.new.writer).held c.take_end.new.waiting.items
          (g.W.Sink.told c.put_last_word.new.writer).held c.put_last_word.new.waiting.items
          (lines k (stream_profile stream))) (told.same.choice ∙ words.same_choice) put));
      holds = subst (λ (l : List ℕ). WritesKept (HasKept g.K.Keeper.Keeps start c.put_last_word.new.self) choice
          profile (teller_bad_words start) bytes l (teller_tally c.put_last_word.new.self))
          (append_assoc text taken.text said)
          (ends_in_word g.K.Keeper.Keeps choice profile (teller_bad_words start) start.kept.keeper bytes
          (text ++ taken.text) _ later kept.keeper c.put_last_word.new.self.kept.keeper laws.opened laws.placed
          bad time said (teller_tally c.put_last_word.new.self) is.3 is.1 is.0 (laws.under_way there.text) is.2 refl
          after.tally
          (ended_kept g.K.Keeper.Keeps choice profile stream (told.same.choice ∙ words.same_choice)
          (told.same.profile ∙ words.same_profile) kept.keeper c.put_last_word.new.self.kept.keeper
          (λ k. open_word_fact time (behind_bytes choice.ignored profile b bad) ∷ []) ended));
    }) (c.put_last_word.ensures.puts (behind_bytes choice.ignored profile b bad) knows)
    (c.put_last_word.ensures.knows (behind_bytes choice.ignored profile b bad) knows)
    (c.put_last_word.ensures.kept (behind_bytes choice.ignored profile b bad) knows)
