use Rattle.std.proofs.Common.{List, [], refl, subst}
use Rattle.std.proofs.lemmas.Result.{on_ok_weaker}
use Rattle.pmb_io.specs.Outgoing.{PutsText}
use Rattle.pmb_command.specs.Parts.{DeviceParts}
use Rattle.pmb_telling.specs.declared.engine.EngineState.{EngineState}
use Rattle.pmb_telling.specs.machine.Standing.{StandsIn, behind_bytes, behind_fact, teller_bad_words, teller_choice}
use Rattle.pmb_telling.specs.machine.Standing.{last_word_lines, teller_profile, teller_tally}
use Rattle.pmb_telling.proofs.Fronts.{bad_line_now}
use Rattle.pmb_telling.proofs.Reading.{on_ok_all}
use Rattle.pmb_telling.proofs.Steps.{ends_in_line, ends_in_word, made_kept}
use Rattle.pmb_telling.proofs.Words.{solid_no_lf}
use Rattle.pmb_fact_stream.specs.Lines.{last_lines}
use Rattle.pmb_fact_stream.specs.Choice.{ChoiceData}
use Rattle.pmb_fact_stream.specs.Stream.{stream_profile, stream_time}
use Rattle.pmb_telling.proofs.engine.TellerEngine.end.Goals as goal

pub returns-in-Words-clause-ends : goal.returns-in-Words-clause-ends
returns-in-Words-clause-ends g c start bytes text stands =
    c.end_words.ensures.ends start bytes text
    (subst (λ (i : EngineState). StandsIn g.K.Keeper.Keeps i start c.args.self.now bytes text) c.in-Words.is stands)

-- in a word that is no token
pub returns-in-BadWord-clause-ends : goal.returns-in-BadWord-clause-ends
returns-in-BadWord-clause-ends g c start bytes text stands =
    let choice = teller_choice start in
    let profile = teller_profile start in
    let word = subst (λ (i : EngineState). StandsIn g.K.Keeper.Keeps i start c.args.self.now bytes text)
    c.in-BadWord.is stands in
    let laws = c.bad_words_stand_there.ensures in
    let behind = word.behind in
    let has = behind.holds.word in
    let b = behind_bytes choice.ignored profile behind.b has.bad in
    let kept = c.args.self.now.kept in
    let stream = kept.stream in
    let lines = λ (k : ChoiceData) (p : List DeviceParts). last_word_lines k p (stream_time stream) b in
    let said = lines choice profile in
    on_ok_all c.put_last_word.result (λ put after ended. record {
      text = said;
      writes = subst (λ (p : List DeviceParts). PutsText (g.W.Sink.told c.args.writer.now).held
          c.args.waiting.now.items (g.W.Sink.told c.put_last_word.new.writer).held
          c.put_last_word.new.waiting.items (lines choice p)) word.made.reads
          (subst (λ (k : ChoiceData). PutsText (g.W.Sink.told c.args.writer.now).held c.args.waiting.now.items
          (g.W.Sink.told c.put_last_word.new.writer).held c.put_last_word.new.waiting.items
          (lines k (stream_profile stream))) word.made.choice put);
      holds = ends_in_word g.K.Keeper.Keeps choice profile (teller_bad_words start) start.kept.keeper bytes text _
          behind
          kept.keeper c.put_last_word.new.self.kept.keeper laws.opened laws.placed has.bad
          (stream_time stream) said (teller_tally c.put_last_word.new.self) has.time has.is_text
          (bad_line_now choice profile behind.b has.bad has.so_far (solid_no_lf has.bad.line has.under_way))
          has.under_way (has.told []) refl after.tally
          (made_kept g.K.Keeper.Keeps start c.args.self.now word.made _ _ _ ended);
    }) (c.put_last_word.ensures.puts b has.knows) (c.put_last_word.ensures.knows b has.knows)
    (c.put_last_word.ensures.kept b has.knows)

-- in the rest of its line
pub returns-in-BadLine-clause-ends : goal.returns-in-BadLine-clause-ends
returns-in-BadLine-clause-ends g c start bytes text stands =
    let choice = teller_choice start in
    let profile = teller_profile start in
    let line = subst (λ (i : EngineState). StandsIn g.K.Keeper.Keeps i start c.args.self.now bytes text)
    c.in-BadLine.is stands in
    let behind = line.1.behind in
    let has = behind.holds in
    let b = behind_fact choice.ignored profile behind.b has.bad in
    let kept = c.args.self.now.kept in
    let stream = kept.stream in
    let lines = λ (k : ChoiceData) (p : List DeviceParts). last_lines k p b.counts in
    let said = lines choice profile in
    on_ok_weaker c.put_counts.result (λ put. record {
      text = said;
      writes = subst (λ (p : List DeviceParts). PutsText (g.W.Sink.told c.args.writer.now).held
          c.args.waiting.now.items (g.W.Sink.told c.put_counts.new.writer).held c.put_counts.new.waiting.items
          (lines choice p)) line.1.made.reads
          (subst (λ (k : ChoiceData). PutsText (g.W.Sink.told c.args.writer.now).held c.args.waiting.now.items
          (g.W.Sink.told c.put_counts.new.writer).held c.put_counts.new.waiting.items
          (lines k (stream_profile stream))) line.1.made.choice put);
      holds = ends_in_line g.K.Keeper.Keeps choice profile (teller_bad_words start) start.kept.keeper bytes text _
          behind
          kept.keeper kept.keeper has.bad said
          (teller_tally c.args.self.now) has.is_text
          (bad_line_now choice profile behind.b has.bad has.so_far has.in_line)
          (has.told [] [] [] refl tt) refl has.knows.tally;
    }) (c.put_counts.ensures.puts b has.knows)
