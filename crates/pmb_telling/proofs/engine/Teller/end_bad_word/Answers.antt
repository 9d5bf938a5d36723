use Rattle.std.proofs.Common.{◌++◌, ◌∷◌, [], List, refl, subst, sym, ◌∙◌}
use Rattle.pmb_command.specs.Parts.{DeviceParts}
use Rattle.pmb_io.specs.Outgoing.{PutsText}
use Rattle.pmb_telling.specs.declared.engine.EngineState.TheVariants as inside
use Rattle.pmb_telling.specs.declared.engine.Teller.{Teller}
use Rattle.pmb_telling.specs.machine.Standing.{behind_bytes, teller_bad_words, teller_choice, teller_profile}
use Rattle.pmb_telling.specs.machine.Standing.{teller_tally}
use Rattle.pmb_telling.specs.machine.Standing.{last_word_lines, open_word_fact}
use Rattle.pmb_fact_stream.specs.Stream.{kept_by}
use Rattle.pmb_telling.proofs.Steps.{drops_line, made_kept, made_on, stops_told}
use Rattle.pmb_facts.specs.Fact.{FactData}
use Rattle.pmb_fact_stream.specs.Lines.{fact_lines}
use Rattle.pmb_fact_stream.specs.Choice.{ChoiceData}
use Rattle.pmb_fact_stream.specs.Stream.{stream_profile, stream_time}
use Rattle.pmb_telling.proofs.engine.Teller.end_bad_word.Goals as goal

-- reading ends there
pub returns-in_ok-put_last_word-in-End-clause-takes : goal.returns-in_ok-put_last_word-in-End-clause-takes
returns-in_ok-put_last_word-in-End-clause-takes g c start given text stands =
    let choice = teller_choice start in
    let profile = teller_profile start in
    let laws = c.bad_words_stand_there.ensures in
    let behind = stands.behind in
    let b = behind_bytes choice.ignored profile behind.b behind.holds.word.bad in
    let knows = behind.holds.word.knows in
    let put = c.in_ok-put_last_word-in-End.ensures in
    let stream = c.args.self.now.kept.stream in
    let lines = λ (k : ChoiceData) (p : List DeviceParts). last_word_lines k p (stream_time stream) b in
    let said = lines choice (teller_profile start) in record {
      text = said;
      writes = subst (λ (p : List DeviceParts). PutsText (g.W.Sink.told c.args.writer.now).held
          c.args.waiting.now.items (g.W.Sink.told c.put_last_word.new.writer).held
          c.put_last_word.new.waiting.items (lines choice p)) stands.made.reads
          (subst (λ (k : ChoiceData). PutsText (g.W.Sink.told c.args.writer.now).held c.args.waiting.now.items
          (g.W.Sink.told c.put_last_word.new.writer).held c.put_last_word.new.waiting.items
          (lines k (stream_profile stream))) stands.made.choice (put.puts b knows));
      holds = stops_told g.K.Keeper.Keeps choice (teller_profile start) (teller_bad_words start) start.kept.keeper given
          text laws.opened laws.placed c.args.rest.now c.args.self.now.kept behind c.put_last_word.new.self.kept.keeper
          said (teller_tally c.put_last_word.new.self)
          (sym stands.made.bad_words ∙ c.in-End.is) refl (put.knows b knows).tally
          (made_kept g.K.Keeper.Keeps start c.args.self.now stands.made _ _ _ (put.kept b knows));
    }

-- or goes on after its line
pub returns-in_ok-put_bad_word-in-Continue-clause-takes : goal.returns-in_ok-put_bad_word-in-Continue-clause-takes
returns-in_ok-put_bad_word-in-Continue-clause-takes g c start given text stands =
    let choice = teller_choice start in
    let profile = teller_profile start in
    let laws = c.bad_words_stand_there.ensures in
    let old = c.args.self.now in
    let behind = stands.behind in
    let b = behind_bytes choice.ignored profile behind.b behind.holds.word.bad in
    let knows = behind.holds.word.knows in
    let put = c.in_ok-put_bad_word-in-Continue.ensures in
    let word : List FactData = open_word_fact (stream_time old.kept.stream) b ∷ [] in
    let said = fact_lines choice profile word in
    let new : Teller g.row.K.Denot = record old {
      kept = kept_by c.put_bad_word.new.self c.put_bad_word.new.keeper;
      inside = inside.BadLine;
    } in record {
      text = said;
      writes = subst (λ (p : List DeviceParts). PutsText (g.W.Sink.told c.args.writer.now).held
          c.args.waiting.now.items (g.W.Sink.told c.put_bad_word.new.writer).held
          c.put_bad_word.new.waiting.items (fact_lines choice p word)) stands.made.reads
          (subst (λ (k : ChoiceData). PutsText (g.W.Sink.told c.args.writer.now).held c.args.waiting.now.items
          (g.W.Sink.told c.put_bad_word.new.writer).held c.put_bad_word.new.waiting.items
          (fact_lines k (stream_profile old.kept.stream) word)) stands.made.choice (put.puts b knows));
      holds = c.drop_line.ensures.takes start given (text ++ said) refl (
        sym stands.made.bad_words ∙ c.in-Continue.is,
        record {
          made = made_on start old new stands.made refl refl put.same;
          behind = drops_line g.K.Keeper.Keeps choice profile (teller_bad_words start) start.kept.keeper given text
              laws.opened laws.placed c.args.rest.now old.kept behind said new.kept refl
              (made_kept g.K.Keeper.Keeps start old stands.made _ _ _ (put.kept b knows)) (put.knows b knows);
        },
      );
    }
