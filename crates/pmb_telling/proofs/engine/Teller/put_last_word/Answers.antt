use Rattle.std.proofs.Common.{◌∷◌, [], List, refl, subst}
use Rattle.std.proofs.lemmas.Result.{on_ok_weaker}
use Rattle.pmb_command.specs.Parts.{DeviceParts}
use Rattle.pmb_io.specs.Outgoing.{PutsText}
use Rattle.pmb_telling.specs.machine.Standing.{open_word_fact, teller_choice}
use Rattle.pmb_telling.proofs.Taking.{puts_both}
use Rattle.pmb_json_objects.specs.Counts.{after_bad_token}
use Rattle.pmb_fact_stream.specs.Choice.{ChoiceData}
use Rattle.pmb_fact_stream.specs.Lines.{fact_lines, last_lines}
use Rattle.pmb_fact_stream.specs.Stream.{stream_profile, stream_time}
use Rattle.pmb_telling.proofs.engine.Teller.put_last_word.Goals as goal

-- its line, and then those of the counts
pub returns-clause-puts : goal.returns-clause-puts
returns-clause-puts g c b knows =
    let said = c.in_ok-put_bad_word.ensures in
    let counts = after_bad_token b.counts in
    let choice = teller_choice c.args.self.now in
    let profile = stream_profile c.args.self.now.kept.stream in
    let word = open_word_fact (stream_time c.args.self.now.kept.stream) b in
    on_ok_weaker c.put_counts.result (λ last.
    puts_both _ _ _ _ _ _ (fact_lines choice profile (word ∷ [])) (last_lines choice profile counts) _
    (said.puts b knows)
    (subst (λ (p : List DeviceParts). PutsText (g.W.Sink.told c.put_bad_word.new.writer).held
    c.put_bad_word.new.waiting.items (g.W.Sink.told c.put_counts.new.writer).held c.put_counts.new.waiting.items
    (last_lines choice p counts)) said.same.profile
    (subst (λ (k : ChoiceData). PutsText (g.W.Sink.told c.put_bad_word.new.writer).held c.put_bad_word.new.waiting.items
    (g.W.Sink.told c.put_counts.new.writer).held c.put_counts.new.waiting.items
    (last_lines k (stream_profile c.put_bad_word.new.self) counts)) said.same.choice last))
    refl)
    (c.put_counts.ensures.puts (record b { counts = counts }) (said.knows b knows))

pub returns-clause-kept : goal.returns-clause-kept
returns-clause-kept g c b knows =
    let said = c.in_ok-put_bad_word.ensures in
    on_ok_weaker c.put_counts.result (λ last. said.kept b knows)
    (c.put_counts.ensures.puts (record b { counts = after_bad_token b.counts }) (said.knows b knows))
