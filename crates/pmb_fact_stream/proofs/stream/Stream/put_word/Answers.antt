-- The word is told as far as it is kept.
use Rattle.std.proofs.Common.{◌≡◌, ℕ, List, [], ◌∷◌, take, ap, refl, subst, ◌∙◌}
use Rattle.std.proofs.lemmas.Result.{on_ok_weaker}
use Rattle.pmb_bus.specs.Text.{open_word}
use Rattle.pmb_facts.specs.Fact as fact
use Rattle.pmb_io.specs.Count.{capped}
use Rattle.pmb_io.specs.Outgoing.{PutsText}
use Rattle.pmb_json_objects.specs.Head.{Head, head_of}
use Rattle.pmb_places.specs.declared.places.Place.{Place}
use Rattle.pmb_places.specs.Places.{place_of_last_word}
use Rattle.pmb_keeper.specs.Setting.{fact_seen}
use Rattle.pmb_fact_stream.specs.declared.stream.Stream.{Stream}
use Rattle.pmb_fact_stream.specs.Before.{Before}
use Rattle.pmb_fact_stream.specs.Spans.{bad_token_fact}
use Rattle.pmb_fact_stream.specs.Stream.{KeepsFacts, StreamKnows, stream_lines, stream_time}
use Rattle.pmb_fact_stream.specs.machine.Knowing.{stream_seen}
use Rattle.pmb_fact_stream.proofs.Adding.{head_as}
use Rattle.pmb_fact_stream.proofs.stream.Stream.put_word.Goals as goal

-- the word and its place are those of what was read
is_word : (stream : Stream) (b : Before) (head : Head) (word : Place) (bytes : List ℕ) → StreamKnows b stream
    → head ≡ head_as stream.count word (stream_time stream) → word ≡ place_of_last_word b.read
    → bytes ≡ take 32 (open_word b.read)
    → fact_seen (stream_seen stream b) head (fact.BadToken bytes) ∷ []
    ≡ bad_token_fact (head_as (capped b.n) (place_of_last_word b.read) (stream_time stream)) (open_word b.read) ∷ []
is_word stream b head word bytes knows begins placed told =
    ap (λ (h : Head). fact_seen (stream_seen stream b) h (fact.BadToken bytes) ∷ [])
    (begins ∙ ap (λ (at : ℕ). head_as at word (stream_time stream)) knows.count
    ∙ ap (λ (place : Place). head_as (capped b.n) place (stream_time stream)) placed)
    ∙ ap (λ (l : List ℕ). fact_seen (stream_seen stream b) (head_as (capped b.n) (place_of_last_word b.read)
    (stream_time stream)) (fact.BadToken l) ∷ []) told

pub returns-clause-puts : goal.returns-clause-puts
returns-clause-puts g c b knows =
    let stream = c.args.self.now in
    on_ok_weaker c.put_fact.result (λ puts.
    subst (λ t. PutsText (g.W.Sink.told c.args.writer.now).held c.args.waiting.now.items
    (g.W.Sink.told c.put_fact.new.writer).held c.put_fact.new.waiting.items t)
    ((puts.holds b knows).lines
    ∙ ap (stream_lines stream) (is_word stream b (head_of c.head_at-head.result) c.word.result c.bytes.result.now knows
    c.head_at-head.ensures (c.word.ensures b.read knows.places) (c.bytes.ensures.word b.read knows.word)))
    puts.writes)
    (c.put_fact.ensures.puts b (fact.BadToken c.bytes.result.now) knows refl)

pub returns-clause-kept : goal.returns-clause-kept
returns-clause-kept g c b knows =
    let stream = c.args.self.now in
    on_ok_weaker c.put_fact.result (λ puts.
    subst (KeepsFacts g.K.Keeper.Keeps stream c.args.keeper.now c.put_fact.new.keeper)
    (is_word stream b (head_of c.head_at-head.result) c.word.result c.bytes.result.now knows
    c.head_at-head.ensures (c.word.ensures b.read knows.places) (c.bytes.ensures.word b.read knows.word))
    (puts.holds b knows).kept)
    (c.put_fact.ensures.puts b (fact.BadToken c.bytes.result.now) knows refl)
