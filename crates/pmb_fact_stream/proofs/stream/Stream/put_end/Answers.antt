use Rattle.std.proofs.Common.{OnOk, [], ◌∷◌, ◌++◌, None, ap, sym, subst, ◌∙◌}
use Rattle.std.proofs.lemmas.Result.{on_ok_weaker}
use Rattle.pmb_io.specs.Count.{capped}
use Rattle.pmb_io.specs.Outgoing.{PutsText}
use Rattle.pmb_json_objects.specs.Counts.{after_refusal}
use Rattle.pmb_fact_stream.specs.Spans.{refusal_fact}
use Rattle.pmb_partial_packet.specs.PartialPacket.{said_device}
use Rattle.pmb_scan.specs.Scan.{Truncates, end_spans}
use Rattle.pmb_transaction.specs.Capture.{Viable}
use Rattle.pmb_fact_stream.specs.Before.{with_reached}
use Rattle.pmb_fact_stream.specs.Spans.{CountsTally, IsNoneOutside, after_spans}
use Rattle.pmb_fact_stream.specs.Stream.{KeepsFacts, stream_choice, stream_last_lines, stream_lines, stream_profile}
use Rattle.pmb_fact_stream.specs.Stream.{stream_time}
use Rattle.pmb_fact_stream.proofs.Ends.{counts_at_end, counts_at_no_end, counts_in_other, ends_inside, none_at_end}
use Rattle.pmb_fact_stream.proofs.Ends.{facts_at_end, no_end, none_in_other, one_at_end, other_at_end}
use Rattle.pmb_fact_stream.proofs.Ends.{placed_end_fact, text_at_end}
use Rattle.pmb_fact_stream.proofs.Keeping.{keeps_none}
use Rattle.pmb_fact_stream.proofs.Fronts.{is_no_other_front, is_other_front}
use Rattle.pmb_io.proofs.Writing.{writes_then}
use Rattle.pmb_fact_stream.proofs.Adding.{head_as}
use Rattle.pmb_fact_stream.proofs.Told.{count_under_way, front_under_way, said_under_way, same_last_lines, time_at_end}
use Rattle.pmb_fact_stream.proofs.stream.Stream.put_end.Goals as goal

-- between two packets
pub returns-in-None-clause-puts : goal.returns-in-None-clause-puts
returns-in-None-clause-puts g c b reached stands spells end outside =
    let stream = c.args.self.now in
    let choice = stream_choice stream in
    let none = subst (λ e. IsNoneOutside reached e) c.in-None.is outside in
    subst (λ e. OnOk c.put_counts.result (PutsText (g.W.Sink.told c.args.writer.now).held c.args.waiting.now.items
    (g.W.Sink.told c.put_counts.new.writer).held c.put_counts.new.waiting.items
    (text_at_end choice (stream_profile stream) b reached
    (end_spans reached.standing e)))) (sym c.in-None.is)
    (on_ok_weaker c.put_counts.result (λ puts.
    subst (λ os. PutsText (g.W.Sink.told c.args.writer.now).held c.args.waiting.now.items
    (g.W.Sink.told c.put_counts.new.writer).held c.put_counts.new.waiting.items
    os)
    (none_at_end choice (stream_profile stream) b reached none) puts)
    (c.put_counts.ensures.puts (with_reached choice.ignored b reached) stands.knows))

pub returns-in-None-clause-tally : goal.returns-in-None-clause-tally
returns-in-None-clause-tally g c b reached stands end outside =
    let choice = stream_choice c.args.self.now in
    let none = subst (λ e. IsNoneOutside reached e) c.in-None.is outside in
    subst (λ e. OnOk c.put_counts.result (CountsTally
    (after_spans choice.ignored b.counts (reached.spans ++ end_spans reached.standing e)) c.args.self.now.tally))
    (sym c.in-None.is)
    (on_ok_weaker c.put_counts.result (λ puts.
    subst (λ counts. CountsTally counts c.args.self.now.tally)
    (counts_at_no_end choice.ignored b reached none) stands.knows.tally)
    (c.put_counts.ensures.puts (with_reached choice.ignored b reached) stands.knows))

-- inside an other
pub returns-in-Other-clause-puts : goal.returns-in-Other-clause-puts
returns-in-Other-clause-puts g c b reached stands spells end outside =
    let stream = c.args.self.now in
    let choice = stream_choice stream in
    let refusal = c.in-Some.refusal in
    let inside = ends_inside reached refusal (subst (λ e. Truncates reached e) c.in-Some.is end) in
    let n = inside.0 in
    let front = inside.1 in
    let standing = inside.2.standing in
    let other = is_other_front choice.ignored front (sym (front_under_way b stream reached n front stands standing)
    ∙ c.in-Other.is) in
    subst (λ e. OnOk c.put_counts-in-Other.result
    (PutsText (g.W.Sink.told c.args.writer.now).held c.args.waiting.now.items
    (g.W.Sink.told c.put_counts-in-Other.new.writer).held c.put_counts-in-Other.new.waiting.items
    (text_at_end choice (stream_profile stream) b reached
    (end_spans reached.standing e)))) (sym c.in-Some.is)
    (on_ok_weaker c.put_counts-in-Other.result (λ puts.
    subst (λ os. PutsText (g.W.Sink.told c.args.writer.now).held c.args.waiting.now.items
    (g.W.Sink.told c.put_counts-in-Other.new.writer).held c.put_counts-in-Other.new.waiting.items
    os)
    (other_at_end choice (stream_profile stream) b reached n front refusal other.0 standing other.1) puts)
    (c.put_counts-in-Other.ensures.puts (with_reached choice.ignored b reached) stands.knows))

pub returns-in-Other-clause-tally : goal.returns-in-Other-clause-tally
returns-in-Other-clause-tally g c b reached stands end outside =
    let stream = c.args.self.now in
    let choice = stream_choice stream in
    let refusal = c.in-Some.refusal in
    let inside = ends_inside reached refusal (subst (λ e. Truncates reached e) c.in-Some.is end) in
    let n = inside.0 in
    let front = inside.1 in
    let standing = inside.2.standing in
    let other = is_other_front choice.ignored front (sym (front_under_way b stream reached n front stands standing)
    ∙ c.in-Other.is) in
    subst (λ e. OnOk c.put_counts-in-Other.result (CountsTally
    (after_spans choice.ignored b.counts (reached.spans ++ end_spans reached.standing e)) stream.tally))
    (sym c.in-Some.is)
    (on_ok_weaker c.put_counts-in-Other.result (λ puts.
    subst (λ counts. CountsTally counts stream.tally)
    (counts_in_other choice.ignored b reached n front refusal other.0 standing other.1) stands.knows.tally)
    (c.put_counts-in-Other.ensures.puts (with_reached choice.ignored b reached) stands.knows))

-- inside a packet
pub returns-in_ok-put_refusal-in-Some-clause-puts : goal.returns-in_ok-put_refusal-in-Some-clause-puts
returns-in_ok-put_refusal-in-Some-clause-puts g c b reached stands spells end outside =
    let stream = c.args.self.now in
    let choice = stream_choice stream in
    let refusal = c.in-Some.refusal in
    let inside = ends_inside reached refusal (subst (λ e. Truncates reached e) c.in-Some.is end) in
    let n = inside.0 in
    let front = inside.1 in
    let standing = inside.2.standing in
    let none = is_no_other_front choice.ignored front (λ is. c.in_default.not-Other
    (front_under_way b stream reached n front stands standing ∙ is)) in
    let there = with_reached choice.ignored b reached in
    let said = said_under_way b stream reached n front stands standing in
    let viable = subst (λ p. Viable p front) stands.profile inside.2.viable in
    let first = c.in_ok-put_refusal-in-Some.ensures.puts there front stands.knows viable said in
    let time = stream_time stream in
    let facts = refusal_fact there.past (head_as (capped there.n) c.end.result time) front None refusal.reason
    refusal.expected ∷ [] in
    let timed = time_at_end b stream reached n front stands standing inside.2.some in
    let counts = after_refusal there.counts (said_device front) in
    let same = c.count_refusal.ensures.same in
    subst (λ e. OnOk c.put_counts-in-Some.result
    (PutsText (g.W.Sink.told c.args.writer.now).held c.args.waiting.now.items
    (g.W.Sink.told c.put_counts-in-Some.new.writer).held c.put_counts-in-Some.new.waiting.items
    (text_at_end choice (stream_profile stream) b reached (end_spans reached.standing e)))) (sym c.in-Some.is)
    (on_ok_weaker c.put_counts-in-Some.result (λ puts.
    subst (λ text. PutsText (g.W.Sink.told c.args.writer.now).held c.args.waiting.now.items
    (g.W.Sink.told c.put_counts-in-Some.new.writer).held c.put_counts-in-Some.new.waiting.items text)
    (one_at_end c.each_word_has_a_place.ensures.behind choice (stream_profile stream) b reached n
    front refusal c.end.result time stands.between spells standing
    (count_under_way b stream reached n front stands standing)
    (c.end.ensures (b.read ++ reached.text) stands.knows.places) timed none)
    (writes_then _ _ _ _ _ _ (stream_lines stream facts) (stream_last_lines stream counts)
    (subst (λ t. PutsText (g.W.Sink.told c.args.writer.now).held c.args.waiting.now.items
    (g.W.Sink.told c.put_refusal.new.writer).held c.put_refusal.new.waiting.items t)
    (first.holds there stands.knows).lines first.writes)
    (subst (λ t. PutsText (g.W.Sink.told c.put_refusal.new.writer).held c.put_refusal.new.waiting.items
    (g.W.Sink.told c.put_counts-in-Some.new.writer).held c.put_counts-in-Some.new.waiting.items t)
    (same_last_lines stream c.count_refusal.new.self same counts) puts)))
    (c.put_counts-in-Some.ensures.puts (record there { counts = counts })
    (c.count_refusal.ensures.knows there front stands.knows said)))

pub returns-in_ok-put_refusal-in-Some-clause-tally : goal.returns-in_ok-put_refusal-in-Some-clause-tally
returns-in_ok-put_refusal-in-Some-clause-tally g c b reached stands end outside =
    let stream = c.args.self.now in
    let choice = stream_choice stream in
    let refusal = c.in-Some.refusal in
    let inside = ends_inside reached refusal (subst (λ e. Truncates reached e) c.in-Some.is end) in
    let n = inside.0 in
    let front = inside.1 in
    let standing = inside.2.standing in
    let none = is_no_other_front choice.ignored front (λ is. c.in_default.not-Other
    (front_under_way b stream reached n front stands standing ∙ is)) in
    let there = with_reached choice.ignored b reached in
    let said = said_under_way b stream reached n front stands standing in
    let counts = after_refusal there.counts (said_device front) in
    let knows = c.count_refusal.ensures.knows there front stands.knows said in
    subst (λ e. OnOk c.put_counts-in-Some.result (CountsTally
    (after_spans choice.ignored b.counts (reached.spans ++ end_spans reached.standing e))
    c.count_refusal.new.self.tally))
    (sym c.in-Some.is)
    (on_ok_weaker c.put_counts-in-Some.result (λ puts.
    subst (λ all. CountsTally all c.count_refusal.new.self.tally)
    (counts_at_end choice.ignored b reached n front refusal standing none) knows.tally)
    (c.put_counts-in-Some.ensures.puts (record there { counts = counts }) knows))

-- ---- what is kept

pub returns-in-None-clause-kept : goal.returns-in-None-clause-kept
returns-in-None-clause-kept g c b reached stands spells end outside =
    let stream = c.args.self.now in
    let facts = facts_at_end (stream_choice stream) b reached in
    on_ok_weaker c.put_counts.result (λ puts.
    subst (KeepsFacts g.K.Keeper.Keeps stream c.args.keeper.now c.args.keeper.now)
    (sym (ap (λ e. facts (end_spans reached.standing e)) c.in-None.is
    ∙ ap facts (no_end reached.standing))) (keeps_none _))
    (c.put_counts.ensures.puts (with_reached (stream_choice stream).ignored b reached) stands.knows)

pub returns-in-Other-clause-kept : goal.returns-in-Other-clause-kept
returns-in-Other-clause-kept g c b reached stands spells end outside =
    let stream = c.args.self.now in
    let choice = stream_choice stream in
    let refusal = c.in-Some.refusal in
    let inside = ends_inside reached refusal (subst (λ e. Truncates reached e) c.in-Some.is end) in
    let n = inside.0 in
    let front = inside.1 in
    let standing = inside.2.standing in
    let other = is_other_front choice.ignored front (sym (front_under_way b stream reached n front stands standing)
    ∙ c.in-Other.is) in
    on_ok_weaker c.put_counts-in-Other.result (λ puts.
    subst (KeepsFacts g.K.Keeper.Keeps stream c.args.keeper.now c.args.keeper.now)
    (sym (ap (λ e. facts_at_end choice b reached (end_spans reached.standing e)) c.in-Some.is
    ∙ none_in_other choice b reached n front refusal other.0 standing other.1)) (keeps_none _))
    (c.put_counts-in-Other.ensures.puts (with_reached choice.ignored b reached) stands.knows)

pub returns-in_ok-put_refusal-in-Some-clause-kept : goal.returns-in_ok-put_refusal-in-Some-clause-kept
returns-in_ok-put_refusal-in-Some-clause-kept g c b reached stands spells end outside =
    let stream = c.args.self.now in
    let choice = stream_choice stream in
    let refusal = c.in-Some.refusal in
    let inside = ends_inside reached refusal (subst (λ e. Truncates reached e) c.in-Some.is end) in
    let n = inside.0 in
    let front = inside.1 in
    let standing = inside.2.standing in
    let none = is_no_other_front choice.ignored front (λ is. c.in_default.not-Other
    (front_under_way b stream reached n front stands standing ∙ is)) in
    let there = with_reached choice.ignored b reached in
    let said = said_under_way b stream reached n front stands standing in
    let viable = subst (λ p. Viable p front) stands.profile inside.2.viable in
    let first = c.in_ok-put_refusal-in-Some.ensures.puts there front stands.knows viable said in
    let time = stream_time stream in
    let timed = time_at_end b stream reached n front stands standing inside.2.some in
    on_ok_weaker c.put_counts-in-Some.result (λ puts.
    subst (KeepsFacts g.K.Keeper.Keeps stream c.args.keeper.now c.put_refusal.new.keeper)
    (placed_end_fact c.each_word_has_a_place.ensures.behind choice b reached n front refusal c.end.result time
    stands.between spells standing (count_under_way b stream reached n front stands standing)
    (c.end.ensures (b.read ++ reached.text) stands.knows.places) timed none
    ∙ ap (λ e. facts_at_end choice b reached (end_spans reached.standing e)) (sym c.in-Some.is))
    (first.holds there stands.knows).kept)
    (c.put_counts-in-Some.ensures.puts (record there { counts = after_refusal there.counts (said_device front) })
    (c.count_refusal.ensures.knows there front stands.knows said))
