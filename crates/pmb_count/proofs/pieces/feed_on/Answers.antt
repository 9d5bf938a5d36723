use Rattle.std.proofs.Common.{[], ◌∷◌, ◌++◌, List, take, refl, sym, subst, arith}
use Rattle.std.proofs.lemmas.List.{append-nil, take_all}
use Rattle.pmb_bus.specs.declared.event.Event.{Event}
use Rattle.pmb_transaction.specs.Reading.{Accepted, Outcome, Refusal}
use Rattle.pmb_transaction.specs.Transaction.{transaction_data}
use Rattle.pmb_reader.specs.declared.feed.Outcome.{Outcome as Answer}
use Rattle.pmb_reader.specs.Feed.{ReaderFeeds}
use Rattle.pmb_reader.specs.Reader.{Standing, ReaderStandsAt}
use Rattle.pmb_reader.specs.Reading.{AnyEvent, HasRead, HeldEvent, PassedEvent}
use Rattle.pmb_reader.specs.Refusal.{refusal_data}
use Rattle.pmb_count.proofs.Passed.{passed}
use Rattle.pmb_count.proofs.Fronts.{is_within, same_event, with_one}
use Rattle.pmb_count.proofs.pieces.feed_on.Goals as goal

pub returns-in-More-clause-reads : goal.returns-in-More-clause-reads
returns-in-More-clause-reads c = λ profile events outcomes read.
    let piece = c.args.piece.now in
    let used = c.feed-fed.result.used in
    let after = c.feed-fed.new.self in
    let feeds = λ (standing : Standing) (stands : ReaderStandsAt profile c.args.reader.now standing).
    subst (λ (o : Answer). ReaderFeeds profile standing piece used o after) c.in-More.is
    (c.feed-fed.ensures profile standing stands) in
    let all = (feeds read.standing read.stands).all in
    let more = c.pieces_go_on.ensures profile c.args.reader.now after events AnyEvent outcomes piece used read tt
    feeds in
    let by_front = subst (λ (es : List Event). HasRead profile after (events ++ es) AnyEvent outcomes)
    (sym (take_all used piece (omega (arith, all)))) more in (
      [],
      refl,
      subst (λ (os : List Outcome). HasRead profile after (events ++ take used piece) AnyEvent os)
          (sym (append-nil outcomes)) by_front,
    )

pub returns-in-Packet-clause-reads : goal.returns-in-Packet-clause-reads
returns-in-Packet-clause-reads c = λ profile events outcomes read.
    let piece = c.args.piece.now in
    let used = c.feed-fed.result.used in
    let after = c.feed-fed.new.self in
    let t = c.in-Packet.field-0 in
    let feeds = λ (standing : Standing) (stands : ReaderStandsAt profile c.args.reader.now standing).
    subst (λ (o : Answer). ReaderFeeds profile standing piece used o after) c.in-Packet.is
    (c.feed-fed.ensures profile standing stands) in (
      Accepted (transaction_data t) ∷ [],
      (transaction_data t, refl),
      c.pieces_are_accepted.ensures profile c.args.reader.now after events AnyEvent outcomes piece used t read tt feeds,
    )

pub returns-in-Refused-clause-reads : goal.returns-in-Refused-clause-reads
returns-in-Refused-clause-reads c = λ profile events outcomes read.
    let piece = c.args.piece.now in
    let used = c.feed-fed.result.used in
    let held = c.feed-fed.new.self in
    let refusal = c.in-Refused.refusal in
    let added = Refusal (refusal_data refusal) ∷ [] in
    let feeds = λ (standing : Standing) (stands : ReaderStandsAt profile c.args.reader.now standing).
    subst (λ (o : Answer). ReaderFeeds profile standing piece used o held) c.in-Refused.is
    (c.feed-fed.ensures profile standing stands) in
    let within = is_within profile read.standing piece used held (refusal_data refusal) read.at
    (feeds read.standing read.stands) in
    let refused = c.pieces_are_refused.ensures profile c.args.reader.now held events outcomes AnyEvent piece used
    refusal read tt tt feeds in
    let event = refused.0 in
    let front = events ++ take used piece in
    let resumed =
    c.reading_resumes.ensures profile held c.resync.new.self front (HeldEvent event) (outcomes ++ added) refused.3
    (c.resync.ensures.resumes profile) in
    let same = same_event piece used _ event refused.1 within refused.2 in
    let due = subst (λ (e : Event). HasRead profile c.resync.new.self front (PassedEvent e) (outcomes ++ added)) same
    resumed in
    let passed_over =
    passed c.reading_goes_on.ensures profile c.resync.new.self c.take.new.self front
    (outcomes ++ added) _ c.take.result due (c.take.ensures profile) in (
      added,
      refl,
      subst (λ (es : List Event). HasRead profile c.take.new.self es AnyEvent (outcomes ++ added))
          (with_one events piece used _ within) passed_over,
    )
