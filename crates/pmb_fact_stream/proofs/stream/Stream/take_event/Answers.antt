use Rattle.std.proofs.Common.{◌≡◌, [], ◌∷◌, ◌++◌, length, sym, subst}
use Rattle.pmb_places.specs.Places.{place_of_last_word}
use Rattle.pmb_fact_stream.specs.machine.Front.{front_of}
use Rattle.pmb_fact_stream.specs.machine.OpenTime.{KeepsTime}
use Rattle.pmb_fact_stream.proofs.Places.{stands_last}
use Rattle.pmb_fact_stream.specs.Before.{with_reached}
use Rattle.pmb_fact_stream.specs.Stream.{stream_choice}
use Rattle.pmb_fact_stream.proofs.Passing.{keeps_knows, keeps_loses, passes_knows, passes_loses, stands_so_far}
use Rattle.pmb_fact_stream.proofs.Passing.{taken_so_far}
use Rattle.pmb_fact_stream.proofs.Standing.{knows_at, read_event}
use Rattle.pmb_fact_stream.proofs.stream.Stream.take_event.Goals as goal

pub returns-else-self-clause-packet : goal.returns-else-self-clause-packet
returns-else-self-clause-packet c b reached stands spells =
    let kept = c.keep.ensures in
    read_event b c.args.self.now c.keep.new.self reached.text reached.standing (length reached.events)
    (place_of_last_word (b.read ++ reached.text)) c.args.event c.if-self.false stands.packet stands.counted
    kept.passing kept.said
    (λ front is. subst (λ choice. c.keep.new.self.front ≡ front_of choice.ignored (front ++ c.args.event ∷ []))
    (sym kept.same.choice) (kept.front front is)) (kept.begun (b.read ++ reached.text) stands.knows.places)
    stands.knows.count
    (λ more. stands_last c.the_last_word_stands_there.ensures b.read reached.text more b.n reached.events c.args.event
    stands.between spells)

pub returns-then-self-clause-time : goal.returns-then-self-clause-time
returns-then-self-clause-time c text events keeps times spells =
    subst (λ kept. KeepsTime kept text (events ++ c.args.event ∷ [])) (sym c.pass.ensures.times.time)
    (c.take.ensures text events (c.begin.ensures text events c.args.event keeps times spells))

pub returns-else-self-clause-time : goal.returns-else-self-clause-time
returns-else-self-clause-time c text events keeps times spells =
    subst (λ kept. KeepsTime kept text (events ++ c.args.event ∷ [])) (sym c.keep.ensures.times.time)
    (c.take.ensures text events (c.begin.ensures text events c.args.event keeps times spells))

-- while events are passed over, the first write is lost
pub returns-then-self-clause-knows : goal.returns-then-self-clause-knows
returns-then-self-clause-knows c b reached stands may =
    let old = c.args.self.now in
    let ignored = (stream_choice old).ignored in
    let is = c.if-self.true in
    passes_knows b old reached c.args.event stands may is ignored c.pass.new.self
    (c.pass.ensures.knows (with_reached ignored b reached) (taken_so_far b old reached c.args.event stands may is)
    (knows_at _ old c.take.new.self stands.knows) (stands_so_far b old reached c.args.event stands may is))

pub returns-then-self-clause-loses : goal.returns-then-self-clause-loses
returns-then-self-clause-loses c b reached stands may =
    let old = c.args.self.now in
    let is = c.if-self.true in
    passes_loses b old reached c.args.event stands may is c.pass.new.self.writes
    (c.pass.ensures.writes (taken_so_far b old reached c.args.event stands may is)
    (stands_so_far b old reached c.args.event stands may is))

-- in a packet nothing is lost with its next event
pub returns-else-self-clause-knows : goal.returns-else-self-clause-knows
returns-else-self-clause-knows c b reached stands may =
    let old = c.args.self.now in
    let ignored = (stream_choice old).ignored in
    keeps_knows b old reached c.args.event stands may c.if-self.false ignored c.keep.new.self
    (c.keep.ensures.knows (with_reached ignored b reached) (knows_at _ old c.take.new.self stands.knows))

pub returns-else-self-clause-loses : goal.returns-else-self-clause-loses
returns-else-self-clause-loses c b reached stands may =
    keeps_loses b c.args.self.now reached c.args.event stands may c.if-self.false c.keep.new.self.writes
    c.keep.ensures.writes
