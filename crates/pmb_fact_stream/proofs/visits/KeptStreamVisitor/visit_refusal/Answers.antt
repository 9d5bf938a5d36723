use Rattle.std.proofs.Common.{◌≡◌, Option, None, Some, List, [], ◌∷◌, ◌++◌, is_some, length, ◌+◌, ap, subst, sym, ◌∙◌, refl}
use Rattle.pmb_unknown_start.specs.Past.{PastData}
use Rattle.pmb_bus.specs.declared.event.Event.{Event}
use Rattle.pmb_command.specs.Parts.{DeviceParts}
use Rattle.pmb_partial_packet.specs.PartialPacket.{reply}
use Rattle.pmb_fact_stream.specs.declared.stream.Stream.{Stream}
use Rattle.pmb_fact_stream.specs.declared.writes.Writes.{Writes}
use Rattle.pmb_fact_stream.specs.Before.{Before}
use Rattle.pmb_fact_stream.specs.Lost.{dropped_if, heard, lost_between}
use Rattle.pmb_fact_stream.specs.Stream.{StreamKnows}
use Rattle.pmb_fact_stream.specs.machine.Losing.{WritesStandAt}
use Rattle.pmb_fact_stream.proofs.Losing.{writes_open}
use Rattle.pmb_io.proofs.Writing.{writes_nothing}
use Rattle.pmb_reader.specs.Refusal.{refusal_data}
use Rattle.pmb_transaction.specs.Capture.{Viable}
use Rattle.pmb_fact_stream.specs.machine.OpenTime.{kept_time}
use Rattle.pmb_fact_stream.proofs.Fronts.{address_stays, is_no_other_front, is_other_front, other_begins}
use Rattle.pmb_fact_stream.proofs.Standing.{counts_as, knows_as, knows_at, times_refusal}
use Rattle.pmb_fact_stream.proofs.Told.{begins_in, kept_packet, timed_packet}
use Rattle.pmb_fact_stream.proofs.ToldSpans.{told_begun_refusal, told_other_refusal, told_refusal}
use Rattle.pmb_fact_stream.proofs.visits.KeptStreamVisitor.visit_refusal.Goals as goal

-- what is lost then, under the profile of the scan
lost_as : (profile own : List DeviceParts) (b : Before) (front : List Event) (event : Event) (writes : Writes)
    (stream : Stream) → profile ≡ own
    → WritesStandAt own writes (heard (is_some (reply front)) front (event ∷ []))
    → StreamKnows (record b { past = b.past ++ dropped_if writes.has_write }) stream
    → StreamKnows (record b { past = b.past ++ lost_between profile front (event ∷ []) }) stream
lost_as profile own b front event writes stream same stands knows =
    knows_as _ _ stream refl refl
    (ap (λ (l : List PastData). b.past ++ l) (ap dropped_if stands.has
    ∙ ap (λ p. lost_between p front (event ∷ [])) (sym same))) refl knows

none_of : {A : Type 0} (x y : Option A) → ((a : A) → x ≡ Some a → ⊥) → x ≡ y → y ≡ None
none_of None y never is = sym is
none_of (Some a) y never is = absurd (never a refl)

-- an event that a packet can't have there
pub returns-clause-visits : goal.returns-clause-visits
returns-clause-visits g c start reached text n front stands spells standing refused =
    let old = c.args.self.now in
    let new = c.take_refused.new.self in
    let kept = c.begin.new.self in
    let event = c.args.event in
    let refusal = refusal_data c.args.refusal in
    let first = stands.told stands.begins.0 stands.begins.1 in
    let packet = kept_packet g.K.Keeper.Keeps stands.begins.0 start old new reached text first n front standing in
    let viable = subst (λ p. Viable p front) first.at.profile refused.under_way.viable in
    let taken = c.take_refused.ensures in
    let writes = writes_open old.stream.writes reached n front standing first.at.loses in
    let here = c.writes_with-writes.ensures front viable packet.said
    (subst (λ p. WritesStandAt p old.stream.writes front) first.at.profile writes) in
    let there = subst (λ p. WritesStandAt p c.writes_with-writes.result (heard (is_some (reply front)) front (event ∷ [])))
    (sym first.at.profile) here in
    let none = is_no_other_front _ front (λ is. c.in_default-front.not-Other (packet.front ∙ is)) in
    let still = address_stays _ front event (begins_in old.stream front event packet.front
    ∙ none_of _ _ c.in_default.not-Some c.begins_other.ensures) ∙ none in
    let puts = c.in_ok-put_refusal.ensures.puts _ front (knows_at _ old.stream kept first.at.knows) viable packet.said
    in
    record {
      text = puts.text;
      writes = puts.writes;
      holds = record {
        begins = stands.begins;
        told = λ b begins.
            let told = stands.told b begins in
            let has = c.begin.ensures reached.text reached.events event told.at.times.time told.at.times.times spells in
            let knows = knows_at _ old.stream kept told.at.knows in
            told_refusal g.K.Keeper.Keeps b start old new reached text told c.the_last_word_stands_there.ensures n
            front event refusal
            standing spells none still
            (record { choice = taken.same.choice; profile = taken.same.profile })
            (times_refusal old.stream new reached n front event refusal taken.times
            (taken.time reached.text reached.events has) told.at.times)
            (taken.packet b reached.text (n + length front))
            (taken.writes reached.profile _ there)
            (lost_as reached.profile _ _ front event _ new first.at.profile here (taken.knows _ front knows packet.said))
            (kept_time kept)
            (timed_packet g.K.Keeper.Keeps b start old new reached text told kept n front standing has)
            c.put_refusal.new.keeper puts.text c.word-place.result
            (c.word-place.ensures (b.read ++ reached.text) told.at.knows.places)
            (puts.holds _ knows);
      };
    }

-- in an other
pub returns-in-Other-clause-visits : goal.returns-in-Other-clause-visits
returns-in-Other-clause-visits g c start reached text n front stands spells standing refused =
    let old = c.args.self.now in
    let new = c.pass_over-in-Other.new.self in
    let kept = c.begin.new.self in
    let event = c.args.event in
    let refusal = refusal_data c.args.refusal in
    let taken = c.pass_over-in-Other.ensures in
    let first = stands.told stands.begins.0 stands.begins.1 in
    let packet = kept_packet g.K.Keeper.Keeps stands.begins.0 start old new reached text first n front standing in
    let viable = subst (λ p. Viable p front) first.at.profile refused.under_way.viable in
    let writes = writes_open old.stream.writes reached n front standing first.at.loses in
    let here = c.writes_with-writes.ensures front viable packet.said
    (subst (λ p. WritesStandAt p old.stream.writes front) first.at.profile writes) in
    let there = subst (λ p. WritesStandAt p c.writes_with-writes.result (heard (is_some (reply front)) front (event ∷ [])))
    (sym first.at.profile) here in
    let other = is_other_front _ front (sym packet.front ∙ c.in-Other.is) in
    let still = address_stays _ front event (begins_in old.stream front event packet.front
    ∙ none_of _ _ c.in_default.not-Some c.begins_other.ensures) ∙ other.1 in record {
      text = [];
      writes = writes_nothing _ _;
      holds = record {
        begins = stands.begins;
        told = λ b begins.
            let told = stands.told b begins in
            let has = c.begin.ensures reached.text reached.events event told.at.times.time told.at.times.times spells in
            told_other_refusal g.K.Keeper.Keeps b start old new reached text told n front event refusal other.0
            standing other.1 still
            (record { choice = taken.same.choice; profile = taken.same.profile })
            (times_refusal old.stream new reached n front event refusal taken.times
            (taken.time reached.text reached.events has) told.at.times)
            (taken.packet b reached.text (n + length front))
            (taken.writes reached.profile _ there)
            (lost_as reached.profile _ _ front event _ new first.at.profile here
            (taken.knows _ (knows_at _ old.stream kept told.at.knows)));
      };
    }

-- the address byte of an other
pub returns-in-Some-clause-visits : goal.returns-in-Some-clause-visits
returns-in-Some-clause-visits g c start reached text n front stands spells standing refused =
    let old = c.args.self.now in
    let new = c.pass_over.new.self in
    let kept = c.begin.new.self in
    let event = c.args.event in
    let addr = c.in-Some.addr in
    let refusal = refusal_data c.args.refusal in
    let taken = c.pass_over.ensures in
    let first = stands.told stands.begins.0 stands.begins.1 in
    let packet = kept_packet g.K.Keeper.Keeps stands.begins.0 start old new reached text first n front standing in
    let viable = subst (λ p. Viable p front) first.at.profile refused.under_way.viable in
    let writes = writes_open old.stream.writes reached n front standing first.at.loses in
    let here = c.writes_with-writes.ensures front viable packet.said
    (subst (λ p. WritesStandAt p old.stream.writes front) first.at.profile writes) in
    let there = subst (λ p. WritesStandAt p c.writes_with-writes.result (heard (is_some (reply front)) front (event ∷ [])))
    (sym first.at.profile) here in
    let other = other_begins _ front event addr
    (begins_in old.stream front event packet.front ∙ sym c.in-Some.ensures) in
    let puts = c.in_ok-put_other.ensures.puts _ (knows_at _ old.stream kept first.at.knows) in record {
      text = puts.text;
      writes = puts.writes;
      holds = record {
        begins = stands.begins;
        told = λ b begins.
            let told = stands.told b begins in
            let has = c.begin.ensures reached.text reached.events event told.at.times.time told.at.times.times spells in
            let knows = knows_at _ old.stream kept told.at.knows in
            told_begun_refusal g.K.Keeper.Keeps b start old new reached text told c.the_last_word_stands_there.ensures
            n front event
            refusal addr standing spells other
            (record { choice = taken.same.choice; profile = taken.same.profile })
            (times_refusal old.stream new reached n front event refusal taken.times
            (taken.time reached.text reached.events has) told.at.times)
            (taken.packet b reached.text (n + length front))
            (taken.writes reached.profile _ there)
            (lost_as reached.profile _ _ front event _ new first.at.profile here
            (taken.knows _ (counts_as _ (record old.stream { time = kept }) c.count_other.new.self addr
            (c.count_other.ensures _ knows.counts) knows))) (kept_time kept)
            (timed_packet g.K.Keeper.Keeps b start old new reached text told kept n front standing has)
            c.put_other.new.keeper puts.text c.word-place.result
            (c.word-place.ensures (b.read ++ reached.text) told.at.knows.places)
            (puts.holds _ knows);
      };
    }
