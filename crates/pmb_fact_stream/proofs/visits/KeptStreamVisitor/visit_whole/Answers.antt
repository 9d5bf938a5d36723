use Rattle.std.proofs.Common.{◌≡◌, ◌<◌, ℕ, None, List, length, ap, [], ◌∷◌, ◌++◌, append_assoc, codes, refl, subst, sym}
use Rattle.std.proofs.Common.{◌∙◌, arith}
use Rattle.pmb_bus.specs.declared.event.Event.{Event}
use Rattle.pmb_bus.specs.declared.event.Event.TheVariants.{Start, Stop}
use Rattle.pmb_bus.specs.Event.{AreBytes, canonical_text}
use Rattle.pmb_command.specs.Bus.{IsBus}
use Rattle.pmb_scan.specs.Reached.{behind_bytes, behind_whole}
use Rattle.pmb_transaction.specs.Transaction.{transaction_data}
use Rattle.pmb_fact_stream.specs.Others.{other_address}
use Rattle.pmb_fact_stream.specs.Stream.{HasToldOf, stream_choice}
use Rattle.pmb_times.specs.Times.{TimesStandAt}
use Rattle.pmb_fact_stream.proofs.Fronts.{no_other_with_start}
use Rattle.pmb_fact_stream.specs.Stream.{kept_by}
use Rattle.pmb_fact_stream.proofs.Standing.{goes_on_with_start, times_whole, whole_line}
use Rattle.pmb_fact_stream.proofs.Told.{same_then}
use Rattle.pmb_fact_stream.proofs.Wholes.{begun_whole, bytes_in_line, events_in_line, is_line, no_other_line}
use Rattle.pmb_fact_stream.proofs.Wholes.{rest_text, told_whole}
use Rattle.pmb_fact_stream.proofs.visits.KeptStreamVisitor.visit_whole.Goals as goal

pub returns-clause-visits : goal.returns-clause-visits
returns-clause-visits g c start reached text n events stands between spells standing whole count =
    let t = transaction_data c.args.transaction.now in
    let mid = c.take_next.new.self in
    let new = kept_by c.take_packet.new.self c.put_packet.new.keeper in
    let bus = subst IsBus (sym (stands.told stands.begins.0 stands.begins.1).at.profile) c.accepted_bus.ensures in
    let is = is_line reached.profile t events whole.packet
    (c.packet_ends_with_stop.ensures reached.profile t events whole.packet)
    (c.packets_are_bytes.ensures reached.profile t events bus whole.packet) in
    let bytes_of = bytes_in_line events c.args.bytes.now is whole.text in
    let events_of = events_in_line events is in
    let some : 0 < length is.rest = omega (arith, ap (λ (l : List Event). length l) is.begins) in
    -- its address is not ignored
    let small = subst AreBytes is.begins is.small in
    let text_is = whole.text ∙ ap canonical_text (is.split
    ∙ ap (λ (l : List Event). Start ∷ (l ++ Stop ∷ [])) is.begins) in
    let own = no_other_line (stream_choice c.args.self.now.stream).ignored events is
    (sym (c.is_other.ensures is.address (canonical_text (is.others ++ Stop ∷ [])) small.0 text_is)
    ∙ c.if-is_other.false) in
    let begun = c.take_next.ensures start (behind_bytes reached (codes "S ")) text
    (c.visit_bytes.ensures start reached text stands)
    (c.texts_may_be_cut_between_words.ensures.spelled reached.text (codes "S ") reached.events
    (Start ∷ []) between spells refl) (goes_on_with_start reached.standing n standing)
    (no_other_with_start (stream_choice c.visit_bytes.new.self.stream).ignored reached.standing n standing) in
    let there = begun_whole reached in
    let puts = c.in_ok-put_packet.ensures.puts _
    (begun.told stands.begins.0 stands.begins.1).at.knows in record {
      text = puts.text;
      writes = puts.writes;
      holds = record {
        begins = stands.begins;
        told = λ b begins.
            let told = begun.told b begins in
            let both = c.texts_end_between_words.ensures.both in
            let line = c.take_line.ensures in
            let packet = c.take_packet.ensures in
            let ends = both b.read (reached.text ++ codes "S ") told.at.between
            (both reached.text (codes "S ") between (refl, refl)) in
            subst (λ (l : List ℕ). HasToldOf g.K.Keeper.Keeps b start new (behind_whole reached n l events t)
            (text ++ puts.text))
            (sym whole.text)
            (subst (λ (es : List Event). HasToldOf g.K.Keeper.Keeps b start new
            (behind_whole reached n (canonical_text es) es t)
            (text ++ puts.text)) (sym is.split)
            (told_whole g.K.Keeper.Keeps b start mid c.take_packet.new.self reached text n is.rest t told standing
            (times_whole mid.stream c.take_packet.new.self reached n is.rest t
            (subst (λ t. TimesStandAt t (reached.text ++ canonical_text (whole_line is.rest))) (sym packet.times)
            (subst (λ (l : List ℕ). TimesStandAt c.take_line.new.self.times l)
            (append_assoc reached.text (codes "S ") (rest_text is.rest))
            (line.times (reached.text ++ codes "S ") is.rest told.at.times.times
            (both reached.text (codes "S ") between (refl, refl)) is.small some)))
            packet.time)
            (c.is_group.ensures c.if-is_group.false)
            (subst (λ choice. other_address choice.ignored (whole_line is.rest) ≡ None)
            ((stands.told b begins).same.choice ∙ sym told.same.choice) own) (same_then _ _ _ line.same packet.same)
            (packet.passing ∙ line.passing) packet.cleared packet.fresh
            (packet.knows _
            (line.knows _ is.rest told.at.knows ends is.small is.no_stop
            (omega (arith, c.saturating_sub.ensures, bytes_of))
            (omega (arith, c.saturating_sub-2.ensures, count, events_of))))
            c.put_packet.new.keeper puts.text (puts.holds _ told.at.knows)));
      };
    }

pub returns-then-is_group-clause-visits : goal.returns-then-is_group-clause-visits
returns-then-is_group-clause-visits g c start reached text n events stands between spells standing whole count =
    c.take_group.ensures.visits start reached text n events stands between spells standing whole

pub returns-then-is_other-clause-visits : goal.returns-then-is_other-clause-visits
returns-then-is_other-clause-visits g c start reached text n events stands between spells standing whole count =
    c.take_group-then-is_other.ensures.visits start reached text n events stands between spells standing whole
