use Rattle.std.proofs.Common.{List, [], ◌∷◌, ◌++◌, append_assoc, refl, ap, ◌∙◌, subst, sym}
use Rattle.std.proofs.lemmas.Result.{on_ok_weaker}
use Rattle.pmb_bus.specs.declared.event.Event.{Event}
use Rattle.pmb_bus.specs.declared.event.Event.TheVariants.{Stop}
use Rattle.pmb_bus.specs.Event.{AreBytes, canonical_text}
use Rattle.pmb_command.specs.Bus.{IsBus}
use Rattle.pmb_io.proofs.Writing.{writes_then}
use Rattle.pmb_scan.specs.Reached.{Reached, behind_bytes, behind_whole}
use Rattle.pmb_transaction.specs.Packet.{Packet}
use Rattle.pmb_transaction.specs.Transaction.{transaction_data}
use Rattle.pmb_fact_stream.specs.Stream.{StreamStands}
use Rattle.pmb_fact_stream.specs.machine.Inside.{behind_inside}
use Rattle.pmb_fact_stream.proofs.Walking.{are_inside, ends_whole, spells_inside}
use Rattle.pmb_fact_stream.proofs.kept_stream.KeptStream.take_group.Goals as goal

pub returns-clause-visits : goal.returns-clause-visits
returns-clause-visits g c start reached text n events stands between spells standing whole =
    let t = transaction_data c.args.transaction.now in
    let bus = subst IsBus (sym (stands.told stands.begins.0 stands.begins.1).at.profile) c.accepted_bus.ensures in
    let ends = c.packet_ends_with_stop.ensures reached.profile t events whole.packet in
    let front = ends.front in
    let small = subst AreBytes ends.split (c.packets_are_bytes.ensures reached.profile t events bus whole.packet) in
    let stop = c.in_ok-stop.stop.now in
    let inside =
    c.in_ok-stop.ensures.takes start reached text n front stands between spells standing
    (are_inside front ends.no_stop small)
    (whole.text ∙ ap canonical_text ends.split) in
    let there = behind_inside reached n front in
    let packet = subst (λ (es : List Event). Packet reached.profile t es) ends.split whole.packet in
    let both = c.texts_may_be_cut_between_words.ensures.spelled reached.text (canonical_text (front ++ Stop ∷ []))
    reached.events (front ++ Stop ∷ []) between spells (c.canonical_text_spells.ensures (front ++ Stop ∷ []) small) in
    on_ok_weaker c.visit_packet.result (λ puts. record {
      text = inside.text ++ puts.text;
      writes = writes_then _ _ _ _ _ _ _ _ inside.writes puts.writes;
      holds = subst (λ l. StreamStands g.K.Keeper.Keeps start c.visit_packet.new.self
          (behind_whole reached n c.args.bytes.now events t) l)
          (append_assoc text inside.text puts.text)
          (ends_whole (λ (r : Reached). StreamStands g.K.Keeper.Keeps start c.visit_packet.new.self r
          ((text ++ inside.text) ++ puts.text))
          reached n front events c.args.bytes.now stop t ends.split whole.text inside.holds.is_stop puts.holds);
    })
    (c.visit_packet.ensures.visits start (behind_bytes there stop) (text ++ inside.text) n front Stop
    (c.visit_bytes.ensures start there (text ++ inside.text) inside.holds.stands)
    (spells_inside reached front Stop stop (inside.holds.is_stop) both) refl packet)
