use Rattle.std.proofs.Common.{◌≡◌, ◌-◌, List, [], ◌∷◌, ◌++◌, length, take, drop, append-nil, append_assoc, refl, sym}
use Rattle.std.proofs.Common.{ap, ◌∙◌, subst}
use Rattle.std.proofs.lemmas.List.{take_rest}
use Rattle.pmb_bus.specs.declared.event.Event.{Event}
use Rattle.pmb_bus.specs.declared.event.Event.TheVariants.{Stop}
use Rattle.pmb_bus.specs.Event.{canonical_text, text_of}
use Rattle.pmb_canonical.specs.Inside.{AreInside}
use Rattle.pmb_io.proofs.Writing.{writes_nothing, writes_then}
use Rattle.pmb_scan.specs.Reached.{Reached}
use Rattle.pmb_fact_stream.specs.Stream.{StreamStands}
use Rattle.pmb_fact_stream.specs.machine.Inside.{behind_inside}
use Rattle.pmb_fact_stream.proofs.Walking.{begins_inside, behind_word, bytes_up_to, front_word, goes_inside, is_no_stop}
use Rattle.pmb_fact_stream.proofs.Walking.{next_event, spells_inside, stop_next}
use Rattle.pmb_fact_stream.proofs.kept_stream.KeptStream.take_inside.Goals as goal

pub loop-event-init : goal.loop-event-init
loop-event-init g c = record {
  failures = refl;
  walks = λ start reached put n inside stands between spells standing is_inside text. record {
    text = [];
    writes = writes_nothing _ _;
    holds = record {
      front = [];
      back = inside;
      split = refl;
      is_inside = is_inside;
      is_rest = text;
      stands = begins_inside (λ (r : Reached). StreamStands g.K.Keeper.Keeps start c.args.self.now r (put ++ []))
          reached n standing
          (subst (λ t. StreamStands g.K.Keeper.Keeps start c.args.self.now reached t) (sym (append-nil put)) stands);
    };
  };
}

pub loop-event-preserved : goal.loop-event-preserved
loop-event-preserved g c = record {
  failures = c.in_ok-visit_event.ensures.failed ∙ c.loop-event.invariant.failures;
  walks = λ start reached put n inside stands between spells standing is_inside text.
      let so_far = c.loop-event.invariant.walks start reached put n inside stands between spells standing is_inside text
      in
      let walk = so_far.holds in
      let event = c.in-Some.event in
      let rest = c.loop-event.rest.now in
      let used = c.text_length-used.result in
      let next = next_event walk.back rest c.front_event.result event c.front_event.ensures.found
      c.front_event.ensures.ended c.in-Some.is walk.is_inside walk.is_rest in
      let behind = canonical_text (next.more ++ Stop ∷ []) in
      let long : used ≡ length (text_of event) = c.text_length-used.ensures in
      let word : take used rest ≡ text_of event = front_word rest (text_of event) behind used next.is_text long in
      let left : take (length rest - used) (drop used rest) ≡ behind = take_rest rest used
      ∙ behind_word rest (text_of event) behind used next.is_text long in
      let front = walk.front ++ event ∷ [] in
      let split : inside ≡ walk.front ++ event ∷ next.more = walk.split
      ∙ ap (λ (l : List Event). walk.front ++ l) next.split in
      let small = bytes_up_to walk.front event next.more (subst AreInside split is_inside) in
      let both =
      c.texts_may_be_cut_between_words.ensures.spelled reached.text (canonical_text front) reached.events front between
      spells (c.canonical_text_spells.ensures front small) in
      -- the bytes of its word, and then the event
      let there = behind_inside reached n walk.front in
      let puts = c.in_ok-visit_event.ensures.visits start _ _
      (c.visit_bytes.ensures start there (put ++ so_far.text) walk.stands)
      (spells_inside reached walk.front event (take used rest) word both) (is_no_stop event next.event_inside) in
      let all = append_assoc put so_far.text puts.text in
      record {
        text = so_far.text ++ puts.text;
        writes = writes_then _ _ _ _ _ _ _ _ so_far.writes puts.writes;
        holds = record {
          front = front;
          back = next.more;
          split = split ∙ sym (append_assoc walk.front (event ∷ []) next.more);
          is_inside = next.is_inside;
          is_rest = left;
          stands = subst (λ t. StreamStands g.K.Keeper.Keeps start c.visit_event.new.self
              (behind_inside reached n front) t) all
              (goes_inside (λ (r : Reached). StreamStands g.K.Keeper.Keeps start c.visit_event.new.self r
              ((put ++ so_far.text) ++ puts.text)) reached n walk.front event (take used rest) word puts.holds);
        };
      };
}

pub returns-clause-takes : goal.returns-clause-takes
returns-clause-takes g c start reached put n inside stands between spells standing is_inside text =
    let so_far = c.loop-event.invariant.walks start reached put n inside stands between spells standing is_inside text
    in
    let walk = so_far.holds in
    let none : walk.back ≡ [] = stop_next walk.back c.loop-event.rest.now c.front_event.result
    c.front_event.ensures.found c.in_default.not-Some walk.is_inside walk.is_rest in
    let all : walk.front ≡ inside = sym (walk.split ∙ ap (λ (l : List Event). walk.front ++ l) none
    ∙ append-nil walk.front) in
    record {
      text = so_far.text;
      writes = so_far.writes;
      holds = record {
        is_stop = walk.is_rest ∙ ap (λ (l : List Event). canonical_text (l ++ Stop ∷ [])) none;
        stands = subst (λ (l : List Event). StreamStands g.K.Keeper.Keeps start c.loop-event.self
            (behind_inside reached n l)
            (put ++ so_far.text)) all walk.stands;
      };
    }
