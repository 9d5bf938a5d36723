use Rattle.std.proofs.Common.{◌≡◌, ◌+◌, ◌-◌, List, ◌++◌, length, ap, arith, append_assoc, drop, subst, sym, take, ◌∙◌}
use Rattle.std.proofs.Math.Seq.{take-add}
use Rattle.std.proofs.lemmas.List.{length-drop, take_all}
use Rattle.pmb_bus.specs.declared.event.Event.{Event}
use Rattle.pmb_command.specs.Parts.{DeviceParts}
use Rattle.pmb_reader.specs.Reading.{AnyEvent, HasRead}
use Rattle.pmb_count.specs.declared.pieces.Counter.{Counter}
use Rattle.pmb_count.specs.Counter.{HasCounted}
use Rattle.pmb_count.proofs.pieces.Counter.feed.Goals as goal

pub loop-at-preserved : goal.loop-at-preserved
loop-at-preserved c =
    let at = c.loop-at.at in
    let used = c.feed_on-fed.result.used in
    let piece = c.args.piece.now in
    let after : Counter = record { reader = c.feed_on-fed.new.reader; so_far = c.add-self.result } in
    let rest : take (length piece - at) (drop at piece) ≡ drop at piece =
    take_all (length piece - at) (drop at piece) (omega (arith, length-drop at piece)) in
    let counted = λ (profile : List DeviceParts) (events : List Event) (has : HasCounted profile c.loop-at.self events).
    let more = c.feed_on-fed.ensures.reads profile events has.outcomes has.read in
    let all : HasCounted profile after (events ++ take used (drop at piece)) =
    record {
      outcomes = has.outcomes ++ more.0;
      read = subst (λ (es : List Event). HasRead profile c.feed_on-fed.new.reader (events ++ take used es) AnyEvent
          (has.outcomes ++ more.0)) rest more.2;
      counted = c.add-self.ensures has.outcomes more.0 has.counted more.1;
    } in
    all in
    let longer : (events : List Event) → (events ++ take at piece) ++ take used (drop at piece) ≡ events
    ++ take (at + used) piece =
    λ events.
    append_assoc events (take at piece) (take used (drop at piece)) ∙ ap (λ (es : List Event). events ++ es)
    (sym (take-add at used piece)) in
    let n = c.loop-at.invariant.counting in record {
      within = omega (
        arith,
        c.loop-at.invariant.within,
        c.feed_on-fed.ensures.within,
        ap (λ (es : List Event). length es) rest,
        length-drop at piece,
      );
      counting = (n.0, n.1 ++ take used (drop at piece), counted n.0 n.1 n.2);
      counted = λ profile events has.
          subst (λ (es : List Event). HasCounted profile after es) (longer events)
          (counted profile (events ++ take at piece) (c.loop-at.invariant.counted profile events has));
    }
