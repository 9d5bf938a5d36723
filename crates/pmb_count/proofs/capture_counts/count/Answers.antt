use Rattle.std.proofs.Common.{[], ◌∷◌, ◌++◌, List, refl, sym, subst, take, arith}
use Rattle.std.proofs.lemmas.List.{take_more, take_all}
use Rattle.pmb_bus.specs.declared.event.Event.{Event}
use Rattle.pmb_transaction.specs.Reading.{Refusal}
use Rattle.pmb_reader.specs.Reading.{AnyEvent, HasRead}
use Rattle.pmb_reader.specs.Refusal.{refusal_data}
use Rattle.pmb_count.proofs.capture_counts.count.Goals as goal

pub loop-event-init : goal.loop-event-init
loop-event-init c = (
  [],
  c.reading_begins.ensures c.args.profile.now c.new-reader.result c.new-reader.ensures,
  record { packets_are = omega arith; refusals_are = omega arith },
)

pub loop-event-preserved : goal.loop-event-preserved
loop-event-preserved c =
    let before = c.loop-event.invariant in
    let events = c.args.events.now in
    let i = c.loop-event.event-index in
    let more = c.take_on.ensures c.args.profile.now (take i events) before.0 before.1 in
    let outcomes = before.0 ++ more.0 in (
      outcomes,
      subst (λ (es : List Event). HasRead c.args.profile.now c.take_on.new.reader es AnyEvent outcomes)
          (sym (take_more events i _ c.loop-event-test.true)) more.2,
      c.add-so_far.ensures before.0 more.0 before.2 more.1,
    )

pub returns-in-Ok : goal.returns-in-Ok
returns-in-Ok c =
    let before = c.loop-event.invariant in
    let events = c.args.events.now in
    let read =
    subst (λ (es : List Event). HasRead c.args.profile.now c.loop-event.reader es AnyEvent before.0)
    (take_all c.loop-event.event-index events c.loop-event-test.false) before.1 in (
      before.0,
      c.reading_ends.ensures c.args.profile.now c.loop-event.reader events before.0 read
          (c.in-Ok.ensures c.args.profile.now),
      before.2,
    )

pub returns-in-Err : goal.returns-in-Err
returns-in-Err c =
    let before = c.loop-event.invariant in
    let events = c.args.events.now in
    let refusal = c.in-Err.refusal in
    let added = Refusal (refusal_data refusal) ∷ [] in
    let read =
    subst (λ (es : List Event). HasRead c.args.profile.now c.loop-event.reader es AnyEvent before.0)
    (take_all c.loop-event.event-index events c.loop-event-test.false) before.1 in (
      before.0 ++ added,
      c.reading_is_truncated.ensures c.args.profile.now c.loop-event.reader events before.0 refusal read
          (c.in-Err.ensures c.args.profile.now),
      c.add.ensures before.0 added before.2 refl,
    )
