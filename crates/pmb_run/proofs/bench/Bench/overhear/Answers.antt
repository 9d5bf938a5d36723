use Rattle.std.proofs.Common.{◌≡◌, ◌∙◌, ◌∷◌, [], ◌+◌, List, ◌++◌, ap, append_assoc, append-nil, subst, sym, take}
use Rattle.std.proofs.lemmas.List.{take_all, take_more}
use Rattle.std.specs.Borrow.{Bor}
use Rattle.pmb_command.specs.Parts.{DeviceParts}
use Rattle.pmb_bus.specs.declared.event.Event.{Event}
use Rattle.pmb_bus.specs.declared.event.Event.TheVariants.{Start}
use Rattle.pmb_transaction.specs.Reading.{Outcome}
use Rattle.pmb_run.specs.Heard.{HearsMore, ReadsAs, told_by}
use Rattle.pmb_run.proofs.Hearing.{event_at}
use Rattle.pmb_run.proofs.Onward.{hears_both, hears_none}
use Rattle.pmb_run.proofs.bench.Bench.overhear.Goals as goal

-- Nothing was read yet.
pub loop-event-init : goal.loop-event-init
loop-event-init c = record {
  profile = λ i. c.args.self.now.profile;
  bus = λ i. c.args.self.now.bus;
  reads = λ before outcomes reads. (
    [],
    subst (λ (events : List Event). ReadsAs c.args.self.now events (outcomes ++ [])) (sym (append-nil before))
        (subst (λ (os : List Outcome). ReadsAs c.args.self.now before os) (sym (append-nil outcomes)) reads),
  );
  reads_on = λ place ts hears. hears_none c.args.self.now place ts hears;
}

-- One event more.
pub loop-event-preserved : goal.loop-event-preserved
loop-event-preserved c =
    let i = c.loop-event.event-index in
    let events = c.args.events.now in
    let more : take (i + 1) events ≡ take i events ++ event_at events i ∷ [] =
    take_more events i Start c.loop-event-test.true in
    record {
      profile = c.overhear_one.ensures.profile ∙ c.loop-event.invariant.profile;
      bus = c.overhear_one.ensures.bus ∙ c.loop-event.invariant.bus;
      reads = λ before outcomes reads.
          let was = c.loop-event.invariant.reads before outcomes reads in
          let now = c.overhear_one.ensures.reads (before ++ take i events) (outcomes ++ was.0) was.1 in
          let grown = append_assoc before (take i events) (event_at events i ∷ [])
          ∙ ap (λ (es : List Event). before ++ es) (sym more) in (
            was.0 ++ now.0,
            subst (λ (es : List Event). ReadsAs c.overhear_one.new.self es (outcomes ++ (was.0 ++ now.0))) grown
                (subst (λ (os : List Outcome). ReadsAs c.overhear_one.new.self
                ((before ++ take i events) ++ event_at events i ∷ []) os) (append_assoc outcomes was.0 now.0) now.1),
          );
      reads_on = λ place ts hears.
          let was = c.loop-event.invariant.reads_on place ts hears in
          let now = c.overhear_one.ensures.reads_on was.place (ts ++ told_by was.outcomes) was.hears in
          subst (λ (es : List Event). HearsMore c.overhear_one.new.self place ts es) (sym more)
          (hears_both c.loop-event.self c.overhear_one.new.self
          (ap (λ (p : Bor (List DeviceParts)). p.now) c.overhear_one.ensures.profile) place ts (take i events)
          (event_at events i ∷ []) was now);
    }

-- They are all of them.
pub returns-clause-reads : goal.returns-clause-reads
returns-clause-reads c = λ before outcomes reads.
    let was = c.loop-event.invariant.reads before outcomes reads in (
      was.0,
      subst (λ (es : List Event). ReadsAs c.loop-event.self (before ++ es) (outcomes ++ was.0))
          (take_all c.loop-event.event-index c.args.events.now c.loop-event-test.false) was.1,
    )

pub returns-clause-reads_on : goal.returns-clause-reads_on
returns-clause-reads_on c = λ place ts hears.
    subst (λ (es : List Event). HearsMore c.loop-event.self place ts es)
    (take_all c.loop-event.event-index c.args.events.now c.loop-event-test.false)
    (c.loop-event.invariant.reads_on place ts hears)
