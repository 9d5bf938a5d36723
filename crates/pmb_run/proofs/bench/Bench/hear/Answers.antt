use Rattle.std.proofs.Common.{◌≡◌, ◌∙◌, ◌∷◌, [], ◌+◌, List, ◌++◌, ap, append_assoc, subst, sym, take}
use Rattle.std.proofs.lemmas.List.{take_all, take_more}
use Rattle.pmb_bus.specs.declared.event.Event.{Event}
use Rattle.pmb_bus.specs.declared.event.Event.TheVariants.{Start}
use Rattle.pmb_command.specs.Bus.{IsBus}
use Rattle.pmb_run.specs.machine.Bench.{HaveHeard, bench_profile}
use Rattle.pmb_run.specs.declared.bench.Bench.{Bench}
use Rattle.pmb_run.proofs.Hearing.{ends_none, event_at, heard_as, heard_other, heard_packet}
use Rattle.pmb_run.proofs.bench.Bench.hear.Goals as goal
use Rattle.pmb_run.proofs.bench.Bench.hear.Goals.{in-Packet, in-Continues}

-- The event goes on with what was heard, or ends its packet, which the context is then given.
pub loop-event-preserved : goal.loop-event-preserved
loop-event-preserved c =
    let i = c.loop-event.event-index in
    let events = c.args.events.now in
    let event = event_at events i in
    let bench = c.loop-event.self in
    let more : take (i + 1) events ≡ take i events ++ event ∷ [] = take_more events i Start c.loop-event-test.true in
    let grown = λ (before : List Event). append_assoc before (take i events) (event ∷ [])
    ∙ ap (λ (es : List Event). before ++ es) (sym more) in
    let bus : IsBus (bench_profile bench) = subst (λ p. IsBus p) (ap (λ p. p.now) (sym c.loop-event.invariant.profile))
    c.accepted_bus.ensures in
    elim c.match-take.branch [
      | in-Packet w ↦ let now : Bench = record bench { reader = c.take.new.self; context = w.observe.new.self } in
          record {
            profile = ap (λ (b : Bench). b.profile) w.self-is ∙ c.loop-event.invariant.profile;
            bus = ap (λ (b : Bench). b.bus) w.self-is ∙ c.loop-event.invariant.bus;
            heard = λ ts n before heard.
                subst (λ (b : Bench). HaveHeard b ts n (before ++ take (i + 1) events)) (sym w.self-is)
                (heard_as now ts n _ _ (grown before)
                (heard_packet bench c.take.new.self event ts n (before ++ take i events)
                (c.loop-event.invariant.heard ts n before heard) w.observe.new.self _
                c.one_transaction.ensures c.no_packet_begins_another.ensures bus c.take.result w.in-Packet.is c.take.ensures
                w.packet.ensures w.observe.ensures));
          }
      | in-Continues w ↦ let now : Bench = record bench { reader = c.take.new.self } in record {
        profile = ap (λ (b : Bench). b.profile) w.self-is ∙ c.loop-event.invariant.profile;
        bus = ap (λ (b : Bench). b.bus) w.self-is ∙ c.loop-event.invariant.bus;
        heard = λ ts n before heard.
            subst (λ (b : Bench). HaveHeard b ts n (before ++ take (i + 1) events)) (sym w.self-is)
            (heard_as now ts n _ _ (grown before)
            (heard_other bench c.take.new.self event ts n (before ++ take i events)
            (c.loop-event.invariant.heard ts n before heard)
            c.some_packet_is_read.ensures c.take.result (ends_none c.take.result w.in-Continues.is) c.take.ensures));
      }
    ]

-- They are all of them.
pub returns-clause-heard : goal.returns-clause-heard
returns-clause-heard c = λ ts n before heard.
    heard_as c.loop-event.self ts n _ _ (ap (λ (events : List Event). before ++ events)
    (take_all c.loop-event.event-index c.args.events.now c.loop-event-test.false))
    (c.loop-event.invariant.heard ts n before heard)
