use Rattle.std.proofs.Common.{[], ◌∷◌, ◌++◌, List, append-nil, refl, sym, subst}
use Rattle.pmb_note.specs.Context.{HasSeen}
use Rattle.pmb_transaction.specs.Reading.{Accepted, Outcome, Refusal}
use Rattle.pmb_reader.specs.Reader.{last_read}
use Rattle.pmb_reader.specs.Reading.{AnyEvent, HeldEvent}
use Rattle.pmb_reader.specs.Refusal.{refusal_data}
use Rattle.pmb_run.specs.Heard.{ReadsAs, told_by}
use Rattle.pmb_run.specs.machine.Bench.{bench_profile}
use Rattle.pmb_run.specs.declared.bench.Bench.{Bench}
use Rattle.pmb_transaction.specs.Transaction.{TransactionData}
use Rattle.pmb_run.proofs.Onward.{continues_on, packet_on, refused_on}
use Rattle.pmb_run.proofs.Overheard.{passed_over, seen_no_more, seen_one_more}
use Rattle.pmb_run.proofs.bench.Bench.overhear_one.Goals as goal

-- Nothing more is read.
pub returns-in-Continues-clause-reads : goal.returns-in-Continues-clause-reads
returns-in-Continues-clause-reads c = λ before outcomes reads.
    let bench = c.args.self.now in
    let now : Bench = record bench { reader = c.take.new.self } in (
      [],
      subst (λ (os : List Outcome). ReadsAs now (before ++ c.args.event ∷ []) os) (sym (append-nil outcomes))
          (record {
            read = c.reading_goes_on.ensures (bench_profile bench) bench.reader c.take.new.self before AnyEvent outcomes
                c.args.event reads.read tt (c.in-Continues.ensures (bench_profile bench));
            seen = reads.seen;
          }),
    )

-- A packet is read, and the context is given its transaction.
pub returns-in-Packet-clause-reads : goal.returns-in-Packet-clause-reads
returns-in-Packet-clause-reads c = λ before outcomes reads.
    let bench = c.args.self.now in
    let profile = bench_profile bench in
    let t = last_read c.take.new.self in (
      Accepted t ∷ [],
      record {
        read = c.reading_accepts.ensures profile bench.reader c.take.new.self before AnyEvent outcomes c.args.event
            reads.read (c.in-Packet.ensures profile);
        seen = seen_one_more c.observe.new.self profile outcomes t _ c.packet.ensures
            (c.observe.ensures profile (told_by outcomes) reads.seen);
      },
    )

-- The event is refused, and then passed over.
pub returns-in-Refused-clause-reads : goal.returns-in-Refused-clause-reads
returns-in-Refused-clause-reads c = λ before outcomes reads.
    let bench = c.args.self.now in
    let profile = bench_profile bench in
    let refused = refusal_data c.in-Refused.field-0 in
    let more = outcomes ++ Refusal refused ∷ [] in
    let held = c.reading_refuses.ensures profile bench.reader c.take.new.self before outcomes c.args.event
    c.in-Refused.field-0 reads.read (c.in-Refused.ensures profile) in
    let resumed = c.reading_resumes.ensures profile c.take.new.self c.resync.new.self before (HeldEvent c.args.event)
    more held (c.resync.ensures.resumes profile) in (
      Refusal refused ∷ [],
      record {
        read = passed_over c.reading_goes_on.ensures profile c.resync.new.self c.take-in-Refused.new.self before more
            c.args.event c.take-in-Refused.result resumed (c.take-in-Refused.ensures profile);
        seen = seen_no_more bench.context profile outcomes refused reads.seen;
      },
    )

-- ---- wherever the reader stood

pub returns-in-Continues-clause-reads_on : goal.returns-in-Continues-clause-reads_on
returns-in-Continues-clause-reads_on c = λ place ts hears.
    let bench = c.args.self.now in
    let profile = bench_profile bench in
    let on = continues_on profile c.passing_goes_on.ensures.other c.passing_goes_on.ensures.stop
    c.take.new.self c.args.event place hears.free
    (c.in-Continues.ensures profile place hears.reader) in
    record {
      outcomes = [];
      place = on.0;
      hears = record {
        reader = on.1;
        free = on.2.free;
        context = subst (λ (seen : List TransactionData). HasSeen bench.context profile seen) (sym (append-nil ts))
            hears.context;
      };
      reads = on.2.reads;
    }

pub returns-in-Packet-clause-reads_on : goal.returns-in-Packet-clause-reads_on
returns-in-Packet-clause-reads_on c = λ place ts hears.
    let profile = bench_profile c.args.self.now in
    let t = last_read c.take.new.self in
    let on = packet_on profile c.passing_goes_on.ensures.other c.passing_goes_on.ensures.stop
    c.take.new.self c.args.event place hears.free
    (c.in-Packet.ensures profile place hears.reader) in
    record {
      outcomes = Accepted t ∷ [];
      place = on.0;
      hears = record {
        reader = on.1;
        free = on.2.free;
        context = subst (λ (u : TransactionData). HasSeen c.observe.new.self profile (ts ++ u ∷ [])) c.packet.ensures
            (c.observe.ensures profile ts hears.context);
      };
      reads = on.2.reads;
    }

pub returns-in-Refused-clause-reads_on : goal.returns-in-Refused-clause-reads_on
returns-in-Refused-clause-reads_on c = λ place ts hears.
    let bench = c.args.self.now in
    let profile = bench_profile bench in
    let on = refused_on profile c.passing_goes_on.ensures.other c.passing_goes_on.ensures.stop
    c.take.new.self c.resync.new.self
    c.take-in-Refused.new.self c.args.event c.in-Refused.field-0 c.take-in-Refused.result place hears.free
    (c.in-Refused.ensures profile place hears.reader) (c.resync.ensures.resumes profile)
    (c.take-in-Refused.ensures profile) in
    record {
      outcomes = Refusal (refusal_data c.in-Refused.field-0) ∷ [];
      place = on.0;
      hears = record {
        reader = on.1;
        free = on.2.free;
        context = subst (λ (seen : List TransactionData). HasSeen bench.context profile seen) (sym (append-nil ts))
            hears.context;
      };
      reads = on.2.reads;
    }
