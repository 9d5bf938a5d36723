-- What a bench has made of events, wherever its reader stood before them: for `Bench::overhear` and `overhear_one`.
-- What remains from the place after an event, with the event in front, remains from the place before it.
use Rattle.std.proofs.Common.{◌≡◌, ◌≢◌, ◌∙◌, ℕ, ◌+◌, inl, List, [], ◌∷◌, ◌++◌, length, length-append, append_assoc}
use Rattle.std.proofs.Common.{append-nil, ap, arith, refl, subst, sym}
use Rattle.pmb_bus.specs.declared.event.Event.{Event}
use Rattle.pmb_bus.specs.declared.event.Event.TheVariants.{Start, Byte, Ack, Nack, Stop}
use Rattle.pmb_command.specs.Parts.{DeviceParts}
use Rattle.pmb_note.specs.Context.{HasSeen}
use Rattle.pmb_transaction.specs.Reading.{Accepted, Outcome, PassedOver, ReadsAfterStop, ReadsFrom, Refusal}
use Rattle.pmb_transaction.specs.Transaction.{TransactionData}
use Rattle.pmb_reader.specs.declared.reader.Reader.{Reader}
use Rattle.pmb_reader.specs.declared.reader.Took.{Took}
use Rattle.pmb_reader.specs.declared.reader.Took.TheVariants as took
use Rattle.pmb_reader.specs.declared.refusal.Refusal as answered
use Rattle.pmb_reader.specs.Refusal.{refusal_data}
use Rattle.pmb_reader.specs.Reader.{Standing, Open, Held, Passing, ReaderStandsAt, ReaderTakes, behind_passed, behind_resync, last_read}
use Rattle.pmb_reader.specs.Reading.{AnyEvent, IsDueAt, Remains}
use Rattle.pmb_run.specs.declared.bench.Bench.{Bench}
use Rattle.pmb_run.specs.machine.Bench.{bench_profile}
use Rattle.pmb_run.specs.Heard.{HearsAt, HearsMore, told_by}
use Rattle.pmb_run.proofs.Overheard.{told_both}

-- what is passed over goes on, and ends at STOP
abbrev pub OthersPass : Type 0
OthersPass =
    (event : Event) (events passed left : List Event) → event ≢ Stop → PassedOver events passed left
    → PassedOver (event ∷ events) (event ∷ passed) left

abbrev pub StopPasses : Type 0
StopPasses = (rest : List Event) → PassedOver (Stop ∷ rest) (Stop ∷ []) rest

module _ (profile : List DeviceParts) where
  -- Some events read from one place to another as these outcomes.
  pub record ReadsOn (before : Standing) (events : List Event) (outcomes : List Outcome) (place : Standing) : Type 0 where
    pub free : IsDueAt AnyEvent place
    pub reads : (more : List Event) (later : List Outcome) → Remains profile place more later
        → Remains profile before (events ++ more) (outcomes ++ later)

  -- those of two steps
  reads_both : (a b c : Standing) (es fs : List Event) (os ps : List Outcome) → ReadsOn a es os b → ReadsOn b fs ps c
      → ReadsOn a (es ++ fs) (os ++ ps) c
  reads_both a b c es fs os ps one two = record {
    free = two.free;
    reads =
        λ more later remains.
        subst (λ (events : List Event). Remains profile a events ((os ++ ps) ++ later)) (sym (append_assoc es fs more))
        (subst (λ (outcomes : List Outcome). Remains profile a (es ++ (fs ++ more)) outcomes)
        (sym (append_assoc os ps later))
        (one.reads (fs ++ more) (ps ++ later) (two.reads more later remains)));
  }

  -- ---- one event

  module _ (others_pass : OthersPass) (stop_passes : StopPasses) where
    after_one : (n : ℕ) (event : Event) (more : List Event) (later : List Outcome) → event ≢ Stop
        → ReadsAfterStop profile (n + 1) more later → ReadsAfterStop profile n (event ∷ more) later
    after_one n event more later other w =
        let count : n + 1 + length w.0 ≡ n + length (event ∷ w.0) = omega arith in (
          event ∷ w.0,
          w.1,
          others_pass event more w.0 w.1 other w.2,
          subst (λ (m : ℕ). ReadsFrom profile m w.1 later) count w.3,
        )

    -- an event that is passed over
    passed_remains : (n : ℕ) (event : Event) (more : List Event) (later : List Outcome)
        → Remains profile (behind_passed n event) more later → ReadsAfterStop profile n (event ∷ more) later
    passed_remains n Start more later remains = after_one n Start more later (λ is. cc is) remains
    passed_remains n (Byte b) more later remains = after_one n (Byte b) more later (λ is. cc is) remains
    passed_remains n Ack more later remains = after_one n Ack more later (λ is. cc is) remains
    passed_remains n Nack more later remains = after_one n Nack more later (λ is. cc is) remains
    passed_remains n Stop more later remains = (Stop ∷ [], more, stop_passes more, remains)

    passed_free : (n : ℕ) (event : Event) → IsDueAt AnyEvent (behind_passed n event)
    passed_free n Start = tt
    passed_free n (Byte b) = tt
    passed_free n Ack = tt
    passed_free n Nack = tt
    passed_free n Stop = tt

    passed_stands : (n : ℕ) (event : Event) (answer : Took) (after : Reader)
        → ReaderTakes profile (Passing n) event answer after → ReaderStandsAt profile after (behind_passed n event)
    passed_stands n event took.Continues after takes = takes
    passed_stands n event took.Packet after takes = absurd takes
    passed_stands n event (took.Refused refusal) after takes = absurd takes

    -- where a reader stands after an event, and how that reads on
    abbrev pub Onward : Reader → Standing → Event → List Outcome → Type 0
    Onward after before event outcomes =
        (place : Standing) × ReaderStandsAt profile after place × ReadsOn before (event ∷ []) outcomes place

    -- an event that continues a packet, or is passed over
    pub continues_on : (after : Reader) (event : Event) (before : Standing) → IsDueAt AnyEvent before
        → ReaderTakes profile before event took.Continues after → Onward after before event []
    continues_on after event (Open n front) free takes = (
      Open n (front ++ event ∷ []),
      takes.1,
      record {
        free = tt;
        reads =
            λ more later remains.
            subst (λ (es : List Event). ReadsFrom profile n es later) (append_assoc front (event ∷ []) more) remains;
      },
    )
    continues_on after event (Held n refusal) free takes = absurd free
    continues_on after event (Passing n) free takes = (
      behind_passed n event,
      takes,
      record {
        free = passed_free n event;
        reads = λ more later remains. passed_remains n event more later remains;
      },
    )

    -- one that ends a packet
    pub packet_on : (after : Reader) (event : Event) (before : Standing) → IsDueAt AnyEvent before
        → ReaderTakes profile before event took.Packet after → Onward after before event (Accepted (last_read after) ∷ [])
    packet_on after event (Open n front) free takes =
        let count : n + length front + 1 ≡ n + length (front ++ event ∷ []) =
        omega (arith, length-append front (event ∷ [])) in (
          Open (n + length front + 1) [],
          takes.1,
          record {
            free = tt;
            reads =
                λ more later remains. (
                  front ++ event ∷ [],
                  more,
                  sym (append_assoc front (event ∷ []) more),
                  takes.0,
                  subst (λ (m : ℕ). ReadsFrom profile m more later) count remains,
                );
          },
        )
    packet_on after event (Held n refusal) free takes = absurd free
    packet_on after event (Passing n) free takes = absurd takes

    -- one that is refused, and is then passed over
    pub refused_on : (held resumed after : Reader) (event : Event) (refusal : answered.Refusal) (answer : Took)
        (before : Standing)
        → IsDueAt AnyEvent before → ReaderTakes profile before event (took.Refused refusal) held
        → ((standing : Standing) → ReaderStandsAt profile held standing
        → ReaderStandsAt profile resumed (behind_resync standing))
        → ((standing : Standing) → ReaderStandsAt profile resumed standing
        → ReaderTakes profile standing event answer after)
        → Onward after before event (Refusal (refusal_data refusal) ∷ [])
    refused_on held resumed after event refusal answer (Open n front) free takes resumes again =
        let at = n + length front in
        let passing : ReaderStandsAt profile resumed (Passing at) =
        resumes (Held at (refusal_data refusal)) takes.1 in (
          behind_passed at event,
          passed_stands at event answer after (again (Passing at) passing),
          record {
            free = passed_free at event;
            reads =
                λ more later remains.
                let over = passed_remains at event more later remains in
                inl (front, event, more, refl, takes.0, over.0, over.1, over.2, over.3);
          },
        )
    refused_on held resumed after event refusal answer (Held n first) free takes resumes again = absurd free
    refused_on held resumed after event refusal answer (Passing n) free takes resumes again = absurd takes

-- ---- a bench

-- no event
pub hears_none : (bench : Bench) (place : Standing) (ts : List TransactionData) → HearsAt bench place ts
    → HearsMore bench place ts []
hears_none bench place ts hears = record {
  outcomes = [];
  place = place;
  hears = record {
    reader = hears.reader;
    free = hears.free;
    context = subst (λ (seen : List TransactionData). HasSeen bench.context (bench_profile bench) seen)
        (sym (append-nil ts)) hears.context;
  };
  reads = λ more later remains. remains;
}

-- some events, and then others
pub hears_both : (old new : Bench) → bench_profile new ≡ bench_profile old → (place : Standing)
    (ts : List TransactionData) (es fs : List Event) (was : HearsMore old place ts es)
    → HearsMore new was.place (ts ++ told_by was.outcomes) fs → HearsMore new place ts (es ++ fs)
hears_both old new same place ts es fs was now =
    let one : ReadsOn (bench_profile new) place es was.outcomes was.place =
    subst (λ (profile : List DeviceParts). ReadsOn profile place es was.outcomes was.place) (sym same)
    (record { free = was.hears.free; reads = was.reads }) in
    let two : ReadsOn (bench_profile new) was.place fs now.outcomes now.place =
    record { free = now.hears.free; reads = now.reads } in
    let both = reads_both (bench_profile new) place was.place now.place es fs was.outcomes now.outcomes one two in
    record {
      outcomes = was.outcomes ++ now.outcomes;
      place = now.place;
      hears = subst (λ (seen : List TransactionData). HearsAt new now.place seen)
          (append_assoc ts (told_by was.outcomes) (told_by now.outcomes)
          ∙ ap (λ (more : List TransactionData). ts ++ more) (sym (told_both was.outcomes now.outcomes))) now.hears;
      reads = both.reads;
    }
