use Rattle.std.proofs.Common.{[], ◌∷◌, ◌++◌, List, refl, sym, subst}
use Rattle.std.proofs.lemmas.List.{append-nil}
use Rattle.pmb_transaction.specs.Reading.{Accepted, Outcome, Refusal}
use Rattle.pmb_reader.specs.Reader.{last_read}
use Rattle.pmb_reader.specs.Reading.{AnyEvent, HasRead, HeldEvent}
use Rattle.pmb_reader.specs.Refusal.{refusal_data}
use Rattle.pmb_count.proofs.Passed.{passed}
use Rattle.pmb_count.proofs.one.take_on.Goals as goal

pub returns-in-Continues : goal.returns-in-Continues
returns-in-Continues c = λ profile events outcomes read. (
  [],
  refl,
  subst (λ (os : List Outcome). HasRead profile c.take.new.self (events ++ c.args.event ∷ []) AnyEvent os)
      (sym (append-nil outcomes))
      (c.reading_goes_on.ensures profile c.args.reader.now c.take.new.self events AnyEvent outcomes c.args.event read tt
      (c.in-Continues.ensures profile)),
)

pub returns-in-Packet : goal.returns-in-Packet
returns-in-Packet c = λ profile events outcomes read.
    let after = c.take.new.self in (
      Accepted (last_read after) ∷ [],
      (last_read after, refl),
      c.reading_accepts.ensures profile c.args.reader.now after events AnyEvent outcomes c.args.event read
          (c.in-Packet.ensures profile),
    )

pub returns-in-Refused : goal.returns-in-Refused
returns-in-Refused c = λ profile events outcomes read.
    let refusal = c.in-Refused.refusal in
    let added = Refusal (refusal_data refusal) ∷ [] in
    let held =
    c.reading_refuses.ensures profile c.args.reader.now c.take.new.self events outcomes c.args.event refusal read
    (c.in-Refused.ensures profile) in
    let resumed =
    c.reading_resumes.ensures profile c.take.new.self c.resync.new.self events (HeldEvent c.args.event)
    (outcomes ++ added) held
    (c.resync.ensures.resumes profile) in (
      added,
      refl,
      passed c.reading_goes_on.ensures profile c.resync.new.self c.take-in-Refused.new.self events
          (outcomes ++ added) c.args.event
          c.take-in-Refused.result resumed (c.take-in-Refused.ensures profile),
    )
