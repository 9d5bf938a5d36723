use Rattle.std.proofs.Common.{[], ◌∷◌, ◌++◌, Ok, Err, refl, ap, subst, ◌∙◌}
use Rattle.pmb_bus.specs.Count.{capped}
use Rattle.pmb_transaction.specs.Reading.{Refusal}
use Rattle.pmb_reader.specs.Refusal.{refusal_data}
use Rattle.pmb_count.specs.Count.{IsCountOf}
use Rattle.pmb_count.proofs.Sums.{packets_written, refusals_written}
use Rattle.pmb_count.proofs.pieces.Counter.finish.Goals as goal

pub returns-in-Ok-clause-reads : goal.returns-in-Ok-clause-reads
returns-in-Ok-clause-reads c = λ profile events has. (
  has.outcomes,
  c.reading_ends.ensures profile c.args.self.now.reader events has.outcomes has.read (c.in-Ok.ensures profile),
  has.counted,
)

pub returns-in-Ok-clause-written : goal.returns-in-Ok-clause-written
returns-in-Ok-clause-written c = λ profile ts events bus capture has.
    let back =
    c.captures_are_read_back.ensures profile ts c.args.self.now.reader events has.outcomes (Ok tt) bus capture has.read
    (c.in-Ok.ensures profile) in
    let is = subst (IsCountOf c.args.self.now.so_far) back.0 has.counted in
    (is.packets_are ∙ ap capped (packets_written ts), is.refusals_are ∙ ap capped (refusals_written ts))

pub returns-in-Err-clause-reads : goal.returns-in-Err-clause-reads
returns-in-Err-clause-reads c = λ profile events has.
    let refusal = c.in-Err.refusal in
    let added = Refusal (refusal_data refusal) ∷ [] in (
      has.outcomes ++ added,
      c.reading_is_truncated.ensures profile c.args.self.now.reader events has.outcomes refusal has.read
          (c.in-Err.ensures profile),
      c.add.ensures has.outcomes added has.counted refl,
    )

pub returns-in-Err-clause-written : goal.returns-in-Err-clause-written
returns-in-Err-clause-written c = λ profile ts events bus capture has.
    let back =
    c.captures_are_read_back.ensures profile ts c.args.self.now.reader events has.outcomes
    (Err c.in-Err.refusal) bus capture has.read
    (c.in-Err.ensures profile) in
    absurd (cc (back.1))
