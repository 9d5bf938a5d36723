-- What a bench has made of one event more, whatever it is: for `Bench::overhear_one`. It continues a packet, ends
-- one, or is refused, and then it is passed over.
use Rattle.std.proofs.Common.{◌≡◌, List, [], ◌∷◌, ◌++◌, append_assoc, append-nil, ap, refl, sym, subst}
use Rattle.pmb_bus.specs.declared.event.Event.{Event}
use Rattle.pmb_command.specs.Parts.{DeviceParts}
use Rattle.pmb_note.specs.Context.{HasSeen}
use Rattle.pmb_note.specs.declared.context.Context.{Context}
use Rattle.pmb_transaction.specs.Reading.{Accepted, Outcome, Refusal, RefusalData}
use Rattle.pmb_transaction.specs.Transaction.{TransactionData}
use Rattle.pmb_reader.specs.declared.reader.Reader.{Reader}
use Rattle.pmb_reader.specs.declared.reader.Took.{Took}
use Rattle.pmb_reader.specs.declared.reader.Took.TheVariants as took
use Rattle.pmb_reader.specs.Reader.{Standing, Open, Held, Passing, ReaderStandsAt, ReaderTakes}
use Rattle.pmb_reader.specs.Reading.{AnyEvent, Due, HasRead, IsDue, IsDueAt, PassedEvent}
use Rattle.pmb_run.specs.Heard.{told_by}

-- the transactions of outcomes and more outcomes
pub told_both : (outcomes more : List Outcome) → told_by (outcomes ++ more) ≡ told_by outcomes ++ told_by more
told_both [] more = refl
told_both (Accepted t ∷ outcomes) more = ap (λ (ts : List TransactionData). t ∷ ts) (told_both outcomes more)
told_both (Refusal refusal ∷ outcomes) more = told_both outcomes more

-- a context that was given no more
pub seen_no_more : (context : Context) (profile : List DeviceParts) (outcomes : List Outcome) (refusal : RefusalData)
    → HasSeen context profile (told_by outcomes) → HasSeen context profile (told_by (outcomes ++ Refusal refusal ∷ []))
seen_no_more context profile outcomes refusal seen =
    subst (λ (ts : List TransactionData). HasSeen context profile ts) (sym (told_both outcomes (Refusal refusal ∷ [])))
    (subst (λ (ts : List TransactionData). HasSeen context profile ts) (sym (append-nil (told_by outcomes))) seen)

-- and one that was given one
pub seen_one_more : (context : Context) (profile : List DeviceParts) (outcomes : List Outcome) (t u : TransactionData)
    → u ≡ t → HasSeen context profile (told_by outcomes ++ u ∷ [])
    → HasSeen context profile (told_by (outcomes ++ Accepted t ∷ []))
seen_one_more context profile outcomes t u same seen =
    subst (λ (ts : List TransactionData). HasSeen context profile ts) (sym (told_both outcomes (Accepted t ∷ [])))
    (subst (λ (w : TransactionData). HasSeen context profile (told_by outcomes ++ w ∷ [])) same seen)

-- reading continues with an event that is used, and ends no packet
abbrev pub GoesOnReading : Type 0
GoesOnReading =
    (profile : List DeviceParts) (before after : Reader) (events : List Event) (due : Due) (outcomes : List Outcome)
    (event : Event)
    → HasRead profile before events due outcomes → IsDue due (event ∷ [])
    → ((standing : Standing) → ReaderStandsAt profile before standing
    → ReaderTakes profile standing event took.Continues after)
    → HasRead profile after (events ++ event ∷ []) AnyEvent outcomes

module _ (goes_on : GoesOnReading) (profile : List DeviceParts) (before after : Reader) (events : List Event)
    (outcomes : List Outcome) (event : Event) where
  -- while events are passed over nothing else is returned
  only_more : (standing : Standing) (answer : Took) → IsDueAt (PassedEvent event) standing
      → ReaderTakes profile standing event answer after → answer ≡ took.Continues
  only_more (Open n front) answer at takes = absurd at
  only_more (Held n refusal) answer at takes = absurd at
  only_more (Passing n) took.Continues at takes = refl
  only_more (Passing n) took.Packet at takes = absurd takes
  only_more (Passing n) (took.Refused refusal) at takes = absurd takes

  -- the event is passed over
  pub passed_over : (answer : Took) → HasRead profile before events (PassedEvent event) outcomes
      → ((standing : Standing) → ReaderStandsAt profile before standing
      → ReaderTakes profile standing event answer after)
      → HasRead profile after (events ++ event ∷ []) AnyEvent outcomes
  passed_over answer read takes =
      let is : answer ≡ took.Continues = only_more read.standing answer read.at (takes read.standing read.stands) in
      goes_on profile before after events (PassedEvent event) outcomes event read ([], refl)
      (λ standing stands. subst (λ (a : Took). ReaderTakes profile standing event a after) is (takes standing stands))
