-- A refused event that comes again is passed over: for `take_on` and `feed_on`. While events are
-- passed over no packet ends and nothing is refused.
use Rattle.std.proofs.Common.{◌≡◌, List, [], ◌∷◌, ◌++◌, refl, subst}
use Rattle.pmb_bus.specs.declared.event.Event.{Event}
use Rattle.pmb_command.specs.Parts.{DeviceParts}
use Rattle.pmb_transaction.specs.Reading.{Outcome}
use Rattle.pmb_reader.specs.declared.reader.Reader.{Reader}
use Rattle.pmb_reader.specs.declared.reader.Took.{Took}
use Rattle.pmb_reader.specs.declared.reader.Took.TheVariants as took
use Rattle.pmb_reader.specs.Reader.{Standing, Open, Held, Passing, ReaderStandsAt, ReaderTakes}
use Rattle.pmb_reader.specs.Reading.{AnyEvent, Due, HasRead, IsDue, IsDueAt, PassedEvent}

-- reading continues with an event that is used, and ends no packet
abbrev pub GoesOn : Type 0
GoesOn =
    (profile : List DeviceParts) (before after : Reader) (events : List Event) (due : Due) (outcomes : List Outcome)
    (event : Event)
    → HasRead profile before events due outcomes → IsDue due (event ∷ [])
    → ((standing : Standing) → ReaderStandsAt profile before standing
    → ReaderTakes profile standing event took.Continues after)
    → HasRead profile after (events ++ event ∷ []) AnyEvent outcomes

module _ (goes_on : GoesOn) (profile : List DeviceParts) (before after : Reader) (events : List Event)
    (outcomes : List Outcome) (event : Event) where
  -- while events are passed over nothing else is returned
  is_more : (standing : Standing) (answer : Took) → IsDueAt (PassedEvent event) standing
      → ReaderTakes profile standing event answer after → answer ≡ took.Continues
  is_more (Open n front) answer at takes = absurd at
  is_more (Held n refusal) answer at takes = absurd at
  is_more (Passing n) took.Continues at takes = refl
  is_more (Passing n) took.Packet at takes = absurd takes
  is_more (Passing n) (took.Refused refusal) at takes = absurd takes

  pub passed : (answer : Took) → HasRead profile before events (PassedEvent event) outcomes
      → ((standing : Standing) → ReaderStandsAt profile before standing
      → ReaderTakes profile standing event answer after)
      → HasRead profile after (events ++ event ∷ []) AnyEvent outcomes
  passed answer read takes =
      let is : answer ≡ took.Continues = is_more read.standing answer read.at (takes read.standing read.stands) in
      goes_on profile before after events (PassedEvent event) outcomes event read ([], refl)
      (λ standing stands. subst (λ (a : Took). ReaderTakes profile standing event a after) is (takes standing stands))
