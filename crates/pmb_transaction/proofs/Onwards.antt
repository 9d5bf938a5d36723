-- Inside the capture of transactions no event is refused: after some of its packets, and the events
-- of one under way, its next event may follow. For the law `captures_go_on`. A packet at the front
-- of the capture is the capture's first, so it is taken away from both, until the events under way
-- are inside the first packet.
use Rattle.std.proofs.Common.{◌≡◌, ◌⊎◌, inl, inr, List, [], ◌∷◌, ◌++◌, sym, ap, ◌∙◌, subst, append_assoc}
use Rattle.std.proofs.lemmas.List.{append-nil}
use Rattle.pmb_bus.specs.declared.event.Event.{Event}
use Rattle.pmb_command.specs.Parts.{DeviceParts}
use Rattle.pmb_transaction.specs.Transaction.{TransactionData}
use Rattle.pmb_transaction.specs.Packet.{Packet}
use Rattle.pmb_transaction.specs.Capture.{Capture, MayFollow}
use Rattle.pmb_transaction.specs.Reading.{IsUnderWay}
use Rattle.pmb_transaction.proofs.Captures.{not_none, same_first_packet}
use Rattle.pmb_transaction.proofs.Ends.{packet_is_viable}
use Rattle.pmb_transaction.proofs.Fronts.{Beyond, Within, cut, no_end}
use Rattle.pmb_transaction.proofs.Readings.{may_follow}

module _ (profile : List DeviceParts) where
  -- in the first packet
  in_first : (t : TransactionData) (front : List Event) (event : Event) (more first behind rest : List Event)
      → IsUnderWay profile front
      → Packet profile t first → first ≡ front ++ rest → event ∷ more ≡ rest ++ behind → MayFollow profile front event
  in_first t front event more first behind [] going packet split same =
      absurd (going.no_packet front [] (sym (append-nil front))
      (t, subst (Packet profile t) (split ∙ append-nil front) packet))
  in_first t front event more first behind (e ∷ rest) going packet split same =
      let is : e ≡ event = cc same in
      may_follow profile front event rest first (split ∙ ap (λ (x : Event). front ++ x ∷ rest) is)
      (packet_is_viable profile first (t, packet))

  here : (t : TransactionData) (front : List Event) (event : Event) (more first behind : List Event)
      → IsUnderWay profile front
      → Packet profile t first → Within front (event ∷ more) first behind ⊎ Beyond front (event ∷ more) first behind
      → MayFollow profile front event
  here t front event more first behind going packet (inl w) =
      in_first t front event more first behind w.rest going packet w.first w.second
  here t front event more first behind going packet (inr w) =
      absurd (going.no_packet first (w.event ∷ w.rest) w.first (t, packet))

  at_first : (ts : List TransactionData) (front : List Event) (event : Event) (more events : List Event)
      → IsUnderWay profile front
      → Capture profile ts events → events ≡ front ++ event ∷ more → MayFollow profile front event
  at_first [] front event more events going capture split = absurd (no_end front event more (sym split ∙ capture))
  at_first (t ∷ ts) front event more events going capture split =
      here t front event more capture.0 capture.1 going capture.3
      (cut front (event ∷ more) capture.0 capture.1 (sym split ∙ capture.2))

  -- after some of the transactions, and the events of a packet under way
  pub captures_go_on : (done ts : List TransactionData) (whole front : List Event) (event : Event)
      (more events : List Event)
      → Capture profile ts events → events ≡ whole ++ (front ++ event ∷ more) → Capture profile done whole
      → IsUnderWay profile front
      → MayFollow profile front event
  captures_go_on [] ts whole front event more events capture split read going =
      at_first ts front event more events going capture
      (split ∙ ap (λ (es : List Event). es ++ (front ++ event ∷ more)) read)
  captures_go_on (u ∷ done) [] whole front event more events capture split read going =
      let all : events ≡ read.0 ++ (read.1 ++ (front ++ event ∷ more)) =
      split ∙ ap (λ (es : List Event). es ++ (front ++ event ∷ more)) read.2
      ∙ append_assoc read.0 read.1 (front ++ event ∷ more) in
      absurd (not_none profile u read.0 (read.1 ++ (front ++ event ∷ more)) read.3 (sym capture ∙ all))
  captures_go_on (u ∷ done) (t ∷ ts) whole front event more events capture split read going =
      let all : events ≡ read.0 ++ (read.1 ++ (front ++ event ∷ more)) =
      split ∙ ap (λ (es : List Event). es ++ (front ++ event ∷ more)) read.2
      ∙ append_assoc read.0 read.1 (front ++ event ∷ more) in
      let same =
      same_first_packet profile t u capture.0 read.0 capture.1 (read.1 ++ (front ++ event ∷ more)) capture.3 read.3
      (sym capture.2 ∙ all) in
      captures_go_on done ts read.1 front event more capture.1 capture.4 same.1 read.4 going
