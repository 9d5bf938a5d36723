-- What the next event comes to.
use Rattle.std.specs.Prelude.{◌≡◌, ℕ, List, [], ◌∷◌, ◌++◌}
use Rattle.pmb_bus.specs.declared.event.Event.{Event}
use Rattle.pmb_reader.specs.declared.reader.Reader.{Reader}
use Rattle.pmb_reader.specs.declared.reader.Took.{Took}
use Rattle.pmb_reader.specs.declared.reader.Took.TheVariants as answers
use Rattle.pmb_reader.specs.Reader.{Open, last_read}
use Rattle.pmb_reader.specs.Refusal.{refusal_data}
use Rattle.pmb_scan.specs.Reached.{Reached, MayGoOn, behind_event, behind_packet, behind_refusal}
use Rattle.pmb_scan.specs.machine.Standing.{ReaderReached}
use Rattle.pmb_transaction.specs.Packet.{Packet}
use Rattle.pmb_transaction.specs.Reading.{RefusedAt, RefusalData}
use Rattle.pmb_transaction.specs.Transaction.{TransactionData}

-- it ends no packet, and is not refused
pub record GoesOn (reached : Reached) (event : Event) (after : Reader) : Type 0 where
  pub may : MayGoOn reached.standing event
  pub reads : ReaderReached after (behind_event reached event)

-- it ends the packet of a transaction
pub record EndsPacket (reached : Reached) (event : Event) (t : TransactionData) (after : Reader) : Type 0 where
  pub n : ℕ
  pub front : List Event
  pub standing : reached.standing ≡ Open n front
  pub packet : Packet reached.profile t (front ++ event ∷ [])
  pub reads : ReaderReached after (behind_packet reached n front event t)

-- it is refused, and passed over
pub record IsRefused (reached : Reached) (event : Event) (refusal : RefusalData) (after : Reader) : Type 0 where
  pub n : ℕ
  pub front : List Event
  pub standing : reached.standing ≡ Open n front
  pub refused : RefusedAt reached.profile n front event refusal
  pub reads : ReaderReached after (behind_refusal reached n front event refusal)

abbrev pub ReportsAs : Reached → Event → Took → Reader → Type 0
ReportsAs reached event answers.Continues after = GoesOn reached event after
ReportsAs reached event answers.Packet after = EndsPacket reached event (last_read after) after
ReportsAs reached event (answers.Refused refusal) after = IsRefused reached event (refusal_data refusal) after
