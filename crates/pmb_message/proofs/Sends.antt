-- A message that was sent, with its events on the tape: for `send_write`, `send_read` and `send_block`.
use Rattle.std.proofs.Common.{◌≡◌, ◌∙◌, ◌+◌, ◌*◌, ◌<◌, ◌≤◌, ℕ, Result, Ok, Err, IfOk, OnErr, List, [], ◌++◌, length, take, drop}
use Rattle.std.proofs.Common.{ap, refl, sym, subst, arith}
use Rattle.std.proofs.lemmas.List.{drop_at, length-take, take_at, take-append-drop}
use Rattle.pmb_bus.specs.Address.{read_address, write_address}
use Rattle.pmb_devices.specs.declared.bus.Bus.{Bus}
use Rattle.pmb_devices.specs.Bus.{AnsweredSignal}
use Rattle.pmb_i2c.specs.declared.message.MessageFault.{MessageFault}
use Rattle.pmb_i2c.specs.Message.{IsMessage, ReadsAll, ReadsCounted, Writes}
use Rattle.pmb_i2c.specs.Signals.{Gives}
use Rattle.pmb_i2c.specs.Wire.{wire_events}
use Rattle.pmb_message.specs.declared.message.Message.{Message}
use Rattle.pmb_message.specs.declared.message.SendFault.{SendFault}
use Rattle.pmb_message.specs.Send.{IsReady, RestStays, Sends, Sent, block_as, counted, counted_as, reading, reading_block, writing}
use Rattle.pmb_message.specs.Tape.{HasTaped, most_events}
use Rattle.pmb_bus.specs.declared.event.Event.{Event}
use Rattle.pmb_message.proofs.Bounds.{counted_size, message_size, reads_size, writes_size}

-- All events of a message that has no more than there is room for are on the tape.
taped : {Such : List AnsweredSignal → Type 0} (old new : Bus) (before after : List Event) → before ≡ []
    → ((heard : List AnsweredSignal) → Such heard → length (wire_events heard) ≤ most_events)
    → Gives Such old new (HasTaped before) (HasTaped after) → Sent Such old new after
taped old new before after fresh short gives = record {
  heard = gives.heard;
  such = gives.such;
  takes = gives.takes;
  events_are = gives.told [] (λ few. fresh) (short gives.heard gives.such);
}

-- a block has its count and up to 32 bytes beside those that follow it
block_counted : (flags : ℕ) → flags ≡ reading_block → counted flags ≡ 33
block_counted flags is = ap counted is

-- what stays of the room where bytes were read to its front
front_stays : (was bytes : List ℕ) (n : ℕ) (outcome : Result (Unit {0}) MessageFault) → length bytes ≡ n
    → OnErr outcome (bytes ≡ take n was) → RestStays (counted_as n outcome) was (bytes ++ drop n was)
front_stays was bytes n (Ok done) long untouched = drop_at bytes (drop n was) n long
front_stays was bytes n (Err fault) long untouched =
    ap (λ (l : List ℕ). l ++ drop n was) untouched ∙ take-append-drop n was

-- and where a block was read
block_stays : (was room : List ℕ) (outcome : Result ℕ MessageFault) → IfOk outcome (λ n. drop n room ≡ drop n was)
    → OnErr outcome (room ≡ was) → RestStays (block_as outcome) was room
block_stays was room (Ok count) rest untouched = rest
block_stays was room (Err fault) rest untouched = untouched

module _ (message : Message) (old new : Bus) (before after : List Event) (fresh : before ≡ []) where
  pub writes : (room : List ℕ) (outcome : Result (Unit {0}) MessageFault) → IsReady message (length room)
      → message.flags ≡ writing
      → Gives (IsMessage message.address (write_address message.address) (Writes (take message.length room) outcome)
      message.end outcome) old new (HasTaped before) (HasTaped after)
      → Sends message room room old new after (counted_as message.length outcome)
  writes room outcome ready flags gives =
      let bytes = take message.length room in
      let most = 2 * message.length in
      let long : length bytes ≤ message.length = omega (arith, length-take message.length room) in
      Sends.write outcome ready flags refl refl
      (taped old new before after fresh (λ heard message_is.
      let few = message_size message.address (write_address message.address) most (Writes bytes outcome) message.end
      outcome heard (λ xs is. omega (arith, writes_size bytes outcome xs is, long)) message_is in
      omega (arith, few, ready.few)) gives)

  pub reads : (was room : List ℕ) (outcome : Result (Unit {0}) MessageFault) → IsReady message (length was)
      → message.flags ≡ reading
      → RestStays (counted_as message.length outcome) was room
      → Gives (IsMessage message.address (read_address message.address) (ReadsAll (take message.length room) outcome)
      message.end outcome) old new (HasTaped before) (HasTaped after)
      → Sends message was room old new after (counted_as message.length outcome)
  reads was room outcome ready flags rest gives =
      let bytes = take message.length room in
      let most = 2 * message.length in
      let long : length bytes ≤ message.length = omega (arith, length-take message.length room) in
      Sends.read outcome ready flags rest refl
      (taped old new before after fresh (λ heard message_is.
      let few = message_size message.address (read_address message.address) most (ReadsAll bytes outcome)
      message.end outcome heard (λ xs is. omega (arith, reads_size bytes xs is.reads, long)) message_is in
      omega (arith, few, ready.few)) gives)

  -- those that were read stand at the front of the room
  pub reads_into : (was bytes : List ℕ) (outcome : Result (Unit {0}) MessageFault) → length bytes ≡ message.length
      → OnErr outcome (bytes ≡ take message.length was) → IsReady message (length was) → message.flags ≡ reading
      → Gives (IsMessage message.address (read_address message.address) (ReadsAll bytes outcome) message.end outcome)
      old new (HasTaped before) (HasTaped after)
      → Sends message was (bytes ++ drop message.length was) old new after (counted_as message.length outcome)
  reads_into was bytes outcome long untouched ready flags gives =
      let rest = drop message.length was in
      reads was (bytes ++ rest) outcome ready flags (front_stays was bytes message.length outcome long untouched)
      (subst
      (
      λ (read : List ℕ).
      Gives (IsMessage message.address (read_address message.address) (ReadsAll read outcome) message.end outcome)
      old new (HasTaped before) (HasTaped after)
      ) (sym (take_at bytes rest message.length long)) gives)

  pub reads_block : (was room : List ℕ) (outcome : Result ℕ MessageFault) → IsReady message (length was)
      → message.flags ≡ reading_block → IfOk outcome (λ n. drop n room ≡ drop n was) → OnErr outcome (room ≡ was)
      → Gives (IsMessage message.address (read_address message.address) (ReadsCounted room message.length outcome)
      message.end outcome) old new (HasTaped before) (HasTaped after)
      → Sends message was room old new after (block_as outcome)
  reads_block was room outcome ready flags rest untouched gives =
      let most = 2 * (33 + message.length) in
      Sends.read_block outcome ready flags (block_stays was room outcome rest untouched) refl
      (taped old new before after fresh (λ heard message_is.
      let few = message_size message.address (read_address message.address) most (ReadsCounted room message.length outcome)
      message.end outcome heard (λ xs is. counted_size room message.length outcome xs is) message_is in
      omega (arith, few, ready.few, block_counted message.flags flags)) gives)
