-- What an Ask gets: the next byte of a reply, or silence. For `DevicePacket::ask`, and for the
-- functions of a written leg and of the read address. `HasGiven` counts: after k bytes with their
-- ACKs byte k comes next, none while one waits for its ACK, and none after the last.
use Rattle.std.proofs.Common.{◌≡◌, ◌≢◌, ℕ, ◌+◌, ◌<◌, ◌≤◌, ◌⊎◌, inl, inr, Bool, true, false, ◌||◌, if◌then◌else◌, Some}
use Rattle.std.proofs.Common.{List, [], ◌∷◌, ◌++◌, length, refl, sym, ap, subst, ◌∙◌, arith}
use Rattle.std.specs.List.{slice_get}
use Rattle.std.proofs.lemmas.Option.{slice_get_past, slice_get_within}
use Rattle.pmb_command.specs.Parts.{DeviceParts}
use Rattle.pmb_bus.specs.Address.{write_address, read_address}
use Rattle.pmb_registers.specs.State.{DeviceState}
use Rattle.pmb_device.specs.declared.device_packet.LegPhase.{LegPhase}
use Rattle.pmb_device.specs.declared.device_packet.LegPhase.TheVariants as phases
use Rattle.pmb_device.specs.declared.device_packet.DevicePacket.{DevicePacket}
use Rattle.pmb_device.specs.declared.signal.HostSignal.TheVariants.{Ask}
use Rattle.pmb_device.specs.declared.signal.DeviceSignal.{DeviceSignal}
use Rattle.pmb_device.specs.declared.signal.DeviceSignal.TheVariants as answered
use Rattle.pmb_device.specs.Legs.{Leg, Legs, Outside, Inside, behind_address, with_other}
use Rattle.pmb_device.specs.Rules.{Answers, AnswersAsk, byte_or_silent, given_behind, next_of, not_read, replies}
use Rattle.pmb_device.specs.Rules.{waits_behind}
use Rattle.pmb_device.specs.machine.Standing.{AtStart, Counts, HasGiven, InLeg, InReply, InWritten, IsMute, IsReplied}
use Rattle.pmb_device.specs.machine.Standing.{Kept, StandsIn, kept, no_reply, reply_ended}
use Rattle.pmb_device.proofs.Signals.{behind_more, given_both, sent_same, waits_both}
use Rattle.pmb_device.proofs.Phases.{addressed_stays, deaf_stays, going_stays, replied_stays, start_stays}
use Rattle.pmb_device.proofs.Phases.{written_stays}

-- the address of a device that is written is none that is read
pub no_address : (device : DeviceParts) (address : ℕ) → address ≡ write_address device.address
    → address ≡ read_address device.address → ⊥
no_address device address written read = omega arith

module _ (device : DeviceParts) (state : DeviceState) where
  -- ---- what is next

  next_by : (reply : List ℕ) (given : ℕ) (ended waits : Bool) → (ended ≡ true) ⊎ (waits ≡ true)
      → (if ended || waits then answered.Silent else byte_or_silent device (slice_get reply given)) ≡ answered.Silent
  next_by reply given ended waits (inl is) =
      ap (λ (b : Bool). if b || waits then answered.Silent else byte_or_silent device (slice_get reply given)) is
  next_by reply given true waits (inr is) = refl
  next_by reply given false waits (inr is) =
      ap (λ (b : Bool). if b then answered.Silent else byte_or_silent device (slice_get reply given)) is

  next_past : (reply : List ℕ) (given : ℕ) (silent : Bool) → length reply ≤ given
      → (if silent then answered.Silent else byte_or_silent device (slice_get reply given)) ≡ answered.Silent
  next_past reply given true past = refl
  next_past reply given false past = ap (byte_or_silent device) (slice_get_past reply given past)

  next_is : (reply : List ℕ) (given : ℕ) (byte : ℕ) (ended waits : Bool) → ended ≡ false → waits ≡ false
      → slice_get reply given ≡ Some byte
      → (if ended || waits then answered.Silent else byte_or_silent device (slice_get reply given)) ≡ answered.Byte byte
  next_is reply given byte ended waits going free is =
      ap (λ (b : Bool). if b || waits then answered.Silent else byte_or_silent device (slice_get reply given)) going
      ∙ ap (λ (b : Bool). if b then answered.Silent else byte_or_silent device (slice_get reply given)) free
      ∙ ap (byte_or_silent device) is

  -- ---- in a reply

  answers_reply : (reply : List ℕ) (earlier : List Leg) (leg : Leg) (result : DeviceSignal)
      → IsReplied device state reply earlier leg
      → result ≡ next_of device reply (behind_address leg) → AnswersAsk device state earlier leg result
  answers_reply reply earlier leg result r is =
      replies r.address r.bytes r.sent_is r.body r.read r.content reply r.answered r.spelled is

  -- one byte more was given
  count_given : (most given byte : ℕ) (signals : Leg) → given < most → Counts device given false signals
      → HasGiven device most (given + 1) true (signals ++ Ask ∷ [])
  count_given most given byte signals room counts =
      let one : given_behind device (waits_behind device false signals) (Ask ∷ []) ≡ 1 =
      ap (λ (b : Bool). given_behind device b (Ask ∷ [])) (sym counts.waits_is) in
      let same = given_both device false signals (Ask ∷ []) in
      inl (record {
        given_is = omega (arith, counts.given_is, same, one);
        waits_is =
            sym (waits_both device false signals (Ask ∷ []));
      })

  -- none was, while another one waits
  count_waits : (most given : ℕ) (signals : Leg) → HasGiven device most given true signals
      → HasGiven device most given true (signals ++ Ask ∷ [])
  count_waits most given signals (inl counts) =
      let none : given_behind device (waits_behind device false signals) (Ask ∷ []) ≡ 0 =
      ap (λ (b : Bool). given_behind device b (Ask ∷ [])) (sym counts.waits_is) in
      let same = given_both device false signals (Ask ∷ []) in
      inl (record {
        given_is = omega (arith, counts.given_is, same, none);
        waits_is =
            sym (waits_both device false signals (Ask ∷ []));
      })
  count_waits most given signals (inr all) =
      let same = given_both device false signals (Ask ∷ []) in
      inr (all.0, omega (arith, all.1, same))

  -- or all were given
  all_given : (most given : ℕ) (waits : Bool) (signals : Leg) → most ≤ given → HasGiven device most given waits signals
      → most ≤ given_behind device false signals
  all_given most given waits signals past (inl counts) = omega (arith, counts.given_is, past)
  all_given most given waits signals past (inr all) = all.1

  count_past : (most given : ℕ) (waits : Bool) (signals : Leg) → most ≤ given → HasGiven device most given waits signals
      → HasGiven device most given waits (signals ++ Ask ∷ [])
  count_past most given waits signals past has =
      let same = given_both device false signals (Ask ∷ []) in
      let all = all_given most given waits signals past has in
      inr (past, omega (arith, all, same))

  exact : (most given : ℕ) (waits : Bool) (signals : Leg) → given < most → HasGiven device most given waits signals
      → Counts device given waits signals
  exact most given waits signals room (inl counts) = counts
  exact most given waits signals room (inr all) = absurd (omega (arith, all.0, room))

  next_silent : (reply : List ℕ) (given : ℕ) (signals : Leg) → HasGiven device (length reply) given true signals
      → next_of device reply signals ≡ answered.Silent
  next_silent reply given behind (inl counts) = next_by reply (given_behind device false behind) _ _
      (inr (sym counts.waits_is))
  next_silent reply given behind (inr all) = next_past reply (given_behind device false behind) _ all.1

  reply_at_ask : (k : Kept) (reply : List ℕ) (given after : ℕ) (waits waiting : Bool) (earlier : List Leg) (leg : Leg)
      → InReply device state k reply given waits earlier leg
      → HasGiven device (length reply) after waiting (behind_address leg ++ Ask ∷ [])
      → InReply device state k reply after waiting earlier (leg ++ Ask ∷ [])
  reply_at_ask k reply given after waits waiting earlier leg r has =
      let same = sent_same leg Ask refl in
      let here = behind_more leg r.addressed.address r.addressed.bytes (Ask ∷ []) r.addressed.sent_is in record {
        addressed = addressed_stays device state k earlier leg (leg ++ Ask ∷ []) same r.addressed;
        replied = replied_stays device state reply earlier leg (leg ++ Ask ∷ []) same r.replied;
        goes_on = going_stays device state leg r.addressed.address r.addressed.bytes
            (Ask ∷ []) r.addressed.sent_is refl r.goes_on;
        count = subst (HasGiven device (length reply) after waiting) (sym here) has;
      }

  -- ---- in no reply

  mute_answers : (earlier : List Leg) (leg : Leg) → IsMute device state earlier leg
      → AnswersAsk device state earlier leg answered.Silent
  mute_answers earlier leg (no_reply never) = not_read never refl
  mute_answers earlier leg (reply_ended reply replied ended) =
      answers_reply reply earlier leg answered.Silent replied
      (sym (next_by reply (given_behind device false (behind_address leg)) _ _ (inl ended)))

  start_answers : (k : Kept) (behind_first : Bool) (earlier : List Leg) (leg : Leg)
      → AtStart device state k behind_first earlier leg
      → AnswersAsk device state earlier leg answered.Silent
  start_answers k behind_first earlier leg at =
      not_read (λ address bytes is body read reply is_ok. cc (sym is ∙ at.nothing)) refl

  written_answers : (k : Kept) (earlier : List Leg) (leg : Leg) → InWritten device state k earlier leg
      → AnswersAsk device state earlier leg answered.Silent
  written_answers k earlier leg w =
      not_read
      (λ address bytes is body read reply is_ok.
      let same : address ≡ write_address device.address = cc (sym is ∙ w.own.bytes_are) in
      no_address device address same read.own)
      refl

-- ---- by the phase

ask_in : (phase : LegPhase) (x : DevicePacket) (device : DeviceParts) (state : DeviceState) (earlier : List Leg)
    (leg : Leg) → phase ≢ phases.Reply
    → InLeg phase x device state earlier leg
    → AnswersAsk device state earlier leg answered.Silent × InLeg phase x device state earlier (leg ++ Ask ∷ [])
ask_in phases.Outside x device state earlier leg other is = absurd is
ask_in phases.Deaf x device state earlier leg other is = (
  mute_answers device state earlier leg is.mute,
  deaf_stays device state _ earlier leg Ask
      (sent_same leg Ask refl) is,
)
ask_in phases.Reply x device state earlier leg other is = absurd (other refl)
ask_in phases.Start x device state earlier leg other is = (
  start_answers device state _ _ earlier leg is,
  start_stays device state _ _ earlier leg _
      (sent_same leg Ask refl) is,
)
ask_in phases.Written x device state earlier leg other is = (
  written_answers device state _ earlier leg is,
  written_stays device state _ earlier leg _
      (sent_same leg Ask refl) is,
)

abbrev pub AnswersAskBehind : DeviceParts → DeviceState → Legs → DeviceSignal → DevicePacket → Type 0
AnswersAskBehind device state legs result after = Answers device state legs Ask result
    × StandsIn after device state (with_other legs Ask)

pub behind_ask : (x : DevicePacket) (device : DeviceParts) (state : DeviceState) (legs : Legs) → x.phase ≢ phases.Reply
    → StandsIn x device state legs
    → AnswersAskBehind device state legs answered.Silent x
behind_ask x device state Outside other stands = (refl, stands)
behind_ask x device state (Inside earlier leg) other stands =
    let here = ask_in x.phase x device state earlier leg other stands.behind.1 in
    (here.0, record { known = stands.known; accepted = stands.accepted; behind = (stands.behind.0, here.1) })

replying : (x : DevicePacket) (device : DeviceParts) (state : DeviceState) (earlier : List Leg) (leg : Leg)
    → x.phase ≡ phases.Reply → StandsIn x device state (Inside earlier leg)
    → InReply device state (kept x) x.reply.items x.given x.waits earlier leg
replying x device state earlier leg reply stands =
    subst (λ (p : LegPhase). InLeg p x device state earlier leg) reply stands.behind.1

-- it stands in a reply still
still_replying : (x : DevicePacket) (device : DeviceParts) (state : DeviceState) (earlier : List Leg) (leg : Leg)
    → x.phase ≡ phases.Reply
    → InReply device state (kept x) x.reply.items x.given x.waits earlier leg → InLeg x.phase x device state earlier leg
still_replying x device state earlier leg reply r = subst (λ (p : LegPhase). InLeg p x device state earlier leg)
    (sym reply) r

-- a byte of a reply is given
pub gives_byte : (x : DevicePacket) (device : DeviceParts) (state : DeviceState) (legs : Legs) (byte : ℕ)
    → x.phase ≡ phases.Reply → x.waits ≡ false
    → slice_get x.reply.items x.given ≡ Some byte → StandsIn x device state legs
    → AnswersAskBehind device state legs (answered.Byte byte) (record x { given = x.given + 1; waits = true })
gives_byte x device state Outside byte reply free is stands = cc (reply, stands.behind)
gives_byte x device state (Inside earlier leg) byte reply free is stands =
    -- the reply has a byte at this place, so it was counted exactly
    let r = replying x device state earlier leg reply stands in
    let room : x.given < length x.reply.items = slice_get_within x.reply.items x.given byte is in
    let counts = exact device state (length x.reply.items) x.given x.waits (behind_address leg) room r.count in
    let free_counts : Counts device x.given false (behind_address leg) =
    subst (λ (b : Bool). Counts device x.given b (behind_address leg)) free counts in
    -- it is the byte that the definition has next, since none waits
    let here : slice_get x.reply.items (given_behind device false (behind_address leg)) ≡ Some byte =
    ap (slice_get x.reply.items) (sym counts.given_is) ∙ is in
    let next = next_is device state x.reply.items (given_behind device false (behind_address leg)) byte _ _ r.goes_on
    (sym free_counts.waits_is) here in
    -- one more was given, and it waits for its ACK
    let after = reply_at_ask device state (kept x) x.reply.items x.given (x.given + 1) x.waits true earlier leg r
    (count_given device state (length x.reply.items) x.given byte (behind_address leg) room free_counts) in
    let y : DevicePacket = record x { given = x.given + 1; waits = true } in (
      answers_reply device state x.reply.items earlier leg (answered.Byte byte) r.replied (sym next),
      record {
        known = stands.known;
        accepted = stands.accepted;
        behind =
            (stands.behind.0, still_replying y device state earlier (leg ++ Ask ∷ []) reply after);
      },
    )

-- none is, while one waits
pub gives_none_yet : (x : DevicePacket) (device : DeviceParts) (state : DeviceState) (legs : Legs)
    → x.phase ≡ phases.Reply → x.waits ≡ true → StandsIn x device state legs
    → AnswersAskBehind device state legs answered.Silent x
gives_none_yet x device state Outside reply waits stands = cc (reply, stands.behind)
gives_none_yet x device state (Inside earlier leg) reply waits stands =
    let r = replying x device state earlier leg reply stands in
    let has : HasGiven device (length x.reply.items) x.given true (behind_address leg) =
    subst (λ (b : Bool). HasGiven device (length x.reply.items) x.given b (behind_address leg)) waits r.count in
    let count = subst (λ (b : Bool). HasGiven device (length x.reply.items) x.given b (behind_address leg ++ Ask ∷ []))
    (sym waits) (count_waits device state (length x.reply.items) x.given (behind_address leg) has) in (
      answers_reply device state x.reply.items earlier leg answered.Silent r.replied
          (sym (next_silent device state x.reply.items x.given (behind_address leg) has)),
      record {
        known = stands.known;
        accepted = stands.accepted;
        behind = (
          stands.behind.0,
          still_replying x device state earlier (leg ++ Ask ∷ []) reply
              (reply_at_ask device state (kept x) x.reply.items x.given x.given x.waits x.waits earlier leg r count),
        );
      },
    )

-- or after the last one
pub gives_no_more : (x : DevicePacket) (device : DeviceParts) (state : DeviceState) (legs : Legs)
    → x.phase ≡ phases.Reply → length x.reply.items ≤ x.given → StandsIn x device state legs
    → AnswersAskBehind device state legs answered.Silent x
gives_no_more x device state Outside reply past stands = cc (reply, stands.behind)
gives_no_more x device state (Inside earlier leg) reply past stands =
    let r = replying x device state earlier leg reply stands in
    let all = all_given device state (length x.reply.items) x.given x.waits (behind_address leg) past r.count in
    let count = count_past device state (length x.reply.items) x.given x.waits (behind_address leg) past r.count in (
      answers_reply device state x.reply.items earlier leg answered.Silent r.replied
          (sym (next_past device state x.reply.items (given_behind device false (behind_address leg)) _ all)),
      record {
        known = stands.known;
        accepted = stands.accepted;
        behind = (
          stands.behind.0,
          still_replying x device state earlier (leg ++ Ask ∷ []) reply
              (reply_at_ask device state (kept x) x.reply.items x.given x.given x.waits x.waits earlier leg r count),
        );
      },
    )
