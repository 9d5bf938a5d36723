-- What a signal without a byte changes in each phase: nothing but the counts of a reply. For all
-- steps of a `DevicePacket`. The bytes sent in the leg are the same, and with them whatever speaks
-- of them; in a reply ACK frees the next byte, and NACK ends the reply.
use Rattle.std.proofs.Common.{◌≡◌, ℕ, inl, inr, Bool, true, false, ◌||◌, List, [], ◌∷◌, ◌++◌, length, refl, sym, ap}
use Rattle.std.proofs.Common.{subst, ◌∙◌, arith}
use Rattle.pmb_command.specs.Parts.{DeviceParts}
use Rattle.pmb_registers.specs.State.{DeviceState}
use Rattle.pmb_device.specs.declared.signal.HostSignal.{HostSignal}
use Rattle.pmb_device.specs.declared.signal.HostSignal.TheVariants.{Ack, Nack}
use Rattle.pmb_device.specs.Legs.{Leg, behind_address, sent}
use Rattle.pmb_device.specs.Rules.{is_ended}
use Rattle.pmb_device.specs.machine.Standing.{AtStart, HasGiven, InDeaf, InReply, InWritten, IsAddressed, IsMute}
use Rattle.pmb_device.specs.machine.Standing.{IsReplied, Kept, no_reply, reply_ended}
use Rattle.pmb_device.proofs.Signals.{behind_more, ended_both, given_both, sent_same, waits_both}
use Rattle.pmb_device.proofs.Owns.{own_stays}

module _ (device : DeviceParts) (state : DeviceState) where
  -- ---- signals that are no byte

  pub addressed_stays : (k : Kept) (earlier : List Leg) (leg longer : Leg) → sent longer ≡ sent leg
      → IsAddressed device state k earlier leg
      → IsAddressed device state k earlier longer
  addressed_stays k earlier leg longer same a = record {
    address = a.address;
    bytes = a.bytes;
    sent_is = same ∙ a.sent_is;
    own = own_stays device state k earlier leg longer same a.own;
    no_bytes = a.no_bytes;
  }

  pub replied_stays : (reply : List ℕ) (earlier : List Leg) (leg longer : Leg) → sent longer ≡ sent leg
      → IsReplied device state reply earlier leg
      → IsReplied device state reply earlier longer
  replied_stays reply earlier leg longer same r = record {
    address = r.address;
    bytes = r.bytes;
    sent_is = same ∙ r.sent_is;
    body = r.body;
    read = r.read;
    content = r.content;
    answered = r.answered;
    spelled = r.spelled;
  }

  or_true : (b c : Bool) → b ≡ true → (b || c) ≡ true
  or_true b c is = ap (λ (x : Bool). x || c) is

  -- the end of a reply stays
  pub ended_stays : (leg : Leg) (address : ℕ) (bytes : List ℕ) (more : Leg) → sent leg ≡ address ∷ bytes
      → is_ended device (behind_address leg) ≡ true → is_ended device (behind_address (leg ++ more)) ≡ true
  ended_stays leg address bytes more is ended =
      ap (is_ended device) (behind_more leg address bytes more is) ∙ ended_both device (behind_address leg) more
      ∙ or_true _ _ ended

  pub mute_stays : (earlier : List Leg) (leg : Leg) (signal : HostSignal) → sent (leg ++ signal ∷ []) ≡ sent leg
      → IsMute device state earlier leg
      → IsMute device state earlier (leg ++ signal ∷ [])
  mute_stays earlier leg signal same (no_reply never) =
      no_reply (λ address bytes is. never address bytes (sym same ∙ is))
  mute_stays earlier leg signal same (reply_ended reply replied ended) =
      reply_ended reply (replied_stays reply earlier leg (leg ++ signal ∷ []) same replied)
      (ended_stays leg replied.address replied.bytes (signal ∷ []) replied.sent_is ended)

  pub deaf_stays : (k : Kept) (earlier : List Leg) (leg : Leg) (signal : HostSignal)
      → sent (leg ++ signal ∷ []) ≡ sent leg → InDeaf device state k earlier leg
      → InDeaf device state k earlier (leg ++ signal ∷ [])
  deaf_stays k earlier leg signal same d = record {
    addressed = addressed_stays k earlier leg (leg ++ signal ∷ []) same d.addressed;
    mute = mute_stays earlier leg signal same d.mute;
  }

  pub start_stays : (k : Kept) (behind_first : Bool) (earlier : List Leg) (leg longer : Leg) → sent longer ≡ sent leg
      → AtStart device state k behind_first earlier leg → AtStart device state k behind_first earlier longer
  start_stays k behind_first earlier leg longer same a =
      record {
        nothing = same ∙ a.nothing;
        behind_own = a.behind_own;
        own =
            own_stays device state k earlier leg longer same a.own;
      }

  pub written_stays : (k : Kept) (earlier : List Leg) (leg longer : Leg) → sent longer ≡ sent leg
      → InWritten device state k earlier leg
      → InWritten device state k earlier longer
  written_stays k earlier leg longer same w = record {
    bytes = w.bytes;
    own = record {
      kept_own = w.own.kept_own;
      first = w.own.first;
      bytes_are = same ∙ w.own.bytes_are;
      body =
          w.own.body;
      read = w.own.read;
    };
    not_refused = w.not_refused;
  }

  -- ---- in a reply

  -- the reply goes on after another signal than NACK
  pub going_stays : (leg : Leg) (address : ℕ) (bytes : List ℕ) (more : Leg) → sent leg ≡ address ∷ bytes
      → is_ended device more ≡ false
      → is_ended device (behind_address leg) ≡ false → is_ended device (behind_address (leg ++ more)) ≡ false
  going_stays leg address bytes more is other going =
      ap (is_ended device) (behind_more leg address bytes more is) ∙ ended_both device (behind_address leg) more
      ∙ ap (λ (b : Bool). b || is_ended device more) going ∙ other

  -- after ACK nothing waits
  pub counts_ack : (most given : ℕ) (waits : Bool) (signals : Leg) → HasGiven device most given waits signals
      → HasGiven device most given false (signals ++ Ack ∷ [])
  counts_ack most given waits signals (inl counts) =
      let same = given_both device false signals (Ack ∷ []) in
      inl (record {
        given_is = omega (arith, counts.given_is, same);
        waits_is =
            sym (waits_both device false signals (Ack ∷ []));
      })
  counts_ack most given waits signals (inr all) =
      let same = given_both device false signals (Ack ∷ []) in
      inr (all.0, omega (arith, all.1, same))

  pub reply_at_ack : (k : Kept) (reply : List ℕ) (given : ℕ) (waits : Bool) (earlier : List Leg) (leg : Leg)
      → InReply device state k reply given waits earlier leg
      → InReply device state k reply given false earlier (leg ++ Ack ∷ [])
  reply_at_ack k reply given waits earlier leg r =
      let same = sent_same leg Ack refl in
      let here = behind_more leg r.addressed.address r.addressed.bytes (Ack ∷ []) r.addressed.sent_is in record {
        addressed = addressed_stays k earlier leg (leg ++ Ack ∷ []) same r.addressed;
        replied = replied_stays reply earlier leg (leg ++ Ack ∷ []) same r.replied;
        goes_on = going_stays leg r.addressed.address r.addressed.bytes (Ack ∷ []) r.addressed.sent_is refl r.goes_on;
        count = subst (HasGiven device (length reply) given false) (sym here)
            (counts_ack (length reply) given waits (behind_address leg) r.count);
      }

  -- a NACK ends it
  pub deaf_at_nack : (k : Kept) (reply : List ℕ) (given : ℕ) (waits : Bool) (earlier : List Leg) (leg : Leg)
      → InReply device state k reply given waits earlier leg
      → InDeaf device state k earlier (leg ++ Nack ∷ [])
  deaf_at_nack k reply given waits earlier leg r =
      let same = sent_same leg Nack refl in
      let ended : is_ended device (behind_address (leg ++ Nack ∷ [])) ≡ true =
      ap (is_ended device) (behind_more leg r.addressed.address r.addressed.bytes (Nack ∷ []) r.addressed.sent_is)
      ∙ ended_both device (behind_address leg) (Nack ∷ [])
      ∙ ap (λ (b : Bool). b || true) r.goes_on in
      record {
        addressed = addressed_stays k earlier leg (leg ++ Nack ∷ []) same r.addressed;
        mute = reply_ended reply (replied_stays reply earlier leg (leg ++ Nack ∷ []) same r.replied) ended;
      }
