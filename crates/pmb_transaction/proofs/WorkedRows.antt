-- Reasons worked by hand: after the events of each row, what may follow, and so which reason a
-- refused event has there. For the law `reasons_of_rows`. The rows' bus has two devices with three
-- commands, so all bodies and answers that they take are listed, and an event that goes on with
-- none of these is refused.
use Rattle.std.proofs.Common.{◌≡◌, ℕ, ◌<◌, ◌≤◌, ◌⊎◌, inl, inr, Bool, true, false, codes, cond, Some, None, List, []}
use Rattle.std.proofs.Common.{◌∷◌, ◌++◌, length, nat_eq, refl, sym, ap, ◌∙◌, subst, append_assoc, arith}
use Rattle.std.specs.List.{IsDistinct}
use Rattle.std.proofs.lemmas.Bool.{eqb-true, eqb-false}
use Rattle.std.proofs.lemmas.Option.{none-some}
use Rattle.pmb_bus.specs.declared.event.Event.{Event}
use Rattle.pmb_bus.specs.declared.event.Event.TheVariants.{Start, Byte, Ack, Nack, Stop}
use Rattle.pmb_bus.specs.Pec.{plus, divide_step, left_after, number, pec}
use Rattle.pmb_command.specs.Bus.{IsBus, IsCommand, IsDevice}
use Rattle.pmb_command.specs.Commands.{read, standard_entries, standard_entry, standard_rows, written}
use Rattle.pmb_command.specs.Fitting.{are_kept, calls_fit, has_form, is_fixed, reads_data, ways_agree}
use Rattle.pmb_command.specs.Names.{IsNameOf}
use Rattle.pmb_command.specs.declared.form.Form.{Form}
use Rattle.pmb_command.specs.declared.form.Form.TheVariants.{Zero, One, Two}
use Rattle.pmb_command.specs.declared.form.Shape.{Shape}
use Rattle.pmb_command.specs.Wire.{Takes, wire}
use Rattle.pmb_command.specs.Parts.{DeviceParts, IsNew}
use Rattle.pmb_transaction.specs.Body.{Allowed, IsReadBody, IsWriteBody, WriteBody, checked, forms, shape_of}
use Rattle.pmb_transaction.specs.Body.{IsFormOfRequest}
use Rattle.pmb_transaction.specs.Capture.{MayFollow}
use Rattle.pmb_transaction.specs.declared.reason.Reason.TheVariants.{ReadFirst, BadRestart, BadPec, UnknownDevice}
use Rattle.pmb_transaction.specs.declared.reason.Reason.TheVariants.{UnknownCommand, TooLong, TooShort}
use Rattle.pmb_transaction.specs.Following.{BeginsAnswer, IsFirstAddress, IsInsideAnswer, IsNextAddress, IsAlertAnswer}
use Rattle.pmb_transaction.specs.Following.{alert_first, next_leg, reply_leg, written_first}
use Rattle.pmb_transaction.specs.Packet.{PartsEvents, addresses, leg}
use Rattle.pmb_transaction.specs.Reason.{FollowsAlone, SomeByteMayFollow}
use Rattle.pmb_transaction.specs.Reason as reasons
use Rattle.pmb_transaction.specs.Rows.{AckAloneFollows, IsOutOfPlace, NackAloneFollows, OtherByteFollows, capability}
use Rattle.pmb_transaction.specs.Rows.{clear_faults, command, device_58h, device_59h, read_vin, worked_bus}
use Rattle.pmb_transaction.specs.Transaction.{PartData}
use Rattle.pmb_transaction.specs.Turns.{follows_in_turn}
use Rattle.pmb_transaction.specs.Viable.{BeginsBody, IsAnswer, IsInsideBody}
use Rattle.pmb_transaction.proofs.Addresses.{distinct_none}
use Rattle.pmb_transaction.proofs.AddressBytes.{ack_follows, first_follows, nack_follows}
use Rattle.pmb_transaction.proofs.Alerts.{alert_is_read}
use Rattle.pmb_transaction.proofs.Ends.{stop_follows_nack}
use Rattle.pmb_transaction.proofs.NextLegs.{byte_follows as address_byte_follows}
use Rattle.pmb_transaction.proofs.ReadLegs.{IsReadLeg, byte_follows as answer_byte_follows, byte_refused, byte_taken}
use Rattle.pmb_transaction.proofs.Replies.{reply_is_read}
use Rattle.pmb_transaction.proofs.Starts.{not_both}
use Rattle.pmb_transaction.proofs.Turns.{events_take_turns}
use Rattle.pmb_transaction.proofs.WrittenLegs.{byte_follows as written_byte_follows, refusal_follows, taken_follows}

-- ---- the bus
-- The numbers of the rows: 0xb0 and 0xb1 are the address bytes of the device at 58h, 0xb2 and 0xb3
-- those of 59h. Codes are 0x03 CLEAR_FAULTS, 0x88 READ_VIN and 0x19 CAPABILITY, and 0xc8, which
-- neither device has. As an address byte 0x19 is the Alert Response Address.

-- a command of the rows may be on a bus, by what its code, its name and its forms have to be
may_be : (code : ℕ) (name : List ℕ) (shape : Shape) → code < 256 → IsNameOf code name → has_form shape ≡ true
    → ways_agree shape.write shape.read ≡ true → reads_data shape.read ≡ true → calls_fit shape.call ≡ true
    → (is_fixed code ≡ true → are_kept shape (standard_entry code) ≡ true) → IsCommand (command code name shape)
unfolding IsDistinct
may_be code name shape byte named some_form one_form read_data call_form fixed = record {
  entry = record {
    byte = byte;
    name = named;
    fitting = record {
      some_form = some_form;
      one_form = one_form;
      read_data = read_data;
      call_form = call_form;
      fixed = fixed;
      raw = λ is. refl;
      page = λ is. refl;
      kind = refl;
      ranges = tt;
    };
  };
  initial = tt;
  unit = tt;
  bits = record { few = omega arith; each = tt; ascending = tt; own_names = tt };
}

command_03h : IsCommand clear_faults
unfolding standard_entry standard_entries standard_rows
command_03h =
    may_be 0x03 (codes "CLEAR_FAULTS") (written Zero) (omega arith)
    (record { some = omega arith; most = omega arith; spelled = inl refl }) refl
    refl refl refl (λ is. refl)

command_88h : IsCommand read_vin
command_88h =
    may_be 0x88 (codes "READ_VIN") (read Two) (omega arith)
    (record { some = omega arith; most = omega arith; spelled = inl refl }) refl refl
    refl refl (λ is. absurd (cc is))

command_19h : IsCommand capability
command_19h =
    may_be 0x19 (codes "CAPABILITY") (read One) (omega arith)
    (record { some = omega arith; most = omega arith; spelled = inl refl }) refl refl
    refl refl (λ is. absurd (cc is))

-- the devices may be on a bus
is_58h : IsDevice device_58h
unfolding IsDistinct
is_58h = record {
  address = record { least = omega arith; greatest = omega arith; no_alert = λ same. absurd (cc same) };
  some_page = omega arith;
  few_pages = omega arith;
  name = tt;
  mode_of_each = refl;
  bytes = (omega arith, tt);
  one_mode = λ one. refl;
  tables = tt;
  phases = tt;
  own_codes = ((refl, tt), (tt, tt));
  commands = (command_03h, (command_88h, tt));
  items = (tt, (tt, tt));
  protection = λ is. absurd (cc is);
  first_protection = λ is. absurd (cc is);
}

is_59h : IsDevice device_59h
unfolding IsDistinct
is_59h = record {
  address = record { least = omega arith; greatest = omega arith; no_alert = λ same. absurd (cc same) };
  some_page = omega arith;
  few_pages = omega arith;
  name = tt;
  mode_of_each = refl;
  bytes = (omega arith, tt);
  one_mode = λ one. refl;
  tables = tt;
  phases = tt;
  own_codes = (tt, tt);
  commands = (command_19h, tt);
  items = (tt, tt);
  protection = λ is. absurd (cc is);
  first_protection = λ is. absurd (cc is);
}

pub accepted : IsBus worked_bus
unfolding IsDistinct
accepted = record {
  few = omega arith;
  own_addresses = ((refl, tt), (tt, tt));
  devices = (is_58h, (is_59h, tt));
  also = (tt, (tt, tt));
}

-- ---- the bodies that the device at 58h takes

abbrev pec_of_clear : ℕ
pec_of_clear = pec (0xb0 ∷ 0x03 ∷ [])

clear_is_coded : pec_of_clear ≡ 0x46
unfolding plus divide_step left_after number pec
clear_is_coded = refl

-- what is written to it, by its bytes
pub data Clears (body : List ℕ) : Type 0 where
  clears : body ≡ 0x03 ∷ [] → Clears body
  clears_coded : body ≡ 0x03 ∷ pec_of_clear ∷ [] → Clears body

written_at : (a b : Bool) (code : ℕ) (form : Form) → nat_eq 0x03 code ≡ a
    → (shape_of (cond a (Some clear_faults) (cond b (Some read_vin) None))).write ≡ Some form
    → (code ≡ 0x03) × (form ≡ Zero)
written_at true b code form is has = (sym (eqb-true 0x03 code is), cc has)
written_at false true code form is has = absurd (cc has)
written_at false false code form is has = absurd (cc has)

-- CLEAR_FAULTS alone is written
written_is : (code : ℕ) (form : Form) → (forms device_58h code).write ≡ Some form → (code ≡ 0x03) × (form ≡ Zero)
written_is code form has = written_at (nat_eq 0x03 code) (nat_eq 0x88 code) code form refl has

read_at : (a b : Bool) (code : ℕ) (form : Form) → nat_eq 0x88 code ≡ b
    → (shape_of (cond a (Some clear_faults) (cond b (Some read_vin) None))).read ≡ Some form
    → (code ≡ 0x88) × (form ≡ Two)
read_at true b code form is has = absurd (cc has)
read_at false true code form is has = (sym (eqb-true 0x88 code is), cc has)
read_at false false code form is has = absurd (cc has)

-- READ_VIN alone is read
read_is : (code : ℕ) (form : Form) → (forms device_58h code).read ≡ Some form → (code ≡ 0x88) × (form ≡ Two)
read_is code form has = read_at (nat_eq 0x03 code) (nat_eq 0x88 code) code form refl has

called_at : (a b : Bool) (form : Form) → (shape_of (cond a (Some clear_faults) (cond b (Some read_vin) None))).call
    ≡ Some form → ⊥
called_at true b form has = cc has
called_at false true form has = cc has
called_at false false form has = cc has

-- nothing is called
not_called : (code : ℕ) (form : Form) → (forms device_58h code).call ≡ Some form → ⊥
not_called code form has = called_at (nat_eq 0x03 code) (nat_eq 0x88 code) form has

written_body : (bytes : List ℕ) (with_pec : Bool) (body : List ℕ) → Takes Zero (length bytes)
    → body ≡ checked with_pec (0xb0 ∷ []) (0x03 ∷ wire Zero bytes) → Clears body
written_body [] true body taken is = clears_coded is
written_body [] false body taken is = clears is
written_body (b ∷ bytes) with_pec body taken is = absurd (cc taken)

write_body : (code : ℕ) (bytes : List ℕ) (with_pec : Bool) (body : List ℕ)
    → WriteBody device_58h code bytes with_pec body → Clears body
write_body code bytes with_pec body w =
    let is = written_is code w.form w.written in
    let taken = subst (λ (f : Form). Takes f (length bytes)) (is.1) w.fits.taken in
    let by_form = subst (λ (f : Form). body ≡ checked with_pec (0xb0 ∷ []) (code ∷ wire f bytes)) (is.1) w.spelled in
    let by_code = subst (λ (c : ℕ). body ≡ checked with_pec (0xb0 ∷ []) (c ∷ wire Zero bytes)) (is.0) by_form in
    written_body bytes with_pec body taken by_code

-- they are all
one_body : (body : List ℕ) → Allowed device_58h [] body → Clears body ⊎ (body ≡ 0x88 ∷ [])
one_body body (inl (code, bytes, with_pec, w)) = inl (write_body code bytes with_pec body w)
one_body body (inr (inl (code, form, r))) = inr (r.spelled ∙ ap (λ (c : ℕ). c ∷ []) (read_is code form r.read).0)
one_body body (inr (inr (code, form, bytes, c))) = absurd (not_called code form c.called)

-- ---- the answers of both devices

-- the form of what is asked for by a code that is read and not called
asked_form : (device : DeviceParts) (code : ℕ) (form : Form)
    → ((other : Form) → (forms device code).call ≡ Some other → ⊥)
    → IsFormOfRequest device form (code ∷ [])
    → (forms device code).read ≡ Some form
asked_form device code form none (inl (asked, r)) =
    let same : asked ≡ code = sym (cc r.spelled) in
    subst (λ (c : ℕ). (forms device c).read ≡ Some form) same r.read
asked_form device code form none (inr (asked, sent, c)) =
    let same : asked ≡ code = sym (cc c.spelled) in
    absurd (none form (subst (λ (x : ℕ). (forms device x).call ≡ Some form) same c.called))

-- an answer to READ_VIN, by its bytes
pub data OneWord (answer : List ℕ) : Type 0 where
  word : (low high : ℕ) → answer ≡ low ∷ high ∷ [] → OneWord answer
  word_coded : (low high : ℕ) → answer ≡ low ∷ high ∷ pec (0xb0 ∷ 0x88 ∷ 0xb1 ∷ low ∷ high ∷ []) ∷ [] → OneWord answer

word_read : (reply : List ℕ) (with_pec : Bool) (answer : List ℕ) → Takes Two (length reply)
    → answer ≡ checked with_pec (0xb0 ∷ 0x88 ∷ 0xb1 ∷ []) (wire Two reply) → OneWord answer
word_read [] with_pec answer taken is = absurd (cc taken)
word_read (a ∷ []) with_pec answer taken is = absurd (cc taken)
word_read (a ∷ b ∷ []) true answer taken is = word_coded a b is
word_read (a ∷ b ∷ []) false answer taken is = word a b is
word_read (a ∷ b ∷ c ∷ reply) with_pec answer taken is = absurd (cc taken)

one_word : (answer : List ℕ) → IsAnswer device_58h 0x58 (0x88 ∷ []) answer → OneWord answer
one_word answer is =
    let reply = is.0 in
    let says = is.2 in
    let has : Some Two ≡ Some says.form = asked_form device_58h 0x88 says.form
    (λ other called. absurd (none-some other called)) says.asked in
    let form : says.form ≡ Two = sym (cc has) in
    let taken = subst (λ (f : Form). Takes f (length reply)) form says.fits.taken in
    word_read reply is.1 answer taken
    (subst (λ (f : Form). answer ≡ checked is.1 (0xb0 ∷ 0x88 ∷ 0xb1 ∷ []) (wire f reply)) form says.spelled)

byte_read : (reply : List ℕ) (with_pec : Bool) (answer : List ℕ) → Takes One (length reply) → with_pec ≡ false
    → answer ≡ checked with_pec (0xb2 ∷ 0x19 ∷ 0xb3 ∷ []) (wire One reply) → (byte : ℕ) × (answer ≡ byte ∷ [])
byte_read [] with_pec answer taken off is = absurd (cc taken)
byte_read (a ∷ []) true answer taken off is = absurd (cc off)
byte_read (a ∷ []) false answer taken off is = (a, is)
byte_read (a ∷ b ∷ reply) with_pec answer taken off is = absurd (cc taken)

-- an answer to CAPABILITY is one byte
one_byte : (answer : List ℕ) → IsAnswer device_59h 0x59 (0x19 ∷ []) answer → (byte : ℕ) × (answer ≡ byte ∷ [])
one_byte answer is =
    let reply = is.0 in
    let says = is.2 in
    let has : Some One ≡ Some says.form = asked_form device_59h 0x19 says.form
    (λ other called. absurd (none-some other called)) says.asked in
    let form : says.form ≡ One = sym (cc has) in
    let taken = subst (λ (f : Form). Takes f (length reply)) form says.fits.taken in
    byte_read reply is.1 answer taken says.mode
    (subst (λ (f : Form). answer ≡ checked is.1 (0xb2 ∷ 0x19 ∷ 0xb3 ∷ []) (wire f reply)) form says.spelled)

-- ---- what is no answer to a byte

answers_alone : (other : Event) → follows_in_turn (Byte 0) other ≡ true → (other ≡ Ack) ⊎ (other ≡ Nack)
answers_alone Start turns = absurd (cc turns)
answers_alone (Byte b) turns = absurd (cc turns)
answers_alone Ack turns = inl refl
answers_alone Nack turns = inr refl
answers_alone Stop turns = absurd (cc turns)

-- After a byte NACK follows alone where ACK doesn't follow,
nack_alone : (events : List Event) (byte : ℕ) → MayFollow worked_bus (events ++ Byte byte ∷ []) Nack
    → ¬ (MayFollow worked_bus (events ++ Byte byte ∷ []) Ack)
    → FollowsAlone worked_bus (events ++ Byte byte ∷ []) Nack
nack_alone events byte follows not = record {
  follows = follows;
  alone = λ other goes_on. elim (answers_alone other (events_take_turns worked_bus events (Byte byte) other goes_on)) [
    | inl ack ↦ absurd (not (subst (MayFollow worked_bus (events ++ Byte byte ∷ [])) ack goes_on))
    | inr nack ↦ nack
  ];
}

-- and ACK where NACK doesn't.
ack_alone : (events : List Event) (byte : ℕ) → MayFollow worked_bus (events ++ Byte byte ∷ []) Ack
    → ¬ (MayFollow worked_bus (events ++ Byte byte ∷ []) Nack)
    → FollowsAlone worked_bus (events ++ Byte byte ∷ []) Ack
ack_alone events byte follows not = record {
  follows = follows;
  alone = λ other goes_on. elim (answers_alone other (events_take_turns worked_bus events (Byte byte) other goes_on)) [
    | inl ack ↦ ack
    | inr nack ↦ absurd (not (subst (MayFollow worked_bus (events ++ Byte byte ∷ [])) nack goes_on))
  ];
}

-- ---- the rows

-- the group's first part
clear_part : PartData
clear_part = record { addr = 0x58; code = 0x03; bytes = []; pec = false }

clear_written : WriteBody device_58h 0x03 [] false (0x03 ∷ [])
clear_written = record {
  form = Zero;
  written = refl;
  fits = record { small = tt; taken = refl };
  mode = tt;
  spelled =
      refl;
}

abbrev clear_leg : List Event
clear_leg = leg (0xb0 ∷ 0x03 ∷ [])

clear_leg_is : PartsEvents worked_bus (clear_part ∷ []) clear_leg
unfolding clear_part
clear_leg_is = (
  clear_leg,
  [],
  refl,
  record { device = device_58h; body = 0x03 ∷ []; known = refl; allowed = clear_written; spelled = refl },
  refl,
)

clear_own : IsDistinct nat_eq (addresses (clear_part ∷ []))
unfolding IsDistinct
clear_own = (tt, tt)

vin_read : IsReadBody device_58h (0x88 ∷ [])
vin_read = (0x88, Two, record { read = refl; spelled = refl })

-- the answer d3 00 to READ_VIN, with and without a packet error code
vin_answer : (with_pec : Bool) → IsAnswer device_58h 0x58 (0x88 ∷ [])
    (checked with_pec (0xb0 ∷ 0x88 ∷ 0xb1 ∷ []) (0x00 ∷ 0xd3 ∷ []))
vin_answer with_pec = (
  0x00 ∷ 0xd3 ∷ [],
  with_pec,
  record {
    form = Two;
    asked = inl (0x88, record { read = refl; spelled = refl });
    fits = record { small = (omega arith, (omega arith, tt)); taken = refl };
    mode = tt;
    spelled = refl;
  },
)

vin_code : pec (0xb0 ∷ 0x88 ∷ 0xb1 ∷ 0x00 ∷ 0xd3 ∷ []) ≡ 0xf6
unfolding plus divide_step left_after number pec
vin_code = refl

alert_code : pec (0x19 ∷ 0xb0 ∷ []) ≡ 0xf3
unfolding plus divide_step left_after number pec
alert_code = refl

first_byte : (a b : ℕ) (x y body : List ℕ) → body ≡ a ∷ x → body ≡ b ∷ y → a ≡ b
first_byte a b x y body is also =
    let same : a ∷ x ≡ b ∷ y = sym is ∙ also in
    cc same

not_cleared_c8 : (rest body : List ℕ) → Clears body → body ≡ 0xc8 ∷ rest → ⊥
not_cleared_c8 rest body (clears spelled) is = eqb-false 0x03 0xc8 refl (first_byte 0x03 0xc8 [] rest body spelled is)
not_cleared_c8 rest body (clears_coded spelled) is =
    eqb-false 0x03 0xc8 refl (first_byte 0x03 0xc8 (pec_of_clear ∷ []) rest body spelled is)

-- no body begins with this code
no_c8 : (rest body : List ℕ) → Clears body ⊎ (body ≡ 0x88 ∷ []) → body ≡ 0xc8 ∷ rest → ⊥
no_c8 rest body (inl written) is = not_cleared_c8 rest body written is
no_c8 rest body (inr spelled) is = eqb-false 0x88 0xc8 refl (first_byte 0x88 0xc8 [] rest body spelled is)

second_byte : (a b c : ℕ) (x y : List ℕ) → a ∷ b ∷ x ≡ a ∷ c ∷ y → b ≡ c
second_byte a b c x y same = cc same

not_cleared_47 : (rest body : List ℕ) → Clears body → body ≡ 0x03 ∷ 0x47 ∷ rest → ⊥
not_cleared_47 rest body (clears spelled) is = cc (sym spelled ∙ is)
not_cleared_47 rest body (clears_coded spelled) is =
    let same : pec_of_clear ≡ 0x47 = second_byte 0x03 pec_of_clear 0x47 [] rest (sym spelled ∙ is) in
    eqb-false 0x46 0x47 refl (sym clear_is_coded ∙ same)

no_47 : (rest body : List ℕ) → Clears body ⊎ (body ≡ 0x88 ∷ []) → body ≡ 0x03 ∷ 0x47 ∷ rest → ⊥
no_47 rest body (inl written) is = not_cleared_47 rest body written is
no_47 rest body (inr spelled) is = eqb-false 0x88 0x03 refl (first_byte 0x88 0x03 [] (0x47 ∷ rest) body spelled is)

not_cleared_88 : (rest body : List ℕ) → Clears body → body ≡ 0x88 ∷ rest → ⊥
not_cleared_88 rest body (clears spelled) is = eqb-false 0x03 0x88 refl (first_byte 0x03 0x88 [] rest body spelled is)
not_cleared_88 rest body (clears_coded spelled) is =
    eqb-false 0x03 0x88 refl (first_byte 0x03 0x88 (pec_of_clear ∷ []) rest body spelled is)

no_more_88 : (next : ℕ) (rest body : List ℕ) → Clears body ⊎ (body ≡ 0x88 ∷ []) → body ≡ 0x88 ∷ next ∷ rest → ⊥
no_more_88 next rest body (inl written) is = not_cleared_88 (next ∷ rest) body written is
no_more_88 next rest body (inr spelled) is =
    let same : 0x88 ∷ [] ≡ 0x88 ∷ next ∷ rest = sym spelled ∙ is in
    cc same

-- no address for writing is odd
not_first : IsFirstAddress 0xb1 → ⊥
not_first (written_first addr seven same) = not_both addr 0x58 (ap Byte (sym same))
not_first (alert_first same) = eqb-false 0xb1 0x19 refl same

-- the device that was written to is not addressed again
not_again : IsNextAddress device_58h [] 0x58 (0x03 ∷ []) 0xb0 → ⊥
not_again (next_leg other body few seven new same) =
    let again : other ≡ 0x58 = omega arith in
    let found : IsNew 0x58 (0x58 ∷ []) = subst (λ (a : ℕ). IsNew a (0x58 ∷ [])) again new in
    cc found
not_again (reply_leg alone is same) = eqb-false 0xb0 0xb1 refl same

no_write_88 : IsWriteBody device_58h (0x88 ∷ []) → ⊥
no_write_88 (code, bytes, with_pec, w) = not_cleared_88 [] (0x88 ∷ []) (write_body code bytes with_pec (0x88 ∷ []) w)
    refl

-- no other device is addressed where one was asked
not_another : IsNextAddress device_58h [] 0x58 (0x88 ∷ []) 0x40 → ⊥
not_another (next_leg other body few seven new same) = no_write_88 body
not_another (reply_leg alone is same) = eqb-false 0x40 0xb1 refl same

wrong_word : (rest answer : List ℕ) → OneWord answer → answer ≡ 0x00 ∷ 0xd3 ∷ 0xf7 ∷ rest → ⊥
wrong_word rest answer (word low high is) same = cc (sym is ∙ same)
wrong_word rest answer (word_coded low high is) same =
    let spelled : low ∷ high ∷ pec (0xb0 ∷ 0x88 ∷ 0xb1 ∷ low ∷ high ∷ []) ∷ [] ≡ 0x00 ∷ 0xd3 ∷ 0xf7 ∷ rest = sym is
    ∙ same in
    let low_is : low ≡ 0x00 = cc spelled in
    let high_is : high ≡ 0xd3 = cc spelled in
    let code : pec (0xb0 ∷ 0x88 ∷ 0xb1 ∷ low ∷ high ∷ []) ≡ 0xf7 = cc spelled in
    let by_low = subst (λ (b : ℕ). pec (0xb0 ∷ 0x88 ∷ 0xb1 ∷ b ∷ high ∷ []) ≡ 0xf7) low_is code in
    let by_high = subst (λ (b : ℕ). pec (0xb0 ∷ 0x88 ∷ 0xb1 ∷ 0x00 ∷ b ∷ []) ≡ 0xf7) high_is by_low in
    eqb-false 0xf6 0xf7 refl (sym vin_code ∙ by_high)

-- a word is not one byte
short_word : OneWord (0x00 ∷ []) → ⊥
short_word (word low high is) = cc is
short_word (word_coded low high is) = cc is

abbrev alert_bytes : Bool → ℕ → List ℕ
alert_bytes with_pec byte = checked with_pec (0x19 ∷ []) (byte ∷ [])

wrong_alert : (with_pec : Bool) (byte : ℕ) (rest : List ℕ) → alert_bytes with_pec byte ≡ 0xb0 ∷ 0xf2 ∷ rest → ⊥
wrong_alert true byte rest is =
    let byte_is : byte ≡ 0xb0 = cc is in
    let code : pec (0x19 ∷ byte ∷ []) ≡ 0xf2 = cc is in
    eqb-false 0xf3 0xf2 refl (sym alert_code ∙ subst (λ (b : ℕ). pec (0x19 ∷ b ∷ []) ≡ 0xf2) byte_is code)
wrong_alert false byte rest is = cc is

long_alert : (with_pec : Bool) (byte next : ℕ) (rest : List ℕ) → alert_bytes with_pec byte ≡ 0xb0 ∷ 0xf3 ∷ next ∷ rest
    → ⊥
long_alert true byte next rest is = cc is
long_alert false byte next rest is = cc is

not_inside_88 : IsInsideBody device_58h [] (0x88 ∷ []) → ⊥
not_inside_88 (inl none) = cc none
not_inside_88 (inr (body, allowed, prefix)) = no_more_88 prefix.next prefix.rest body
    (one_body body allowed) prefix.split

clear_coded : WriteBody device_58h 0x03 [] true (0x03 ∷ pec_of_clear ∷ [])
clear_coded = record {
  form = Zero;
  written = refl;
  fits = record { small = tt; taken = refl };
  mode = tt;
  spelled =
      refl;
}

module _ (pec_is_byte : (bytes : List ℕ) → pec bytes < 256) where
  abbrev bus : IsBus worked_bus
  bus = accepted

  -- ---- another byte

  pub read_first : OtherByteFollows (Start ∷ []) 0xb1 ReadFirst
  read_first =
      let other : SomeByteMayFollow worked_bus (Start ∷ []) =
      (0xb0, (first_follows pec_is_byte worked_bus bus 0xb0).1 (written_first 0x58 (omega arith) refl)) in
      record {
        other = other;
        refused = λ follows. not_first
            ((first_follows pec_is_byte worked_bus bus 0xb1).0 follows);
        told = inl (other, reasons.read_first refl);
      }

  -- which address byte may follow the START after the first leg
  address_follows : (bytes : List ℕ) (byte : ℕ)
      → (MayFollow worked_bus (leg (0xb0 ∷ bytes) ++ Start ∷ []) (Byte byte)
      → IsNextAddress device_58h [] 0x58 bytes byte)
      × (IsNextAddress device_58h [] 0x58 bytes byte
      → MayFollow worked_bus (leg (0xb0 ∷ bytes) ++ Start ∷ []) (Byte byte))
  address_follows bytes byte = address_byte_follows pec_is_byte worked_bus bus [] (omega arith) distinct_none [] refl
      0x58 refl device_58h refl bytes byte

  pub written_again : OtherByteFollows (leg (0xb0 ∷ 0x03 ∷ []) ++ Start ∷ []) 0xb0 BadRestart
  written_again =
      let other : SomeByteMayFollow worked_bus (leg (0xb0 ∷ 0x03 ∷ []) ++ Start ∷ []) = (
        0x40,
        (address_follows (0x03 ∷ []) 0x40).1 (next_leg 0x20 (0x03, [], false, clear_written) (omega arith)
            (omega arith) refl refl),
      ) in
      record {
        other = other;
        refused = λ follows. not_again ((address_follows (0x03 ∷ []) 0xb0).0 follows);
        told =
            inl (other, reasons.bad_restart (leg (0xb0 ∷ 0x03 ∷ [])) (λ none. cc none) refl);
      }

  pub another_is_read : OtherByteFollows (leg (0xb0 ∷ 0x88 ∷ []) ++ Start ∷ []) 0x40 BadRestart
  another_is_read =
      let other : SomeByteMayFollow worked_bus (leg (0xb0 ∷ 0x88 ∷ []) ++ Start ∷ []) =
      (0xb1, (address_follows (0x88 ∷ []) 0xb1).1 (reply_leg refl (inl vin_read) refl)) in
      record {
        other = other;
        refused = λ follows. not_another ((address_follows (0x88 ∷ []) 0x40).0 follows);
        told =
            inl (other, reasons.bad_restart (leg (0xb0 ∷ 0x88 ∷ [])) (λ none. cc none) refl);
      }

  abbrev vin_leg : List Event
  vin_leg = leg (0xb0 ∷ 0x88 ∷ [])

  abbrev VinAnswer : List ℕ → Type 0
  VinAnswer = IsAnswer device_58h 0x58 (0x88 ∷ [])

  vin_is_read : IsReadLeg worked_bus vin_leg 0x58 VinAnswer
  vin_is_read = reply_is_read pec_is_byte worked_bus bus 0x58 device_58h refl (0x88 ∷ [])

  reply_follows : (byte : ℕ)
      → (MayFollow worked_bus (vin_leg ++ leg (0xb1 ∷ 0x00 ∷ 0xd3 ∷ [])) (Byte byte)
      → BeginsAnswer VinAnswer (0x00 ∷ 0xd3 ∷ byte ∷ []))
      × (BeginsAnswer VinAnswer (0x00 ∷ 0xd3 ∷ byte ∷ [])
      → MayFollow worked_bus (vin_leg ++ leg (0xb1 ∷ 0x00 ∷ 0xd3 ∷ [])) (Byte byte))
  reply_follows byte = answer_byte_follows pec_is_byte worked_bus bus vin_leg 0x58 VinAnswer vin_is_read
      (0x00 ∷ 0xd3 ∷ []) byte

  pub reply_with_wrong_code : OtherByteFollows (vin_leg ++ leg (0xb1 ∷ 0x00 ∷ 0xd3 ∷ [])) 0xf7 BadPec
  reply_with_wrong_code =
      let other : SomeByteMayFollow worked_bus (vin_leg ++ leg (0xb1 ∷ 0x00 ∷ 0xd3 ∷ [])) = (
        0xf6,
        (reply_follows 0xf6).1 (
          checked true (0xb0 ∷ 0x88 ∷ 0xb1 ∷ []) (0x00 ∷ 0xd3 ∷ []),
          [],
          vin_answer true,
          ap (λ (code : ℕ). 0x00 ∷ 0xd3 ∷ code ∷ []) vin_code,
        ),
      ) in
      record {
        other = other;
        refused = λ follows. let begins = (reply_follows 0xf7).0 follows in
            wrong_word begins.1 begins.0 (one_word begins.0 begins.2) begins.3;
        told = inl (
          other,
          reasons.bad_pec_sent (vin_leg ++ Start ∷ Byte 0xb1 ∷ Ack ∷ Byte 0x00 ∷ Ack ∷ Byte 0xd3 ∷ [])
              refl,
        );
      }

  alert_follows : (byte : ℕ)
      → (MayFollow worked_bus (leg (0x19 ∷ 0xb0 ∷ [])) (Byte byte) → BeginsAnswer IsAlertAnswer (0xb0 ∷ byte ∷ []))
      × (BeginsAnswer IsAlertAnswer (0xb0 ∷ byte ∷ []) → MayFollow worked_bus (leg (0x19 ∷ 0xb0 ∷ [])) (Byte byte))
  alert_follows byte = answer_byte_follows pec_is_byte worked_bus bus [] 0x0c IsAlertAnswer (alert_is_read worked_bus)
      (0xb0 ∷ []) byte

  abbrev coded_alert : IsAlertAnswer (0xb0 ∷ pec (0x19 ∷ 0xb0 ∷ []) ∷ [])
  coded_alert = record { byte = 0xb0; small = omega arith; with_pec = true; spelled = refl }

  pub alert_with_wrong_code : OtherByteFollows (leg (0x19 ∷ 0xb0 ∷ [])) 0xf2 BadPec
  alert_with_wrong_code =
      let other : SomeByteMayFollow worked_bus (leg (0x19 ∷ 0xb0 ∷ [])) = (
        0xf3,
        (alert_follows 0xf3).1 (
          0xb0 ∷ pec (0x19 ∷ 0xb0 ∷ []) ∷ [],
          [],
          coded_alert,
          ap (λ (code : ℕ). 0xb0 ∷ code ∷ []) alert_code,
        ),
      ) in
      record {
        other = other;
        refused =
            λ follows.
            let begins = (alert_follows 0xf2).0 follows in
            let is = begins.2 in
            wrong_alert is.with_pec is.byte begins.1 (sym is.spelled ∙ begins.3);
        told = inl (other, reasons.bad_pec_sent (Start ∷ Byte 0x19 ∷ Ack ∷ Byte 0xb0 ∷ []) refl);
      }

  -- ---- NACK alone

  -- where no device has an address
  nobody : (parts : List PartData) (legs : List Event) → length parts ≤ 15 → IsDistinct nat_eq (addresses parts)
      → PartsEvents worked_bus parts legs
      → IsNew 0x20 (addresses parts) → FollowsAlone worked_bus (legs ++ Start ∷ Byte 0x40 ∷ []) Nack
  nobody parts legs few own each new =
      let events = legs ++ Start ∷ Byte 0x40 ∷ [] in
      let pushed : (legs ++ Start ∷ []) ++ Byte 0x40 ∷ [] ≡ events = append_assoc legs (Start ∷ []) (Byte 0x40 ∷ []) in
      let nack : MayFollow worked_bus events Nack =
      nack_follows pec_is_byte worked_bus bus parts few own legs each 0x20 new (omega arith) in
      let no_ack : ¬ (MayFollow worked_bus events Ack) =
      λ follows.
      let known = (ack_follows pec_is_byte worked_bus bus parts few own legs each 0x20 new).0 follows in
      none-some known.0 known.1 in
      subst (λ (es : List Event). FollowsAlone worked_bus es Nack) pushed
      (
      nack_alone (legs ++ Start ∷ []) 0x40 (subst (λ (es : List Event). MayFollow worked_bus es Nack) (sym pushed) nack)
      (λ follows. no_ack (subst (λ (es : List Event). MayFollow worked_bus es Ack) pushed follows))
      )

  pub nobody_there : NackAloneFollows (Start ∷ Byte 0x40 ∷ []) UnknownDevice
  nobody_there =
      let alone = nobody [] [] (omega arith) distinct_none refl refl in
      record { alone = alone; told = inl (alone, reasons.unknown_device [] 0x20 refl) }

  pub nobody_in_a_group : NackAloneFollows (leg (0xb0 ∷ 0x03 ∷ []) ++ Start ∷ Byte 0x40 ∷ []) UnknownDevice
  unfolding clear_part
  nobody_in_a_group =
      let alone = nobody (clear_part ∷ []) clear_leg (omega arith) clear_own clear_leg_is refl in
      record { alone = alone; told = inl (alone, reasons.unknown_device (leg (0xb0 ∷ 0x03 ∷ [])) 0x20 refl) }

  -- a byte after others in the first leg, that is refused and not taken
  wrong_byte : (bytes : List ℕ) (byte : ℕ) → IsInsideBody device_58h [] bytes → byte < 256
      → ¬ (BeginsBody device_58h [] (bytes ++ byte ∷ []))
      → FollowsAlone worked_bus (leg (0xb0 ∷ bytes) ++ Byte byte ∷ []) Nack
  wrong_byte bytes byte inside small not =
      nack_alone (leg (0xb0 ∷ bytes)) byte
      ((refusal_follows pec_is_byte worked_bus bus [] (omega arith) distinct_none [] refl 0x58 refl device_58h refl
      bytes byte).1 (inside, small))
      (
      λ follows.
      not ((taken_follows pec_is_byte worked_bus bus [] (omega arith) distinct_none [] refl 0x58 refl device_58h refl
      bytes byte).0 follows)
      )

  not_c8 : ¬ (BeginsBody device_58h [] (0xc8 ∷ []))
  not_c8 (inl none) = cc none
  not_c8 (inr (body, rest, allowed, is)) = no_c8 rest body (one_body body allowed) is

  pub no_such_command : NackAloneFollows (leg (0xb0 ∷ []) ++ Byte 0xc8 ∷ []) UnknownCommand
  no_such_command =
      let alone = wrong_byte [] 0xc8 (inl refl) (omega arith) not_c8 in
      record { alone = alone; told = inl (alone, reasons.unknown_command [] 0x58 0xc8 refl) }

  not_47 : ¬ (BeginsBody device_58h [] (0x03 ∷ 0x47 ∷ []))
  not_47 (inl none) = cc none
  not_47 (inr (body, rest, allowed, is)) = no_47 rest body (one_body body allowed) is

  pub written_with_wrong_code : NackAloneFollows (leg (0xb0 ∷ 0x03 ∷ []) ++ Byte 0x47 ∷ []) BadPec
  written_with_wrong_code =
      let inside : IsInsideBody device_58h [] (0x03 ∷ []) =
      inr (
        0x03 ∷ pec_of_clear ∷ [],
        inl (0x03, [], true, clear_coded),
        record { next = pec_of_clear; rest = []; split = refl },
      ) in
      let alone = wrong_byte (0x03 ∷ []) 0x47 inside (omega arith) not_47 in
      record { alone = alone; told = inl (alone, reasons.bad_pec_taken [] 0x58 0x03 [] 0x47 refl) }

  abbrev capability_leg : List Event
  capability_leg = leg (0xb2 ∷ 0x19 ∷ [])

  abbrev CapabilityAnswer : List ℕ → Type 0
  CapabilityAnswer = IsAnswer device_59h 0x59 (0x19 ∷ [])

  capability_is_read : IsReadLeg worked_bus capability_leg 0x59 CapabilityAnswer
  capability_is_read = reply_is_read pec_is_byte worked_bus bus 0x59 device_59h refl (0x19 ∷ [])

  capability_answer : CapabilityAnswer (0xb0 ∷ [])
  capability_answer = (
    0xb0 ∷ [],
    false,
    record {
      form = One;
      asked = inl (0x19, record { read = refl; spelled = refl });
      fits = record { small = (omega arith, tt); taken = refl };
      mode = refl;
      spelled = refl;
    },
  )

  pub reply_too_long : NackAloneFollows (capability_leg ++ leg (0xb3 ∷ []) ++ Byte 0xb0 ∷ []) TooLong
  reply_too_long =
      let alone =
      nack_alone (capability_leg ++ leg (0xb3 ∷ [])) 0xb0
      ((byte_refused pec_is_byte worked_bus bus capability_leg 0x59 CapabilityAnswer capability_is_read [] 0xb0).1
      capability_answer)
      (
      λ follows.
      let inside = (byte_taken pec_is_byte worked_bus bus capability_leg 0x59 CapabilityAnswer capability_is_read []
      0xb0).0 follows in
      let only = one_byte inside.0 inside.1 in
      cc (sym only.1 ∙ inside.2.split)
      ) in
      record { alone = alone; told = inl (alone, reasons.too_long capability_leg 0x59 [] 0xb0 refl) }

  pub alert_too_long : NackAloneFollows (leg (0x19 ∷ 0xb0 ∷ []) ++ Byte 0xf3 ∷ []) TooLong
  alert_too_long =
      let answer : IsAlertAnswer (0xb0 ∷ 0xf3 ∷ []) =
      subst (λ (code : ℕ). IsAlertAnswer (0xb0 ∷ code ∷ [])) alert_code coded_alert in
      let alone =
      nack_alone (leg (0x19 ∷ 0xb0 ∷ [])) 0xf3
      ((byte_refused pec_is_byte worked_bus bus [] 0x0c IsAlertAnswer (alert_is_read worked_bus) (0xb0 ∷ []) 0xf3).1
      answer)
      (
      λ follows.
      let inside = (byte_taken pec_is_byte worked_bus bus [] 0x0c IsAlertAnswer (alert_is_read worked_bus)
      (0xb0 ∷ []) 0xf3).0 follows in
      let is = inside.1 in
      long_alert is.with_pec is.byte inside.2.next inside.2.rest (sym is.spelled ∙ inside.2.split)
      ) in
      record { alone = alone; told = inl (alone, reasons.too_long [] 0x0c (0xb0 ∷ []) 0xf3 refl) }

  -- ---- ACK alone

  pub reply_too_short : AckAloneFollows (vin_leg ++ leg (0xb1 ∷ []) ++ Byte 0x00 ∷ []) TooShort
  reply_too_short =
      let inside : IsInsideAnswer VinAnswer (0x00 ∷ []) =
      (0x00 ∷ 0xd3 ∷ [], vin_answer false, record { next = 0xd3; rest = []; split = refl }) in
      let alone =
      ack_alone (vin_leg ++ leg (0xb1 ∷ [])) 0x00
      ((byte_taken pec_is_byte worked_bus bus vin_leg 0x58 VinAnswer vin_is_read [] 0x00).1 inside)
      (
      λ follows.
      short_word
      (one_word (0x00 ∷ []) ((byte_refused pec_is_byte worked_bus bus vin_leg 0x58 VinAnswer vin_is_read [] 0x00).0
      follows))
      ) in
      record { alone = alone; told = inl (alone, reasons.too_short vin_leg 0x58 [] 0x00 refl) }

  -- ---- out of place

  pub behind_refused_address : IsOutOfPlace (Start ∷ Byte 0xb0 ∷ Nack ∷ []) Ack
  behind_refused_address =
      let refused : MayFollow worked_bus (Start ∷ Byte 0xb0 ∷ []) Nack =
      nack_follows pec_is_byte worked_bus bus [] (omega arith) distinct_none [] refl 0x58 refl (omega arith) in
      let stop = λ (event : Event). (stop_follows_nack worked_bus (Start ∷ Byte 0xb0 ∷ []) event refused).0 in
      record { refused = λ follows. cc (stop Ack follows); told = inr (λ nack. cc (stop Nack nack.follows), refl) }

  pub behind_whole_body : IsOutOfPlace (leg (0xb0 ∷ 0x88 ∷ [])) (Byte 0x00)
  behind_whole_body =
      let no_byte = λ (byte : ℕ) (follows : MayFollow worked_bus vin_leg (Byte byte)).
      let inside =
      (written_byte_follows pec_is_byte worked_bus bus [] (omega arith) distinct_none [] refl 0x58 refl device_58h refl
      (0x88 ∷ []) byte).0 follows in
      not_inside_88 inside.0 in
      record { refused = no_byte 0x00; told = inr (λ some. no_byte some.0 some.1, refl) }
