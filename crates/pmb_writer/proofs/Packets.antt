-- A transaction that keeps its rules has a packet, and one that has a packet keeps its rules. For
-- `check` of `src/validity.rt` and the law `no_packet_with_a_fault`; `pmb_host`, `pmb_exchange` and
-- `pmb_run` use it too. The rules are the premises of the packet's definition, in the order in
-- which faults are reported.
use Rattle.std.proofs.Common.{◌≡◌, ℕ, ◌<◌, ◌≤◌, ◌⊎◌, Bool, true, false, Option, Some, None, IsSome, IfSome, is_some}
use Rattle.std.proofs.Common.{if◌then◌else◌, Result, Ok, Err, IsOk, MatchResult, ◌↔◌, List, [], ◌∷◌, ◌++◌, length}
use Rattle.std.proofs.Common.{nat_eq, refl, sym, ap, subst, ◌∙◌, inl, inr, append_assoc, arith}
use Rattle.std.specs.List.{IsDistinct, AllByRecursion, list_any}
use Rattle.std.proofs.lemmas.Cmp.{nat_eq_equiv}
use Rattle.std.proofs.lemmas.Map.Keys.{IsDistinct-push}
use Rattle.std.proofs.lemmas.Bool.{eqb-true, eqb-false, or_from}
use Rattle.std.proofs.lemmas.List.{append-nil}
use Rattle.pmb_writer.specs.declared.invalid.Invalid.{Invalid}
use Rattle.pmb_writer.specs.Typed.{IsTyped}
use Rattle.pmb_writer.proofs.Rules.{kept_all, kept_parts, not_both}
use Rattle.pmb_bus.specs.declared.event.Event.{Event}
use Rattle.pmb_bus.specs.declared.event.Event.TheVariants.{Start, Byte, Nack, Stop}
use Rattle.pmb_command.specs.declared.form.Form.{Form}
use Rattle.pmb_command.specs.declared.form.Shape.{Shape}
use Rattle.pmb_bus.specs.Pec.{pec}
use Rattle.pmb_bus.specs.Address.{write_address, read_address, alert_address}
use Rattle.pmb_command.specs.Bus.{IsDevice}
use Rattle.pmb_command.specs.Parts.{CommandParts, DeviceParts, IsNew, command_with, device_with}
use Rattle.pmb_command.specs.PecMode.{AllowsPec}
use Rattle.pmb_command.specs.Wire.{AreByteValues, Fits, wire}
use Rattle.pmb_transaction.specs.Transaction.{PartData, ReadData, CallData, RefusedData, TransactionData, Write, Read}
use Rattle.pmb_transaction.specs.Transaction.{Call, Refused, Alert, NoAlert}
use Rattle.pmb_transaction.specs.Body.{shape_of, forms, checked, Allowed, IsWriteBody, IsReadBody, IsCallBody}
use Rattle.pmb_transaction.specs.Body.{IsProperPrefix, IsRequest}
use Rattle.pmb_transaction.specs.Packet.{addresses, leg, nacked, answered, PartEvents, PartsEvents, WritePacket}
use Rattle.pmb_transaction.specs.Packet.{ReadPacket, CallPacket, ByteRefused, ReadRefused, RefusedLeg, RefusedPacket}
use Rattle.pmb_writer.specs.Invalid.{AreKept, IsFirstBroken, CanBeAsked, HasPacket, command_at, forms_at, part_rules}
use Rattle.pmb_writer.specs.Invalid.{parts_rules, write_rules, read_rules, call_rules, refused_leg_rules}
use Rattle.pmb_writer.specs.Invalid.{refused_address_rules, refused_rules, transaction_rules}

the_one : {A : Type 0} (o : Option A) → IsSome o → (x : A) × (o ≡ Some x)
the_one None some = absurd (cc some)
the_one (Some x) some = (x, refl)

some_one : {A : Type 0} (o : Option A) (x : A) → o ≡ Some x → IsSome o
some_one o x is = ap is_some is

if_some : {A : Type 0} (o : Option A) (P : A → Type 0) (x : A) → o ≡ Some x → P x → IfSome o P
if_some o P x is holds = subst (λ v. IfSome v P) (sym is) holds

of_some : {A : Type 0} (o : Option A) (P : A → Type 0) (x : A) → o ≡ Some x → IfSome o P → P x
of_some o P x is holds = subst (λ v. IfSome v P) is holds

-- a command with a form is there
command_there : (command : Option CommandParts) (P : Shape → Option Form) → P (shape_of None) ≡ None → (form : Form)
    → P (shape_of command) ≡ Some form → IsSome command
command_there None P none form is = cc (none, is)
command_there (Some command) P none form is = refl

written_command : (device : DeviceParts) (code : ℕ) (form : Form) → (forms device code).write ≡ Some form
    → IsSome (command_with code device.commands)
written_command device code form is = command_there (command_with code device.commands) (λ s. s.write) refl form is

read_command : (device : DeviceParts) (code : ℕ) (form : Form) → (forms device code).read ≡ Some form
    → IsSome (command_with code device.commands)
read_command device code form is = command_there (command_with code device.commands) (λ s. s.read) refl form is

called_command : (device : DeviceParts) (code : ℕ) (form : Form) → (forms device code).call ≡ Some form
    → IsSome (command_with code device.commands)
called_command device code form is = command_there (command_with code device.commands) (λ s. s.call) refl form is

not_true : (b : Bool) → (b ≡ true → ⊥) → b ≡ false
not_true true other = absurd (other refl)
not_true false other = refl

not_equal : (a b : ℕ) → (a ≡ b → ⊥) → nat_eq a b ≡ false
not_equal a b other = not_true (nat_eq a b) (λ same. other (eqb-true a b same))

distinct_none : IsDistinct nat_eq []
unfolding IsDistinct
distinct_none = tt

-- of distinct numbers none is another one before it
all_pass : (x a : ℕ) (front rest : List ℕ) → AllByRecursion (λ y. nat_eq x y ≡ false) (front ++ a ∷ rest)
    → nat_eq x a ≡ false
all_pass x a [] rest all = all.0
all_pass x a (y ∷ front) rest all = all_pass x a front rest all.1

apart : (front : List ℕ) (a : ℕ) (rest : List ℕ) → IsDistinct nat_eq (front ++ a ∷ rest) → IsNew a front
unfolding IsDistinct
apart [] a rest own = refl
apart (x ∷ front) a rest own =
    let other : nat_eq x a ≡ false = all_pass x a front rest own.0 in
    or_from (nat_eq a x) (list_any (nat_eq a) front) (not_equal a x (λ same. eqb-false x a other (sym same)))
    (apart front a rest own.1)

-- the command of a body
start_of_write : (device : DeviceParts) (code : ℕ) (rest : List ℕ) → IsWriteBody device (code ∷ rest)
    → (form : Form) × ((forms device code).write ≡ Some form)
start_of_write device code rest (c, whole, false, write) =
    let spelled : code ∷ rest ≡ c ∷ wire write.form whole = write.spelled in
    let same : c ≡ code = cc in
    (write.form, subst (λ k. (forms device k).write ≡ Some write.form) same write.written)
start_of_write device code rest (c, whole, true, write) =
    let spelled : code ∷ rest ≡ c ∷ wire write.form whole
    ++ pec ((write_address device.address ∷ []) ++ c ∷ wire write.form whole) ∷ [] = write.spelled in
    let same : c ≡ code = cc in
    (write.form, subst (λ k. (forms device k).write ≡ Some write.form) same write.written)

body_is_asked : (device : DeviceParts) (code : ℕ) (rest : List ℕ) → IsRequest device (code ∷ rest)
    → CanBeAsked (forms device code)
body_is_asked device code rest (inl (c, form, asked)) =
    let spelled : code ∷ rest ≡ c ∷ [] = asked.spelled in
    let same : c ≡ code = cc in
    let read : (forms device code).read ≡ Some form = subst (λ k. (forms device k).read ≡ Some form) same asked.read in
    inl (ap is_some read)
body_is_asked device code rest (inr (c, form, whole, asked)) =
    let spelled : code ∷ rest ≡ c ∷ wire form whole = asked.spelled in
    let same : c ≡ code = cc in
    let called : (forms device code).call ≡ Some form =
    subst (λ k. (forms device k).call ≡ Some form) same asked.called in
    inr (ap is_some called)

asked_command : (device : DeviceParts) (code : ℕ) → CanBeAsked (forms device code)
    → IsSome (command_with code device.commands)
asked_command device code (inl some) =
    let form : (f : Form) × ((forms device code).read ≡ Some f) = the_one (forms device code).read some in
    read_command device code form.0 form.1
asked_command device code (inr some) =
    let form : (f : Form) × ((forms device code).call ≡ Some f) = the_one (forms device code).call some in
    called_command device code form.0 form.1

body_command : (device : DeviceParts) (code : ℕ) (rest : List ℕ)
    → IsWriteBody device (code ∷ rest) ⊎ IsRequest device (code ∷ rest) → IsSome (command_with code device.commands)
body_command device code rest (inl write) =
    let form : (f : Form) × ((forms device code).write ≡ Some f) = start_of_write device code rest write in
    written_command device code form.0 form.1
body_command device code rest (inr asked) = asked_command device code (body_is_asked device code rest asked)

-- a body is never empty
no_body : (device : DeviceParts) → IsReadBody device [] ⊎ IsCallBody device [] → ⊥
no_body device (inl (c, form, asked)) = cc (asked.spelled)
no_body device (inr (c, form, whole, asked)) = cc (asked.spelled)

-- two bytes or more are more than a last one
long_front : (code b : ℕ) (bytes front : List ℕ) (last : ℕ) → code ∷ b ∷ bytes ≡ front ++ last ∷ [] → front ≡ [] → ⊥
long_front code b bytes [] last split none = omega (arith, ap length split)
long_front code b bytes (f ∷ front) last split none = cc none

begins_so : (code b : ℕ) (bytes front : List ℕ) (last : ℕ) (body : List ℕ) → code ∷ b ∷ bytes ≡ front ++ last ∷ []
    → IsProperPrefix front body → (rest : List ℕ) × (body ≡ code ∷ rest)
begins_so code b bytes [] last body split prefix = absurd (long_front code b bytes [] last split refl)
begins_so code b bytes (f ∷ front) last body split prefix =
    let same : f ≡ code = cc in
    (front ++ prefix.next ∷ prefix.rest, prefix.split ∙ ap (λ c. c ∷ front ++ prefix.next ∷ prefix.rest) same)

-- the address of a device has seven bits
known_among : (b : Bool) (addr : ℕ) (device d : DeviceParts) (others : Option DeviceParts) → IsDevice d
    → nat_eq d.address addr ≡ b → (others ≡ Some device → addr < 128)
    → (if b then Some d else others) ≡ Some device → addr < 128
known_among true addr device d others known is rest found =
    omega (arith, known.address.greatest, eqb-true d.address addr is)
known_among false addr device d others known is rest found = rest found

pub known_address : (addr : ℕ) (device : DeviceParts) (devices : List DeviceParts) → AllByRecursion IsDevice devices
    → device_with addr devices ≡ Some device → addr < 128
known_address addr device [] all known = absurd (cc known)
known_address addr device (d ∷ devices) all known =
    known_among (nat_eq d.address addr) addr device d (device_with addr devices) all.0 refl
    (known_address addr device devices all.1) known

module _ (profile : List DeviceParts) where
  pub forms_are : (addr code : ℕ) (device : DeviceParts) → device_with addr profile ≡ Some device
      → forms_at profile addr code ≡ forms device code
  forms_are addr code device known = rw known refl

  command_is : (addr code : ℕ) (device : DeviceParts) → device_with addr profile ≡ Some device
      → command_at profile addr code ≡ command_with code device.commands
  command_is addr code device known = rw known refl

  has_command : (addr code : ℕ) (device : DeviceParts) → device_with addr profile ≡ Some device
      → IsSome (command_with code device.commands) → IsSome (command_at profile addr code)
  has_command addr code device known some = subst IsSome (sym (command_is addr code device known)) some

  -- ---- parts

  part_has_events : (earlier : List ℕ) (part : PartData) → AreKept (part_rules profile earlier part)
      → (events : List Event) × PartEvents profile part events
  part_has_events earlier part (known, (new, (command, (written, (fits, (mode, _)))))) =
      let device : (d : DeviceParts) × (device_with part.addr profile ≡ Some d) =
      the_one (device_with part.addr profile) known in
      let form : (f : Form) × ((forms_at profile part.addr part.code).write ≡ Some f) =
      the_one (forms_at profile part.addr part.code).write written in
      let body : List ℕ = checked part.pec (write_address device.0.address ∷ []) (part.code ∷ wire form.0 part.bytes) in (
        leg (write_address part.addr ∷ body),
        record {
          device = device.0;
          body = body;
          known = device.1;
          allowed = record {
            form = form.0;
            written = subst (λ s. s.write ≡ Some form.0) (forms_are part.addr part.code device.0 device.1) form.1;
            fits = of_some (forms_at profile part.addr part.code).write (λ f. Fits f part.bytes) form.0 form.1 fits;
            mode = of_some (device_with part.addr profile) (λ d. AllowsPec d.pec part.pec) device.0 device.1 mode;
            spelled = refl;
          };
          spelled = refl;
        },
      )

  parts_have_events : (earlier : List ℕ) (parts : List PartData) → AreKept (parts_rules profile earlier parts)
      → (events : List Event) × PartsEvents profile parts events
  parts_have_events earlier [] kept = ([], refl)
  parts_have_events earlier (part ∷ parts) kept =
      let split : AreKept (part_rules profile earlier part)
      × AreKept (parts_rules profile (earlier ++ part.addr ∷ []) parts) =
      kept_parts (part_rules profile earlier part) (parts_rules profile (earlier ++ part.addr ∷ []) parts) kept in
      let first : (events : List Event) × PartEvents profile part events = part_has_events earlier part split.0 in
      let rest : (events : List Event) × PartsEvents profile parts events =
      parts_have_events (earlier ++ part.addr ∷ []) parts split.1 in
      (first.0 ++ rest.0, (first.0, rest.0, refl, first.1, rest.1))

  -- parts that keep their rules have distinct addresses
  parts_are_distinct : (earlier : List ℕ) (parts : List PartData) → IsDistinct nat_eq earlier
      → AreKept (parts_rules profile earlier parts) → IsDistinct nat_eq (earlier ++ addresses parts)
  parts_are_distinct earlier [] own kept = rw append-nil own
  parts_are_distinct earlier (part ∷ parts) own kept =
      let split : AreKept (part_rules profile earlier part)
      × AreKept (parts_rules profile (earlier ++ part.addr ∷ []) parts) =
      kept_parts (part_rules profile earlier part) (parts_rules profile (earlier ++ part.addr ∷ []) parts) kept in
      subst (IsDistinct nat_eq) (append_assoc earlier (part.addr ∷ []) (addresses parts))
      (parts_are_distinct (earlier ++ part.addr ∷ []) parts
      (IsDistinct-push nat_eq_equiv earlier part.addr own split.0.1.0) split.1)

  part_keeps : (earlier : List ℕ) (part : PartData) (events : List Event) → IsNew part.addr earlier
      → PartEvents profile part events → AreKept (part_rules profile earlier part)
  part_keeps earlier part events new has =
      -- the forms that were looked up are those of the device
      let device : DeviceParts = has.device in
      let same : forms_at profile part.addr part.code ≡ forms device part.code =
      forms_are part.addr part.code device has.known in
      let written : (forms_at profile part.addr part.code).write ≡ Some has.allowed.form = ap (λ s. s.write) same
      ∙ has.allowed.written in (
        -- each rule of a part: its device, its address, its command, that this is written, data,
        -- mode
        some_one (device_with part.addr profile) device has.known,
        (
          new,
          (
            has_command part.addr part.code device has.known
                (written_command device part.code has.allowed.form has.allowed.written),
            (
              some_one (forms_at profile part.addr part.code).write has.allowed.form written,
              (
                if_some (forms_at profile part.addr part.code).write (λ f. Fits f part.bytes) has.allowed.form written
                    has.allowed.fits,
                (
                  if_some (device_with part.addr profile) (λ d. AllowsPec d.pec part.pec) device has.known
                      has.allowed.mode,
                  tt,
                ),
              ),
            ),
          ),
        ),
      )

  parts_keep : (earlier : List ℕ) (parts : List PartData) (events : List Event)
      → IsDistinct nat_eq (earlier ++ addresses parts) → PartsEvents profile parts events
      → AreKept (parts_rules profile earlier parts)
  parts_keep earlier [] events own has = tt
  parts_keep earlier (part ∷ parts) events own (first, rest, split, has, more) =
      kept_all (part_rules profile earlier part) (parts_rules profile (earlier ++ part.addr ∷ []) parts)
      (part_keeps earlier part first (apart earlier part.addr (addresses parts) own) has)
      (parts_keep (earlier ++ part.addr ∷ []) parts rest
      (subst (IsDistinct nat_eq) (sym (append_assoc earlier (part.addr ∷ []) (addresses parts))) own) more)

  -- ---- transactions

  write_has_packet : (parts : List PartData) → length parts ≤ 16 → AreKept (write_rules profile parts)
      → (events : List Event) × WritePacket profile parts events
  write_has_packet parts few (some, kept) =
      let legs : (events : List Event) × PartsEvents profile parts events = parts_have_events [] parts kept in (
        legs.0 ++ Stop ∷ [],
        record {
          some = some;
          few = few;
          distinct =
              parts_are_distinct [] parts distinct_none kept;
          legs = legs.0;
          each = legs.1;
          spelled = refl;
        },
      )

  write_keeps : (parts : List PartData) (events : List Event) → WritePacket profile parts events
      → AreKept (write_rules profile parts)
  write_keeps parts events has = (has.some, parts_keep [] parts has.legs has.distinct has.each)

  read_has_packet : (t : ReadData) → AreKept (read_rules profile t)
      → (events : List Event) × ReadPacket profile t events
  read_has_packet t (known, (command, (read, (fits, (mode, _))))) =
      let device : (d : DeviceParts) × (device_with t.addr profile ≡ Some d) =
      the_one (device_with t.addr profile) known in
      let form : (f : Form) × ((forms_at profile t.addr t.code).read ≡ Some f) =
      the_one (forms_at profile t.addr t.code).read read in (
        answered t.addr (t.code ∷ []) (wire form.0 t.reply) t.pec,
        record {
          device = device.0;
          form = form.0;
          known = device.1;
          read = subst (λ s. s.read ≡ Some form.0) (forms_are t.addr t.code device.0 device.1) form.1;
          fits = of_some (forms_at profile t.addr t.code).read (λ f. Fits f t.reply) form.0 form.1 fits;
          mode = of_some (device_with t.addr profile) (λ d. AllowsPec d.pec t.pec) device.0 device.1 mode;
          spelled = refl;
        },
      )

  read_keeps : (t : ReadData) (events : List Event) → ReadPacket profile t events → AreKept (read_rules profile t)
  read_keeps t events has =
      let read : (forms_at profile t.addr t.code).read ≡ Some has.form =
      ap (λ s. s.read) (forms_are t.addr t.code has.device has.known) ∙ has.read in (
        some_one (device_with t.addr profile) has.device has.known,
        (
          has_command t.addr t.code has.device has.known (read_command has.device t.code has.form has.read),
          (
            some_one (forms_at profile t.addr t.code).read has.form read,
            (
              if_some (forms_at profile t.addr t.code).read (λ f. Fits f t.reply) has.form read has.fits,
              (
                if_some (device_with t.addr profile) (λ d. AllowsPec d.pec t.pec) has.device has.known has.mode,
                tt,
              ),
            ),
          ),
        ),
      )

  call_has_packet : (t : CallData) → AreKept (call_rules profile t)
      → (events : List Event) × CallPacket profile t events
  call_has_packet t (known, (command, (called, (fits, (mode, _))))) =
      let device : (d : DeviceParts) × (device_with t.addr profile ≡ Some d) =
      the_one (device_with t.addr profile) known in
      let form : (f : Form) × ((forms_at profile t.addr t.code).call ≡ Some f) =
      the_one (forms_at profile t.addr t.code).call called in
      let both : Fits form.0 t.bytes × Fits form.0 t.reply = of_some (forms_at profile t.addr t.code).call
      (λ f. Fits f t.bytes × Fits f t.reply) form.0 form.1 fits in (
        answered t.addr (t.code ∷ wire form.0 t.bytes) (wire form.0 t.reply) t.pec,
        record {
          device = device.0;
          form = form.0;
          known = device.1;
          called = subst (λ s. s.call ≡ Some form.0) (forms_are t.addr t.code device.0 device.1) form.1;
          sent = both.0;
          replied = both.1;
          mode = of_some (device_with t.addr profile) (λ d. AllowsPec d.pec t.pec) device.0 device.1 mode;
          spelled = refl;
        },
      )

  call_keeps : (t : CallData) (events : List Event) → CallPacket profile t events → AreKept (call_rules profile t)
  call_keeps t events has =
      let called : (forms_at profile t.addr t.code).call ≡ Some has.form =
      ap (λ s. s.call) (forms_are t.addr t.code has.device has.known) ∙ has.called in (
        some_one (device_with t.addr profile) has.device has.known,
        (
          has_command t.addr t.code has.device has.known (called_command has.device t.code has.form has.called),
          (
            some_one (forms_at profile t.addr t.code).call has.form called,
            (
              if_some (forms_at profile t.addr t.code).call (λ f. Fits f t.bytes × Fits f t.reply) has.form called
                  (has.sent, has.replied),
              (
                if_some (device_with t.addr profile) (λ d. AllowsPec d.pec t.pec) has.device has.known has.mode,
                tt,
              ),
            ),
          ),
        ),
      )

  -- ---- the leg that is refused

  refused_leg_has_events : (parts : List PartData) (addr : ℕ) (sent : List ℕ) (at_read : Bool) → addr < 128
      → AreByteValues sent → AreKept (refused_leg_rules profile parts addr sent at_read)
      → (events : List Event) × RefusedLeg profile parts addr sent at_read events
  -- a refused address
  refused_leg_has_events parts addr [] false seven small kept =
      (Start ∷ Byte (write_address addr) ∷ Nack ∷ [], record { seven = seven; spelled = refl })
  -- a refused byte after the address
  refused_leg_has_events parts addr (b ∷ []) false seven small (known, _) =
      let device : (d : DeviceParts) × (device_with addr profile ≡ Some d) = the_one (device_with addr profile) known in (
        leg (write_address addr ∷ []) ++ nacked (b ∷ []),
        record {
          device = device.0;
          known = device.1;
          bytes = small;
          front = [];
          last = b;
          split = refl;
          begins =
              inl refl;
          spelled = refl;
        },
      )
  -- a refused byte further on: the body that goes on is told by the rules
  refused_leg_has_events parts addr (code ∷ b ∷ bytes) false seven small
      (known, (command, (begun, ((device, is, (front, last, body, split, allowed, prefix)), _)))) = (
        leg (write_address addr ∷ []) ++ nacked (code ∷ b ∷ bytes),
        record {
          device = device;
          known = is;
          bytes = small;
          front = front;
          last = last;
          split = split;
          begins =
              inr (body, allowed, prefix);
          spelled = refl;
        },
      )
  -- a device that was sent nothing isn't asked
  refused_leg_has_events parts addr [] true seven small (known, (alone, (never, _))) = absurd never
  -- a device that refuses to be read
  refused_leg_has_events parts addr (code ∷ bytes) true seven small
      (known, (alone, (command, (asked, ((device, is, body), _))))) = (
        leg (write_address addr ∷ code ∷ bytes) ++ Start ∷ Byte (read_address addr) ∷ Nack ∷ [],
        record { alone = alone; device = device; known = is; body = body; spelled = refl },
      )

  -- a body of a command with a form
  allowed_command : (device : DeviceParts) (parts : List PartData) (code : ℕ) (rest : List ℕ)
      → Allowed device parts (code ∷ rest) → IsSome (command_with code device.commands)
  allowed_command device [] code rest (inl write) = body_command device code rest (inl write)
  allowed_command device [] code rest (inr (inl read)) = body_command device code rest (inr (inl read))
  allowed_command device [] code rest (inr (inr call)) = body_command device code rest (inr (inr call))
  allowed_command device (part ∷ parts) code rest write = body_command device code rest (inl write)

  byte_keeps : (parts : List PartData) (addr code b : ℕ) (bytes : List ℕ) (events : List Event)
      → ByteRefused profile parts addr (code ∷ b ∷ bytes) events
      → AreKept (refused_leg_rules profile parts addr (code ∷ b ∷ bytes) false)
  byte_keeps parts addr code b bytes events has =
      elim has.begins [
        | inl none ↦ absurd (long_front code b bytes has.front has.last has.split none)
        | inr (body, allowed, prefix) ↦
            let starts : (rest : List ℕ) × (body ≡ code ∷ rest) =
            begins_so code b bytes has.front has.last body has.split prefix in
            let begun : Allowed has.device parts (code ∷ starts.0) =
            subst (Allowed has.device parts) starts.1 allowed in (
              some_one (device_with addr profile) has.device has.known,
              (
                has_command addr code has.device has.known (allowed_command has.device parts code starts.0 begun),
                (
                  (has.device, has.known, (starts.0, begun)),
                  (
                    (has.device, has.known, (has.front, has.last, body, has.split, allowed, prefix)),
                    tt,
                  ),
                ),
              ),
            )
      ]

  reply_keeps : (parts : List PartData) (addr code : ℕ) (bytes : List ℕ) (events : List Event)
      → ReadRefused profile parts addr (code ∷ bytes) events
      → AreKept (refused_leg_rules profile parts addr (code ∷ bytes) true)
  reply_keeps parts addr code bytes events has =
      let asked : CanBeAsked (forms has.device code) = body_is_asked has.device code bytes has.body in (
        some_one (device_with addr profile) has.device has.known,
        (
          has.alone,
          (
            has_command addr code has.device has.known (asked_command has.device code asked),
            (
              subst CanBeAsked (sym (forms_are addr code has.device has.known)) asked,
              (
                (has.device, has.known, has.body),
                tt,
              ),
            ),
          ),
        ),
      )

  refused_leg_keeps : (parts : List PartData) (addr : ℕ) (sent : List ℕ) (at_read : Bool) (events : List Event)
      → RefusedLeg profile parts addr sent at_read events
      → AreKept (refused_leg_rules profile parts addr sent at_read)
  refused_leg_keeps parts addr [] false events has = tt
  refused_leg_keeps parts addr (b ∷ []) false events has =
      (some_one (device_with addr profile) has.device has.known, tt)
  refused_leg_keeps parts addr (code ∷ b ∷ bytes) false events has = byte_keeps parts addr code b bytes events has
  refused_leg_keeps parts addr [] true events has = absurd (no_body has.device has.body)
  refused_leg_keeps parts addr (code ∷ bytes) true events has = reply_keeps parts addr code bytes events has

  pub seven_bits : (parts : List PartData) (addr : ℕ) (sent : List ℕ) (at_read : Bool) (events : List Event)
      → AllByRecursion IsDevice profile → RefusedLeg profile parts addr sent at_read events → addr < 128
  seven_bits parts addr [] false events devices has = has.seven
  seven_bits parts addr (b ∷ bytes) false events devices has = known_address addr has.device profile devices has.known
  seven_bits parts addr [] true events devices has = known_address addr has.device profile devices has.known
  seven_bits parts addr (b ∷ bytes) true events devices has = known_address addr has.device profile devices has.known

  refused_has_packet : (t : RefusedData) → length t.parts ≤ 15 → AreByteValues t.sent
      → AreKept (refused_rules profile t) → (events : List Event) × RefusedPacket profile t events
  refused_has_packet t few small kept =
      let split : AreKept (parts_rules profile [] t.parts)
      × AreKept (refused_address_rules profile t.parts t.addr t.sent t.at_read) =
      kept_parts (parts_rules profile [] t.parts) (refused_address_rules profile t.parts t.addr t.sent t.at_read)
      kept in
      let legs : (events : List Event) × PartsEvents profile t.parts events = parts_have_events [] t.parts split.0 in
      let last : (events : List Event) × RefusedLeg profile t.parts t.addr t.sent t.at_read events =
      refused_leg_has_events t.parts t.addr t.sent t.at_read split.1.0 small split.1.1.1 in (
        legs.0 ++ last.0 ++ Stop ∷ [],
        record {
          few = few;
          distinct = parts_are_distinct [] t.parts distinct_none split.0;
          another =
              split.1.1.0;
          legs = legs.0;
          each = legs.1;
          last = last.0;
          refused = last.1;
          spelled = refl;
        },
      )

  refused_keeps : (t : RefusedData) (events : List Event) → AllByRecursion IsDevice profile
      → RefusedPacket profile t events → AreKept (refused_rules profile t)
  refused_keeps t events devices has =
      kept_all (parts_rules profile [] t.parts) (refused_address_rules profile t.parts t.addr t.sent t.at_read)
      (parts_keep [] t.parts has.legs has.distinct has.each) (
        seven_bits t.parts t.addr t.sent t.at_read has.last devices has.refused,
        (has.another, refused_leg_keeps t.parts t.addr t.sent t.at_read has.last has.refused),
      )

  -- ---- all transactions

  pub kept_has_packet : (t : TransactionData) → IsTyped t → AreKept (transaction_rules profile t) → HasPacket profile t
  kept_has_packet (Write parts) typed kept = write_has_packet parts typed kept
  kept_has_packet (Read t) typed kept = read_has_packet t kept
  kept_has_packet (Call t) typed kept = call_has_packet t kept
  kept_has_packet (Refused t) typed kept = refused_has_packet t typed.0 typed.1 kept
  kept_has_packet (Alert t) typed kept = (
    leg (read_address alert_address ∷ []) ++ nacked (checked t.pec (read_address alert_address ∷ []) (t.byte ∷ []))
        ++ Stop ∷ [],
    record { byte = typed; spelled = refl },
  )
  kept_has_packet NoAlert typed kept = (Start ∷ Byte (read_address alert_address) ∷ Nack ∷ Stop ∷ [], refl)

  pub packet_keeps : (t : TransactionData) → AllByRecursion IsDevice profile → HasPacket profile t
      → AreKept (transaction_rules profile t)
  packet_keeps (Write parts) devices (events, has) = write_keeps parts events has
  packet_keeps (Read t) devices (events, has) = read_keeps t events has
  packet_keeps (Call t) devices (events, has) = call_keeps t events has
  packet_keeps (Refused t) devices (events, has) = refused_keeps t events devices has
  packet_keeps (Alert t) devices has = tt
  packet_keeps NoAlert devices has = tt

  -- an answer by the rules tells whether there is a packet
  pub answer_is : (t : TransactionData) (answer : Result (Unit {0}) Invalid) → IsTyped t
      → AllByRecursion IsDevice profile
      → MatchResult answer (λ _. AreKept (transaction_rules profile t)) (IsFirstBroken (transaction_rules profile t))
      → IsOk answer ↔ HasPacket profile t
  answer_is t (Ok done) typed devices kept = (λ _. kept_has_packet t typed kept, λ _. refl)
  answer_is t (Err fault) typed devices broken = (
    λ is. absurd (cc is),
    λ has. absurd (not_both (transaction_rules profile t) fault
        (packet_keeps t devices has) broken),
  )
