-- A piece of a capture says nothing that the whole denies: each member of its objects is one of the
-- whole's, but for places, and for what is not known in the piece. For the laws
-- `pieces_say_no_more` and `texts_of_pieces_say_no_more`. Object by object, by PieceMembers, from
-- what is known of PAGE, PHASE and VOUT_MODE in both (`Agree`).
use Rattle.std.proofs.Common.{◌≡◌, ℕ, suc, ◌+◌, ◌/◌, Bool, true, false, Option, Some, None}
use Rattle.std.proofs.Common.{List, [], ◌∷◌, ◌++◌, codes, drop, take, length, map, refl, sym}
use Rattle.std.proofs.Common.{ap, subst, append-nil, length-take, length-drop, arith}
use Rattle.pmb_bus.specs.declared.event.Event.{Event}
use Rattle.pmb_bus.specs.declared.event.Event.TheVariants.{Start, Byte, Ack, Nack, Stop}
use Rattle.pmb_bus.specs.declared.kinds.Kinds.{Kinds}
use Rattle.pmb_command.specs.Parts.{CommandParts, DeviceParts, device_with}
use Rattle.pmb_json_fields.specs.declared.access.Access.{Access}
use Rattle.pmb_json_fields.specs.declared.access.Access.TheVariants as access
use Rattle.pmb_unknown_start.specs.Certain.{StaysKnown}
use Rattle.pmb_unknown_start.specs.declared.start.Start.{Start as LateStart}
use Rattle.pmb_unknown_start.specs.Known.{mode, page}
use Rattle.pmb_unknown_start.specs.Past.{PastData, Said, Dropped}
use Rattle.pmb_unknown_start.specs.Phase.{phase}
use Rattle.pmb_meaning.specs.Object.{says_members_of}
use Rattle.pmb_json_text.specs.Json.{boolean, null, string}
use Rattle.pmb_json_text.specs.Member.{array_of, digits, named}
use Rattle.pmb_places.specs.declared.places.Place.{Place}
use Rattle.pmb_partial_packet.specs.PartialPacket.{reply, said_device, sent, written_to}
use Rattle.pmb_spans.specs.Spans.{Span, ReadSpan, RefusedSpan, TruncatedSpan, moved_spans}
use Rattle.pmb_transaction.specs.declared.reason.Reason.{Reason}
use Rattle.pmb_transaction.specs.Names.{kind_names, reason_name}
use Rattle.pmb_transaction.specs.Transaction.{PartData, ReadData, CallData, RefusedData, AlertData, TransactionData}
use Rattle.pmb_transaction.specs.Transaction.{Write, Read, Call, Refused, Alert, NoAlert}
use Rattle.pmb_fact_stream.specs.Choice.{ChoiceData}
use Rattle.pmb_json_objects.specs.BadToken.{bad_token_object}
use Rattle.pmb_json_objects.specs.Head.{Head, head_at}
use Rattle.pmb_json_objects.specs.Members.{code_member, command_members, device_member, device_members}
use Rattle.pmb_json_objects.specs.Members.{entry_members, part_members, sent_command}
use Rattle.pmb_json_objects.specs.Names.{got_value}
use Rattle.pmb_json_objects.specs.Object.{Object}
use Rattle.pmb_json_objects.specs.Packets.{alert_object, call_object, call_says, data_of, exchange_of}
use Rattle.pmb_json_objects.specs.Packets.{no_alert_object, other_object}
use Rattle.pmb_json_objects.specs.Packets.{packet_objects, read_object, refused_check, refused_name, refused_object}
use Rattle.pmb_json_objects.specs.Packets.{refused_objects, said_of, starts, write_object, write_objects}
use Rattle.pmb_json.specs.Objects.{objects_of}
use Rattle.pmb_json.specs.Pieces.{EachSaysNoMore, SayNoMore, SaysNoMore, Timing}
use Rattle.pmb_json_objects.specs.Refusals.{due_pec, refusal_object, reply_members, right_pec_members}
use Rattle.pmb_json_objects.specs.Refusals.{said_device_members, written_members}
use Rattle.pmb_json_objects.specs.Seen.{SeenData, basis_at, page_basis_at}
use Rattle.pmb_fact_stream.specs.Others.{other_address}
use Rattle.pmb_fact_stream.specs.Lines.{seen_behind}
use Rattle.pmb_fact_stream.specs.Lost.{dropped_if}
use Rattle.pmb_fact_stream.specs.Spans.{other_or, refused_span, span_facts}
use Rattle.pmb_facts.specs.Fact.{FactData, WhatData}
use Rattle.pmb_facts.specs.Fact as fact
use Rattle.pmb_facts.specs.Object.{object_of}
use Rattle.pmb_facts.specs.Packets.{packet_facts}
use Rattle.pmb_transaction.specs.Reading.{RefusalData}
use Rattle.pmb_json.proofs.Losses.{LoseTheSame, LosesOne}
use Rattle.pmb_json.proofs.Objects.{PacketsHaveObjects, packet_is}
use Rattle.pmb_json.proofs.PieceMembers.{TellEach, Tells, both, data_said, entry_said, head_said}
use Rattle.pmb_json.proofs.PieceMembers.{of_device_command_said, same}

-- ---- objects

-- what is known in a piece and in the whole agrees, after what went before in each
pub record Agree (profile : List DeviceParts) (a b : LateStart) (x y : List PastData) : Type 0 where
  -- a PAGE that is known in the piece is that of the whole
  pub pages : (addr number : ℕ) → page a profile x addr ≡ Some number → page b profile y addr ≡ Some number
  -- a PHASE and a VOUT_MODE likewise
  pub phases : (addr number : ℕ) → phase profile x addr ≡ Some number → phase profile y addr ≡ Some number
  pub modes : (addr : ℕ) → StaysKnown (mode a profile x addr) (mode b profile y addr)

-- the object of a bad word
pub token_said : (timing : Timing) (head there : Head) → Tells timing head.time there.time → (word : List ℕ)
    → SaysNoMore timing (bad_token_object head word) (bad_token_object there word)
token_said timing head there told word = record {
  device = refl;
  members = both (head_said head there told (codes "bad_token"))
      (same (named (codes "word") (string (take 32 word)) ∷ []));
}

-- that of a packet to an address that speaks no PMBus
pub other_said : (timing : Timing) (head there : Head) → Tells timing head.time there.time → (addr : ℕ)
    → SaysNoMore timing (other_object head addr) (other_object there addr)
other_said timing head there told addr = record {
  device = refl;
  members = both (head_said head there told (codes "other")) (same (device_member addr));
}

-- ---- lists

pub pairs_append : (timing : Timing) (a b c d : List Object) → EachSaysNoMore timing a b → EachSaysNoMore timing c d
    → EachSaysNoMore timing (a ++ c) (b ++ d)
pairs_append timing [] [] c d first second = second
pairs_append timing [] (w ∷ b) c d first second = absurd first
pairs_append timing (p ∷ a) [] c d first second = absurd first
pairs_append timing (p ∷ a) (w ∷ b) c d first second = (first.0, pairs_append timing a b c d first.1 second)

-- facts of a piece under one choice, each beside that of the whole under another
abbrev pub FactsSayNoMore : Timing → List DeviceParts → ChoiceData → ChoiceData → List FactData → List FactData → Type 0
FactsSayNoMore timing profile one other piece whole =
    EachSaysNoMore timing (objects_of one profile piece) (objects_of other profile whole)

pub both_say_no_more : (timing : Timing) (profile : List DeviceParts) (one other : ChoiceData) (a b c d : List FactData)
    → FactsSayNoMore timing profile one other a b → FactsSayNoMore timing profile one other c d
    → FactsSayNoMore timing profile one other (a ++ c) (b ++ d)
both_say_no_more timing profile one other [] [] c d first second = second
both_say_no_more timing profile one other [] (w ∷ b) c d first second = absurd first
both_say_no_more timing profile one other (p ∷ a) [] c d first second = absurd first
both_say_no_more timing profile one other (p ∷ a) (w ∷ b) c d first second =
    (first.0, both_say_no_more timing profile one other a b c d first.1 second)

-- events have as many STARTs wherever they stand
pub as_many_starts : (m n : ℕ) (events : List Event) → length (starts m events) ≡ length (starts n events)
as_many_starts m n [] = refl
as_many_starts m n (Start ∷ events) = ap suc (as_many_starts (m + 1) (n + 1) events)
as_many_starts m n (Byte b ∷ events) = as_many_starts (m + 1) (n + 1) events
as_many_starts m n (Ack ∷ events) = as_many_starts (m + 1) (n + 1) events
as_many_starts m n (Nack ∷ events) = as_many_starts (m + 1) (n + 1) events
as_many_starts m n (Stop ∷ events) = as_many_starts (m + 1) (n + 1) events

pub one_of_each : (k : ℕ) (ats bts : List ℕ) → length ats ≡ length bts
    → length (take 1 (drop k ats)) ≡ length (take 1 (drop k bts))
one_of_each k ats bts long = omega (
  arith,
  length-take 1 (drop k ats),
  length-take 1 (drop k bts),
  length-drop k ats,
  length-drop k bts,
)

module _ (timing : Timing) (places : ℕ) (profile : List DeviceParts) (a b : LateStart) (x y : List PastData)
    (agree : Agree profile a b x y) where
  abbrev piece : SeenData
  piece = record { digits = places; start = a; profile = profile; before = x }

  abbrev whole : SeenData
  whole = record { digits = places; start = b; profile = profile; before = y }

  -- the data of a command, and what its fields say
  data_of_said : (acc : Access) (addr : ℕ) (bytes : List ℕ) (device : DeviceParts) (c : CommandParts)
      → SayNoMore timing (data_of piece acc addr bytes device c) (data_of whole acc addr bytes device c)
  data_of_said acc addr bytes device c =
      both
      (data_said places acc device c (basis_at piece addr) (basis_at whole addr) (mode a profile x addr)
      (mode b profile y addr) (page a profile x addr) (page b profile y addr) (agree.modes addr) (agree.pages addr)
      bytes)
      (same (says_members_of device c.entry (exchange_of acc bytes)))

  said : (acc : Access) (addr code : ℕ) (bytes : List ℕ)
      → SayNoMore timing (said_of piece acc addr code bytes) (said_of whole acc addr code bytes)
  said acc addr code bytes =
      of_device_command_said (data_of piece acc addr bytes) (data_of whole acc addr bytes)
      (data_of_said acc addr bytes) (device_with addr profile) code

  command_said : (addr code : ℕ) → SayNoMore timing (command_members piece addr code) (command_members whole addr code)
  command_said addr code =
      let p : Option ℕ = page a profile x addr in
      let q : Option ℕ = page b profile y addr in
      let f : Option ℕ = phase profile x addr in
      let g : Option ℕ = phase profile y addr in
      both (same (code_member code))
      (of_device_command_said (entry_members p (page_basis_at piece addr) f)
      (entry_members q (page_basis_at whole addr) g)
      (entry_said p q (agree.pages addr) (page_basis_at piece addr) (page_basis_at whole addr) f g (agree.phases addr))
      (device_with addr profile) code)

  sent_said : (addr : ℕ) (bytes : List ℕ)
      → SayNoMore timing (sent_command piece addr bytes) (sent_command whole addr bytes)
  sent_said addr [] = same []
  sent_said addr (code ∷ bytes) = command_said addr code

  -- ---- objects

  module _ (head there : Head) (told : Tells timing head.time there.time) where
    write_said : (part parts : ℕ) (p : PartData)
        → SaysNoMore timing (write_object piece head part parts p) (write_object whole there part parts p)
    write_said part parts p = record {
      device = refl;
      members =
          both
          (both (both (both (head_said head there told (codes "write")) (same (part_members part parts)))
          (same (device_members profile p.addr))) (command_said p.addr p.code))
          (both (same (named (codes "bytes") (digits p.bytes) ∷ named (codes "pec") (boolean p.pec) ∷ []))
          (said access.Write p.addr p.code p.bytes));
    }

    read_said : (t : ReadData) → SaysNoMore timing (read_object piece head t) (read_object whole there t)
    read_said t = record {
      device = refl;
      members =
          both
          (both (both (head_said head there told (codes "read")) (same (device_members profile t.addr)))
          (command_said t.addr t.code))
          (both (same (named (codes "bytes") (digits t.reply) ∷ named (codes "pec") (boolean t.pec) ∷ []))
          (said access.Read t.addr t.code t.reply));
    }

    call_said : (t : CallData) → SaysNoMore timing (call_object piece head t) (call_object whole there t)
    call_said t = record {
      device = refl;
      members =
          both
          (both (both (head_said head there told (codes "call")) (same (device_members profile t.addr)))
          (command_said t.addr t.code))
          (same (named (codes "sent") (digits t.bytes) ∷ named (codes "reply") (digits t.reply)
          ∷ named (codes "pec") (boolean t.pec) ∷ call_says piece t.addr t.code t.bytes t.reply));
    }

    leg_said : (parts addr : ℕ) (bytes : List ℕ) (at_read : Bool)
        → SaysNoMore timing (refused_object piece head parts addr bytes at_read)
        (refused_object whole there parts addr bytes at_read)
    leg_said parts addr bytes at_read = record {
      device = refl;
      members =
          both
          (both (both (both (head_said head there told (codes "refused")) (same (part_members parts parts)))
          (same (device_members profile addr)))
          (both (same (named (codes "refused") (string (refused_name bytes at_read)) ∷ [])) (sent_said addr bytes)))
          (same (named (codes "sent") (digits bytes) ∷ refused_check addr (device_with addr profile) bytes at_read));
    }

    alert_said : (t : AlertData) → SaysNoMore timing (alert_object profile head t) (alert_object profile there t)
    alert_said t = record {
      device = refl;
      members =
          both (both (head_said head there told (codes "alert")) (same (device_members profile (t.byte / 2))))
          (same (named (codes "byte") (digits (t.byte ∷ [])) ∷ named (codes "pec") (boolean t.pec) ∷ []));
    }

    no_alert_said : SaysNoMore timing (no_alert_object head) (no_alert_object there)
    no_alert_said = record {
      device = refl;
      members = both (head_said head there told (codes "alert")) (same (named (codes "device") null ∷ []));
    }

    written_said : (addr : Option ℕ) (bytes : Option (List ℕ))
        → SayNoMore timing (written_members piece addr bytes) (written_members whole addr bytes)
    written_said None bytes = same []
    written_said (Some addr) None = same []
    written_said (Some addr) (Some bytes) = both (sent_said addr bytes)
        (same (named (codes "sent") (digits bytes) ∷ []))

    refusal_said : (front : List Event) (event : Option Event) (reason : Reason) (expected : Kinds)
        → SaysNoMore timing (refusal_object piece head front event reason expected)
        (refusal_object whole there front event reason expected)
    refusal_said front event reason expected = record {
      device = refl;
      members =
          both
          (both
          (both
          (both (head_said head there told (codes "refusal"))
          (same (named (codes "reason") (string (reason_name reason))
          ∷ named (codes "expected") (array_of (map string (kind_names expected)))
          ∷ named (codes "got") (got_value event) ∷ said_device_members profile (said_device front))))
          (written_said (written_to front) (sent front)))
          (same (reply_members (reply front))))
          (same (right_pec_members (due_pec reason front event)));
    }

    -- that of any fact
    pub object_said : (what : WhatData) → SaysNoMore timing (object_of piece head what) (object_of whole there what)
    object_said (fact.Write part parts p) = write_said part parts p
    object_said (fact.Read t) = read_said t
    object_said (fact.Call t) = call_said t
    object_said (fact.Refused parts addr bytes at_read) = leg_said parts addr bytes at_read
    object_said (fact.Alert t) = alert_said t
    object_said fact.NoAlert = no_alert_said
    object_said (fact.Other addr) = other_said timing head there told addr
    object_said (fact.Refusal front event reason expected) = refusal_said front event reason expected
    object_said (fact.BadToken word) = token_said timing head there told word

  -- ---- packets

  module _ (place there : ℕ → Place) (time theirs : Option (List ℕ)) (told : Tells timing time theirs) where
    parts_said : (part parts : ℕ) (ats bts : List ℕ) (ps : List PartData) → length ats ≡ length bts
        → EachSaysNoMore timing (write_objects piece place time part parts ats ps)
        (write_objects whole there theirs part parts bts ps)
    parts_said part parts ats bts [] long = tt
    parts_said part parts [] [] (p ∷ ps) long = tt
    parts_said part parts [] (v ∷ bts) (p ∷ ps) long = absurd (omega arith)
    parts_said part parts (u ∷ ats) [] (p ∷ ps) long = absurd (omega arith)
    parts_said part parts (u ∷ ats) (v ∷ bts) (p ∷ ps) long = (
      write_said (head_at place time u) (head_at there theirs v) told part parts p,
      parts_said (part + 1) parts ats bts ps (omega arith),
    )

    legs_said : (parts addr : ℕ) (bytes : List ℕ) (at_read : Bool) (ats bts : List ℕ) → length ats ≡ length bts
        → EachSaysNoMore timing (map (λ at. refused_object piece (head_at place time at) parts addr bytes at_read) ats)
        (map (λ at. refused_object whole (head_at there theirs at) parts addr bytes at_read) bts)
    legs_said parts addr bytes at_read [] [] long = tt
    legs_said parts addr bytes at_read [] (v ∷ bts) long = absurd (omega arith)
    legs_said parts addr bytes at_read (u ∷ ats) [] long = absurd (omega arith)
    legs_said parts addr bytes at_read (u ∷ ats) (v ∷ bts) long = (
      leg_said (head_at place time u) (head_at there theirs v) told parts addr bytes at_read,
      legs_said parts addr bytes at_read ats bts (omega arith),
    )

    refused_said : (ats bts : List ℕ) (t : RefusedData) → length ats ≡ length bts
        → EachSaysNoMore timing (refused_objects piece place time ats t) (refused_objects whole there theirs bts t)
    refused_said ats bts t long =
        pairs_append timing (write_objects piece place time 1 (length t.parts + 1) ats t.parts)
        (write_objects whole there theirs 1 (length t.parts + 1) bts t.parts)
        (map (λ at. refused_object piece (head_at place time at) (length t.parts + 1) t.addr t.sent t.at_read)
        (take 1 (drop (length t.parts) ats)))
        (map (λ at. refused_object whole (head_at there theirs at) (length t.parts + 1) t.addr t.sent t.at_read)
        (take 1 (drop (length t.parts) bts)))
        (parts_said 1 (length t.parts + 1) ats bts t.parts long)
        (legs_said (length t.parts + 1) t.addr t.sent t.at_read (take 1 (drop (length t.parts) ats))
        (take 1 (drop (length t.parts) bts)) (one_of_each (length t.parts) ats bts long))

    packet_said : (m n : ℕ) (events : List Event) (t : TransactionData)
        → EachSaysNoMore timing (packet_objects piece place time m events t)
        (packet_objects whole there theirs n events t)
    packet_said m n events (Write ps) = parts_said 1 (length ps) (starts m events) (starts n events) ps
        (as_many_starts m n events)
    packet_said m n events (Read t) = (read_said (head_at place time m) (head_at there theirs n) told t, tt)
    packet_said m n events (Call t) = (call_said (head_at place time m) (head_at there theirs n) told t, tt)
    packet_said m n events (Refused t) = refused_said (starts m events) (starts n events) t (as_many_starts m n events)
    packet_said m n events (Alert t) = (alert_said (head_at place time m) (head_at there theirs n) told t, tt)
    packet_said m n events NoAlert = (no_alert_said (head_at place time m) (head_at there theirs n) told, tt)

-- ---- spans

-- What went before in a piece, beside what went before in the whole, which stay beside each other with a
-- transaction more, and with what is lost at a refusal. What is known of both agrees.
pub record StandBeside (profile : List DeviceParts) (a b : LateStart)
    (Beside : List PastData → List PastData → Type 0) : Type 0 where
  pub step : (x y : List PastData) (t : TransactionData) → Beside x y → Beside (x ++ Said t ∷ []) (y ++ Said t ∷ [])
  pub drop : (x y : List PastData) → Beside x y → Beside (x ++ Dropped ∷ []) (y ++ Dropped ∷ [])
  pub agree : (x y : List PastData) → Beside x y → Agree profile a b x y

module _ (of_packets : PacketsHaveObjects) (timing : Timing) (choice : ChoiceData) (profile : List DeviceParts)
    (a b : LateStart) (Pasts : List PastData → List PastData → Type 0) (stand : StandBeside profile a b Pasts)
    (place there : ℕ → Place) (times theirs : ℕ → Option (List ℕ))
    (lost gone : ℕ → List Event → List PastData) where
  abbrev in_piece : ChoiceData
  in_piece = record choice { start = a }

  abbrev in_whole : ChoiceData
  in_whole = record choice { start = b }

  abbrev Beside : List FactData → List FactData → Type 0
  Beside piece whole = FactsSayNoMore timing profile in_piece in_whole piece whole

  -- an other, or these facts
  either_said : (m n : ℕ) (addr : Option ℕ) (own beside : List FactData) → Tells timing (times m) (theirs n)
      → Beside own beside → Beside (other_or place times m addr own) (other_or there theirs n addr beside)
  either_said m n None own beside told said = said
  either_said m n (Some addr) own beside told said =
      (other_said timing (head_at place (times m) (m + 1)) (head_at there (theirs n) (n + 1)) told addr, tt)

  -- the facts of a packet
  packet_agrees : (m n : ℕ) (events : List Event) (t : TransactionData) (x y : List PastData)
      → Tells timing (times m) (theirs n) → Agree profile a b x y
      → Beside (packet_facts x place (times m) m events t) (packet_facts y there (theirs n) n events t)
  packet_agrees m n events t x y told agrees =
      let own = packet_objects (seen_behind in_piece profile x) place (times m) m events t in
      subst (λ (objects : List Object). EachSaysNoMore timing objects
      (objects_of in_whole profile (packet_facts y there (theirs n) n events t)))
      (sym (packet_is in_piece profile x place (times m) of_packets m events t))
      (subst (λ (objects : List Object). EachSaysNoMore timing own objects)
      (sym (packet_is in_whole profile y there (theirs n) of_packets n events t))
      (packet_said timing choice.digits profile a b x y agrees place there (times m) (theirs n) told m n events t))

  -- ---- spans

  -- a refusal, or an other, and the spans after it, before which that went before
  refused_said_in : (n m : ℕ) (front : List Event) (event : Option Event) (refusal : RefusalData) (events : List Event)
      (spans : List Span) (x y u v : List PastData) → TellEach timing n times theirs → Pasts x y
      → Beside (span_facts choice.ignored place times lost u spans)
      (span_facts choice.ignored there theirs gone v (moved_spans n spans))
      → Beside (other_or place times m (other_address choice.ignored events)
      (refused_span place times x m front event refusal ∷ []) ++ span_facts choice.ignored place times lost u spans)
      (other_or there theirs (n + m) (other_address choice.ignored events)
      (refused_span there theirs y (n + m) front event refusal ∷ [])
      ++ span_facts choice.ignored there theirs gone v (moved_spans n spans))
  refused_said_in n m front event refusal events spans x y u v told pasts others =
      let addr = other_address choice.ignored events in
      let own = refused_span place times x m front event refusal ∷ [] in
      let beside = refused_span there theirs y (n + m) front event refusal ∷ [] in
      both_say_no_more timing profile in_piece in_whole (other_or place times m addr own)
      (other_or there theirs (n + m) addr beside) (span_facts choice.ignored place times lost u spans)
      (span_facts choice.ignored there theirs gone v (moved_spans n spans))
      (either_said m (n + m) addr own beside (told m) (
        refusal_said timing choice.digits profile a b x y (stand.agree x y pasts)
            (head_at place (times m) (m + length front)) (head_at there (theirs (n + m)) (n + m + length front))
            (told m) front event refusal.reason refusal.expected,
        tt,
      ))
      others

  -- what went before stays beside each other with what is lost at a refusal
  dropped_beside : (x y : List PastData) (loses : Bool) → Pasts x y
      → Pasts (x ++ dropped_if loses) (y ++ dropped_if loses)
  dropped_beside x y true pasts = stand.drop x y pasts
  dropped_beside x y false pasts =
      subst (λ (past : List PastData). Pasts past (y ++ [])) (sym (append-nil x))
      (subst (λ (past : List PastData). Pasts x past) (sym (append-nil y)) pasts)

  pub spans_said : LosesOne lost → (n : ℕ) → LoseTheSame n lost gone → (spans : List Span) (x y : List PastData)
      → TellEach timing n times theirs → Pasts x y
      → Beside (span_facts choice.ignored place times lost x spans)
      (span_facts choice.ignored there theirs gone y (moved_spans n spans))
  spans_said one n same_lost [] x y told pasts = tt
  spans_said one n same_lost (ReadSpan m events t ∷ spans) x y told pasts =
      let addr = other_address choice.ignored events in
      let own = packet_facts x place (times m) m events t in
      let beside = packet_facts y there (theirs (n + m)) (n + m) events t in
      both_say_no_more timing profile in_piece in_whole (other_or place times m addr own)
      (other_or there theirs (n + m) addr beside) (span_facts choice.ignored place times lost (x ++ Said t ∷ []) spans)
      (span_facts choice.ignored there theirs gone (y ++ Said t ∷ []) (moved_spans n spans))
      (either_said m (n + m) addr own beside (told m)
      (packet_agrees m (n + m) events t x y (told m) (stand.agree x y pasts)))
      (spans_said one n same_lost spans (x ++ Said t ∷ []) (y ++ Said t ∷ []) told (stand.step x y t pasts))
  spans_said one n same_lost (RefusedSpan m front event refusal ∷ spans) x y told pasts =
      let u = x ++ lost m front in
      let v = y ++ gone (n + m) front in
      let beside = subst (λ (past : List PastData). Pasts u (y ++ past)) (sym (same_lost m front))
      (subst (λ (past : List PastData). Pasts (x ++ past) (y ++ past)) (sym (one m front).1)
      (dropped_beside x y (one m front).0 pasts)) in
      refused_said_in n m front (Some event) refusal (front ++ event ∷ []) spans x y u v told pasts
      (spans_said one n same_lost spans u v told beside)
  spans_said one n same_lost (TruncatedSpan m front refusal ∷ spans) x y told pasts =
      refused_said_in n m front None refusal front spans x y x y told pasts
      (spans_said one n same_lost spans x y told pasts)
