-- Each rule of a transaction is kept or broken, so it keeps all of them or breaks a first one. For
-- the law `packet_or_fault`, and through it for parsing lines (`pmb_line`) and making hosts
-- (`pmb_host`). Rules are statements on numbers, lists and look-ups, each of them decided; the
-- rules of bodies are decided by Bodies.
use Rattle.std.proofs.Common.{◌≡◌, ℕ, ◌<◌, ◌≤◌, ◌⊎◌, Bool, true, false, Option, Some, None, IsSome, IfSome, is_some}
use Rattle.std.proofs.Common.{List, [], ◌∷◌, ◌++◌, length, nat_eq, refl, sym, ap, subst, inl, inr, arith}
use Rattle.std.specs.List.{list_any}
use Rattle.std.proofs.lemmas.Bool.{cases_Bool, cases_eq, cases_lt}
use Rattle.pmb_command.specs.declared.form.Form.{Form}
use Rattle.pmb_command.specs.declared.form.Form.TheVariants.{Zero, One, Two, Four, Eight, Block}
use Rattle.pmb_command.specs.declared.form.Shape.{Shape}
use Rattle.pmb_command.specs.declared.pec_mode.PecMode.{PecMode}
use Rattle.pmb_command.specs.declared.pec_mode.PecMode.TheVariants.{Off, On, Optional}
use Rattle.pmb_command.specs.Parts.{DeviceParts, device_with}
use Rattle.pmb_command.specs.PecMode.{AllowsPec}
use Rattle.pmb_command.specs.Wire.{AreByteValues, Fits, Takes}
use Rattle.pmb_transaction.specs.Transaction.{PartData, ReadData, CallData, RefusedData, TransactionData, Write, Read}
use Rattle.pmb_transaction.specs.Transaction.{Call, Refused, Alert, NoAlert}
use Rattle.pmb_transaction.specs.Body.{forms, IsRequest}
use Rattle.pmb_transaction.specs.Packet.{addresses}
use Rattle.pmb_writer.specs.declared.invalid.Invalid.{Invalid}
use Rattle.pmb_writer.specs.Invalid.{AreKept, CanBeAsked, HasPacket, IsFirstBroken, IsFirstFault, MayBegin, MayGoOn}
use Rattle.pmb_writer.specs.Invalid.{OfDevice, Rule, command_at, forms_at, call_rules, part_rules, parts_rules}
use Rattle.pmb_writer.specs.Invalid.{read_rules, refused_address_rules, refused_leg_rules, refused_rules}
use Rattle.pmb_writer.specs.Invalid.{transaction_rules, write_rules}
use Rattle.pmb_writer.specs.Typed.{IsTyped}
use Rattle.pmb_writer.specs.machine.Lengths.{is_request, may_begin, may_go_on}
use Rattle.pmb_writer.proofs.Bodies.{begins, begins_not, goes_on, goes_on_not, is_first, requests, requests_not}
use Rattle.pmb_writer.proofs.Packets.{kept_has_packet}
use Rattle.pmb_writer.proofs.RefusedLegs.{small_front}
use Rattle.pmb_writer.proofs.Rules.{broken_behind, broken_in_front, kept_all}

-- it holds, or does not
abbrev pub IsDecided : Type 0 → Type 0
IsDecided P = P ⊎ (P → ⊥)

-- ---- decisions

pub is_there : {A : Type 0} (o : Option A) → IsDecided (IsSome o)
is_there None = inr (λ is. cc is)
is_there (Some x) = inl refl

pub if_there : {A : Type 0} (P : A → Type 0) → ((x : A) → IsDecided (P x)) → (o : Option A) → IsDecided (IfSome o P)
if_there P each None = inl tt
if_there P each (Some x) = each x

is_false : (b : Bool) → IsDecided (b ≡ false)
is_false true = inr (λ is. cc is)
is_false false = inl refl

pub is_at_most : (m n : ℕ) → IsDecided (m ≤ n)
is_at_most m n = elim (cases_lt n m) [
  | inl above ↦ inr (λ (within : m ≤ n). absurd (omega (arith, above, within)))
  | inr
      within ↦ inl within
]

is_below : (m n : ℕ) → IsDecided (m < n)
is_below m n = elim (cases_lt m n) [
  | inl below ↦ inl below
  | inr above ↦ inr
      (λ (below : m < n). absurd (omega (arith, above, below)))
]

is_empty : {A : Type 0} (xs : List A) → IsDecided (xs ≡ [])
is_empty [] = inl refl
is_empty (x ∷ xs) = inr (λ is. cc is)

pub both : {P Q : Type 0} → IsDecided P → IsDecided Q → IsDecided (P × Q)
both (inl p) (inl q) = inl (p, q)
both (inl p) (inr fails) = inr (λ all. fails all.1)
both (inr fails) q = inr (λ all. fails all.0)

-- of two facts that imply each other, one is decided by the other
pub decided_by : {P Q : Type 0} → (P → Q) → (Q → P) → IsDecided P → IsDecided Q
decided_by to from (inl p) = inl (to p)
decided_by to from (inr fails) = inr (λ q. fails (from q))

either : {P Q : Type 0} → IsDecided P → IsDecided Q → IsDecided (P ⊎ Q)
either (inl p) q = inl (inl p)
either (inr fails) (inl q) = inl (inr q)
either (inr fails) (inr none) = inr (λ one. elim one [ inl p ↦ fails p | inr q ↦ none q ])

are_bytes : (bytes : List ℕ) → IsDecided (AreByteValues bytes)
are_bytes [] = inl tt
are_bytes (b ∷ bytes) = both (is_below b 256) (are_bytes bytes)

takes : (form : Form) (n : ℕ) → IsDecided (Takes form n)
takes Zero n = cases_eq n 0
takes One n = cases_eq n 1
takes Two n = cases_eq n 2
takes Four n = cases_eq n 4
takes Eight n = cases_eq n 8
takes Block n = is_at_most n 255

pub fits : (form : Form) (bytes : List ℕ) → IsDecided (Fits form bytes)
fits form bytes =
    decided_by (λ (has : AreByteValues bytes × Takes form (length bytes)). record { small = has.0; taken = has.1 })
    (λ fit. (fit.small, fit.taken))
    (both (are_bytes bytes) (takes form (length bytes)))

allows : (mode : PecMode) (with_pec : Bool) → IsDecided (AllowsPec mode with_pec)
allows Off with_pec = is_false with_pec
allows On true = inl refl
allows On false = inr (λ is. cc is)
allows Optional with_pec = inl tt

can_be_asked : (shape : Shape) → IsDecided (CanBeAsked shape)
can_be_asked shape = either (is_there shape.read) (is_there shape.call)

begins_or_not : (parts : List PartData) (code : ℕ) (device : DeviceParts) → IsDecided (MayBegin parts code device)
begins_or_not parts code device =
    elim (cases_Bool (may_begin (is_first parts) (forms device code))) [
      | inl passes ↦ inl (begins device code parts passes)
      | inr fails ↦ inr (begins_not device code parts fails)
    ]

goes_on_or_not : (parts : List PartData) (code : ℕ) (taken : List ℕ) (last : ℕ) → AreByteValues taken
    → (device : DeviceParts)
    → IsDecided (MayGoOn parts (code ∷ taken ++ last ∷ []) device)
goes_on_or_not parts code taken last small device =
    elim (cases_Bool (may_go_on (is_first parts) device.pec (forms device code) taken)) [
      | inl passes ↦ inl (goes_on device code parts taken small passes last)
      | inr fails ↦ inr (goes_on_not device code parts taken fails last)
    ]

requests_or_not : (code : ℕ) (bytes : List ℕ) → AreByteValues bytes → (device : DeviceParts)
    → IsDecided (IsRequest device (code ∷ bytes))
requests_or_not code bytes small device =
    elim (cases_Bool (is_request (forms device code) bytes)) [
      | inl passes ↦ inl (requests device code bytes small passes)
      | inr fails ↦ inr (requests_not device code bytes fails)
    ]

-- the last byte apart
last_apart : (b : ℕ) (bytes : List ℕ) → (taken : List ℕ) × (last : ℕ) × (b ∷ bytes ≡ taken ++ last ∷ [])
last_apart b [] = ([], b, refl)
last_apart b (c ∷ bytes) = let rest = last_apart c bytes in (b ∷ rest.0, rest.1, ap (λ xs. b ∷ xs) rest.2)

sent_goes_on : (parts : List PartData) (code b : ℕ) (bytes : List ℕ) → AreByteValues (b ∷ bytes)
    → (device : DeviceParts)
    → IsDecided (MayGoOn parts (code ∷ b ∷ bytes) device)
sent_goes_on parts code b bytes small device =
    let apart = last_apart b bytes in
    let taken : AreByteValues apart.0 = small_front apart.0 apart.1 (subst AreByteValues apart.2 small) in
    subst (λ (sent : List ℕ). IsDecided (MayGoOn parts (code ∷ sent) device)) (sym apart.2)
    (goes_on_or_not parts code apart.0 apart.1 taken device)

-- ---- rules in an order

-- each is kept or broken
abbrev pub AreDecided : List Rule → Type 0
AreDecided [] = Unit {0}
AreDecided (rule ∷ rules) = IsDecided rule.need × AreDecided rules

joined : (front back : List Rule) → AreDecided front → AreDecided back → AreDecided (front ++ back)
joined [] back first rest = rest
joined (rule ∷ front) back first rest = (first.0, joined front back first.1 rest)

-- all are kept, or there is a first that is broken
abbrev pub AreSettled : List Rule → Type 0
AreSettled rules = AreKept rules ⊎ ((fault : Invalid) × IsFirstBroken rules fault)

behind_kept : (rule : Rule) (rules : List Rule) → rule.need → AreSettled rules → AreSettled (rule ∷ rules)
behind_kept rule rules kept (inl all) = inl (kept, all)
behind_kept rule rules kept (inr first) = inr (first.0, inr (kept, first.1))

one_more : (rule : Rule) (rules : List Rule) → IsDecided rule.need → AreSettled rules → AreSettled (rule ∷ rules)
one_more rule rules (inl kept) rest = behind_kept rule rules kept rest
one_more rule rules (inr broken) rest = inr (rule.fault, inl (broken, refl))

pub settled : (rules : List Rule) → AreDecided rules → AreSettled rules
settled [] decided = inl tt
settled (rule ∷ rules) decided = one_more rule rules decided.0 (settled rules decided.1)

-- ---- the rules of transactions

module _ (profile : List DeviceParts) where
  found_holds : (addr : ℕ) (P : DeviceParts → Type 0) (found : Option DeviceParts) → device_with addr profile ≡ found
      → ((device : DeviceParts) → IsDecided (P device))
      → IsDecided (OfDevice profile addr P)
  found_holds addr P None is each = inr (λ of_one. cc (is, of_one.1))
  found_holds addr P (Some device) is each =
      elim (each device) [
        | inl holds ↦ inl (device, is, holds)
        | inr fails ↦ inr (λ of_one. fails (subst P (cc (is, of_one.1)) of_one.2))
      ]

  of_device : (addr : ℕ) (P : DeviceParts → Type 0) → ((device : DeviceParts) → IsDecided (P device))
      → IsDecided (OfDevice profile addr P)
  of_device addr P each = found_holds addr P (device_with addr profile) refl each

  pub keeps : (addr : ℕ) (with_pec : Bool)
      → IsDecided (IfSome (device_with addr profile) (λ device. AllowsPec device.pec with_pec))
  keeps addr with_pec = if_there (λ device. AllowsPec device.pec with_pec) (λ device. allows device.pec with_pec)
      (device_with addr profile)

  part_decided : (earlier : List ℕ) (part : PartData) → AreDecided (part_rules profile earlier part)
  part_decided earlier part = (
    is_there (device_with part.addr profile),
    (
      is_false (list_any (nat_eq part.addr) earlier),
      (
        is_there (command_at profile part.addr part.code),
        (
          is_there (forms_at profile part.addr part.code).write,
          (
            if_there (λ form. Fits form part.bytes) (λ form. fits form part.bytes)
                (forms_at profile part.addr part.code).write,
            (keeps part.addr part.pec, tt),
          ),
        ),
      ),
    ),
  )

  parts_decided : (earlier : List ℕ) (parts : List PartData) → AreDecided (parts_rules profile earlier parts)
  parts_decided earlier [] = tt
  parts_decided earlier (part ∷ parts) =
      joined (part_rules profile earlier part) (parts_rules profile (earlier ++ part.addr ∷ []) parts)
      (part_decided earlier part) (parts_decided (earlier ++ part.addr ∷ []) parts)

  read_decided : (t : ReadData) → AreDecided (read_rules profile t)
  read_decided t = (
    is_there (device_with t.addr profile),
    (
      is_there (command_at profile t.addr t.code),
      (
        is_there (forms_at profile t.addr t.code).read,
        (
          if_there (λ form. Fits form t.reply) (λ form. fits form t.reply) (forms_at profile t.addr t.code).read,
          (keeps t.addr t.pec, tt),
        ),
      ),
    ),
  )

  call_decided : (t : CallData) → AreDecided (call_rules profile t)
  call_decided t = (
    is_there (device_with t.addr profile),
    (
      is_there (command_at profile t.addr t.code),
      (
        is_there (forms_at profile t.addr t.code).call,
        (
          if_there (λ form. Fits form t.bytes × Fits form t.reply)
              (λ form. both (fits form t.bytes) (fits form t.reply)) (forms_at profile t.addr t.code).call,
          (keeps t.addr t.pec, tt),
        ),
      ),
    ),
  )

  leg_decided : (parts : List PartData) (addr : ℕ) (sent : List ℕ) (at_read : Bool) → AreByteValues sent
      → AreDecided (refused_leg_rules profile parts addr sent at_read)
  -- the address alone: no rule
  leg_decided parts addr [] false small = tt
  -- a byte after it: the device is known
  leg_decided parts addr (b ∷ []) false small = (is_there (device_with addr profile), tt)
  -- more bytes: the command is known, a body may begin with them, and it goes on
  leg_decided parts addr (code ∷ b ∷ bytes) false small = (
    is_there (device_with addr profile),
    (
      is_there (command_at profile addr code),
      (
        of_device addr (MayBegin parts code) (begins_or_not parts code),
        (of_device addr (MayGoOn parts (code ∷ b ∷ bytes)) (sent_goes_on parts code b bytes small.1), tt),
      ),
    ),
  )
  -- reading is refused, but nothing was sent
  leg_decided parts addr [] true small = (
    is_there (device_with addr profile),
    (is_empty parts, (inr (λ none. none), tt)),
  )
  -- reading is refused after a body that asks
  leg_decided parts addr (code ∷ bytes) true small = (
    is_there (device_with addr profile),
    (
      is_empty parts,
      (
        is_there (command_at profile addr code),
        (
          can_be_asked (forms_at profile addr code),
          (of_device addr (λ device. IsRequest device (code ∷ bytes)) (requests_or_not code bytes small.1), tt),
        ),
      ),
    ),
  )

  refused_decided : (t : RefusedData) → AreByteValues t.sent → AreDecided (refused_rules profile t)
  refused_decided t small =
      joined (parts_rules profile [] t.parts) (refused_address_rules profile t.parts t.addr t.sent t.at_read)
      (parts_decided [] t.parts) (
        is_below t.addr 128,
        (
          is_false (list_any (nat_eq t.addr) (addresses t.parts)),
          leg_decided t.parts t.addr t.sent t.at_read small,
        ),
      )

  rules_decided : (t : TransactionData) → IsTyped t → AreDecided (transaction_rules profile t)
  rules_decided (Write parts) typed = (is_at_most 1 (length parts), parts_decided [] parts)
  rules_decided (Read t) typed = read_decided t
  rules_decided (Call t) typed = call_decided t
  rules_decided (Refused t) typed = refused_decided t typed.1
  rules_decided (Alert t) typed = tt
  rules_decided NoAlert typed = tt

  -- a packet, or a first fault
  pub packet_or_fault : (t : TransactionData) → IsTyped t
      → HasPacket profile t ⊎ ((fault : Invalid) × IsFirstFault profile t fault)
  packet_or_fault t typed = elim (settled (transaction_rules profile t) (rules_decided t typed))
      [ inl kept ↦ inl (kept_has_packet profile t typed kept) | inr first ↦ inr first ]
