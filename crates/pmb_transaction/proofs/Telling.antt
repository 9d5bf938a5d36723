-- The transaction that the legs of a packet tell (`told`): by whether all bytes were taken, by the
-- last leg's address byte, and by the forms of the profile. For the law `one_transaction`:
-- OneTransaction shows that a packet's legs tell its transaction. An address byte for writing is
-- even, one for reading odd, and half of it is the address.
use Rattle.std.proofs.Common.{◌≡◌, ℕ, ◌+◌, ◌*◌, ◌/◌, ◌%◌, Bool, true, false, ◌&&◌, cond, Option, Some, None, map}
use Rattle.std.proofs.Common.{nat_eq, List, [], ◌∷◌, ◌++◌, refl, ap, ◌∙◌, arith}
use Rattle.std.specs.List.{list_all}
use Rattle.std.proofs.lemmas.Bool.{eq-eqb}
use Rattle.pmb_bus.specs.Address.{read_address, write_address}
use Rattle.pmb_command.specs.declared.form.Shape.{Shape}
use Rattle.pmb_command.specs.Parts.{DeviceParts, device_with}
use Rattle.pmb_transaction.specs.Body.{forms, shape_of}
use Rattle.pmb_transaction.specs.Transaction.{PartData, TransactionData, Write, Read, Call, Refused, Alert, NoAlert}
use Rattle.pmb_transaction.proofs.Data.{Data, data_of}
use Rattle.pmb_transaction.proofs.Legs.{Leg}

-- ---- address bytes

-- whether a byte addresses a device for writing
abbrev pub is_write : ℕ → Bool
is_write b = nat_eq (b % 2) 0

pub is_write-write : (addr : ℕ) → is_write (write_address addr) ≡ true
is_write-write addr = eq-eqb ((2 * addr) % 2) 0 (omega arith)

pub is_write-read : (addr : ℕ) → is_write (read_address addr) ≡ false
is_write-read addr = let odd : (2 * addr + 1) % 2 ≡ 1 = omega arith in ap (λ (r : ℕ). nat_eq r 0) odd

pub half-write : (addr : ℕ) → write_address addr / 2 ≡ addr
half-write addr = omega arith

pub half-read : (addr : ℕ) → read_address addr / 2 ≡ addr
half-read addr = omega arith

-- ---- rows of legs

abbrev pub behind_first : List ℕ → List ℕ
behind_first [] = []
behind_first (b ∷ bytes) = bytes

abbrev pub all_but_last : List Leg → List Leg
all_but_last [] = []
all_but_last (leg ∷ []) = []
all_but_last (leg ∷ next ∷ legs) = leg ∷ all_but_last (next ∷ legs)

abbrev pub last_leg : List Leg → Leg
last_leg [] = record { bytes = []; taken = true }
last_leg (leg ∷ []) = leg
last_leg (leg ∷ next ∷ legs) = last_leg (next ∷ legs)

abbrev pub all_taken : List Leg → Bool
all_taken legs = list_all (λ leg. leg.taken) legs

all_but_last-push : (legs : List Leg) (last : Leg) → all_but_last (legs ++ last ∷ []) ≡ legs
all_but_last-push [] last = refl
all_but_last-push (leg ∷ []) last = refl
all_but_last-push (leg ∷ next ∷ legs) last = ap (λ (front : List Leg). leg ∷ front)
    (all_but_last-push (next ∷ legs) last)

last_leg-push : (legs : List Leg) (last : Leg) → last_leg (legs ++ last ∷ []) ≡ last
last_leg-push [] last = refl
last_leg-push (leg ∷ []) last = refl
last_leg-push (leg ∷ next ∷ legs) last = last_leg-push (next ∷ legs) last

and_false : (b : Bool) → (b && false) ≡ false
and_false true = refl
and_false false = refl

-- where the last byte of the last leg was refused, not all was taken
not_all_taken : (legs : List Leg) (bytes : List ℕ) → all_taken (legs ++ record { bytes = bytes; taken = false } ∷ [])
    ≡ false
not_all_taken [] bytes = refl
not_all_taken (leg ∷ legs) bytes = ap (λ (b : Bool). leg.taken && b) (not_all_taken legs bytes) ∙ and_false leg.taken

-- ---- what legs tell

-- what is told of the answer at the Alert Response Address
abbrev pub alert_told : List ℕ → TransactionData
alert_told [] = NoAlert
alert_told (byte ∷ []) = Alert (record { byte = byte; pec = false })
alert_told (byte ∷ code ∷ more) = Alert (record { byte = byte; pec = true })

module _ (profile : List DeviceParts) where
  -- the forms of a command code at an address
  abbrev pub forms_at : Option DeviceParts → ℕ → Shape
  forms_at None code = shape_of None
  forms_at (Some device) code = forms device code

  abbrev pub part_with : ℕ → ℕ → Data → PartData
  part_with addr code d = record { addr = addr; code = code; bytes = d.bytes; pec = d.pec }

  -- the part of a leg
  abbrev pub part_told : List ℕ → PartData
  part_told [] = record { addr = 0; code = 0; bytes = []; pec = false }
  part_told (b ∷ []) = record { addr = 0; code = 0; bytes = []; pec = false }
  part_told (b ∷ code ∷ rest) = part_with (b / 2) code
      (data_of (forms_at (device_with (b / 2) profile) code).write rest)

  abbrev pub read_with : ℕ → ℕ → Data → TransactionData
  read_with addr code d = Read (record { addr = addr; code = code; reply = d.bytes; pec = d.pec })

  abbrev pub call_with : ℕ → ℕ → Data → Data → TransactionData
  call_with addr code sent d = Call (record {
    addr = addr;
    code = code;
    bytes = sent.bytes;
    reply = d.bytes;
    pec =
        d.pec;
  })

  -- the read or call of a body and a reply
  abbrev pub answer_told : ℕ → List ℕ → List ℕ → TransactionData
  answer_told addr [] reply = NoAlert
  answer_told addr (code ∷ []) reply = read_with addr code
      (data_of (forms_at (device_with addr profile) code).read reply)
  answer_told addr (code ∷ b ∷ bytes) reply =
      call_with addr code
      (data_of (forms_at (device_with addr profile) code).call (b ∷ bytes))
      (data_of (forms_at (device_with addr profile) code).call reply)

  -- what is told of a leg after a read address, after the body that was sent
  abbrev pub read_told : ℕ → List ℕ → List ℕ → TransactionData
  read_told addr body [] = Refused (record { parts = []; addr = addr; sent = body; at_read = true })
  read_told addr body (b ∷ reply) = answer_told addr body (b ∷ reply)

  abbrev pub odd_told : List Leg → ℕ → List ℕ → TransactionData
  odd_told [] b rest = alert_told rest
  odd_told (first ∷ legs) b rest = read_told (b / 2) (behind_first first.bytes) rest

  -- what is told of a last leg whose last byte was refused, by its address byte
  abbrev pub last_told : List Leg → List ℕ → TransactionData
  last_told front [] = NoAlert
  last_told front (b ∷ rest) =
      cond (is_write b)
      (Refused (record { parts = map (λ leg. part_told leg.bytes) front; addr = b / 2; sent = rest; at_read = false }))
      (odd_told front b rest)

  -- the transaction that legs tell
  abbrev pub told : List Leg → TransactionData
  told legs =
      cond (all_taken legs)
      (Write (map (λ leg. part_told leg.bytes) legs))
      (last_told (all_but_last legs) (last_leg legs).bytes)

  -- where all is taken, a write
  pub told_write : (legs : List Leg) (parts : List PartData) → all_taken legs ≡ true
      → map (λ leg. part_told leg.bytes) legs ≡ parts
      → told legs ≡ Write parts
  told_write legs parts taken same =
      ap (λ (b : Bool). cond b (Write (map (λ leg. part_told leg.bytes) legs))
      (last_told (all_but_last legs) (last_leg legs).bytes)) taken
      ∙ ap Write same

  -- else what the last leg tells
  pub told_last : (front : List Leg) (bytes : List ℕ) → told (front ++ record { bytes = bytes; taken = false } ∷ [])
      ≡ last_told front bytes
  told_last front bytes =
      let last : Leg = record { bytes = bytes; taken = false } in
      let legs = front ++ last ∷ [] in
      ap (λ (b : Bool). cond b (Write (map (λ leg. part_told leg.bytes) legs))
      (last_told (all_but_last legs) (last_leg legs).bytes)) (not_all_taken front bytes)
      ∙ ap (λ (l : Leg). last_told (all_but_last legs) l.bytes) (last_leg-push front last)
      ∙ ap (λ (before : List Leg). last_told before bytes) (all_but_last-push front last)

  -- a refused byte of a written leg
  pub told_refused : (front : List Leg) (addr : ℕ) (sent : List ℕ)
      → last_told front (write_address addr ∷ sent)
      ≡ Refused (record { parts = map (λ leg. part_told leg.bytes) front; addr = addr; sent = sent; at_read = false })
  told_refused front addr sent =
      ap
      (λ (b : Bool). cond b
      (Refused (record {
        parts = map (λ leg. part_told leg.bytes) front;
        addr = write_address addr / 2;
        sent =
            sent;
        at_read = false;
      }))
      (odd_told front (write_address addr) sent))
      (is_write-write addr)
      ∙ ap (λ (a : ℕ). Refused (record {
        parts = map (λ leg. part_told leg.bytes) front;
        addr = a;
        sent =
            sent;
        at_read = false;
      })) (half-write addr)

  -- what follows a read address
  pub told_read : (first : Leg) (addr : ℕ) (rest : List ℕ)
      → last_told (first ∷ []) (read_address addr ∷ rest) ≡ read_told addr (behind_first first.bytes) rest
  told_read first addr rest =
      ap
      (λ (b : Bool). cond b
      (Refused (record {
        parts = map (λ leg. part_told leg.bytes) (first ∷ []);
        addr = read_address addr / 2;
        sent =
            rest;
        at_read = false;
      }))
      (read_told (read_address addr / 2) (behind_first first.bytes) rest))
      (is_write-read addr)
      ∙ ap (λ (a : ℕ). read_told a (behind_first first.bytes) rest) (half-read addr)
