-- Whether bytes are the data of a form, the front of a body that a device takes, or a body that
-- asks it, is decided. For the law `viability_is_decided`, by DecidedPackets. Data of a form are at
-- most 255 bytes below 256, so all that can be in a body with a given front are tried.
use Rattle.std.proofs.Common.{◌≡◌, ℕ, ◌<◌, ◌≤◌, ◌⊎◌, inl, inr, Bool, true, false, Some, List, [], ◌∷◌, ◌++◌, length}
use Rattle.std.proofs.Common.{refl, sym, ap, ◌∙◌, subst, arith}
use Rattle.pmb_bus.specs.Address.{write_address}
use Rattle.pmb_command.specs.declared.form.Form.{Form}
use Rattle.pmb_command.specs.declared.form.Form.TheVariants.{Zero, One, Two, Four, Eight, Block}
use Rattle.pmb_command.specs.declared.pec_mode.PecMode.{PecMode}
use Rattle.pmb_command.specs.declared.pec_mode.PecMode.TheVariants.{Off, On, Optional}
use Rattle.pmb_command.specs.Parts.{DeviceParts}
use Rattle.pmb_command.specs.PecMode.{AllowsPec}
use Rattle.pmb_command.specs.Wire.{IsByte, AreByteValues, Fits, Takes, wire}
use Rattle.pmb_transaction.specs.Transaction.{PartData}
use Rattle.pmb_transaction.specs.Body.{forms, checked, IsProperPrefix, ReadBody, CallBody, IsWriteBody, IsReadBody}
use Rattle.pmb_transaction.specs.Body.{IsCallBody, Allowed, IsRequest}
use Rattle.pmb_transaction.proofs.Decided.{Decided, at_most, below, both, either_way, of_each, of_some, one_of}
use Rattle.pmb_transaction.proofs.Decided.{same_bool, same_number}
use Rattle.pmb_transaction.proofs.Finite.{Few, bools, data_bytes, some_of}

-- ---- data

pub are_bytes : (bytes : List ℕ) → Decided (AreByteValues bytes)
are_bytes bytes = of_each ℕ IsByte (λ b. below b 256) bytes

takes : (form : Form) (n : ℕ) → Decided (Takes form n)
takes Zero n = same_number n 0
takes One n = same_number n 1
takes Two n = same_number n 2
takes Four n = same_number n 4
takes Eight n = same_number n 8
takes Block n = at_most n 255

pub fits : (form : Form) (bytes : List ℕ) → Decided (Fits form bytes)
fits form bytes =
    either_way (AreByteValues bytes × Takes form (length bytes)) (Fits form bytes)
    (λ w. record { small = w.0; taken = w.1 }) (λ w. (w.small, w.taken))
    (both (AreByteValues bytes) (Takes form (length bytes)) (are_bytes bytes) (takes form (length bytes)))

-- data of a form are few
pub few_of_form : (form : Form) (bytes : List ℕ) → Takes form (length bytes) → length bytes ≤ 255
few_of_form Zero bytes taken = omega (arith, taken)
few_of_form One bytes taken = omega (arith, taken)
few_of_form Two bytes taken = omega (arith, taken)
few_of_form Four bytes taken = omega (arith, taken)
few_of_form Eight bytes taken = omega (arith, taken)
few_of_form Block bytes taken = taken

pub few_that_fit : (form : Form) (bytes : List ℕ) → Fits form bytes → Few (λ b. b < 256) 255 bytes
few_that_fit form bytes are = (few_of_form form bytes are.taken, are.small)

pub allows : (mode : PecMode) (with_pec : Bool) → Decided (AllowsPec mode with_pec)
allows Off with_pec = same_bool with_pec false
allows On with_pec = same_bool with_pec true
allows Optional with_pec = inl tt

-- bytes that are the wire of some data
abbrev IsWire : Form → List ℕ → Type 0
IsWire form sent = (bytes : List ℕ) × Fits form bytes × (sent ≡ wire form bytes)

is_block : (count : ℕ) (bytes : List ℕ) → Decided (count ≡ length bytes) → Decided (Fits Block bytes)
    → Decided (IsWire Block (count ∷ bytes))
is_block count bytes (inl same) (inl are) = inl (bytes, are, ap (λ n. n ∷ bytes) same)
is_block count bytes (inl same) (inr none) =
    inr (λ w. let same : bytes ≡ w.0 = cc (w.2) in none (subst (Fits Block) (sym same) w.1))
is_block count bytes (inr other) are =
    inr (λ w. let same : bytes ≡ w.0 = cc (w.2) in let counted : count ≡ length w.0 = cc (w.2) in
    other (cc (same, counted)))

plain_wire : (form : Form) (sent : List ℕ) → ((bytes : List ℕ) → wire form bytes ≡ bytes) → Decided (IsWire form sent)
plain_wire form sent plain =
    either_way (Fits form sent) (IsWire form sent) (λ are. (sent, are, sym (plain sent)))
    (λ w. let same : sent ≡ w.0 = cc (w.2, plain w.0) in subst (Fits form) (sym same) w.1) (fits form sent)

is_wire : (form : Form) (sent : List ℕ) → Decided (IsWire form sent)
is_wire Zero sent = plain_wire Zero sent (λ bytes. refl)
is_wire One sent = plain_wire One sent (λ bytes. refl)
is_wire Two sent = plain_wire Two sent (λ bytes. refl)
is_wire Four sent = plain_wire Four sent (λ bytes. refl)
is_wire Eight sent = plain_wire Eight sent (λ bytes. refl)
is_wire Block [] = inr (λ w. cc (w.2))
is_wire Block (count ∷ bytes) = is_block count bytes (same_number count (length bytes)) (fits Block bytes)

-- ---- bodies

proper_at : (b x : ℕ) (bytes longer : List ℕ) → Decided (b ≡ x) → Decided (IsProperPrefix bytes longer)
    → Decided (IsProperPrefix (b ∷ bytes) (x ∷ longer))
proper_at b x bytes longer (inl same) (inl w) =
    let split : longer ≡ bytes ++ w.next ∷ w.rest = w.split in
    inl (record { next = w.next; rest = w.rest; split = cc (same, split) })
proper_at b x bytes longer (inl same) (inr none) =
    inr (λ w. none (record {
      next = w.next;
      rest = w.rest;
      split = let all : x ∷ longer ≡ b ∷ bytes ++ w.next ∷ w.rest =
          w.split in cc all;
    }))
proper_at b x bytes longer (inr other) later =
    inr (λ w. other (let all : x ∷ longer ≡ b ∷ bytes ++ w.next ∷ w.rest = w.split in let same : x ≡ b = cc all in
    sym same))

is_proper : (bytes longer : List ℕ) → Decided (IsProperPrefix bytes longer)
is_proper [] [] = inr (λ w. let all : [] ≡ w.next ∷ w.rest = w.split in cc all)
is_proper [] (x ∷ longer) = inl (record { next = x; rest = longer; split = refl })
is_proper (b ∷ bytes) [] = inr (λ w. let all : [] ≡ b ∷ bytes ++ w.next ∷ w.rest = w.split in cc all)
is_proper (b ∷ bytes) (x ∷ longer) = proper_at b x bytes longer (same_number b x) (is_proper bytes longer)

nothing_more : (rest : List ℕ) (next : ℕ) (more : List ℕ) → [] ≡ rest ++ next ∷ more → ⊥
nothing_more [] next more none = cc none
nothing_more (b ∷ rest) next more none = cc none

same_code : (with_pec : Bool) (before : List ℕ) (code other : ℕ) (bytes more : List ℕ)
    → checked with_pec before (other ∷ bytes) ≡ code ∷ more
    → other ≡ code
same_code false before code other bytes more same = cc same
same_code true before code other bytes more same = cc same

module _ (device : DeviceParts) where
  -- a write body with a code that goes on after some bytes, by its parts
  abbrev WritesOn : List ℕ → ℕ → Type 0
  WritesOn front code =
      (form : Form) × ((forms device code).write ≡ Some form)
      × ((bytes : List ℕ) × ((with_pec : Bool) × (Fits form bytes
      × (AllowsPec device.pec with_pec × IsProperPrefix front
      (checked with_pec (write_address device.address ∷ []) (code ∷ wire form bytes))))))

  writes_on : (front : List ℕ) (code : ℕ) → Decided (WritesOn front code)
  -- a form in which the code is written,
  writes_on front code =
      of_some Form (forms device code).write
      (λ form.
      (bytes : List ℕ) × ((with_pec : Bool) × (Fits form bytes
      × (AllowsPec device.pec with_pec × IsProperPrefix front
      (checked with_pec (write_address device.address ∷ []) (code ∷ wire form bytes))))))
      (λ form.
      -- then data of that form, among all lists of up to 255 bytes,
      some_of (List ℕ) (Few (λ b. b < 256) 255)
      (λ bytes.
      (with_pec : Bool) × (Fits form bytes
      × (AllowsPec device.pec with_pec × IsProperPrefix front
      (checked with_pec (write_address device.address ∷ []) (code ∷ wire form bytes)))))
      (data_bytes 255) (λ bytes w. few_that_fit form bytes w.1.0)
      (λ bytes.
      -- then with or without a packet error code,
      some_of Bool (λ b. Unit {0})
      (λ with_pec.
      Fits form bytes
      × (AllowsPec device.pec with_pec × IsProperPrefix front
      (checked with_pec (write_address device.address ∷ []) (code ∷ wire form bytes))))
      bools (λ with_pec w. tt)
      (λ with_pec.
      -- and the three premises of that body
      let all = checked with_pec (write_address device.address ∷ []) (code ∷ wire form bytes) in
      both (Fits form bytes) (AllowsPec device.pec with_pec × IsProperPrefix front all) (fits form bytes)
      (both (AllowsPec device.pec with_pec) (IsProperPrefix front all) (allows device.pec with_pec)
      (is_proper front all)))))

  -- a call body likewise
  abbrev CallsOn : List ℕ → ℕ → Type 0
  CallsOn front code =
      (form : Form) × ((forms device code).call ≡ Some form)
      × ((bytes : List ℕ) × (Fits form bytes × IsProperPrefix front (code ∷ wire form bytes)))

  calls_on : (front : List ℕ) (code : ℕ) → Decided (CallsOn front code)
  calls_on front code =
      of_some Form (forms device code).call
      (λ form. (bytes : List ℕ) × (Fits form bytes × IsProperPrefix front (code ∷ wire form bytes)))
      (λ form.
      some_of (List ℕ) (Few (λ b. b < 256) 255)
      (λ bytes. Fits form bytes × IsProperPrefix front (code ∷ wire form bytes)) (data_bytes 255)
      (λ bytes w. few_that_fit form bytes w.0)
      (λ bytes. both (Fits form bytes) (IsProperPrefix front (code ∷ wire form bytes)) (fits form bytes)
      (is_proper front (code ∷ wire form bytes))))

  -- some body of a sort goes on after some bytes
  abbrev GoesOn : (List ℕ → Type 0) → List ℕ → Type 0
  GoesOn Bodies front = (body : List ℕ) × Bodies body × IsProperPrefix front body

  write_goes_on : (code : ℕ) (rest : List ℕ) → WritesOn (code ∷ rest) code → GoesOn (IsWriteBody device) (code ∷ rest)
  write_goes_on code rest w = (
    checked w.2.1.0 (write_address device.address ∷ []) (code ∷ wire w.0 w.2.0),
    (code, w.2.0, w.2.1.0, record { form = w.0; written = w.1; fits = w.2.1.1.0; mode = w.2.1.1.1.0; spelled = refl }),
    w.2.1.1.1.1,
  )

  write_parts : (code : ℕ) (rest body : List ℕ) → IsWriteBody device body → IsProperPrefix (code ∷ rest) body
      → WritesOn (code ∷ rest) code
  write_parts code rest body is inside =
      let written = is.3 in
      let before = write_address device.address ∷ [] in
      let split : body ≡ code ∷ rest ++ inside.next ∷ inside.rest = inside.split in
      let same : is.0 ≡ code =
      same_code is.2 before code is.0 (wire written.form is.1) (rest ++ inside.next ∷ inside.rest)
      (sym written.spelled ∙ split) in
      subst (WritesOn (code ∷ rest)) same (
        written.form,
        written.written,
        (
          is.1,
          (
            is.2,
            (written.fits, (written.mode, subst (IsProperPrefix (code ∷ rest)) written.spelled inside)),
          ),
        ),
      )

  call_goes_on : (code : ℕ) (rest : List ℕ) → CallsOn (code ∷ rest) code → GoesOn (IsCallBody device) (code ∷ rest)
  call_goes_on code rest w =
      (code ∷ wire w.0 w.2.0, (code, w.0, w.2.0, record { called = w.1; fits = w.2.1.0; spelled = refl }), w.2.1.1)

  call_parts : (code : ℕ) (rest body : List ℕ) → IsCallBody device body → IsProperPrefix (code ∷ rest) body
      → CallsOn (code ∷ rest) code
  call_parts code rest body is inside =
      let called = is.3 in
      let split : body ≡ code ∷ rest ++ inside.next ∷ inside.rest = inside.split in
      let spelled : body ≡ is.0 ∷ wire is.1 is.2 = called.spelled in
      let same : is.0 ≡ code = cc (split, spelled) in
      subst (CallsOn (code ∷ rest)) same
      (is.1, called.called, (is.2, (called.fits, subst (IsProperPrefix (code ∷ rest)) called.spelled inside)))

  -- a read body is the code alone
  read_ends : (code : ℕ) (rest body : List ℕ) → IsReadBody device body → IsProperPrefix (code ∷ rest) body → ⊥
  read_ends code rest body is inside =
      let split : body ≡ code ∷ rest ++ inside.next ∷ inside.rest = inside.split in
      let spelled : body ≡ is.0 ∷ [] = is.2.spelled in
      nothing_more rest inside.next inside.rest (cc (split, spelled))

  abbrev pub Goes : List PartData → List ℕ → Type 0
  Goes parts front = (front ≡ []) ⊎ GoesOn (Allowed device parts) front

  first_leg : (code : ℕ) (rest : List ℕ) → Goes [] (code ∷ rest)
      → WritesOn (code ∷ rest) code ⊎ CallsOn (code ∷ rest) code
  first_leg code rest (inl none) = absurd (cc none)
  first_leg code rest (inr w) = sort w.0 w.1 w.2
    where
      sort : (body : List ℕ) → Allowed device [] body → IsProperPrefix (code ∷ rest) body
          → WritesOn (code ∷ rest) code ⊎ CallsOn (code ∷ rest) code
      sort body (inl is) inside = inl (write_parts code rest body is inside)
      sort body (inr (inl is)) inside = absurd (read_ends code rest body is inside)
      sort body (inr (inr is)) inside = inr (call_parts code rest body is inside)

  in_first_leg : (code : ℕ) (rest : List ℕ) → WritesOn (code ∷ rest) code ⊎ CallsOn (code ∷ rest) code
      → Goes [] (code ∷ rest)
  in_first_leg code rest (inl w) = let body = write_goes_on code rest w in inr (body.0, inl body.1, body.2)
  in_first_leg code rest (inr w) = let body = call_goes_on code rest w in inr (body.0, inr (inr body.1), body.2)

  later_leg : (part : PartData) (parts : List PartData) (code : ℕ) (rest : List ℕ) → Goes (part ∷ parts) (code ∷ rest)
      → WritesOn (code ∷ rest) code
  later_leg part parts code rest (inl none) = absurd (cc none)
  later_leg part parts code rest (inr w) = write_parts code rest w.0 w.1 w.2

  -- whether a body that is allowed after some parts goes on after some bytes
  pub goes : (parts : List PartData) (front : List ℕ) → Decided (Goes parts front)
  goes parts [] = inl (inl refl)
  goes [] (code ∷ rest) =
      either_way (WritesOn (code ∷ rest) code ⊎ CallsOn (code ∷ rest) code) (Goes [] (code ∷ rest))
      (in_first_leg code rest) (first_leg code rest)
      (one_of (WritesOn (code ∷ rest) code) (CallsOn (code ∷ rest) code) (writes_on (code ∷ rest) code)
      (calls_on (code ∷ rest) code))
  goes (part ∷ parts) (code ∷ rest) =
      either_way (WritesOn (code ∷ rest) code) (Goes (part ∷ parts) (code ∷ rest))
      (λ w. inr (write_goes_on code rest w))
      (later_leg part parts code rest) (writes_on (code ∷ rest) code)

  is_read : (sent : List ℕ) → Decided (IsReadBody device sent)
  is_read [] = inr (λ w. let spelled : [] ≡ w.0 ∷ [] = w.2.spelled in cc spelled)
  is_read (code ∷ []) =
      either_way ((form : Form) × ((forms device code).read ≡ Some form) × Unit {0}) (IsReadBody device (code ∷ []))
      (λ w. (code, w.0, record { read = w.1; spelled = refl })) (λ w. read_code w.0 w.1 w.2)
      (of_some Form (forms device code).read (λ form. Unit {0}) (λ form. inl tt))
    where
      read_code : (other : ℕ) (form : Form) → ReadBody device other form (code ∷ [])
          → (form : Form) × ((forms device code).read ≡ Some form) × Unit {0}
      read_code other form is =
          let spelled : code ∷ [] ≡ other ∷ [] = is.spelled in
          let same : other ≡ code = cc spelled in
          (form, subst (λ (c : ℕ). (forms device c).read ≡ Some form) same is.read, tt)
  is_read (code ∷ byte ∷ sent) = inr (λ w. let spelled : code ∷ byte ∷ sent ≡ w.0 ∷ [] = w.2.spelled in cc spelled)

  is_call : (sent : List ℕ) → Decided (IsCallBody device sent)
  is_call [] = inr (λ w. let spelled : [] ≡ w.0 ∷ wire w.1 w.2 = w.3.spelled in cc spelled)
  is_call (code ∷ sent) =
      either_way ((form : Form) × ((forms device code).call ≡ Some form) × IsWire form sent)
      (IsCallBody device (code ∷ sent))
      (λ w. (code, w.0, w.2.0, record { called = w.1; fits = w.2.1; spelled = ap (λ bs. code ∷ bs) w.2.2 }))
      (λ w. call_code w.0 w.1 w.2 w.3)
      (of_some Form (forms device code).call (λ form. IsWire form sent) (λ form. is_wire form sent))
    where
      call_code : (other : ℕ) (form : Form) (bytes : List ℕ) → CallBody device other form bytes (code ∷ sent)
          → (form : Form) × ((forms device code).call ≡ Some form) × IsWire form sent
      call_code other form bytes is =
          let spelled : code ∷ sent ≡ other ∷ wire form bytes = is.spelled in
          let same : other ≡ code = cc spelled in
          let rest : sent ≡ wire form bytes = cc spelled in
          (form, subst (λ (c : ℕ). (forms device c).call ≡ Some form) same is.called, (bytes, is.fits, rest))

  pub asks : (sent : List ℕ) → Decided (IsRequest device sent)
  asks sent = one_of (IsReadBody device sent) (IsCallBody device sent) (is_read sent) (is_call sent)
