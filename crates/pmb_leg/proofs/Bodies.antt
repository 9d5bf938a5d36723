-- Bodies as their code and the bytes after it: whole ones, those that go on, and those that begin.
-- For `take_code` and `says`. After the code are the data of a write, of a call in a first leg, or
-- nothing for a read (`IsBehind`); so what is said of data in a form (Lefts) is said of bodies.
use Rattle.std.proofs.Common.{◌≡◌, ℕ, ◌<◌, ◌⊎◌, inl, inr, Bool, true, false, ◌||◌, Option, Some, None, is_some, List}
use Rattle.std.proofs.Common.{[], ◌∷◌, ◌++◌, length, refl, sym, ap, subst, ◌∙◌, arith, length-append}
use Rattle.std.proofs.lemmas.Bool.{or_left, or_right}
use Rattle.pmb_bus.specs.Pec.{pec}
use Rattle.pmb_bus.specs.Address.{write_address}
use Rattle.pmb_command.specs.declared.form.Form.{Form}
use Rattle.pmb_command.specs.declared.form.Form.TheVariants.{Zero, One, Two, Four, Eight, Block}
use Rattle.pmb_command.specs.declared.pec_mode.PecMode.{PecMode}
use Rattle.pmb_command.specs.declared.pec_mode.PecMode.TheVariants.{Off, On, Optional}
use Rattle.pmb_command.specs.Parts.{DeviceParts}
use Rattle.pmb_command.specs.Wire.{IsByte, wire}
use Rattle.pmb_transaction.specs.Transaction.{PartData}
use Rattle.pmb_transaction.specs.Body.{forms, checked, IsProperPrefix, WriteBody, CallBody, IsWriteBody, IsReadBody}
use Rattle.pmb_transaction.specs.Body.{IsCallBody, Allowed}
use Rattle.pmb_transaction.specs.Viable.{BeginsBody, IsInsideBody}
use Rattle.pmb_leg.specs.declared.place.LegPlace.{LegPlace}
use Rattle.pmb_leg.specs.declared.place.LegPlace.TheVariants.{First, Later}
use Rattle.pmb_leg.specs.Leg.{begins_with, call_form, place_of}
use Rattle.pmb_leg.specs.declared.left.DataLeft.{DataLeft}
use Rattle.pmb_leg.specs.machine.DataLeft.{after, goes_on, is_whole, start, takes, BeginsData, LeavesOf, SpellsSomeData}
use Rattle.pmb_leg.specs.machine.DataLeft.{SpellsData}
use Rattle.pmb_leg.proofs.Lefts.{begins_takes, begun, goes_on_inside, inside, is_open, moved_on, room, spells_whole}
use Rattle.pmb_leg.proofs.Lefts.{started, takes_begins, takes_goes_on}

-- ---- a form that there may be

abbrev pub SpellsOf : Option Form → PecMode → List ℕ → List ℕ → Type 0
SpellsOf None mode before bytes = ⊥
SpellsOf (Some form) mode before bytes = SpellsSomeData form mode before bytes

abbrev pub BeginsOf : Option Form → PecMode → List ℕ → List ℕ → Type 0
BeginsOf form mode before bytes = (all : List ℕ) × (rest : List ℕ) × SpellsOf form mode before all
    × (all ≡ bytes ++ rest)

abbrev pub InsideOf : Option Form → PecMode → List ℕ → List ℕ → Type 0
InsideOf form mode before bytes = (all : List ℕ) × SpellsOf form mode before all × IsProperPrefix bytes all

module _ (before : List ℕ) where
  pub inside_of : (form : Option Form) (mode : PecMode) (bytes : List ℕ) (left : DataLeft)
      → LeavesOf form mode before bytes left → goes_on left ≡ true → InsideOf form mode before bytes
  inside_of None mode bytes left closed on = absurd (cc (on, ap goes_on closed))
  inside_of (Some form) mode bytes left is on = inside before form mode bytes left is on

  pub goes_on_of : (form : Option Form) (mode : PecMode) (bytes : List ℕ) (left : DataLeft)
      → LeavesOf form mode before bytes left → InsideOf form mode before bytes → goes_on left ≡ true
  goes_on_of None mode bytes left closed (all, spells, longer) = absurd spells
  goes_on_of (Some form) mode bytes left is within = goes_on_inside before form mode bytes left is within

  pub moved_on_of : (form : Option Form) (mode : PecMode) (bytes : List ℕ) (left : DataLeft)
      → LeavesOf form mode before bytes left → (crc byte : ℕ) → crc ≡ pec (before ++ bytes)
      → IsByte byte → LeavesOf form mode before (bytes ++ byte ∷ []) (after left mode crc byte)
  moved_on_of None mode bytes left closed crc byte so_far small = ap (λ (l : DataLeft). after l mode crc byte) closed
  moved_on_of (Some form) mode bytes left is crc byte so_far small =
      moved_on before form mode bytes left is crc byte so_far small

  pub takes_begins_of : (form : Option Form) (mode : PecMode) (bytes : List ℕ) (left : DataLeft)
      → LeavesOf form mode before bytes left → (crc byte : ℕ) → crc ≡ pec (before ++ bytes)
      → IsByte byte → takes left crc byte ≡ true → BeginsOf form mode before (bytes ++ byte ∷ [])
  takes_begins_of None mode bytes left closed crc byte so_far small taken =
      absurd (cc (taken, ap (λ (l : DataLeft). takes l crc byte) closed))
  takes_begins_of (Some form) mode bytes left is crc byte so_far small taken =
      takes_begins before form mode bytes left is crc byte so_far small taken

  pub begins_takes_of : (form : Option Form) (mode : PecMode) (bytes : List ℕ) (left : DataLeft)
      → LeavesOf form mode before bytes left → (crc byte : ℕ) → crc ≡ pec (before ++ bytes)
      → IsByte byte → BeginsOf form mode before (bytes ++ byte ∷ []) → takes left crc byte ≡ true
  begins_takes_of None mode bytes left closed crc byte so_far small (all, rest, spells, split) = absurd spells
  begins_takes_of (Some form) mode bytes left is crc byte so_far small begins =
      begins_takes before form mode bytes left is crc byte so_far small begins

  pub spells_whole_of : (form : Option Form) (mode : PecMode) (bytes : List ℕ) (left : DataLeft)
      → LeavesOf form mode before bytes left → SpellsOf form mode before bytes → is_whole left mode ≡ true
  spells_whole_of None mode bytes left closed spells = absurd spells
  spells_whole_of (Some form) mode bytes left is spells = spells_whole before form mode bytes left is spells

  -- 257: at most a count, 255 bytes of data and a packet error code
  pub on_of : (form : Option Form) (mode : PecMode) (bytes : List ℕ) (left : DataLeft)
      → LeavesOf form mode before bytes left → goes_on left ≡ true → length bytes < 257
  on_of None mode bytes left closed on = absurd (cc (on, ap goes_on closed))
  on_of (Some form) mode bytes left is on = room before form mode bytes left is on

  pub room_of : (form : Option Form) (mode : PecMode) (bytes : List ℕ) (left : DataLeft)
      → LeavesOf form mode before bytes left → (crc byte : ℕ) → takes left crc byte ≡ true → length bytes < 257
  room_of form mode bytes left is crc byte taken =
      on_of form mode bytes left is (takes_goes_on before left crc byte taken)

  start_open : (form : Form) (mode : PecMode) → is_open before (start (Some form) mode) ≡ true
  start_open Zero Off = refl
  start_open Zero On = refl
  start_open Zero Optional = refl
  start_open One mode = refl
  start_open Two mode = refl
  start_open Four mode = refl
  start_open Eight mode = refl
  start_open Block mode = refl

  -- of what there is a form for, something begins
  something : (form : Option Form) (mode : PecMode) → is_some form ≡ true
      → (all : List ℕ) × SpellsOf form mode before all
  something None mode is = absurd (cc is)
  something (Some form) mode is =
      let w : BeginsData form mode before [] = begun before form mode [] (start (Some form) mode)
      (started before form mode) (start_open form mode) in
      (w.0, w.2)

-- ---- bodies of a device

module _ (device : DeviceParts) where
  -- the bytes that the packet error code covers before the data
  abbrev pub in_front : ℕ → List ℕ
  in_front code = write_address device.address ∷ code ∷ []

  pub code_in_front : (with_pec : Bool) (code : ℕ) (bytes : List ℕ)
      → checked with_pec (write_address device.address ∷ []) (code ∷ bytes) ≡ code
      ∷ checked with_pec (in_front code) bytes
  code_in_front false code bytes = refl
  code_in_front true code bytes = refl

  pub write_body : (code : ℕ) (form : Form) (behind bytes : List ℕ) (with_pec : Bool)
      → (forms device code).write ≡ Some form
      → SpellsData form device.pec (in_front code) bytes with_pec behind
      → WriteBody device code bytes with_pec (code ∷ behind)
  write_body code form behind bytes with_pec written spells = record {
    form = form;
    written = written;
    fits = spells.fits;
    mode = spells.allowed;
    spelled = ap (λ (bs : List ℕ). code ∷ bs) spells.spelled ∙ sym (code_in_front with_pec code (wire form bytes));
  }

  pub call_body : (code : ℕ) (form : Form) (behind bytes : List ℕ) → (forms device code).call ≡ Some form
      → SpellsData form Off (in_front code) bytes false behind → CallBody device code form bytes (code ∷ behind)
  call_body code form behind bytes called spells =
      record { called = called; fits = spells.fits; spelled = ap (λ (bs : List ℕ). code ∷ bs) spells.spelled }

  -- After the code stand the data of a write or of a call, or nothing.
  pub data IsBehind (place : LegPlace) (code : ℕ) (behind : List ℕ) : Type 0 where
    of_write : SpellsOf (forms device code).write device.pec (in_front code) behind → IsBehind place code behind
    of_read : place ≡ First → is_some (forms device code).read ≡ true → behind ≡ [] → IsBehind place code behind
    of_call : SpellsOf (call_form place (forms device code)) Off (in_front code) behind → IsBehind place code behind

  pub record Parted (place : LegPlace) (body : List ℕ) : Type 0 where
    pub code : ℕ
    pub behind : List ℕ
    -- the body is the code and the bytes after it, which are one of these
    pub split : body ≡ code ∷ behind
    pub is : IsBehind place code behind

  pub parted_write : (place : LegPlace) (body : List ℕ) → IsWriteBody device body → Parted place body
  parted_write place body (code, bytes, with_pec, write) =
      let behind = checked with_pec (in_front code) (wire write.form bytes) in
      let spells : SpellsSomeData write.form device.pec (in_front code) behind =
      (bytes, with_pec, record { fits = write.fits; allowed = write.mode; spelled = refl }) in
      record {
        code = code;
        behind = behind;
        split = write.spelled ∙ code_in_front with_pec code (wire write.form bytes);
        is = of_write (subst (λ (o : Option Form). SpellsOf o device.pec (in_front code) behind)
            (sym write.written) spells);
      }

  pub parted_read : (body : List ℕ) → IsReadBody device body → Parted First body
  parted_read body (code, form, read) = record {
    code = code;
    behind = [];
    split = read.spelled;
    is =
        of_read refl (ap is_some read.read) refl;
  }

  pub parted_call : (body : List ℕ) → IsCallBody device body → Parted First body
  parted_call body (code, form, bytes, call) =
      let behind = wire form bytes in
      let spells : SpellsSomeData form Off (in_front code) behind =
      (bytes, false, record { fits = call.fits; allowed = refl; spelled = refl }) in
      record {
        code = code;
        behind = behind;
        split = call.spelled;
        is = of_call (subst (λ (o : Option Form). SpellsOf o Off (in_front code) behind) (sym call.called) spells);
      }

  parted : (parts : List PartData) (body : List ℕ) → Allowed device parts body → Parted (place_of parts) body
  parted [] body (inl write) = parted_write First body write
  parted [] body (inr (inl read)) = parted_read body read
  parted [] body (inr (inr call)) = parted_call body call
  parted (part ∷ parts) body write = parted_write Later body write

  pub joined_write : (code : ℕ) (behind : List ℕ) (form : Option Form) → (forms device code).write ≡ form
      → SpellsOf form device.pec (in_front code) behind → IsWriteBody device (code ∷ behind)
  joined_write code behind None is spells = absurd spells
  joined_write code behind (Some form) is (bytes, with_pec, spells) =
      (code, bytes, with_pec, write_body code form behind bytes with_pec is spells)

  pub joined_read : (code : ℕ) (form : Option Form) → (forms device code).read ≡ form → is_some form ≡ true
      → IsReadBody device (code ∷ [])
  joined_read code None is some = absurd (cc some)
  joined_read code (Some form) is some = (code, form, record { read = is; spelled = refl })

  pub joined_call : (code : ℕ) (behind : List ℕ) (form : Option Form) → (forms device code).call ≡ form
      → SpellsOf form Off (in_front code) behind → IsCallBody device (code ∷ behind)
  joined_call code behind None is spells = absurd spells
  joined_call code behind (Some form) is (bytes, false, spells) =
      (code, form, bytes, call_body code form behind bytes is spells)
  joined_call code behind (Some form) is (bytes, true, spells) = let none : true ≡ false = spells.allowed in
      absurd (cc none)

  joined : (parts : List PartData) (code : ℕ) (behind : List ℕ) → IsBehind (place_of parts) code behind
      → Allowed device parts (code ∷ behind)
  joined [] code behind (of_write spells) = inl (joined_write code behind (forms device code).write refl spells)
  joined [] code behind (of_read first some none) =
      inr (inl (subst (λ (bs : List ℕ). IsReadBody device (code ∷ bs)) (sym none)
      (joined_read code (forms device code).read refl some)))
  joined [] code behind (of_call spells) = inr (inr (joined_call code behind (forms device code).call refl spells))
  joined (part ∷ parts) code behind (of_write spells) = joined_write code behind (forms device code).write refl spells
  joined (part ∷ parts) code behind (of_read first some none) = absurd (cc first)
  joined (part ∷ parts) code behind (of_call spells) = absurd spells

  -- ---- bytes that begin bodies

  -- what stands after a code that is known
  behind_code : (place : LegPlace) (code : ℕ) (tail all : List ℕ) → all ≡ code ∷ tail → Parted place all
      → IsBehind place code tail
  behind_code place code tail all split w =
      let spelled : w.code ∷ w.behind ≡ code ∷ tail = sym w.split ∙ split in
      let same : w.code ≡ code = cc spelled in
      let rest : w.behind ≡ tail = cc spelled in
      subst (IsBehind place code) rest (subst (λ (n : ℕ). IsBehind place n w.behind) same w.is)

  module _ (parts : List PartData) (code : ℕ) where
    inside_one : (behind : List ℕ) (next : ℕ) (rest tail : List ℕ) → tail ≡ behind ++ next ∷ rest
        → IsBehind (place_of parts) code tail
        → InsideOf (forms device code).write device.pec (in_front code) behind
        ⊎ InsideOf (call_form (place_of parts) (forms device code)) Off (in_front code) behind
    inside_one behind next rest tail split (of_write spells) =
        inl (tail, spells, record { next = next; rest = rest; split = split })
    inside_one behind next rest tail split (of_read first some none) =
        absurd (omega (arith, ap length (sym none ∙ split), length-append behind (next ∷ rest)))
    inside_one behind next rest tail split (of_call spells) =
        inr (tail, spells, record { next = next; rest = rest; split = split })

    pub inside_body : (behind : List ℕ) → IsInsideBody device parts (code ∷ behind)
        → InsideOf (forms device code).write device.pec (in_front code) behind
        ⊎ InsideOf (call_form (place_of parts) (forms device code)) Off (in_front code) behind
    inside_body behind (inl none) = absurd (cc none)
    inside_body behind (inr (body, allowed, longer)) =
        inside_one behind longer.next longer.rest (behind ++ longer.next ∷ longer.rest) refl
        (behind_code (place_of parts) code (behind ++ longer.next ∷ longer.rest) body longer.split
        (parted parts body allowed))

    inside_with : (behind all : List ℕ) → IsBehind (place_of parts) code all → IsProperPrefix behind all
        → IsInsideBody device parts (code ∷ behind)
    inside_with behind all is longer =
        inr (
          code ∷ all,
          joined parts code all is,
          record { next = longer.next; rest = longer.rest; split = ap (λ (bs : List ℕ). code ∷ bs) longer.split },
        )

    pub body_inside : (behind : List ℕ)
        → InsideOf (forms device code).write device.pec (in_front code) behind
        ⊎ InsideOf (call_form (place_of parts) (forms device code)) Off (in_front code) behind
        → IsInsideBody device parts (code ∷ behind)
    body_inside behind (inl (all, spells, longer)) = inside_with behind all (of_write spells) longer
    body_inside behind (inr (all, spells, longer)) = inside_with behind all (of_call spells) longer

    begins_one : (behind : List ℕ) (byte : ℕ) (rest tail : List ℕ) → tail ≡ (behind ++ byte ∷ []) ++ rest
        → IsBehind (place_of parts) code tail
        → BeginsOf (forms device code).write device.pec (in_front code) (behind ++ byte ∷ [])
        ⊎ BeginsOf (call_form (place_of parts) (forms device code)) Off (in_front code) (behind ++ byte ∷ [])
    begins_one behind byte rest tail split (of_write spells) = inl (tail, rest, spells, split)
    begins_one behind byte rest tail split (of_read first some none) =
        absurd (omega (
          arith,
          ap length (sym none ∙ split),
          length-append (behind ++ byte ∷ []) rest,
          length-append behind (byte ∷ []),
        ))
    begins_one behind byte rest tail split (of_call spells) = inr (tail, rest, spells, split)

    pub begins_body : (behind : List ℕ) (byte : ℕ) → BeginsBody device parts (code ∷ behind ++ byte ∷ [])
        → BeginsOf (forms device code).write device.pec (in_front code) (behind ++ byte ∷ [])
        ⊎ BeginsOf (call_form (place_of parts) (forms device code)) Off (in_front code) (behind ++ byte ∷ [])
    begins_body behind byte (inl none) = absurd (cc none)
    begins_body behind byte (inr (body, rest, allowed, split)) =
        begins_one behind byte rest ((behind ++ byte ∷ []) ++ rest) refl
        (behind_code (place_of parts) code ((behind ++ byte ∷ []) ++ rest) body split (parted parts body allowed))

    begins_so : (bytes all rest : List ℕ) → IsBehind (place_of parts) code all → all ≡ bytes ++ rest
        → BeginsBody device parts (code ∷ bytes)
    begins_so bytes all rest is split = inr (
      code ∷ all,
      rest,
      joined parts code all is,
      ap (λ (bs : List ℕ). code ∷ bs) split,
    )

    pub body_begins : (bytes : List ℕ)
        → BeginsOf (forms device code).write device.pec (in_front code) bytes
        ⊎ BeginsOf (call_form (place_of parts) (forms device code)) Off (in_front code) bytes
        → BeginsBody device parts (code ∷ bytes)
    body_begins bytes (inl (all, rest, spells, split)) = begins_so bytes all rest (of_write spells) split
    body_begins bytes (inr (all, rest, spells, split)) = begins_so bytes all rest (of_call spells) split

    -- ---- the code alone

    some_of : (form : Option Form) (mode : PecMode) (bytes : List ℕ) → SpellsOf form mode (in_front code) bytes
        → is_some form ≡ true
    some_of None mode bytes spells = absurd spells
    some_of (Some form) mode bytes spells = refl

    code_one : (place : LegPlace) (tail : List ℕ) → IsBehind place code tail → begins_with (forms device code) place
        ≡ true
    code_one First tail (of_write spells) =
        or_left (is_some (forms device code).write)
        (is_some (forms device code).read || is_some (forms device code).call)
        (some_of (forms device code).write device.pec tail spells)
    code_one First tail (of_read first some none) =
        or_right (is_some (forms device code).write)
        (is_some (forms device code).read || is_some (forms device code).call)
        (or_left (is_some (forms device code).read) (is_some (forms device code).call) some)
    code_one First tail (of_call spells) =
        or_right (is_some (forms device code).write)
        (is_some (forms device code).read || is_some (forms device code).call)
        (or_right (is_some (forms device code).read) (is_some (forms device code).call)
        (some_of (forms device code).call Off tail spells))
    code_one Later tail (of_write spells) = some_of (forms device code).write device.pec tail spells
    code_one Later tail (of_read first some none) = absurd (cc first)
    code_one Later tail (of_call spells) = absurd spells

    pub code_begins : BeginsBody device parts (code ∷ []) → begins_with (forms device code) (place_of parts) ≡ true
    code_begins (inl none) = absurd (cc none)
    code_begins (inr (body, rest, allowed, split)) =
        code_one (place_of parts) rest (behind_code (place_of parts) code rest body split (parted parts body allowed))

    first_behind : (write read : Bool) → is_some (forms device code).write ≡ write
        → is_some (forms device code).read ≡ read
        → (write || (read || is_some (forms device code).call)) ≡ true → (all : List ℕ) × IsBehind First code all
    first_behind true read has_write has_read is = let w =
        something (in_front code) (forms device code).write device.pec has_write in (w.0, of_write w.1)
    first_behind false true has_write has_read is = ([], of_read refl has_read refl)
    first_behind false false has_write has_read is = let w =
        something (in_front code) (forms device code).call Off is in (w.0, of_call w.1)

    -- what may stand after a code with which a body begins
    some_behind : (place : LegPlace) → begins_with (forms device code) place ≡ true
        → (all : List ℕ) × IsBehind place code all
    some_behind Later is = let w = something (in_front code) (forms device code).write device.pec is in
        (w.0, of_write w.1)
    some_behind First is = first_behind (is_some (forms device code).write) (is_some (forms device code).read) refl refl
        is

    pub begins_code : begins_with (forms device code) (place_of parts) ≡ true → BeginsBody device parts (code ∷ [])
    begins_code is = let w = some_behind (place_of parts) is in begins_so [] w.0 w.0 w.1 refl
