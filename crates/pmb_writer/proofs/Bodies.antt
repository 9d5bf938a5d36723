-- Bodies by their lengths: which bytes begin a body of a device, which go on, and which are a whole
-- body that asks. For `check_refused_byte` and `check_refused_reply` of `src/refused.rt`, and for
-- the law `packet_or_fault`. Bytes that are fewer than the form says are completed with zeros
-- (`Completion`), so only their number is tested.
use Rattle.std.proofs.Common.{◌≡◌, ℕ, ◌+◌, ◌-◌, ◌<◌, ◌≤◌, ◌⊎◌, zero, suc, Bool, true, false, ◌&&◌, ◌||◌, Option, Some}
use Rattle.std.proofs.Common.{None, is_some, List, [], ◌∷◌, ◌++◌, length, map, replicate, nat_eq, refl, sym, ap, subst}
use Rattle.std.proofs.Common.{◌∙◌, inl, inr, append_assoc, arith, length-append, eq-eqb}
use Rattle.std.proofs.lemmas.Bool.{ltb-true, lt-ltb, eqb-true, or_parts, or_left, or_right}
use Rattle.std.proofs.Math.Dec.{eqb-suc-zero}
use Rattle.std.proofs.lemmas.List.{length-replicate, append-nil}
use Rattle.pmb_bus.specs.Pec.{pec}
use Rattle.pmb_bus.specs.Address.{write_address}
use Rattle.pmb_command.specs.declared.form.Form.{Form}
use Rattle.pmb_command.specs.declared.form.Form.TheVariants.{Zero, One, Two, Four, Eight, Block}
use Rattle.pmb_command.specs.declared.pec_mode.PecMode.{PecMode}
use Rattle.pmb_command.specs.declared.pec_mode.PecMode.TheVariants.{Off, On, Optional}
use Rattle.pmb_command.specs.Parts.{DeviceParts}
use Rattle.pmb_command.specs.PecMode.{AllowsPec}
use Rattle.pmb_command.specs.Wire.{AreByteValues, Fits, wire, wire_length}
use Rattle.pmb_transaction.specs.declared.part.Part.{Part}
use Rattle.pmb_transaction.specs.Transaction.{PartData, part_data}
use Rattle.pmb_transaction.specs.Body.{forms, checked, IsProperPrefix, IsWriteBody, IsReadBody, IsCallBody, Allowed}
use Rattle.pmb_transaction.specs.Body.{IsRequest}
use Rattle.pmb_writer.specs.Invalid.{MayBegin, MayGoOn}
use Rattle.pmb_writer.specs.machine.Lengths.{pec_length, leaves_room, is_whole_wire, may_go_on, is_request, may_begin}

-- ---- bytes that begin the wire of a form

-- Data that fit a form, whose wire begins with some bytes and is as long as they tell.
pub record Completion (form : Form) (bytes : List ℕ) : Type 0 where
  -- data whose wire begins with the bytes, the rest of that wire, and how long both are
  pub whole : List ℕ
  pub fits : Fits form whole
  pub rest : List ℕ
  pub spelled : wire form whole ≡ bytes ++ rest
  pub long : length bytes + length rest ≡ wire_length form bytes

zeros : ℕ → List ℕ
zeros n = replicate n 0

small_zeros : (n : ℕ) → AreByteValues (zeros n)
unfolding zeros
small_zeros zero = tt
small_zeros (suc n) = (omega arith, small_zeros n)

small_filled : (bytes : List ℕ) (n : ℕ) → AreByteValues bytes → AreByteValues (bytes ++ zeros n)
small_filled [] n small = small_zeros n
small_filled (b ∷ bytes) n small = (small.0, small_filled bytes n small.1)

length_filled : (bytes : List ℕ) (n : ℕ) → length bytes ≤ n → length (bytes ++ zeros (n - length bytes)) ≡ n
unfolding zeros
length_filled bytes n short = omega (
  arith,
  length-append bytes (replicate (n - length bytes) 0),
  length-replicate {A = ℕ} (n - length bytes) 0,
)

length_left : (n m : ℕ) → m ≤ n → m + length (zeros (n - m)) ≡ n
unfolding zeros
length_left n m short = omega (arith, length-replicate {A = ℕ} (n - m) 0)

pub complete : (form : Form) (bytes : List ℕ) → AreByteValues bytes → length bytes ≤ wire_length form bytes
    → Completion form bytes
-- as many zeros as the form has bytes left; so in each form without a count
complete Zero bytes small short =
    record {
      whole = bytes ++ zeros (0 - length bytes);
      fits =
          record { small = small_filled bytes (0 - length bytes) small; taken = length_filled bytes 0 short };
      rest =
          zeros (0 - length bytes);
      spelled = refl;
      long = length_left 0 (length bytes) short;
    }
complete One bytes small short =
    record {
      whole = bytes ++ zeros (1 - length bytes);
      fits =
          record { small = small_filled bytes (1 - length bytes) small; taken = length_filled bytes 1 short };
      rest =
          zeros (1 - length bytes);
      spelled = refl;
      long = length_left 1 (length bytes) short;
    }
complete Two bytes small short =
    record {
      whole = bytes ++ zeros (2 - length bytes);
      fits =
          record { small = small_filled bytes (2 - length bytes) small; taken = length_filled bytes 2 short };
      rest =
          zeros (2 - length bytes);
      spelled = refl;
      long = length_left 2 (length bytes) short;
    }
complete Four bytes small short =
    record {
      whole = bytes ++ zeros (4 - length bytes);
      fits =
          record { small = small_filled bytes (4 - length bytes) small; taken = length_filled bytes 4 short };
      rest =
          zeros (4 - length bytes);
      spelled = refl;
      long = length_left 4 (length bytes) short;
    }
complete Eight bytes small short =
    record {
      whole = bytes ++ zeros (8 - length bytes);
      fits =
          record { small = small_filled bytes (8 - length bytes) small; taken = length_filled bytes 8 short };
      rest =
          zeros (8 - length bytes);
      spelled = refl;
      long = length_left 8 (length bytes) short;
    }
-- a block without its count is an empty one, another one has its count
complete Block [] small short =
    record { whole = []; fits = record { small = tt; taken = omega arith }; rest = 0 ∷ []; spelled = refl; long = refl }
complete Block (count ∷ bytes) small short =
    let as_many : length bytes ≤ count = omega arith in
    let counted : length (bytes ++ zeros (count - length bytes)) ≡ count = length_filled bytes count as_many in
    let left : length bytes + length (zeros (count - length bytes)) ≡ count =
    length_left count (length bytes) as_many in
    let byte : count < 256 = small.0 in
    record {
      whole = bytes ++ zeros (count - length bytes);
      fits = record { small = small_filled bytes (count - length bytes) small.1; taken = omega arith };
      rest = zeros (count - length bytes);
      spelled = ap (λ n. n ∷ bytes ++ zeros (count - length bytes)) counted;
      long = omega arith;
    }

-- the length of a wire that has some bytes in front, by those bytes
wire_is_longer : (form : Form) (whole more bytes rest : List ℕ) (next : ℕ) → Fits form whole
    → wire form whole ++ more ≡ bytes ++ next ∷ rest
    → length bytes < wire_length form bytes + length more
wire_is_longer Zero whole more bytes rest next fits split =
    omega (arith, fits.taken, length-append whole more, length-append bytes (next ∷ rest), ap length split)
wire_is_longer One whole more bytes rest next fits split =
    omega (arith, fits.taken, length-append whole more, length-append bytes (next ∷ rest), ap length split)
wire_is_longer Two whole more bytes rest next fits split =
    omega (arith, fits.taken, length-append whole more, length-append bytes (next ∷ rest), ap length split)
wire_is_longer Four whole more bytes rest next fits split =
    omega (arith, fits.taken, length-append whole more, length-append bytes (next ∷ rest), ap length split)
wire_is_longer Eight whole more bytes rest next fits split =
    omega (arith, fits.taken, length-append whole more, length-append bytes (next ∷ rest), ap length split)
wire_is_longer Block whole more [] rest next fits split = omega arith
wire_is_longer Block whole more (count ∷ bytes) rest next fits split =
    let counted : length whole ≡ count = cc in
    let behind : whole ++ more ≡ bytes ++ next ∷ rest = cc in
    omega (arith, length-append whole more, length-append bytes (next ∷ rest), ap length behind)

wire_is_as_long : (form : Form) (whole : List ℕ) → Fits form whole
    → length (wire form whole) ≡ wire_length form (wire form whole)
wire_is_as_long Zero whole fits = fits.taken
wire_is_as_long One whole fits = fits.taken
wire_is_as_long Two whole fits = fits.taken
wire_is_as_long Four whole fits = fits.taken
wire_is_as_long Eight whole fits = fits.taken
wire_is_as_long Block whole fits = omega arith

-- ---- bodies that go on

-- a beginning that leaves something out
proper : (front rest longer : List ℕ) → longer ≡ front ++ rest → 0 < length rest → IsProperPrefix front longer
proper front [] longer split some = absurd (omega arith)
proper front (next ∷ rest) longer split some = record { next = next; rest = rest; split = split }

-- where a packet error code is allowed, there is room for it
pec_is_there : (mode : PecMode) → AllowsPec mode true → pec_length mode ≡ 1
pec_is_there Off allowed = absurd (cc allowed)
pec_is_there On allowed = refl
pec_is_there Optional allowed = refl

module _ (device : DeviceParts) where
  -- a write body of a form with or without a packet error code
  plain_write : (code : ℕ) (form : Form) (bytes : List ℕ) → (forms device code).write ≡ Some form
      → AllowsPec device.pec false → AreByteValues bytes
      → length bytes < wire_length form bytes → (body : List ℕ) × IsWriteBody device body
      × IsProperPrefix (code ∷ bytes) body
  plain_write code form bytes written mode small short =
      let done : Completion form bytes = complete form bytes small (omega arith) in (
        code ∷ wire form done.whole,
        (
          code,
          done.whole,
          false,
          record {
            form = form;
            written = written;
            fits = done.fits;
            mode = mode;
            spelled =
                refl;
          },
        ),
        proper (code ∷ bytes) done.rest (code ∷ wire form done.whole) (ap (λ w. code ∷ w) done.spelled)
            (omega (arith, done.long)),
      )

  checked_write : (code : ℕ) (form : Form) (bytes : List ℕ) → (forms device code).write ≡ Some form
      → AllowsPec device.pec true → AreByteValues bytes
      → length bytes < wire_length form bytes + 1 → (body : List ℕ) × IsWriteBody device body
      × IsProperPrefix (code ∷ bytes) body
  checked_write code form bytes written mode small short =
      -- the data are completed, and their packet error code follows
      let done : Completion form bytes = complete form bytes small (omega arith) in
      let body : List ℕ = checked true (write_address device.address ∷ []) (code ∷ wire form done.whole) in
      let last : ℕ = pec ((write_address device.address ∷ []) ++ code ∷ wire form done.whole) in (
        body,
        (
          code,
          done.whole,
          true,
          record {
            form = form;
            written = written;
            fits = done.fits;
            mode = mode;
            spelled =
                refl;
          },
        ),
        -- so the body has more than these bytes, by the code at least
        proper (code ∷ bytes) (done.rest ++ last ∷ []) body
            (ap (λ w. code ∷ w ++ last ∷ []) done.spelled
            ∙ ap (λ w. code ∷ w) (append_assoc bytes done.rest (last ∷ [])))
            (omega (arith, length-append done.rest (last ∷ []))),
      )

  write_goes_on : (mode : PecMode) → device.pec ≡ mode → (code : ℕ) (form : Form) (bytes : List ℕ)
      → (forms device code).write ≡ Some form → AreByteValues bytes
      → length bytes < wire_length form bytes + pec_length mode → (body : List ℕ) × IsWriteBody device body
      × IsProperPrefix (code ∷ bytes) body
  write_goes_on Off is code form bytes written small short =
      plain_write code form bytes written (subst (λ m. AllowsPec m false) (sym is) refl) small (omega arith)
  write_goes_on On is code form bytes written small short =
      checked_write code form bytes written (subst (λ m. AllowsPec m true) (sym is) refl) small short
  write_goes_on Optional is code form bytes written small short =
      checked_write code form bytes written (subst (λ m. AllowsPec m true) (sym is) tt) small short

  call_goes_on : (code : ℕ) (form : Form) (bytes : List ℕ) → (forms device code).call ≡ Some form → AreByteValues bytes
      → length bytes < wire_length form bytes → (body : List ℕ) × IsCallBody device body
      × IsProperPrefix (code ∷ bytes) body
  call_goes_on code form bytes called small short =
      let done : Completion form bytes = complete form bytes small (omega arith) in (
        code ∷ wire form done.whole,
        (code, form, done.whole, record { called = called; fits = done.fits; spelled = refl }),
        proper (code ∷ bytes) done.rest (code ∷ wire form done.whole) (ap (λ w. code ∷ w) done.spelled)
            (omega (arith, done.long)),
      )

  -- a body of each sort that goes on after a code and some bytes leaves room for a byte
  write_leaves_room : (mode : PecMode) → device.pec ≡ mode → (code : ℕ) (bytes rest : List ℕ) (next : ℕ) (body : List ℕ)
      → IsWriteBody device body → body ≡ (code ∷ bytes) ++ next ∷ rest
      → leaves_room (forms device code).write (pec_length mode) bytes ≡ true
  write_leaves_room mode is code bytes rest next body (c, whole, false, write) split =
      let spelled : c ∷ wire write.form whole ≡ code ∷ bytes ++ next ∷ rest = sym write.spelled ∙ split in
      let same : c ≡ code = cc in
      let behind : wire write.form whole ≡ bytes ++ next ∷ rest = cc in
      let longer : length bytes < wire_length write.form bytes + length {A = ℕ} [] =
      wire_is_longer write.form whole [] bytes rest next write.fits (append-nil (wire write.form whole) ∙ behind) in
      let written : (forms device code).write ≡ Some write.form =
      subst (λ k. (forms device k).write ≡ Some write.form) same write.written in
      rw written (lt-ltb (length bytes) (wire_length write.form bytes + pec_length mode) (omega (arith, longer)))
  write_leaves_room mode is code bytes rest next body (c, whole, true, write) split =
      let last : ℕ = pec ((write_address device.address ∷ []) ++ c ∷ wire write.form whole) in
      let spelled : c ∷ wire write.form whole ++ last ∷ [] ≡ code ∷ bytes ++ next ∷ rest = sym write.spelled ∙ split in
      let same : c ≡ code = cc in
      let behind : wire write.form whole ++ last ∷ [] ≡ bytes ++ next ∷ rest = cc in
      let longer : length bytes < wire_length write.form bytes + 1 =
      wire_is_longer write.form whole (last ∷ []) bytes rest next write.fits behind in
      let written : (forms device code).write ≡ Some write.form =
      subst (λ k. (forms device k).write ≡ Some write.form) same write.written in
      let one : pec_length mode ≡ 1 = pec_is_there mode (subst (λ m. AllowsPec m true) is write.mode) in
      rw written (lt-ltb (length bytes) (wire_length write.form bytes + pec_length mode) (omega (arith, longer, one)))

  call_leaves_room : (code : ℕ) (bytes rest : List ℕ) (next : ℕ) (body : List ℕ)
      → IsCallBody device body → body ≡ (code ∷ bytes) ++ next ∷ rest → leaves_room (forms device code).call 0 bytes
      ≡ true
  call_leaves_room code bytes rest next body (c, form, whole, call) split =
      let spelled : c ∷ wire form whole ≡ code ∷ bytes ++ next ∷ rest = sym call.spelled ∙ split in
      let same : c ≡ code = cc in
      let behind : wire form whole ≡ bytes ++ next ∷ rest = cc in
      let longer : length bytes < wire_length form bytes + length {A = ℕ} [] =
      wire_is_longer form whole [] bytes rest next call.fits (append-nil (wire form whole) ∙ behind) in
      let called : (forms device code).call ≡ Some form =
      subst (λ k. (forms device k).call ≡ Some form) same call.called in
      rw called (lt-ltb (length bytes) (wire_length form bytes + 0) longer)

  read_ends : (code : ℕ) (bytes rest : List ℕ) (next : ℕ) (body : List ℕ) → IsReadBody device body
      → body ≡ (code ∷ bytes) ++ next ∷ rest → ⊥
  read_ends code bytes rest next body (c, form, read) split =
      let spelled : c ∷ [] ≡ code ∷ bytes ++ next ∷ rest = sym read.spelled ∙ split in
      omega (arith, ap length spelled, length-append bytes (next ∷ rest))

-- ---- the tests of the code

-- all but the last element, by the whole list
fronts_agree : (xs ys : List ℕ) (a b : ℕ) → xs ++ a ∷ [] ≡ ys ++ b ∷ [] → xs ≡ ys
fronts_agree [] [] a b same = refl
fronts_agree [] (y ∷ ys) a b same = absurd (omega (arith, ap length same, length-append ys (b ∷ [])))
fronts_agree (x ∷ xs) [] a b same = absurd (omega (arith, ap length same, length-append xs (a ∷ [])))
fronts_agree (x ∷ xs) (y ∷ ys) a b same =
    let first : x ≡ y = cc in
    let behind : xs ≡ ys = fronts_agree xs ys a b cc in
    cc

either : (a b : Bool) → (a || b) ≡ true → (a ≡ true) ⊎ (b ≡ true)
either true b is = inl refl
either false b is = inr is

both : (a b : Bool) → (a && b) ≡ true → (a ≡ true) × (b ≡ true)
both true b is = (refl, is)
both false b is = absurd (cc is)

the_form : (form : Option Form) → is_some form ≡ true → (f : Form) × (form ≡ Some f)
the_form None is = absurd (cc is)
the_form (Some f) is = (f, refl)

room_of : (form : Option Form) (more : ℕ) (bytes : List ℕ) → leaves_room form more bytes ≡ true
    → (f : Form) × (form ≡ Some f) × (length bytes < wire_length f bytes + more)
room_of None more bytes is = absurd (cc is)
room_of (Some f) more bytes is = (f, refl, ltb-true (length bytes) (wire_length f bytes + more) is)

whole_of : (form : Option Form) (bytes : List ℕ) → is_whole_wire form bytes ≡ true
    → (f : Form) × (form ≡ Some f) × (length bytes ≡ wire_length f bytes)
whole_of None bytes is = absurd (cc is)
whole_of (Some f) bytes is = (f, refl, eqb-true (length bytes) (wire_length f bytes) is)

no_bytes : (bytes : List ℕ) → length bytes ≡ 0 → bytes ≡ []
no_bytes [] none = refl
no_bytes (b ∷ bytes) none = absurd (omega arith)

-- a first leg has no parts before it
abbrev pub is_first : List PartData → Bool
is_first [] = true
is_first (part ∷ parts) = false

pub first_is_first : (parts : List Part) → nat_eq (length parts) 0 ≡ is_first (map part_data parts)
first_is_first [] = refl
first_is_first (part ∷ parts) = eqb-suc-zero (length parts)

pub no_parts : (parts : List Part) → nat_eq (length parts) 0 ≡ true → map part_data parts ≡ []
no_parts [] none = refl
no_parts (part ∷ parts) none = cc (none, eqb-suc-zero (length parts))

write_is_allowed : (parts : List PartData) (device : DeviceParts) (body : List ℕ) → IsWriteBody device body
    → Allowed device parts body
write_is_allowed [] device body write = inl write
write_is_allowed (part ∷ parts) device body write = write

module _ (device : DeviceParts) (code : ℕ) where
  write_begins : (mode : PecMode) → device.pec ≡ mode → (form : Form) → (forms device code).write ≡ Some form
      → (rest : List ℕ) × IsWriteBody device (code ∷ rest)
  -- without a packet error code
  write_begins Off is form written =
      let done : Completion form [] = complete form [] tt (omega arith) in (
        wire form done.whole,
        (
          code,
          done.whole,
          false,
          record {
            form = form;
            written = written;
            fits = done.fits;
            mode =
                subst (λ m. AllowsPec m false) (sym is) refl;
            spelled = refl;
          },
        ),
      )
  -- with one
  write_begins On is form written =
      let done : Completion form [] = complete form [] tt (omega arith) in
      let last : ℕ = pec ((write_address device.address ∷ []) ++ code ∷ wire form done.whole) in (
        wire form done.whole ++ last ∷ [],
        (
          code,
          done.whole,
          true,
          record {
            form = form;
            written = written;
            fits = done.fits;
            mode =
                subst (λ m. AllowsPec m true) (sym is) refl;
            spelled = refl;
          },
        ),
      )
  -- either is allowed: without one
  write_begins Optional is form written =
      let done : Completion form [] = complete form [] tt (omega arith) in (
        wire form done.whole,
        (
          code,
          done.whole,
          false,
          record {
            form = form;
            written = written;
            fits = done.fits;
            mode =
                subst (λ m. AllowsPec m false) (sym is) tt;
            spelled = refl;
          },
        ),
      )

  call_begins : (form : Form) → (forms device code).call ≡ Some form → (rest : List ℕ) × IsCallBody device (code ∷ rest)
  call_begins form called =
      let done : Completion form [] = complete form [] tt (omega arith) in
      (wire form done.whole, (code, form, done.whole, record { called = called; fits = done.fits; spelled = refl }))

  -- some allowed body begins with the code of a command that may be written, or read or called in a
  -- first leg
  pub begins : (parts : List PartData) → may_begin (is_first parts) (forms device code) ≡ true
      → MayBegin parts code device
  begins [] passes =
      elim (either (is_some (forms device code).write)
      (is_some (forms device code).read || is_some (forms device code).call) passes) [
        | inl w ↦ let form : (f : Form) × ((forms device code).write ≡ Some f) = the_form (forms device code).write w in
            let found : (rest : List ℕ) × IsWriteBody device (code ∷ rest) =
            write_begins device.pec refl form.0 form.1 in
            (found.0, inl found.1)
        | inr other ↦ elim (either (is_some (forms device code).read) (is_some (forms device code).call) other) [
          | inl r ↦ let form : (f : Form) × ((forms device code).read ≡ Some f) = the_form (forms device code).read r in
              ([], inr (inl (code, form.0, record { read = form.1; spelled = refl })))
          | inr c ↦ let form : (f : Form) × ((forms device code).call ≡ Some f) = the_form (forms device code).call c in
              let found : (rest : List ℕ) × IsCallBody device (code ∷ rest) = call_begins form.0 form.1 in
              (found.0, inr (inr found.1))
        ]
      ]
  begins (part ∷ parts) passes =
      elim (either (is_some (forms device code).write) false passes) [
        | inl w ↦ let form : (f : Form) × ((forms device code).write ≡ Some f) = the_form (forms device code).write w in
            write_begins device.pec refl form.0 form.1
        | inr other ↦ absurd (cc other)
      ]

  -- no allowed body begins with the code of another command
  no_write : (rest : List ℕ) → is_some (forms device code).write ≡ false → IsWriteBody device (code ∷ rest) → ⊥
  no_write rest none (c, whole, false, write) =
      let spelled : code ∷ rest ≡ c ∷ wire write.form whole = write.spelled in
      let same : c ≡ code = cc in
      let written : (forms device code).write ≡ Some write.form =
      subst (λ k. (forms device k).write ≡ Some write.form) same write.written in
      cc (ap is_some written)
  no_write rest none (c, whole, true, write) =
      let spelled : code ∷ rest ≡ c ∷ wire write.form whole
      ++ pec ((write_address device.address ∷ []) ++ c ∷ wire write.form whole) ∷ [] = write.spelled in
      let same : c ≡ code = cc in
      let written : (forms device code).write ≡ Some write.form =
      subst (λ k. (forms device k).write ≡ Some write.form) same write.written in
      cc (ap is_some written)

  no_read : (rest : List ℕ) → is_some (forms device code).read ≡ false → IsReadBody device (code ∷ rest) → ⊥
  no_read rest none (c, form, asked) =
      let spelled : code ∷ rest ≡ c ∷ [] = asked.spelled in
      let same : c ≡ code = cc in
      let read : (forms device code).read ≡ Some form =
      subst (λ k. (forms device k).read ≡ Some form) same asked.read in
      cc (ap is_some read)

  no_call : (rest : List ℕ) → is_some (forms device code).call ≡ false → IsCallBody device (code ∷ rest) → ⊥
  no_call rest none (c, form, whole, asked) =
      let spelled : code ∷ rest ≡ c ∷ wire form whole = asked.spelled in
      let same : c ≡ code = cc in
      let called : (forms device code).call ≡ Some form =
      subst (λ k. (forms device k).call ≡ Some form) same asked.called in
      cc (ap is_some called)

  pub begins_not : (parts : List PartData) → may_begin (is_first parts) (forms device code) ≡ false
      → MayBegin parts code device → ⊥
  begins_not [] fails (rest, body) =
      let none : (is_some (forms device code).write ≡ false)
      × ((is_some (forms device code).read || is_some (forms device code).call) ≡ false) =
      or_parts (is_some (forms device code).write)
      (is_some (forms device code).read || is_some (forms device code).call) fails in
      let neither : (is_some (forms device code).read ≡ false) × (is_some (forms device code).call ≡ false) =
      or_parts (is_some (forms device code).read) (is_some (forms device code).call) none.1 in
      elim body [
        | inl write ↦ no_write rest none.0 write
        | inr asked ↦ elim asked
            [ inl read ↦ no_read rest neither.0 read | inr call ↦ no_call rest neither.1 call ]
      ]
  begins_not (part ∷ parts) fails (rest, write) =
      no_write rest (or_parts (is_some (forms device code).write) false fails).0 write

  -- the beginning of an allowed body that leaves room goes on
  going : (parts : List PartData) (bytes : List ℕ) (last : ℕ) → (body : List ℕ) × Allowed device parts body
      × IsProperPrefix (code ∷ bytes) body → MayGoOn parts (code ∷ bytes ++ last ∷ []) device
  going parts bytes last (body, allowed, prefix) = (code ∷ bytes, last, body, refl, allowed, prefix)

  pub goes_on : (parts : List PartData) (bytes : List ℕ) → AreByteValues bytes
      → may_go_on (is_first parts) device.pec (forms device code) bytes ≡ true → (last : ℕ)
      → MayGoOn parts (code ∷ bytes ++ last ∷ []) device
  goes_on [] bytes small passes last =
      -- in a first leg a write or a call may go on
      elim (either (leaves_room (forms device code).write (pec_length device.pec) bytes)
      (leaves_room (forms device code).call 0 bytes) passes) [
        | inl w ↦ let room : (f : Form) × ((forms device code).write ≡ Some f)
            × (length bytes < wire_length f bytes + pec_length device.pec) =
            room_of (forms device code).write (pec_length device.pec) bytes w in
            let found : (body : List ℕ) × IsWriteBody device body × IsProperPrefix (code ∷ bytes) body =
            write_goes_on device device.pec refl code room.0 bytes room.1 small room.2 in
            going [] bytes last (found.0, inl found.1, found.2)
        | inr c ↦ let room : (f : Form) × ((forms device code).call ≡ Some f)
            × (length bytes < wire_length f bytes + 0) = room_of (forms device code).call 0 bytes c in
            let found : (body : List ℕ) × IsCallBody device body × IsProperPrefix (code ∷ bytes) body =
            call_goes_on device code room.0 bytes room.1 small (omega (arith, room.2)) in
            going [] bytes last (found.0, inr (inr found.1), found.2)
      ]
  -- in a later leg a write alone
  goes_on (part ∷ parts) bytes small passes last =
      elim (either (leaves_room (forms device code).write (pec_length device.pec) bytes) false passes) [
        | inl w ↦ let room : (f : Form) × ((forms device code).write ≡ Some f)
            × (length bytes < wire_length f bytes + pec_length device.pec) =
            room_of (forms device code).write (pec_length device.pec) bytes w in
            let found : (body : List ℕ) × IsWriteBody device body × IsProperPrefix (code ∷ bytes) body =
            write_goes_on device device.pec refl code room.0 bytes room.1 small room.2 in
            going (part ∷ parts) bytes last found
        | inr other ↦ absurd (cc other)
      ]

  room_for_more : (parts : List PartData) (bytes rest : List ℕ) (next : ℕ) (body : List ℕ) → Allowed device parts body
      → body ≡ (code ∷ bytes) ++ next ∷ rest
      → may_go_on (is_first parts) device.pec (forms device code) bytes ≡ true
  room_for_more [] bytes rest next body (inl write) split =
      or_left (leaves_room (forms device code).write (pec_length device.pec) bytes)
      (leaves_room (forms device code).call 0 bytes)
      (write_leaves_room device device.pec refl code bytes rest next body write split)
  room_for_more [] bytes rest next body (inr (inl read)) split =
      absurd (read_ends device code bytes rest next body read split)
  room_for_more [] bytes rest next body (inr (inr call)) split =
      or_right (leaves_room (forms device code).write (pec_length device.pec) bytes)
      (leaves_room (forms device code).call 0 bytes) (call_leaves_room device code bytes rest next body call split)
  room_for_more (part ∷ parts) bytes rest next body write split =
      or_left (leaves_room (forms device code).write (pec_length device.pec) bytes) false
      (write_leaves_room device device.pec refl code bytes rest next body write split)

  pub goes_on_not : (parts : List PartData) (bytes : List ℕ)
      → may_go_on (is_first parts) device.pec (forms device code) bytes ≡ false
      → (last : ℕ) → MayGoOn parts (code ∷ bytes ++ last ∷ []) device → ⊥
  goes_on_not parts bytes fails last (front, other, body, split, allowed, prefix) =
      let front_is : front ≡ code ∷ bytes = sym (fronts_agree (code ∷ bytes) front last other split) in
      let begun : body ≡ (code ∷ bytes) ++ prefix.next ∷ prefix.rest = prefix.split
      ∙ ap (λ f. f ++ prefix.next ∷ prefix.rest) front_is in
      cc (room_for_more parts bytes prefix.rest prefix.next body allowed begun)

  -- a code and bytes are the body of a read or a call
  pub requests : (bytes : List ℕ) → AreByteValues bytes → is_request (forms device code) bytes ≡ true
      → IsRequest device (code ∷ bytes)
  requests bytes small passes =
      -- a read body is the code alone, of a command that is read
      elim (either (is_some (forms device code).read && nat_eq (length bytes) 0)
      (is_whole_wire (forms device code).call bytes) passes) [
        | inl r ↦ let parts : (is_some (forms device code).read ≡ true) × (nat_eq (length bytes) 0 ≡ true) =
            both (is_some (forms device code).read) (nat_eq (length bytes) 0) r in
            let form : (f : Form) × ((forms device code).read ≡ Some f) = the_form (forms device code).read parts.0 in
            inl (
              code,
              form.0,
              record {
                read = form.1;
                spelled =
                    ap (λ bs. code ∷ bs) (no_bytes bytes (eqb-true (length bytes) 0 parts.1));
              },
            )
        -- a call body has as many bytes as the form says
        | inr c ↦ let exact : (f : Form) × ((forms device code).call ≡ Some f) × (length bytes ≡ wire_length f bytes) =
            whole_of (forms device code).call bytes c in
            let done : Completion exact.0 bytes = complete exact.0 bytes small (omega (arith, exact.2)) in
            let nothing : done.rest ≡ [] = no_bytes done.rest (omega (arith, done.long, exact.2)) in
            let all : wire exact.0 done.whole ≡ bytes = done.spelled
            ∙ (ap (λ r. bytes ++ r) nothing ∙ append-nil bytes) in
            inr (
              code,
              exact.0,
              done.whole,
              record {
                called = exact.1;
                fits = done.fits;
                spelled =
                    ap (λ w. code ∷ w) (sym all);
              },
            )
      ]

  pub requests_not : (bytes : List ℕ) → is_request (forms device code) bytes ≡ false → IsRequest device (code ∷ bytes)
      → ⊥
  requests_not bytes fails (inl (c, form, asked)) =
      let spelled : code ∷ bytes ≡ c ∷ [] = asked.spelled in
      let same : c ≡ code = cc in
      let none : bytes ≡ [] = cc in
      let read : (forms device code).read ≡ Some form =
      subst (λ k. (forms device k).read ≡ Some form) same asked.read in
      let is : (is_some (forms device code).read && nat_eq (length bytes) 0) ≡ true = rw (read, none) refl in
      cc (or_parts (is_some (forms device code).read && nat_eq (length bytes) 0)
      (is_whole_wire (forms device code).call bytes) fails).0
  requests_not bytes fails (inr (c, form, whole, asked)) =
      let spelled : code ∷ bytes ≡ c ∷ wire form whole = asked.spelled in
      let same : c ≡ code = cc in
      let all : wire form whole ≡ bytes = cc in
      let called : (forms device code).call ≡ Some form =
      subst (λ k. (forms device k).call ≡ Some form) same asked.called in
      let long : length bytes ≡ wire_length form bytes = subst (λ bs. length bs ≡ wire_length form bs) all
      (wire_is_as_long form whole asked.fits) in
      let is : is_whole_wire (forms device code).call bytes ≡ true =
      rw called (eq-eqb (length bytes) (wire_length form bytes) long) in
      cc (or_parts (is_some (forms device code).read && nat_eq (length bytes) 0)
      (is_whole_wire (forms device code).call bytes) fails).1
