-- Bodies of which something is left, and those that ask for a reply, by the data after the code.
-- For `are_data`, `go_on`, `is_inside_body` and `is_request` of `src/refused.rt`. Data are whole
-- where there are as many bytes as they say; where some are missing, zeros complete them, so fewer
-- bytes begin a body.
use Rattle.std.proofs.Common.{◌≡◌, ℕ, ◌-◌, ◌<◌, ◌≤◌, ◌⊎◌, inl, inr, zero, suc, Bool, true, false, is_some, Option, Some}
use Rattle.std.proofs.Common.{None, List, [], ◌∷◌, ◌++◌, length, replicate, refl, sym, ap, subst, ◌∙◌, append_assoc}
use Rattle.std.proofs.Common.{arith, length-append}
use Rattle.std.specs.Prelude.{◌↔◌, IsTrue}
use Rattle.std.proofs.lemmas.List.{append-nil, length-replicate}
use Rattle.pmb_bus.specs.Address.{write_address}
use Rattle.pmb_bus.specs.Pec.{pec}
use Rattle.pmb_command.specs.declared.form.Form.{Form}
use Rattle.pmb_command.specs.declared.form.Form.TheVariants.{Zero, One, Two, Four, Eight, Block}
use Rattle.pmb_command.specs.declared.form.Shape.{Shape}
use Rattle.pmb_command.specs.declared.pec_mode.PecMode.{PecMode}
use Rattle.pmb_command.specs.declared.pec_mode.PecMode.TheVariants.{Off, On, Optional}
use Rattle.pmb_command.specs.Parts.{DeviceParts}
use Rattle.pmb_command.specs.PecMode.{AllowsPec}
use Rattle.pmb_command.specs.Wire.{AreByteValues, Fits, wire, wire_length}
use Rattle.pmb_transaction.specs.Transaction.{PartData}
use Rattle.pmb_transaction.specs.Body.{CallBody, IsInsideBody, IsProperPrefix, IsReadBody, IsRequest, IsWriteBody}
use Rattle.pmb_transaction.specs.Body.{WriteBody, checked, forms}
use Rattle.pmb_canonical.specs.Codes.{code_behind}
use Rattle.pmb_canonical.specs.Refused.{AreData, IsInsideData, is_read}
use Rattle.pmb_canonical.proofs.Texts.{small-append}
use Rattle.pmb_canonical.proofs.Wires.{checked_is, whole, wire_ends}

-- ---- bytes that are data

pub are_data : (form : Form) (bytes : List ℕ) → AreByteValues bytes → wire_length form bytes ≡ length bytes
    → AreData (Some form) bytes
are_data form bytes small long = whole form bytes small long

pub data_long : (form : Form) (bytes : List ℕ) → AreData (Some form) bytes → wire_length form bytes ≡ length bytes
data_long form bytes (data_bytes, fits, spelled) =
    let ends = wire_ends form data_bytes [] fits in
    ap (wire_length form) (spelled ∙ sym (append-nil (wire form data_bytes))) ∙ ends ∙ sym (ap length spelled)

pub no_data : (wanted : Option Form) (bytes : List ℕ) → ((form : Form) → wanted ≡ Some form → ⊥) → IsTrue false
    ↔ AreData wanted bytes
no_data None bytes never = (λ is. absurd (cc is), λ are. absurd are)
no_data (Some form) bytes never = absurd (never form refl)

-- ---- bytes that data begin with

pub no_inside : (wanted : Option Form) (mode : PecMode) (before bytes : List ℕ)
    → ((form : Form) → wanted ≡ Some form → ⊥) → IsTrue false ↔ IsInsideData wanted mode before bytes
no_inside None mode before bytes never = (λ is. absurd (cc is), λ inside. absurd inside)
no_inside (Some form) mode before bytes never = absurd (never form refl)

-- a mode allows a packet with a code, or without
some_pec : (mode : PecMode) → (with_pec : Bool) × AllowsPec mode with_pec
some_pec Off = (false, refl)
some_pec On = (true, refl)
some_pec Optional = (false, tt)

small_zeros : (n : ℕ) → AreByteValues (replicate n 0)
small_zeros zero = tt
small_zeros (suc n) = (omega arith, small_zeros n)

-- zeros after some bytes do not change how many there are to be
padded_length : (form : Form) (bytes more : List ℕ) → wire_length form (bytes ++ 0 ∷ more) ≡ wire_length form bytes
padded_length Zero bytes more = refl
padded_length One bytes more = refl
padded_length Two bytes more = refl
padded_length Four bytes more = refl
padded_length Eight bytes more = refl
padded_length Block [] more = omega arith
padded_length Block (count ∷ bytes) more = refl

-- what stands on the wire of such bytes and zeros
padded_split : (with_pec : Bool) (before bytes zeros on_wire : List ℕ) → bytes ++ 0 ∷ zeros ≡ on_wire
    → checked with_pec before on_wire ≡ bytes ++ 0 ∷ (zeros ++ code_behind with_pec (before ++ on_wire))
padded_split with_pec before bytes zeros on_wire same =
    checked_is with_pec before on_wire
    ∙ ap (λ (l : List ℕ). l ++ code_behind with_pec (before ++ on_wire)) (sym same)
    ∙ append_assoc bytes (0 ∷ zeros) (code_behind with_pec (before ++ on_wire))

-- some are missing
pub begun_data : (form : Form) (mode : PecMode) (before bytes : List ℕ) → AreByteValues bytes
    → length bytes < wire_length form bytes
    → IsInsideData (Some form) mode before bytes
begun_data form mode before bytes small more =
    -- zeros for the bytes that are missing
    let left : ℕ = wire_length form bytes - length bytes - 1 in
    let zeros : List ℕ = replicate left 0 in
    let padded : List ℕ = bytes ++ 0 ∷ zeros in
    -- they don't change how many there are to be
    let long : wire_length form padded ≡ length padded =
    omega (
      arith,
      padded_length form bytes zeros,
      length-append bytes (0 ∷ zeros),
      length-replicate {A = ℕ} left 0,
      more,
    ) in
    -- so these are data, and any code that the mode allows follows
    let found = whole form padded (small-append bytes (0 ∷ zeros) small (omega arith, small_zeros left)) long in
    let chosen = some_pec mode in
    let code : List ℕ = code_behind chosen.0 (before ++ wire form found.0) in (
      found.0,
      chosen.0,
      found.1,
      chosen.1,
      record {
        next = 0;
        rest = zeros ++ code;
        split = padded_split chosen.0 before bytes zeros
            (wire form found.0) found.2;
      },
    )

-- the packet error code alone is missing
pub left_code : (form : Form) (mode : PecMode) (before bytes : List ℕ) → AreByteValues bytes
    → wire_length form bytes ≡ length bytes → AllowsPec mode true
    → IsInsideData (Some form) mode before bytes
left_code form mode before bytes small long mode_allows =
    let found = whole form bytes small long in (
      found.0,
      true,
      found.1,
      mode_allows,
      record {
        next = pec (before ++ wire form found.0);
        rest = [];
        split = ap (λ (l : List ℕ). l ++ pec (before ++ wire form found.0) ∷ []) (sym found.2);
      },
    )

-- how many there are to be, where data begin so
fixed_front : (n count len : ℕ) → count ≡ n → len ≤ count → (len ≤ n) × (len < count → len < n)
fixed_front n count len same few = (omega (arith, same, few), λ less. omega (arith, same, less))

front_length : (form : Form) (data_bytes tail bytes more : List ℕ) → Fits form data_bytes
    → wire form data_bytes ++ tail ≡ bytes ++ more
    → length bytes ≤ length (wire form data_bytes)
    → (length bytes ≤ wire_length form bytes)
    × (length bytes < length (wire form data_bytes) → length bytes < wire_length form bytes)
front_length Zero data_bytes tail bytes more fits same few =
    fixed_front 0 (length data_bytes) (length bytes) fits.taken few
front_length One data_bytes tail bytes more fits same few =
    fixed_front 1 (length data_bytes) (length bytes) fits.taken few
front_length Two data_bytes tail bytes more fits same few =
    fixed_front 2 (length data_bytes) (length bytes) fits.taken few
front_length Four data_bytes tail bytes more fits same few =
    fixed_front 4 (length data_bytes) (length bytes) fits.taken few
front_length Eight data_bytes tail bytes more fits same few =
    fixed_front 8 (length data_bytes) (length bytes) fits.taken few
front_length Block data_bytes tail [] more fits same few = (omega arith, λ less. omega arith)
front_length Block data_bytes tail (count ∷ bytes) more fits same few =
    let told : length data_bytes ≡ count = cc same in
    (omega (arith, told, few), λ less. omega (arith, told, less))

-- What a mode lets follow data: nothing, or the packet error code.
inside_length : (form : Form) (mode : PecMode) (before bytes data_bytes : List ℕ) (with_pec : Bool)
    → Fits form data_bytes → AllowsPec mode with_pec
    → IsProperPrefix bytes (checked with_pec before (wire form data_bytes))
    → (length bytes < wire_length form bytes) ⊎ ((length bytes ≤ wire_length form bytes) × AllowsPec mode true)
inside_length form mode before bytes data_bytes false fits allowed longer =
    let whole_wire : wire form data_bytes ++ [] ≡ bytes ++ longer.next ∷ longer.rest = append-nil (wire form data_bytes)
    ∙ longer.split in
    let less : length bytes < length (wire form data_bytes) =
    omega (arith, ap length longer.split, length-append bytes (longer.next ∷ longer.rest)) in
    inl ((front_length form data_bytes [] bytes (longer.next ∷ longer.rest) fits whole_wire (omega (arith, less))).1
    less)
inside_length form mode before bytes data_bytes true fits allowed longer =
    let code = pec (before ++ wire form data_bytes) in
    let few : length bytes ≤ length (wire form data_bytes) =
    omega (
      arith,
      ap length longer.split,
      length-append bytes (longer.next ∷ longer.rest),
      length-append (wire form data_bytes) (code ∷ []),
    ) in
    inr ((front_length form data_bytes (code ∷ []) bytes (longer.next ∷ longer.rest) fits longer.split few).0, allowed)

-- so where there are as many, the mode allows a code, and there are no more
no_more : (len all : ℕ) (mode : PecMode) → (len < all) ⊎ ((len ≤ all) × AllowsPec mode true) → all < len → ⊥
no_more len all mode (inl less) more = omega (arith, less, more)
no_more len all mode (inr few) more = omega (arith, few.0, more)

code_alone : (len all : ℕ) (mode : PecMode) → (len < all) ⊎ ((len ≤ all) × AllowsPec mode true) → (len < all → ⊥)
    → AllowsPec mode true
code_alone len all mode (inl less) none = absurd (none less)
code_alone len all mode (inr few) none = few.1

pub not_longer : (form : Form) (mode : PecMode) (before bytes : List ℕ) → IsInsideData (Some form) mode before bytes
    → wire_length form bytes < length bytes → ⊥
not_longer form mode before bytes (data_bytes, with_pec, fits, allowed, longer) more =
    no_more (length bytes) (wire_length form bytes) mode
    (inside_length form mode before bytes data_bytes with_pec fits allowed longer) more

pub allows_code : (form : Form) (mode : PecMode) (before bytes : List ℕ) → IsInsideData (Some form) mode before bytes
    → (length bytes < wire_length form bytes → ⊥) → AllowsPec mode true
allows_code form mode before bytes (data_bytes, with_pec, fits, allowed, longer) none =
    code_alone (length bytes) (wire_length form bytes) mode
    (inside_length form mode before bytes data_bytes with_pec fits allowed longer) none

-- ---- bodies, by the data after the code

module _ (device : DeviceParts) where
  -- what the packet error code covers before the data
  abbrev pub in_front : ℕ → List ℕ
  in_front code = write_address device.address ∷ code ∷ []

  code_in_front : (with_pec : Bool) (code : ℕ) (bytes : List ℕ)
      → checked with_pec (write_address device.address ∷ []) (code ∷ bytes) ≡ code
      ∷ checked with_pec (in_front code) bytes
  code_in_front false code bytes = refl
  code_in_front true code bytes = refl

  -- a write body is allowed after any parts
  inside_write : (parts : List PartData) (bytes body : List ℕ) → IsWriteBody device body → IsProperPrefix bytes body
      → IsInsideBody device parts bytes
  inside_write [] bytes body write longer = inr (body, inl write, longer)
  inside_write (part ∷ parts) bytes body write longer = inr (body, write, longer)

  -- inside data a body goes on
  pub in_write : (parts : List PartData) (code : ℕ) (bytes : List ℕ) (form : Option Form)
      → (forms device code).write ≡ form → IsInsideData form device.pec (in_front code) bytes
      → IsInsideBody device parts (code ∷ bytes)
  in_write parts code bytes None is inside = absurd inside
  in_write parts code bytes (Some form) is (data_bytes, with_pec, fits, allowed, longer) =
      let body = checked with_pec (write_address device.address ∷ []) (code ∷ wire form data_bytes) in
      inside_write parts (code ∷ bytes) body
      (code, data_bytes, with_pec, record { form = form; written = is; fits = fits; mode = allowed; spelled = refl })
      (record {
        next = longer.next;
        rest = longer.rest;
        split = code_in_front with_pec code (wire form data_bytes) ∙ ap (λ (l : List ℕ). code ∷ l) longer.split;
      })

  pub in_call : (code : ℕ) (bytes : List ℕ) (form : Option Form) → (forms device code).call ≡ form
      → IsInsideData form Off (in_front code) bytes
      → IsInsideBody device [] (code ∷ bytes)
  in_call code bytes None is inside = absurd inside
  in_call code bytes (Some form) is (data_bytes, true, fits, allowed, longer) = let none : true ≡ false = allowed in
      absurd (cc none)
  in_call code bytes (Some form) is (data_bytes, false, fits, allowed, longer) =
      inr (
        code ∷ wire form data_bytes,
        inr (inr (code, form, data_bytes, record { called = is; fits = fits; spelled = refl })),
        record { next = longer.next; rest = longer.rest; split = ap (λ (l : List ℕ). code ∷ l) longer.split },
      )

  -- and where a body goes on, bytes are inside data
  abbrev pub InData : ℕ → List ℕ → Type 0
  InData code bytes =
      IsInsideData (forms device code).write device.pec (in_front code) bytes
      ⊎ IsInsideData (forms device code).call Off (in_front code) bytes

  of_write : (code : ℕ) (bytes body : List ℕ) (own : ℕ) (data_bytes : List ℕ) (with_pec : Bool)
      → WriteBody device own data_bytes with_pec body → IsProperPrefix (code ∷ bytes) body
      → IsInsideData (forms device code).write device.pec (in_front code) bytes
  of_write code bytes body own data_bytes with_pec write longer =
      let spelled : own ∷ checked with_pec (in_front own) (wire write.form data_bytes) ≡ code
      ∷ (bytes ++ longer.next ∷ longer.rest) =
      sym (code_in_front with_pec own (wire write.form data_bytes)) ∙ sym write.spelled ∙ longer.split in
      let same : own ≡ code = cc spelled in
      let tail : checked with_pec (in_front own) (wire write.form data_bytes) ≡ bytes ++ longer.next ∷ longer.rest =
      cc spelled in
      let inside : IsInsideData (Some write.form) device.pec (in_front own) bytes =
      (data_bytes, with_pec, write.fits, write.mode, record { next = longer.next; rest = longer.rest; split = tail }) in
      subst (λ (n : ℕ). IsInsideData (forms device n).write device.pec (in_front n) bytes) same
      (subst (λ (f : Option Form). IsInsideData f device.pec (in_front own) bytes) (sym write.written) inside)

  of_call : (code : ℕ) (bytes body : List ℕ) (own : ℕ) (form : Form) (data_bytes : List ℕ)
      → CallBody device own form data_bytes body → IsProperPrefix (code ∷ bytes) body
      → InData code bytes
  of_call code bytes body own form data_bytes call longer =
      let spelled : own ∷ wire form data_bytes ≡ code ∷ (bytes ++ longer.next ∷ longer.rest) = sym call.spelled
      ∙ longer.split in
      let same : own ≡ code = cc spelled in
      let tail : wire form data_bytes ≡ bytes ++ longer.next ∷ longer.rest = cc spelled in
      let inside : IsInsideData (Some form) Off (in_front own) bytes =
      (data_bytes, false, call.fits, refl, record { next = longer.next; rest = longer.rest; split = tail }) in
      inr (subst (λ (n : ℕ). IsInsideData (forms device n).call Off (in_front n) bytes) same
      (subst (λ (f : Option Form). IsInsideData f Off (in_front own) bytes) (sym call.called) inside))

  pub in_data : (code : ℕ) (bytes : List ℕ) → IsInsideBody device [] (code ∷ bytes) → InData code bytes
  in_data code bytes (inl none) = absurd (cc none)
  in_data code bytes (inr (body, inl (own, data_bytes, with_pec, write), longer)) =
      inl (of_write code bytes body own data_bytes with_pec write longer)
  in_data code bytes (inr (body, inr (inl (own, form, read)), longer)) =
      absurd (omega (
        arith,
        ap length (sym read.spelled ∙ longer.split),
        length-append bytes (longer.next ∷ longer.rest),
      ))
  in_data code bytes (inr (body, inr (inr (own, form, data_bytes, call)), longer)) =
      of_call code bytes body own form data_bytes call longer

  -- after a part inside those of a write
  in_later : (part : PartData) (parts : List PartData) (code : ℕ) (bytes : List ℕ)
      → IsInsideBody device (part ∷ parts) (code ∷ bytes)
      → IsInsideData (forms device code).write device.pec (in_front code) bytes
  in_later part parts code bytes (inl none) = absurd (cc none)
  in_later part parts code bytes (inr (body, (own, data_bytes, with_pec, write), longer)) =
      of_write code bytes body own data_bytes with_pec write longer

  -- ---- bodies that ask for a reply

  read_of : (code : ℕ) (form : Option Form) → (forms device code).read ≡ form → is_some form ≡ true
      → IsReadBody device (code ∷ [])
  read_of code None read is = absurd (cc is)
  read_of code (Some form) read is = (code, form, record { read = read; spelled = refl })

  pub asks_read : (code : ℕ) (bytes : List ℕ) → is_read (forms device code) bytes ≡ true
      → IsRequest device (code ∷ bytes)
  asks_read code [] is = inl (read_of code (forms device code).read refl is)
  asks_read code (byte ∷ bytes) is = absurd (cc is)

  pub asks_call : (code : ℕ) (bytes : List ℕ) (form : Option Form) → (forms device code).call ≡ form
      → AreData form bytes → IsRequest device (code ∷ bytes)
  asks_call code bytes None is are = absurd are
  asks_call code bytes (Some form) is (data_bytes, fits, spelled) =
      inr (code, form, data_bytes, record { called = is; fits = fits; spelled = ap (λ (l : List ℕ). code ∷ l) spelled })

  -- what such a body is
  abbrev pub IsAsking : ℕ → List ℕ → Type 0
  IsAsking code bytes = (is_read (forms device code) bytes ≡ true) ⊎ AreData (forms device code).call bytes

  asking_read : (code own : ℕ) (bytes : List ℕ) (form : Form) → (forms device own).read ≡ Some form
      → code ∷ bytes ≡ own ∷ [] → IsAsking code bytes
  asking_read code own [] form read spelled =
      let same : own ≡ code = cc spelled in
      inl (ap (λ (n : ℕ). is_some (forms device n).read) (sym same) ∙ ap is_some read)
  asking_read code own (byte ∷ bytes) form read spelled = absurd (omega (arith, ap length spelled))

  asking_call : (code own : ℕ) (bytes : List ℕ) (form : Form) (data_bytes : List ℕ)
      → CallBody device own form data_bytes (code ∷ bytes) → IsAsking code bytes
  asking_call code own bytes form data_bytes call =
      let spelled : code ∷ bytes ≡ own ∷ wire form data_bytes = call.spelled in
      let same : own ≡ code = cc spelled in
      let tail : bytes ≡ wire form data_bytes = cc spelled in
      let are : AreData (Some form) bytes = (data_bytes, call.fits, tail) in
      inr (subst (λ (f : Option Form). AreData f bytes) (sym call.called ∙ ap (λ (n : ℕ). (forms device n).call) same)
      are)

  pub is_asking : (code : ℕ) (bytes : List ℕ) → IsRequest device (code ∷ bytes) → IsAsking code bytes
  is_asking code bytes (inl (own, form, read)) = asking_read code own bytes form read.read read.spelled
  is_asking code bytes (inr (own, form, data_bytes, call)) = asking_call code own bytes form data_bytes call

  pub asks_something : IsRequest device [] → ⊥
  asks_something (inl (own, form, read)) = cc read.spelled
  asks_something (inr (own, form, data_bytes, call)) = cc call.spelled

  -- ---- what the code says of them

  none_true : (result : Bool) → result ≡ false → result ≡ true → ⊥
  none_true result fails holds = cc (fails, holds)

  pub goes_on_from_start : (parts : List PartData) (bytes : List ℕ) → (0 < length bytes → ⊥) → IsTrue true
      ↔ IsInsideBody device parts bytes
  goes_on_from_start parts [] none = (λ is. inl refl, λ inside. refl)
  goes_on_from_start parts (byte ∷ bytes) none = absurd (none (omega arith))

  module _ (code : ℕ) (tail bytes : List ℕ) (shape : Shape) (mode : PecMode) (split : bytes ≡ code ∷ tail)
      (known : shape ≡ forms device code) (own : mode ≡ device.pec)
      (write : Bool) (says_write : IsTrue write ↔ IsInsideData shape.write mode (in_front code) tail) where
    of_shape : (parts : List PartData) → IsTrue write → IsInsideBody device parts (code ∷ tail)
    of_shape parts is =
        in_write parts code tail (forms device code).write refl
        (subst (λ (m : PecMode). IsInsideData (forms device code).write m (in_front code) tail) own
        (subst (λ (s : Shape). IsInsideData s.write mode (in_front code) tail) known (says_write.0 is)))

    pub goes_on_by_write : (parts : List PartData) → write ≡ true → IsTrue true ↔ IsInsideBody device parts bytes
    goes_on_by_write parts holds = (
      λ is. subst (IsInsideBody device parts) (sym split) (of_shape parts holds),
      λ inside. refl,
    )

    module _ (fails : write ≡ false) where
      not_inside : IsInsideData (forms device code).write device.pec (in_front code) tail → ⊥
      not_inside inside =
          none_true write fails (says_write.1
          (subst (λ (m : PecMode). IsInsideData shape.write m (in_front code) tail) (sym own)
          (subst (λ (s : Shape). IsInsideData s.write device.pec (in_front code) tail) (sym known) inside)))

      not_later : (parts : List PartData) → 0 < length parts → IsInsideBody device parts bytes → ⊥
      not_later [] some inside = omega (arith, some)
      not_later (part ∷ parts) some inside = not_inside
          (in_later part parts code tail (subst (IsInsideBody device (part ∷ parts)) split inside))

      pub goes_on_no_more : (parts : List PartData) → 0 < length parts → IsTrue false ↔ IsInsideBody device parts bytes
      goes_on_no_more parts some = (λ is. absurd (cc is), λ inside. absurd (not_later parts some inside))

      module _ (call : Bool) (says_call : IsTrue call ↔ IsInsideData shape.call Off (in_front code) tail) where
        by_call : InData code tail → IsTrue call
        by_call (inl inside) = absurd (not_inside inside)
        by_call (inr inside) = says_call.1 (subst (λ (s : Shape). IsInsideData s.call Off (in_front code) tail)
            (sym known) inside)

        pub goes_on_by_call : (parts : List PartData) → length parts ≡ 0 → IsTrue call ↔ IsInsideBody device parts bytes
        goes_on_by_call [] none = (
          λ is. subst (IsInsideBody device []) (sym split)
              (in_call code tail (forms device code).call refl
              (subst (λ (s : Shape). IsInsideData s.call Off (in_front code) tail) known (says_call.0 is))),
          λ inside. by_call (in_data code tail (subst (IsInsideBody device []) split inside)),
        )
        goes_on_by_call (part ∷ parts) none = absurd (omega (arith, none))

  pub asks_nothing : (bytes : List ℕ) → (0 < length bytes → ⊥) → IsTrue false ↔ IsRequest device bytes
  asks_nothing [] none = (λ is. absurd (cc is), λ asks. absurd (asks_something asks))
  asks_nothing (byte ∷ bytes) none = absurd (none (omega arith))

  module _ (code : ℕ) (tail bytes : List ℕ) (shape : Shape) (split : bytes ≡ code ∷ tail)
      (known : shape ≡ forms device code)
      (read : Bool) (says_read : read ≡ is_read shape tail) where
    pub asks_by_code : read ≡ true → IsTrue true ↔ IsRequest device bytes
    asks_by_code holds = (
      λ is. subst (IsRequest device) (sym split)
          (asks_read code tail (ap (λ (s : Shape). is_read s tail) (sym known) ∙ sym says_read ∙ holds)),
      λ asks. refl,
    )

    module _ (fails : read ≡ false) (call : Bool) (says_call : IsTrue call ↔ AreData shape.call tail) where
      call_asks : IsAsking code tail → IsTrue call
      call_asks (inl is) = absurd (none_true read fails (says_read ∙ ap (λ (s : Shape). is_read s tail) known ∙ is))
      call_asks (inr are) = says_call.1 (subst (λ (s : Shape). AreData s.call tail) (sym known) are)

      pub asks_by_call : IsTrue call ↔ IsRequest device bytes
      asks_by_call = (
        λ is. subst (IsRequest device) (sym split)
            (asks_call code tail (forms device code).call refl
            (subst (λ (s : Shape). AreData s.call tail) known (says_call.0 is))),
        λ asks. call_asks (is_asking code tail (subst (IsRequest device) split asks)),
      )
