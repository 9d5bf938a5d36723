-- Bodies: the bytes after the address in a written leg.
use Rattle.std.specs.Prelude.{◌≡◌, ℕ, ◌⊎◌, Bool, true, false, Option, Some, None, List, [], ◌∷◌, ◌++◌}
use Rattle.pmb_bus.specs.Pec.{pec}
use Rattle.pmb_bus.specs.Address.{write_address}
use Rattle.pmb_command.specs.declared.form.Form.{Form}
use Rattle.pmb_command.specs.Parts.{DeviceParts}
pub use Rattle.pmb_command.specs.Forms.{forms, shape_of}
use Rattle.pmb_command.specs.PecMode.{AllowsPec}
use Rattle.pmb_command.specs.Wire.{Fits, wire}
use Rattle.pmb_transaction.specs.Transaction.{PartData}

-- Bytes, and after them, where one is asked for, the packet error code (SMBus 3.0 section 6.4) over
-- all bytes so far: those `before` and these.
abbrev pub checked : Bool → List ℕ → List ℕ → List ℕ
checked false before bytes = bytes
checked true before bytes = bytes ++ pec (before ++ bytes) ∷ []

-- The bytes are those of `longer` with one or more left out at the end.
pub record IsProperPrefix (bytes : List ℕ) (longer : List ℕ) : Type 0 where
  pub next : ℕ
  pub rest : List ℕ
  pub split : longer ≡ bytes ++ next ∷ rest

module _ (device : DeviceParts) where
  -- A write body is the code, the data in the form in which the command is written, and the packet
  -- error code where the part carries one. That covers the part's own address byte and its body.
  pub record WriteBody (code : ℕ) (bytes : List ℕ) (with_pec : Bool) (body : List ℕ) : Type 0 where
    pub form : Form
    pub written : (forms device code).write ≡ Some form
    pub fits : Fits form bytes
    pub mode : AllowsPec device.pec with_pec
    pub spelled : body ≡ checked with_pec (write_address device.address ∷ []) (code ∷ wire form bytes)

  -- A read body is the code alone, of a command that is read in the form.
  pub record ReadBody (code : ℕ) (form : Form) (body : List ℕ) : Type 0 where
    pub read : (forms device code).read ≡ Some form
    pub spelled : body ≡ code ∷ []

  -- A call body is the code and the data in the form in which the command is called.
  pub record CallBody (code : ℕ) (form : Form) (bytes : List ℕ) (body : List ℕ) : Type 0 where
    pub called : (forms device code).call ≡ Some form
    pub fits : Fits form bytes
    pub spelled : body ≡ code ∷ wire form bytes

  -- a body of each sort
  abbrev pub IsWriteBody : List ℕ → Type 0
  IsWriteBody body = (code : ℕ) × (bytes : List ℕ) × (with_pec : Bool) × WriteBody code bytes with_pec body

  abbrev pub IsReadBody : List ℕ → Type 0
  IsReadBody body = (code : ℕ) × (form : Form) × ReadBody code form body

  abbrev pub IsCallBody : List ℕ → Type 0
  IsCallBody body = (code : ℕ) × (form : Form) × (bytes : List ℕ) × CallBody code form bytes body

  -- a body that asks for a reply
  abbrev pub IsRequest : List ℕ → Type 0
  IsRequest body = IsReadBody body ⊎ IsCallBody body

  -- the form of the reply for which it asks
  abbrev pub IsFormOfRequest : Form → List ℕ → Type 0
  IsFormOfRequest form body = ((code : ℕ) × ReadBody code form body)
      ⊎ ((code : ℕ) × (bytes : List ℕ) × CallBody code form bytes body)

  -- A body that is allowed in a leg after some parts: in the first leg one of any sort, in a later
  -- one a write body.
  abbrev pub Allowed : List PartData → List ℕ → Type 0
  Allowed [] body = IsWriteBody body ⊎ IsRequest body
  Allowed (part ∷ parts) body = IsWriteBody body

  -- bytes that begin a body allowed after some parts: none of them, or some, or all
  abbrev pub BeginsBody : List PartData → List ℕ → Type 0
  BeginsBody parts bytes = (bytes ≡ []) ⊎ ((body : List ℕ) × (rest : List ℕ) × Allowed parts body
      × (body ≡ bytes ++ rest))

  -- and that are not all of it
  abbrev pub IsInsideBody : List PartData → List ℕ → Type 0
  IsInsideBody parts bytes = (bytes ≡ []) ⊎ ((body : List ℕ) × Allowed parts body × IsProperPrefix bytes body)
