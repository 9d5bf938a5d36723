-- What contracts see of a written leg, and what its bytes say.
use Rattle.std.specs.Prelude.{◌≡◌, ℕ, Bool, false, ◌||◌, Option, Some, None, is_some, List, [], ◌∷◌}
use Rattle.pmb_command.specs.declared.form.Form.{Form}
use Rattle.pmb_command.specs.declared.form.Shape.{Shape}
use Rattle.pmb_command.specs.Parts.{DeviceParts}
use Rattle.pmb_transaction.specs.Transaction.{PartData}
use Rattle.pmb_transaction.specs.Body.{ReadBody, CallBody}
pub use Rattle.pmb_transaction.specs.Body.{IsRequest}
use Rattle.pmb_leg.specs.declared.place.LegPlace.{LegPlace}
use Rattle.pmb_leg.specs.declared.place.LegPlace.TheVariants.{First, Later}
use Rattle.pmb_leg.specs.declared.content.Asked.{Asked}
use Rattle.pmb_leg.specs.declared.content.Asked.TheVariants.{Read, Call}

-- A leg in which bytes are written to a device: which leg of the packet it is, and the bytes that
-- were taken after the address.
pub record Written : Type 0 where
  pub device : DeviceParts
  pub place : LegPlace
  pub bytes : List ℕ

-- the place of a leg after complete parts
abbrev pub place_of : List PartData → LegPlace
place_of [] = First
place_of (part ∷ parts) = Later

-- What is asked of a device is what the bytes of a body say.
abbrev pub Asks : DeviceParts → List ℕ → Asked → Type 0
Asks device body (Read code) = (form : Form) × ReadBody device code form body
Asks device body (Call code bytes) = (form : Form) × CallBody device code form bytes.now body

-- what the leg asks, which is something in the first leg alone
abbrev pub IsAsked : Written → Option Asked → Type 0
IsAsked leg None = leg.place ≡ First → IsRequest leg.device leg.bytes → ⊥
IsAsked leg (Some asked) = (leg.place ≡ First) × Asks leg.device leg.bytes asked

-- a body that is allowed there begins with the code of a command of these forms
abbrev pub begins_with : Shape → LegPlace → Bool
begins_with shape First = is_some shape.write || (is_some shape.read || is_some shape.call)
begins_with shape Later = is_some shape.write

-- the form of a call, which a first leg alone may be
abbrev pub call_form : LegPlace → Shape → Option Form
call_form First shape = shape.call
call_form Later shape = None

-- A command of these forms is read by its code alone, and nothing stands after that.
abbrev pub is_read : Shape → List ℕ → Bool
is_read shape [] = is_some shape.read
is_read shape (byte ∷ behind) = false

-- The form of the reply to a body: that of a read where the body is the code alone.
abbrev pub reply_form : Shape → List ℕ → Option Form
reply_form shape [] = shape.call
reply_form shape (code ∷ []) = shape.read
reply_form shape (code ∷ byte ∷ behind) = shape.call
