-- What contracts see of an answer under way.
use Rattle.std.specs.Prelude.{◌≡◌, ℕ, Bool, List, [], ◌∷◌}
use Rattle.pmb_bus.specs.Pec.{pec}
use Rattle.pmb_bus.specs.Address.{alert_address, read_address}
use Rattle.pmb_command.specs.declared.form.Form.{Form}
use Rattle.pmb_command.specs.declared.pec_mode.PecMode.{PecMode}
use Rattle.pmb_command.specs.PecMode.{AllowsPec}
use Rattle.pmb_command.specs.Wire.{IsByte, Fits, wire}
use Rattle.pmb_transaction.specs.Body.{checked}
pub use Rattle.pmb_transaction.specs.Viable.{SaysAnswer}

-- What an answer has to be: data in a form, and a packet error code where the mode allows one. That
-- covers bytes before the answer too, whose own code is this number.
pub record Expected : Type 0 where
  pub form : Form
  pub mode : PecMode
  pub code : ℕ

-- An answer under way: what it has to be, and its bytes so far.
pub record Answered : Type 0 where
  pub expected : Expected
  pub bytes : List ℕ

-- The bytes say a reply, with or without a packet error code.
pub record SaysReply (expected : Expected) (reply : List ℕ) (with_pec : Bool) (bytes : List ℕ) : Type 0 where
  pub fits : Fits expected.form reply
  pub mode : AllowsPec expected.mode with_pec
  pub before : List ℕ
  pub code : pec before ≡ expected.code
  pub spelled : bytes ≡ checked with_pec before (wire expected.form reply)

-- the bytes are an answer
abbrev pub IsReply : Expected → List ℕ → Type 0
IsReply expected bytes = (reply : List ℕ) × (with_pec : Bool) × SaysReply expected reply with_pec bytes

-- The bytes of an answer at the Alert Response Address say a byte.
pub record SaysAlert (reply : List ℕ) (with_pec : Bool) (bytes : List ℕ) : Type 0 where
  pub byte : ℕ
  pub small : IsByte byte
  pub only : reply ≡ byte ∷ []
  pub spelled : bytes ≡ checked with_pec (read_address alert_address ∷ []) (byte ∷ [])
