-- What stands in a common line: the words of a write of one part or of a read, as the line of its transaction has them.
use Rattle.std.specs.Prelude.{◌≡◌, ℕ, Bool, List, ◌++◌, codes, map}
use Rattle.std.specs.List.{flat_map}
use Rattle.pmb_command.specs.Wire.{AreByteValues}
use Rattle.pmb_transaction.specs.Transaction.{PartData, TransactionData}
use Rattle.pmb_line.specs.declared.token.Token.{Token}
use Rattle.pmb_line.specs.declared.token.Token.TheVariants.{Pec}
use Rattle.pmb_line.specs.Token.{token_text}
use Rattle.pmb_line.specs.Spelling.{ArePartBytes, HasBytes, HasLine, bytes, line, mark, part}

-- words with a space before each
abbrev pub after_spaces : List Token → List ℕ
after_spaces tokens = flat_map (λ word. codes " " ++ word) (map token_text tokens)

-- bytes, and `pec` where it follows
pub record IsData (text body : List ℕ) (pec : Bool) : Type 0 where
  pub small : AreByteValues body
  pub text_is : text ≡ after_spaces (bytes body ++ mark Pec pec)

-- a part
pub record IsPart (text : List ℕ) (p : PartData) : Type 0 where
  pub small : ArePartBytes p
  pub text_is : text ≡ after_spaces (part p)

-- the whole line of a transaction
pub record IsLineOf (text : List ℕ) (t : TransactionData) : Type 0 where
  pub has_line : HasLine t
  pub small : HasBytes t
  pub text_is : text ≡ line t
