-- What each word leads to, where a reader of words stands.
use Rattle.std.specs.Prelude.{ℕ, Option, Some, None}
use Rattle.pmb_line.specs.declared.token.Token.{Token}
use Rattle.pmb_line.specs.declared.token.Token.TheVariants.{Byte, Write, Read, Call, Refused, Alert, Nobody, Pec, Plus}
use Rattle.pmb_line.specs.declared.token.Token.TheVariants.{Colon}

-- The place after each word; `other` is after a word that says no token.
pub record NextWord (S : Type 0) : Type 0 where
  pub byte : ℕ → Option S
  pub write : Option S
  pub read : Option S
  pub call : Option S
  pub refused : Option S
  pub alert : Option S
  pub nobody : Option S
  pub pec : Option S
  pub plus : Option S
  pub colon : Option S
  pub other : Option S

-- the place after a word
abbrev pub after_word : {S : Type 0} → NextWord S → Option Token → Option S
after_word next (Some (Byte b)) = next.byte b
after_word next (Some Write) = next.write
after_word next (Some Read) = next.read
after_word next (Some Call) = next.call
after_word next (Some Refused) = next.refused
after_word next (Some Alert) = next.alert
after_word next (Some Nobody) = next.nobody
after_word next (Some Pec) = next.pec
after_word next (Some Plus) = next.plus
after_word next (Some Colon) = next.colon
after_word next None = next.other

-- each word leads to the same place
abbrev pub any_word : {S : Type 0} → Option S → NextWord S
any_word to = record {
  byte = λ b. to;
  write = to;
  read = to;
  call = to;
  refused = to;
  alert = to;
  nobody = to;
  pec =
      to;
  plus = to;
  colon = to;
  other = to;
}

-- no word fits
abbrev pub no_word : {S : Type 0} → NextWord S
no_word = any_word None

-- but a byte
abbrev pub on_byte : {S : Type 0} → Option Token → (ℕ → S) → Option S
on_byte token next = after_word (record no_word { byte = λ b. Some (next b) }) token

-- but `pec`
abbrev pub on_pec : {S : Type 0} → Option Token → S → Option S
on_pec token pec = after_word (record no_word { pec = Some pec }) token

-- but a byte, and `pec`
abbrev pub on_byte_or_pec : {S : Type 0} → Option Token → (ℕ → S) → S → Option S
on_byte_or_pec token more pec = after_word (record no_word { byte = λ b. Some (more b); pec = Some pec }) token
