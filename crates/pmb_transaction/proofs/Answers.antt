-- The bytes of answers: a device has some answer to each body that asks, an answer has a byte, and
-- how far a leg that is read has come in one. For Replies, Alerts and ReadLegs, and so for laws
-- such as `replies_go_on` and `reads_are_packets`. A leg's events tell its bytes, and each answer
-- begins with those that were read so far.
use Rattle.std.proofs.Common.{◌≡◌, ℕ, ◌<◌, inl, inr, Bool, true, false, Some, List, [], ◌∷◌, ◌++◌, refl, sym, ap, ◌∙◌}
use Rattle.std.proofs.Common.{subst, append_assoc, arith}
use Rattle.std.proofs.lemmas.List.{same_from_push}
use Rattle.pmb_bus.specs.declared.event.Event.TheVariants.{Byte, Nack}
use Rattle.pmb_bus.specs.Address.{write_address, read_address}
use Rattle.pmb_command.specs.declared.form.Form.{Form}
use Rattle.pmb_command.specs.declared.form.Form.TheVariants.{Zero, One, Two, Four, Eight, Block}
use Rattle.pmb_command.specs.declared.pec_mode.PecMode.{PecMode}
use Rattle.pmb_command.specs.declared.pec_mode.PecMode.TheVariants.{Off, On, Optional}
use Rattle.pmb_command.specs.Bus.{IsBus, IsDevice}
use Rattle.pmb_command.specs.Fitting.{same_form}
use Rattle.pmb_command.specs.Parts.{DeviceParts, device_with}
use Rattle.pmb_command.specs.PecMode.{AllowsPec}
use Rattle.pmb_command.specs.Wire.{Fits, wire}
use Rattle.pmb_transaction.specs.Body.{IsProperPrefix, checked, IsRequest, IsFormOfRequest}
use Rattle.pmb_transaction.specs.Packet.{acked, leg, nacked}
use Rattle.pmb_transaction.specs.Viable.{AnswerBegins, IsAnswer, answer_taken, answer_sent}
use Rattle.pmb_transaction.proofs.Completions.{nacked_append}
use Rattle.pmb_transaction.proofs.Data.{checked_is, code_behind, first_byte}
use Rattle.pmb_transaction.proofs.Known.{call_has_data, device_is, read_has_data}
use Rattle.pmb_transaction.proofs.Starts.{all_answered, none_refused, one_row_of_bytes, one_row_of_refused}

-- ---- bytes of an answer

-- bytes of which there is one
pub record HasByte (bytes : List ℕ) : Type 0 where
  pub first : ℕ
  pub rest : List ℕ
  pub split : bytes ≡ first ∷ rest

-- with a packet error code after them there is one too
pub checked_has_byte : (with_pec : Bool) (before bytes : List ℕ) → HasByte bytes
    → HasByte (checked with_pec before bytes)
checked_has_byte with_pec before bytes is = record {
  first = is.first;
  rest = is.rest ++ code_behind with_pec before bytes;
  split = checked_is with_pec before bytes ∙ ap (λ (bs : List ℕ). bs ++ code_behind with_pec before bytes) is.split;
}

pub wire_has_byte : (form : Form) (bytes : List ℕ) → Fits form bytes → same_form form Zero ≡ false
    → HasByte (wire form bytes)
wire_has_byte form bytes fits some =
    let w = first_byte form bytes fits some in
    record { first = w.0; rest = w.1; split = w.2 }

-- the form of a body that asks has data
pub asked_has_data : (device : DeviceParts) (form : Form) (body : List ℕ) → IsDevice device
    → IsFormOfRequest device form body
    → same_form form Zero ≡ false
asked_has_data device form body is (inl w) = read_has_data device w.0 form is w.1.read
asked_has_data device form body is (inr w) = call_has_data device w.0 form is w.2.called

-- an answer has a byte
pub answer_has_byte : (profile : List DeviceParts) → IsBus profile
    → (addr : ℕ) (device : DeviceParts) (body answer : List ℕ)
    → device_with addr profile ≡ Some device → IsAnswer device addr body answer → HasByte answer
answer_has_byte profile bus addr device body answer known answers =
    let is = device_is profile addr device bus known in
    let reply = answers.0 in
    let says = answers.2 in
    let some = asked_has_data device says.form body is.0 says.asked in
    subst HasByte (sym says.spelled)
    (
    checked_has_byte answers.1 (write_address addr ∷ body ++ read_address addr ∷ []) (wire says.form reply)
    (wire_has_byte says.form reply says.fits some)
    )

-- ---- some answer

-- zeros of a form
abbrev zeros : Form → List ℕ
zeros Zero = []
zeros One = 0 ∷ []
zeros Two = 0 ∷ 0 ∷ []
zeros Four = 0 ∷ 0 ∷ 0 ∷ 0 ∷ []
zeros Eight = 0 ∷ 0 ∷ 0 ∷ 0 ∷ 0 ∷ 0 ∷ 0 ∷ 0 ∷ []
zeros Block = []

zero_is_byte : 0 < 256
zero_is_byte = omega arith

zeros_fit : (form : Form) → Fits form (zeros form)
zeros_fit Zero = record { small = tt; taken = refl }
zeros_fit One = record { small = (zero_is_byte, tt); taken = refl }
zeros_fit Two = record { small = (zero_is_byte, (zero_is_byte, tt)); taken = refl }
zeros_fit Four = record { small = (zero_is_byte, (zero_is_byte, (zero_is_byte, (zero_is_byte, tt)))); taken = refl }
zeros_fit Eight = record {
  small = (
    zero_is_byte,
    (
      zero_is_byte,
      (
        zero_is_byte,
        (zero_is_byte, (zero_is_byte, (zero_is_byte, (zero_is_byte, (zero_is_byte, tt))))),
      ),
    ),
  );
  taken = refl;
}
zeros_fit Block = record { small = tt; taken = omega arith }

-- what a mode allows
some_pec : (mode : PecMode) → (with_pec : Bool) × AllowsPec mode with_pec
some_pec Off = (false, refl)
some_pec On = (true, refl)
some_pec Optional = (false, tt)

-- the form in which a body asks
asked_in : (device : DeviceParts) (body : List ℕ) → IsRequest device body
    → (form : Form) × IsFormOfRequest device form body
asked_in device body (inl w) = (w.1, inl (w.0, w.2))
asked_in device body (inr w) = (w.1, inr (w.0, w.2, w.3))

-- a device has some answer to a body that asks
pub some_answer : (device : DeviceParts) (addr : ℕ) (body : List ℕ) → IsRequest device body
    → (answer : List ℕ) × IsAnswer device addr body answer
some_answer device addr body is =
    let asked = asked_in device body is in
    let mode = some_pec device.pec in (
      checked mode.0 (write_address addr ∷ body ++ read_address addr ∷ []) (wire asked.0 (zeros asked.0)),
      (
        zeros asked.0,
        mode.0,
        record {
          form = asked.0;
          asked = asked.1;
          fits = zeros_fit asked.0;
          mode =
              mode.1;
          spelled = refl;
        },
      ),
    )

-- ---- how far a leg has come

-- to a byte that is not answered yet
pub sent_of_answer : (address other : ℕ) (answer bytes : List ℕ) (byte : ℕ)
    → AnswerBegins other answer (leg (address ∷ bytes) ++ Byte byte ∷ [])
    → (rest : List ℕ) × (answer ≡ (bytes ++ byte ∷ []) ++ rest)
sent_of_answer address other answer bytes byte (answer_taken front fewer is) =
    let rest : acked front ≡ acked bytes ++ Byte byte ∷ [] = cc is in
    absurd (all_answered front bytes byte rest)
sent_of_answer address other answer bytes byte (answer_sent front last rest split is) =
    let row : acked front ++ Byte last ∷ [] ≡ acked bytes ++ Byte byte ∷ [] = cc is in
    let ends = same_from_push (acked front) (acked bytes) (Byte last) (Byte byte) row in
    let same_byte : last ≡ byte = cc (ends.1) in
    let same_bytes : front ≡ bytes = one_row_of_bytes front bytes ends.0 in (
      rest,
      split
          ∙ ap (λ (bs : List ℕ). bs ++ last ∷ rest) same_bytes
          ∙ ap (λ (b : ℕ). bytes ++ b ∷ rest) same_byte
          ∙ sym (append_assoc bytes (byte ∷ []) rest),
    )

-- or to a byte that was taken
pub taken_of_answer : (address other : ℕ) (answer bytes : List ℕ) → AnswerBegins other answer (leg (address ∷ bytes))
    → IsProperPrefix bytes answer
taken_of_answer address other answer bytes (answer_taken front fewer is) =
    let rest : acked front ≡ acked bytes = cc is in
    let same_bytes : front ≡ bytes = one_row_of_bytes front bytes rest in
    subst (λ (bs : List ℕ). IsProperPrefix bs answer) same_bytes fewer
taken_of_answer address other answer bytes (answer_sent front last rest split is) =
    let row : acked bytes ≡ acked front ++ Byte last ∷ [] = cc is in
    absurd (all_answered bytes front last row)

-- to the end
pub all_of_answer : (answer bytes : List ℕ) (byte : ℕ) → acked bytes ++ Byte byte ∷ Nack ∷ [] ≡ nacked answer
    → answer ≡ bytes ++ byte ∷ []
all_of_answer answer bytes byte same = one_row_of_refused answer (bytes ++ byte ∷ [])
    (sym same ∙ sym (nacked_append bytes byte []))

-- where its last byte was taken, it has not come to the end
pub no_end_taken : (answer bytes : List ℕ) → HasByte answer → acked bytes ≡ nacked answer → ⊥
no_end_taken answer bytes is same = none_refused is.first is.rest bytes (ap nacked (sym is.split) ∙ sym same)
