-- What a written body asks for, and how that is answered: the form of the reply, and the packet
-- error code over both legs. For `WrittenLeg::ask`. A body asks in one form, so the answer that is
-- expected says the replies that the definitions allow.
use Rattle.std.proofs.Common.{◌≡◌, ℕ, ◌↔◌, inl, inr, Bool, true, Option, Some, List, [], ◌∷◌, ◌++◌, length, sym, ap}
use Rattle.std.proofs.Common.{subst, ◌∙◌, arith}
use Rattle.pmb_bus.specs.Pec.{pec}
use Rattle.pmb_bus.specs.Address.{read_address, write_address}
use Rattle.pmb_command.specs.declared.form.Form.{Form}
use Rattle.pmb_command.specs.declared.form.Form.TheVariants.{Zero, One, Two, Four, Eight, Block}
use Rattle.pmb_command.specs.declared.form.Shape.{Shape}
use Rattle.pmb_command.specs.Fitting.{calls_fit}
use Rattle.pmb_command.specs.Parts.{DeviceParts}
use Rattle.pmb_command.specs.Wire.{Fits, wire}
use Rattle.pmb_transaction.specs.Body.{checked, forms, ReadBody, CallBody, IsFormOfRequest, IsRequest}
use Rattle.pmb_transaction.specs.Viable.{IsAnswer, SaysAnswer}
use Rattle.pmb_leg.specs.Leg.{reply_form}
use Rattle.pmb_leg.specs.Reply.{Expected, IsReply, SaysReply}
use Rattle.pmb_leg.specs.machine.Answers.{CountsAlone}
use Rattle.pmb_leg.specs.machine.Legs.{IsKeptLeg, Kept}
use Rattle.pmb_leg.proofs.Replies.{said, says}

-- a call has data
call_goes_on : (form : Form) (sent : List ℕ) → calls_fit (Some form) ≡ true → Fits form sent → wire form sent ≡ [] → ⊥
call_goes_on Zero sent fit fits none = cc fit
call_goes_on One sent fit fits none = cc fit
call_goes_on Two sent fit fits none = omega (arith, fits.taken, ap length none)
call_goes_on Four sent fit fits none = cc fit
call_goes_on Eight sent fit fits none = cc fit
call_goes_on Block sent fit fits none = omega (arith, ap length none)

some_form : (a b : Form) (o : Option Form) → o ≡ Some a → o ≡ Some b → a ≡ b
some_form a b o first second = cc (first, second)

module _ (device : DeviceParts) (code : ℕ) (shape : Shape) (is : shape ≡ forms device code)
    (called : calls_fit shape.call ≡ true) where
  -- the form of the reply is that for which a body asks
  form_of_read : (behind : List ℕ) (form : Form) (c : ℕ) → ReadBody device c form (code ∷ behind)
      → reply_form shape (code ∷ behind) ≡ Some form
  form_of_read behind form c read =
      let same : code ≡ c = cc (read.spelled) in
      let none : behind ≡ [] = cc (read.spelled) in
      ap (λ (bs : List ℕ). reply_form shape (code ∷ bs)) none ∙ ap (λ (s : Shape). s.read) is
      ∙ ap (λ (n : ℕ). (forms device n).read) same ∙ read.read

  form_of_call : (behind : List ℕ) (form : Form) (c : ℕ) (sent : List ℕ) → CallBody device c form sent (code ∷ behind)
      → reply_form shape (code ∷ behind) ≡ Some form
  form_of_call [] form c sent call =
      let same : code ≡ c = cc (call.spelled) in
      let none : [] ≡ wire form sent = cc (call.spelled) in
      let has : shape.call ≡ Some form = ap (λ (s : Shape). s.call) is ∙ ap (λ (n : ℕ). (forms device n).call) same
      ∙ call.called in
      absurd (call_goes_on form sent (subst (λ (o : Option Form). calls_fit o ≡ true) has called) call.fits (sym none))
  form_of_call (byte ∷ behind) form c sent call =
      let same : code ≡ c = cc (call.spelled) in
      ap (λ (s : Shape). s.call) is ∙ ap (λ (n : ℕ). (forms device n).call) same ∙ call.called

  form_of : (behind : List ℕ) (form : Form) → IsFormOfRequest device form (code ∷ behind)
      → reply_form shape (code ∷ behind) ≡ Some form
  form_of behind form (inl (c, read)) = form_of_read behind form c read
  form_of behind form (inr (c, sent, call)) = form_of_call behind form c sent call

  asked : (behind : List ℕ) → IsRequest device (code ∷ behind)
      → (form : Form) × IsFormOfRequest device form (code ∷ behind)
  asked behind (inl (c, form, read)) = (form, inl (c, read))
  asked behind (inr (c, form, sent, call)) = (form, inr (c, sent, call))

  asks_for : (behind : List ℕ) (form : Form) → IsRequest device (code ∷ behind)
      → reply_form shape (code ∷ behind) ≡ Some form → IsFormOfRequest device form (code ∷ behind)
  asks_for behind form request has =
      let w = asked behind request in
      subst (λ (f : Form). IsFormOfRequest device f (code ∷ behind))
      (some_form w.0 form (reply_form shape (code ∷ behind)) (form_of behind w.0 w.1) has) w.1

  module _ (behind : List ℕ) (form : Form) (request : IsRequest device (code ∷ behind))
      (has : reply_form shape (code ∷ behind) ≡ Some form)
      (number : ℕ) (alike : CountsAlone (write_address device.address ∷ (code ∷ behind) ++ read_address device.address
      ∷ []))
      (so_far : pec (write_address device.address ∷ (code ∷ behind) ++ read_address device.address ∷ []) ≡ number) where
    abbrev before : List ℕ
    before = write_address device.address ∷ (code ∷ behind) ++ read_address device.address ∷ []

    abbrev expected : Expected
    expected = record { form = form; mode = device.pec; code = number }

    answer_said : (reply : List ℕ) (with_pec : Bool) (all : List ℕ) → SaysReply expected reply with_pec all
        → SaysAnswer device device.address (code ∷ behind) reply with_pec all
    answer_said reply with_pec all reply_is =
        let spells = said form device.pec number before alike so_far reply with_pec all reply_is in
        record {
          form = form;
          asked = asks_for behind form request has;
          fits = spells.fits;
          mode =
              spells.allowed;
          spelled = spells.spelled;
        }

    said_answer : (reply : List ℕ) (with_pec : Bool) (all : List ℕ)
        → SaysAnswer device device.address (code ∷ behind) reply with_pec all → SaysReply expected reply with_pec all
    said_answer reply with_pec all answer =
        let same : answer.form ≡ form = some_form answer.form form (reply_form shape (code ∷ behind))
        (form_of behind answer.form answer.asked) has in
        let fits : Fits form reply = subst (λ (f : Form). Fits f reply) same answer.fits in
        says form device.pec number before alike so_far reply with_pec all
        (record {
          fits = fits;
          allowed = answer.mode;
          spelled = answer.spelled
              ∙ ap (λ (f : Form). checked with_pec before (wire f reply)) same;
        })

    pub says_answer : (reply : List ℕ) (with_pec : Bool) (all : List ℕ)
        → SaysReply expected reply with_pec all ↔ SaysAnswer device device.address (code ∷ behind) reply with_pec all
    says_answer reply with_pec all = (answer_said reply with_pec all, said_answer reply with_pec all)

    answer_is : (all : List ℕ) → IsReply expected all → IsAnswer device device.address (code ∷ behind) all
    answer_is all (reply, with_pec, says) = (reply, with_pec, answer_said reply with_pec all says)

    reply_is : (all : List ℕ) → IsAnswer device device.address (code ∷ behind) all → IsReply expected all
    reply_is all (reply, with_pec, says) = (reply, with_pec, said_answer reply with_pec all says)

    pub is_answer : (all : List ℕ) → IsReply expected all ↔ IsAnswer device device.address (code ∷ behind) all
    is_answer all = (answer_is all, reply_is all)

-- ---- by what the code keeps of a leg

no_request : (device : DeviceParts) → IsRequest device [] → ⊥
no_request device (inl (c, form, read)) = omega (arith, ap length read.spelled)
no_request device (inr (c, form, sent, call)) = omega (arith, ap length call.spelled)

module _ (leg : Kept) (form : Form) (number : ℕ) (alike : (bytes : List ℕ) → CountsAlone bytes)
    (goes_on : (bytes : List ℕ) → pec bytes ≡ leg.crc
    → number ≡ pec (bytes ++ read_address leg.device.address ∷ [])) where
  pub leg_says : (bytes : List ℕ) → IsKeptLeg leg bytes → IsRequest leg.device bytes
      → reply_form leg.shape bytes ≡ Some form → (reply : List ℕ) (with_pec : Bool) (all : List ℕ)
      → SaysReply (record { form = form; mode = leg.device.pec; code = number }) reply with_pec all
      ↔ SaysAnswer leg.device leg.device.address bytes reply with_pec all
  leg_says [] is request has = absurd (no_request leg.device request)
  leg_says (code ∷ behind) is request has =
      says_answer leg.device code leg.shape is.shape_is is.called_with_data behind form request has number
      (alike (write_address leg.device.address ∷ (code ∷ behind) ++ read_address leg.device.address ∷ []))
      (sym (goes_on (write_address leg.device.address ∷ code ∷ behind) is.crc))

  pub leg_answers : (bytes : List ℕ) → IsKeptLeg leg bytes → IsRequest leg.device bytes
      → reply_form leg.shape bytes ≡ Some form → (all : List ℕ)
      → IsReply (record { form = form; mode = leg.device.pec; code = number }) all
      ↔ IsAnswer leg.device leg.device.address bytes all
  leg_answers [] is request has = absurd (no_request leg.device request)
  leg_answers (code ∷ behind) is request has =
      is_answer leg.device code leg.shape is.shape_is is.called_with_data behind form request has number
      (alike (write_address leg.device.address ∷ (code ∷ behind) ++ read_address leg.device.address ∷ []))
      (sym (goes_on (write_address leg.device.address ∷ code ∷ behind) is.crc))
