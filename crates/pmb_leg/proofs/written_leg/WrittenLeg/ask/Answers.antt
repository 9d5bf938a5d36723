use Rattle.std.proofs.Common.{◌≡◌, ◌∷◌, ◌++◌, [], List, ℕ, Some, sym, ap, subst, ◌∙◌, arith}
use Rattle.pmb_bus.specs.Pec.{pec}
use Rattle.pmb_bus.specs.Address.{read_address}
use Rattle.pmb_transaction.specs.Body.{IsRequest}
use Rattle.pmb_leg.specs.Leg.{Written, reply_form}
use Rattle.pmb_leg.specs.machine.Answers.{CountsAlone}
use Rattle.pmb_leg.specs.machine.Legs.{kept}
use Rattle.pmb_leg.proofs.Asking.{leg_answers, leg_says}
use Rattle.pmb_leg.proofs.written_leg.WrittenLeg.ask.Goals as goal
use Rattle.pmb_leg.proofs.written_leg.WrittenLeg.ask.Goals.{After-restart}

-- the byte that is sent to read the device
read_byte : (c : After-restart) → c.read_address.result ≡ read_address c.self.inside.device.now.address
read_byte c = omega (arith, c.address.ensures.address, c.address.ensures.seven_bits, c.read_address.ensures.low_bits)

-- the code over the read address too
goes_on : (c : After-restart) (bytes : List ℕ) → pec bytes ≡ c.self.inside.crc
    → c.pec_next-code.result ≡ pec (bytes ++ read_address c.self.inside.device.now.address ∷ [])
goes_on c bytes so_far =
    c.pec_next-code.ensures.goes_on bytes so_far ∙ ap (λ (b : ℕ). pec (bytes ++ b ∷ [])) (read_byte c)

alike : (c : After-restart) (bytes : List ℕ) → CountsAlone bytes
alike c bytes others more same = c.pec_is_all_that_counts.ensures others bytes more same

request : (c : After-restart) → IsRequest c.self.inside.device.now c.self.inside.bytes.items
request c =
    let P : Written → Type 0 = λ (leg : Written). IsRequest leg.device leg.bytes in
    subst P (sym c.self.view_is) c.requires.asked

has_form : (c : After-restart) → reply_form c.self.inside.forms c.self.inside.bytes.items ≡ Some c.in-Some.form
has_form c = ap (reply_form c.self.inside.forms) (sym c.as_slice.ensures.value) ∙ sym c.reply_form-form.ensures
    ∙ c.in-Some.is

pub returns-in-Some-clause-answers : goal.returns-in-Some-clause-answers
returns-in-Some-clause-answers c all =
    rw (← c.self.view_is, c.restart.ensures, c.pec.ensures)
    (leg_answers (kept c.self.inside) c.in-Some.form c.pec_next-code.result (alike c)
    (goes_on c) c.self.inside.bytes.items c.self.invariant (request c) (has_form c) all)

pub returns-in-Some-clause-says : goal.returns-in-Some-clause-says
returns-in-Some-clause-says c reply with_pec all =
    rw (← c.self.view_is, c.restart.ensures, c.pec.ensures)
    (leg_says (kept c.self.inside) c.in-Some.form c.pec_next-code.result (alike c) (goes_on c) c.self.inside.bytes.items
    c.self.invariant (request c) (has_form c) reply with_pec all)
