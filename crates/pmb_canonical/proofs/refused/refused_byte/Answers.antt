use Rattle.std.proofs.Common.{◌≡◌, ◌<◌, ℕ, [], ◌∷◌, length, sym, ap, subst, ◌∙◌, arith, length-append}
use Rattle.std.proofs.lemmas.Option.{same_Some}
use Rattle.pmb_bus.specs.Address.{write_address}
use Rattle.pmb_command.specs.Parts.{DeviceParts}
use Rattle.pmb_transaction.specs.Body.{IsInsideBody}
use Rattle.pmb_canonical.proofs.Beginnings.{not_there}
use Rattle.pmb_canonical.proofs.Ends.{same_ends}
use Rattle.pmb_canonical.proofs.refused.refused_byte.Goals as goal

pub returns-clause-says : goal.returns-clause-says
returns-clause-says c parts many =
    let device = c.in_ok-device.device.now in
    let address : c.address.result ≡ device.address = c.address.ensures.address in
    rw address
    (record {
      device = device;
      known = c.in_ok-device.ensures.known.1;
      front = c.in-Some-split_last.front.now;
      last = c.in-Some-split_last.field-0-0.now;
      split = c.in-Some-split_last.ensures.cases.0;
      begins = (c.is_inside_body.ensures parts many).0 c.if-not-is_inside_body.false;
      spelled = c.in-Some.ensures.cases.0 ∙ ap (λ (b : ℕ). b ∷ c.in-Some.sent.now) c.in_ok-device.ensures.known.0;
    })

pub returns-clause-few : goal.returns-clause-few
returns-clause-few c parts many =
    let front = c.in-Some-split_last.front.now in
    let begins = (c.is_inside_body.ensures parts many).0 c.if-not-is_inside_body.false in
    omega (
      arith,
      c.bodies_are_short.ensures.front c.in_ok-device.device.now parts front begins,
      ap length c.in-Some-split_last.ensures.cases.0,
      length-append front (c.in-Some-split_last.field-0-0.now ∷ []),
    )

pub returns-in_default-clause-found : goal.returns-in_default-clause-found
returns-in_default-clause-found c parts address sent many says =
    absurd (not_there c.split_first.result (c.split_first.ensures.variant.1 (omega (arith, ap length says.spelled)))
    c.in_default.not-Some)

pub returns-in_default-split_last-clause-found : goal.returns-in_default-split_last-clause-found
returns-in_default-split_last-clause-found c parts address sent many says =
    let some : 0 < length c.in-Some.sent.now =
    omega (
      arith,
      ap length c.in-Some.ensures.cases.0,
      ap length says.spelled,
      ap length says.split,
      length-append says.front (says.last ∷ []),
    ) in
    absurd (not_there c.split_last.result (c.split_last.ensures.variant.1 some) c.in_default-split_last.not-Some)

pub returns-in_err-device-clause-found : goal.returns-in_err-device-clause-found
returns-in_err-device-clause-found c parts address sent many says =
    let spelled : c.in-Some.to_write.now ∷ c.in-Some.sent.now ≡ write_address address ∷ sent =
    sym c.in-Some.ensures.cases.0 ∙ says.spelled in
    let first : c.in-Some.to_write.now ≡ write_address address = cc spelled in
    absurd (cc (c.in_err-device.ensures.found address says.device first says.known))

pub returns-then-not-is_inside_body-clause-found : goal.returns-then-not-is_inside_body-clause-found
returns-then-not-is_inside_body-clause-found c parts address sent many says =
    let front = c.in-Some-split_last.front.now in
    let spelled : c.in-Some.to_write.now ∷ c.in-Some.sent.now ≡ write_address address ∷ sent =
    sym c.in-Some.ensures.cases.0 ∙ says.spelled in
    let first : c.in-Some.to_write.now ≡ write_address address = cc spelled in
    let tail : c.in-Some.sent.now ≡ sent = cc spelled in
    let device : c.in_ok-device.device.now ≡ says.device =
    same_Some c.in_ok-device.device.now says.device
    (c.in_ok-device.ensures.found address says.device first says.known) in
    let ends = same_ends front says.front c.in-Some-split_last.field-0-0.now says.last
    (sym c.in-Some-split_last.ensures.cases.0 ∙ tail ∙ says.split) in
    let begins : IsInsideBody c.in_ok-device.device.now parts front =
    subst (λ (d : DeviceParts). IsInsideBody d parts front) (sym device)
    (subst (IsInsideBody says.device parts) (sym ends.0) says.begins) in
    absurd (cc ((c.is_inside_body.ensures parts many).1 begins, c.if-not-is_inside_body.true))
