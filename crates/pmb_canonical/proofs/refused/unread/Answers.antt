use Rattle.std.proofs.Common.{◌≡◌, ◌<◌, ℕ, inr, List, [], ◌∷◌, ◌++◌, length, sym, ap, subst, ◌∙◌, arith, length-append}
use Rattle.std.proofs.lemmas.Option.{same_Some}
use Rattle.pmb_bus.specs.Address.{read_address, write_address}
use Rattle.pmb_command.specs.Parts.{DeviceParts}
use Rattle.pmb_transaction.specs.Body.{IsRequest}
use Rattle.pmb_canonical.proofs.Beginnings.{not_there}
use Rattle.pmb_canonical.proofs.Ends.{same_ends}
use Rattle.pmb_canonical.proofs.Found.{address_of_found}
use Rattle.pmb_canonical.proofs.refused.unread.Goals as goal

pub returns-clause-says : goal.returns-clause-says
returns-clause-says c =
    let device = c.in_ok-device.device.now in
    let sent = c.in-Some-split_last.sent.now in
    let address : c.address-2.result ≡ device.address = c.address-2.ensures.address in
    let to_read : c.in-Some-split_last.to_read.now ≡ read_address device.address = omega arith in
    let behind : c.in-Some.behind.now ≡ sent ++ read_address device.address ∷ [] =
    c.in-Some-split_last.ensures.cases.0 ∙ ap (λ (b : ℕ). sent ++ b ∷ []) to_read in
    rw address
    (record {
      device = device;
      known = c.in_ok-device.ensures.known.1;
      body = c.is_request.ensures.0 c.if-not-is_request.false;
      first = omega (
        arith,
        c.requires,
        ap length c.in-Some.ensures.cases.0,
        ap length behind,
        length-append sent (read_address device.address ∷ []),
      );
      spelled = c.in-Some.ensures.cases.0
          ∙ ap (λ (b : ℕ). b ∷ c.in-Some.behind.now) c.in_ok-device.ensures.known.0
          ∙ ap (λ (l : List ℕ). write_address device.address ∷ l) behind;
    })

pub returns-clause-few : goal.returns-clause-few
returns-clause-few c =
    c.bodies_are_short.ensures.body c.in_ok-device.device.now [] c.in-Some-split_last.sent.now
    (inr (c.is_request.ensures.0 c.if-not-is_request.false))

pub returns-in_default-clause-found : goal.returns-in_default-clause-found
returns-in_default-clause-found c address sent says =
    absurd (not_there c.split_first.result (c.split_first.ensures.variant.1 (omega (arith, ap length says.spelled)))
    c.in_default.not-Some)

pub returns-in_default-split_last-clause-found : goal.returns-in_default-split_last-clause-found
returns-in_default-split_last-clause-found c address sent says =
    let some : 0 < length c.in-Some.behind.now =
    omega (
      arith,
      ap length c.in-Some.ensures.cases.0,
      ap length says.spelled,
      length-append sent (read_address address ∷ []),
    ) in
    absurd (not_there c.split_last.result (c.split_last.ensures.variant.1 some) c.in_default-split_last.not-Some)

pub returns-in_err-device-clause-found : goal.returns-in_err-device-clause-found
returns-in_err-device-clause-found c address sent says =
    let spelled : c.in-Some.to_write.now ∷ c.in-Some.behind.now ≡ write_address address
    ∷ (sent ++ read_address address ∷ []) = sym c.in-Some.ensures.cases.0 ∙ says.spelled in
    let first : c.in-Some.to_write.now ≡ write_address address = cc spelled in
    absurd (cc (c.in_err-device.ensures.found address says.device first says.known))

pub returns-then-to_read-read_address-clause-found : goal.returns-then-to_read-read_address-clause-found
returns-then-to_read-read_address-clause-found c address sent says =
    let spelled : c.in-Some.to_write.now ∷ c.in-Some.behind.now ≡ write_address address
    ∷ (sent ++ read_address address ∷ []) = sym c.in-Some.ensures.cases.0 ∙ says.spelled in
    let first : c.in-Some.to_write.now ≡ write_address address = cc spelled in
    let tail : c.in-Some.behind.now ≡ sent ++ read_address address ∷ [] = cc spelled in
    let device : c.in_ok-device.device.now ≡ says.device =
    same_Some c.in_ok-device.device.now says.device
    (c.in_ok-device.ensures.found address says.device first says.known) in
    let own : c.in_ok-device.device.now.address ≡ address =
    ap (λ (d : DeviceParts). d.address) device ∙ address_of_found address c.args.profile.now says.device says.known in
    let ends = same_ends c.in-Some-split_last.sent.now sent c.in-Some-split_last.to_read.now (read_address address)
    (sym c.in-Some-split_last.ensures.cases.0 ∙ tail) in
    absurd (omega (arith, own, ends.1))

pub returns-then-not-is_request-clause-found : goal.returns-then-not-is_request-clause-found
returns-then-not-is_request-clause-found c address sent says =
    let here = c.in-Some-split_last.sent.now in
    let spelled : c.in-Some.to_write.now ∷ c.in-Some.behind.now ≡ write_address address
    ∷ (sent ++ read_address address ∷ []) = sym c.in-Some.ensures.cases.0 ∙ says.spelled in
    let first : c.in-Some.to_write.now ≡ write_address address = cc spelled in
    let tail : c.in-Some.behind.now ≡ sent ++ read_address address ∷ [] = cc spelled in
    let device : c.in_ok-device.device.now ≡ says.device =
    same_Some c.in_ok-device.device.now says.device
    (c.in_ok-device.ensures.found address says.device first says.known) in
    let ends = same_ends here sent c.in-Some-split_last.to_read.now (read_address address)
    (sym c.in-Some-split_last.ensures.cases.0 ∙ tail) in
    let body : IsRequest c.in_ok-device.device.now here =
    subst (λ (d : DeviceParts). IsRequest d here) (sym device) (subst (IsRequest says.device) (sym ends.0) says.body) in
    absurd (cc (c.is_request.ensures.1 body, c.if-not-is_request.true))
