use Rattle.std.proofs.Common.{◌≡◌, ◌<◌, ℕ, inr, List, [], ◌∷◌, length, refl, sym, ap, subst, ◌∙◌, arith}
use Rattle.pmb_canonical.specs.Alerts.{SaysAlert}
use Rattle.pmb_canonical.specs.Codes.{code_behind}
use Rattle.pmb_canonical.proofs.Alone.{answer_says, at_alert, at_answer, covered, says_answer, to_alert}
use Rattle.pmb_canonical.proofs.Beginnings.{not_there}
use Rattle.pmb_canonical.proofs.alerts.keep_alert.Goals as goal

pub returns-in_default-clause-found : goal.returns-in_default-clause-found
returns-in_default-clause-found c t says =
    let at = at_alert c.args.bytes.now t says in
    absurd (not_there c.split_first.result (c.split_first.ensures.variant.1 (omega (arith, ap length at.1)))
    c.in_default.not-Some)

pub returns-then-to_read-read_address-clause-found : goal.returns-then-to_read-read_address-clause-found
returns-then-to_read-read_address-clause-found c t says =
    let at = at_alert c.args.bytes.now t says in
    let joined : c.in-Some.to_read.now ∷ c.in-Some.answered.now ≡ to_alert ∷ at.0 = sym c.in-Some.ensures.cases.0
    ∙ at.1 in
    let same : c.in-Some.to_read.now ≡ to_alert = cc joined in
    absurd (omega (arith, same))

-- ---- no answer

-- bytes of which none is first are none
none_left : (bytes : List ℕ) → (0 < length bytes → ⊥) → bytes ≡ []
none_left [] none = refl
none_left (byte ∷ bytes) none = absurd (none (omega arith))

pub returns-in_default-split_first-clause-keeps : goal.returns-in_default-split_first-clause-keeps
returns-in_default-split_first-clause-keeps c is =
    let none = none_left c.in-Some.answered.now
    (λ some. not_there c.split_first-2.result (c.split_first-2.ensures.variant.1 some)
    c.in_default-split_first.not-Some) in
    let first : c.in-Some.to_read.now ≡ to_alert = omega arith in
    inr (
      c.end_no_alert.ensures,
      c.in-Some.ensures.cases.0 ∙ ap (λ (l : List ℕ). c.in-Some.to_read.now ∷ l) none
          ∙ ap (λ (b : ℕ). b ∷ []) first,
    )

-- ---- an answer

pub returns-in_default-has_code-clause-found : goal.returns-in_default-has_code-clause-found
returns-in_default-has_code-clause-found c t says =
    let bytes = c.args.bytes.now in
    let byte = c.in-Some-split_first.byte.now in
    let behind = c.in-Some-split_first.behind.now in
    let first : c.in-Some.to_read.now ≡ to_alert = omega arith in
    let spelled = at_answer bytes c.in-Some.answered.now behind c.in-Some.to_read.now byte c.in-Some.ensures.cases.0
    first c.in-Some-split_first.ensures.cases.0 in
    let code = answer_says bytes behind byte t spelled says in
    absurd (c.in_default-has_code.not-Some code.0
    (c.has_code.ensures.found code.0 (code.1 ∙ sym (ap (code_behind code.0) (covered bytes behind byte spelled)))))

pub returns-clause-keeps : goal.returns-clause-keeps
returns-clause-keeps c is =
    let bytes = c.args.bytes.now in
    let byte = c.in-Some-split_first.byte.now in
    let behind = c.in-Some-split_first.behind.now in
    let with_pec = c.in-Some-has_code.pec in
    let first : c.in-Some.to_read.now ≡ to_alert = omega arith in
    let spelled = at_answer bytes c.in-Some.answered.now behind c.in-Some.to_read.now byte c.in-Some.ensures.cases.0
    first c.in-Some-split_first.ensures.cases.0 in
    subst (SaysAlert bytes) (sym c.end_alert.ensures)
    (says_answer bytes behind byte with_pec (omega arith) spelled
    (c.in-Some-has_code.ensures.says ∙ ap (code_behind with_pec) (covered bytes behind byte spelled)))
