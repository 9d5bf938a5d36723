use Rattle.std.proofs.Common.{◌≡◌, ◌++◌, ◌<◌, ◌∷◌, [], ◌∙◌, List, arith, false, get_or, length, refl, subst, sym}
use Rattle.std.proofs.Common.{take, ℕ}
use Rattle.pmb_times.specs.Times.{TimesStandAt}
use Rattle.pmb_times.specs.machine.Standing.{is_comment}
use Rattle.pmb_times.proofs.States.{stands_other}
use Rattle.pmb_times.proofs.times.Times.take_front.Goals as goal

-- the first byte alone
take_one : (bytes : List ℕ) → 0 < length bytes → take 1 bytes ≡ get_or bytes 0 0 ∷ []
take_one [] some = absurd (omega arith)
take_one (b ∷ bytes) some = refl

pub returns-then-not-is_comment-clause-stands : goal.returns-then-not-is_comment-clause-stands
returns-then-not-is_comment-clause-stands c = λ text stands.
    let old = c.args.self.now in
    let new = c.take_byte.new.self in
    let bytes = c.args.bytes.now in
    let taken = c.take_byte.ensures in
    let out : is_comment old.state ≡ false = sym c.is_comment.ensures ∙ c.if-not-is_comment.true in
    subst (λ (given : List ℕ). TimesStandAt new (text ++ given)) (sym (take_one bytes (omega arith)))
    (stands_other old.state new.state old.line.items new.line.items old.gap.items new.gap.items old.word.items
    new.word.items text (get_or bytes 0 0) out taken.state taken.gap taken.word taken.line stands)
