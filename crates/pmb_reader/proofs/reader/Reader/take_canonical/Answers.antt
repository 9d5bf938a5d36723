use Rattle.std.proofs.Common.{◌≡◌, Option, Some, None, ◌↔◌, IsSome, ap, refl, subst, sym}
use Rattle.pmb_canonical.specs.declared.canonical_reader.TakenPacket.{TakenPacket}
use Rattle.pmb_canonical.specs.Canonical.{BeginsWithPacket}
use Rattle.pmb_reader.specs.Reader.{IsBetween}
use Rattle.pmb_reader.proofs.Modes.{not_between, while_open}
use Rattle.pmb_reader.proofs.reader.Reader.take_canonical.Goals as goal

pub returns-in_default-clause-answers : goal.returns-in_default-clause-answers
returns-in_default-clause-answers c = λ profile standing stands. (
  λ some. absurd (cc some),
  λ both. absurd
      (not_between profile c.args.self.now c.in_default.not-Open standing stands both.0),
)

pub returns-in_err-taken-clause-answers : goal.returns-in_err-taken-clause-answers
returns-in_err-taken-clause-answers c = λ profile standing stands.
    subst (λ (o : Option TakenPacket). IsSome o ↔ (IsBetween standing × BeginsWithPacket profile c.args.text.now))
    (sym c.from_residual.ensures)
    (
    while_open profile c.args.self.now (λ s. IsSome {T = TakenPacket} None
    ↔ (IsBetween s × BeginsWithPacket profile c.args.text.now)) c.in-Open.is
    (λ n events at. c.in_err-taken.ensures.answers profile events at.inside) standing stands
    )

pub returns-in_err-taken-clause-elsewhere : goal.returns-in_err-taken-clause-elsewhere
returns-in_err-taken-clause-elsewhere c = λ profile standing stands other.
    ap (λ u. record c.args.self.now { under_way = u })
    (
    while_open profile c.args.self.now (λ s. (IsBetween s → ⊥) → c.take_canonical.new.self ≡ c.args.self.now.under_way)
    c.in-Open.is
    (λ n events at inside. c.in_err-taken.ensures.inside profile events at.inside inside) standing stands other
    )

pub returns-clause-answers : goal.returns-clause-answers
returns-clause-answers c = λ profile.
    while_open profile c.args.self.now (λ s. IsSome (Some c.in_ok-taken.taken)
    ↔ (IsBetween s × BeginsWithPacket profile c.args.text.now)) c.in-Open.is
    (λ n events stands. c.in_ok-taken.ensures.answers profile events stands.inside)

pub returns-clause-elsewhere : goal.returns-clause-elsewhere
returns-clause-elsewhere c = λ profile standing stands other.
    absurd
    (
    while_open profile c.args.self.now (λ s. (IsBetween s → ⊥) → ⊥) c.in-Open.is
    (λ n events at inside. inside ((c.in_ok-taken.ensures.answers profile events at.inside).0 refl).0) standing stands
    other
    )
