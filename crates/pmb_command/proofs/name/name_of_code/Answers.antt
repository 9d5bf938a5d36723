use Rattle.std.proofs.Common.{◌≡◌, arith, subst, sym}
use Rattle.hex.specs.Hex.{encode_with}
use Rattle.pmb_command.specs.Names.{IsNameOf, code_name}
use Rattle.pmb_command.proofs.NameLemmas.{made_name}
use Rattle.pmb_command.proofs.name.name_of_code.Goals as goal
use Rattle.pmb_command.proofs.name.name_of_code.Goals.{After-push-2}

-- each part in turn, and the digits by the definition of `encode_with`
spelled : (c : After-push-2) → c.push-2.new.self.bytes ≡ code_name c.args.code
unfolding encode_with
spelled c =
    let high = c.push.ensures.ascii (omega arith) in
    let low = c.push-2.ensures.ascii (omega arith) in
    rw (
      low,
      high,
      c.push_str.ensures.bytes,
      c.new-name.ensures,
      c.from-2.ensures,
      c.lower_digit-2.ensures.value,
      c.from.ensures,
      c.lower_digit.ensures.value,
    )

pub returns-clause-value : goal.returns-clause-value
returns-clause-value c = spelled (goal.at.returns-clause-value c).After-push-2

pub returns-clause-fits : goal.returns-clause-fits
returns-clause-fits c = subst (IsNameOf c.args.code) (sym (spelled (goal.at.returns-clause-fits c).After-push-2))
    (made_name c.args.code)
