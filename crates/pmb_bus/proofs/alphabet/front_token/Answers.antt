use Rattle.std.proofs.Common.{sym, ◌∙◌}
use Rattle.pmb_bus.proofs.FrontTokens.{front_digits}
use Rattle.pmb_bus.proofs.alphabet.front_token.Goals as goal

pub returns-then-is_separator-2-clause-token : goal.returns-then-is_separator-2-clause-token
returns-then-is_separator-2-clause-token c =
    front_digits c.args.bytes.now c.in_ok-byte.byte c.in-len3-up.len_at_least (sym c.in_ok-byte.ensures)
    (sym c.is_separator-2.ensures ∙ c.if-is_separator-2.true)
