use Rattle.std.proofs.Common.{Some, refl, ap, ◌∙◌}
use Rattle.pmb_line.specs.declared.token.Token.TheVariants.{Plus}
use Rattle.pmb_line.specs.machine.Left.{left}
use Rattle.pmb_line.specs.machine.Pieces.{other}
use Rattle.pmb_line.proofs.WantedWord.{took}
use Rattle.pmb_line.proofs.pieces.take_wanted_plus.Goals as goal

pub returns-in_default-token-clause-takes : goal.returns-in_default-token-clause-takes
returns-in_default-token-clause-takes c = other c.in-Some.word (left c.next.new.self) c.in-Some.ensures.some
    (λ is. cc (is, c.in_default-token.is)) refl

pub returns-in-Plus-clause-takes : goal.returns-in-Plus-clause-takes
returns-in-Plus-clause-takes c = took _ _ c.in-Some.word Plus c.in-Some.ensures.some
    (c.in-Some-token.is ∙ ap Some c.in-Plus.is)

pub returns-in_default-token-2 : goal.returns-in_default-token-2
returns-in_default-token-2 c = record {
  takes = other c.in-Some.word (left c.next.new.self) c.in-Some.ensures.some
      (λ is. c.in_default-token-2.not-Plus (cc (is, c.in-Some-token.is))) refl;
  end = c.next.ensures.end;
}
