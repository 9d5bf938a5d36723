use Rattle.std.proofs.Common.{Some, refl, ap, ◌∙◌}
use Rattle.pmb_line.specs.declared.token.Token.TheVariants.{Colon}
use Rattle.pmb_line.specs.machine.Left.{left}
use Rattle.pmb_line.specs.machine.Pieces.{other}
use Rattle.pmb_line.proofs.WantedWord.{took}
use Rattle.pmb_line.proofs.pieces.take_colon.Goals as goal

pub returns-in_default-token-clause-takes : goal.returns-in_default-token-clause-takes
returns-in_default-token-clause-takes c = other c.in-Some.word (left c.next.new.self) c.in-Some.ensures.some
    (λ is. cc (is, c.in_default-token.is)) refl

pub returns-in-Colon-clause-takes : goal.returns-in-Colon-clause-takes
returns-in-Colon-clause-takes c = took _ _ c.in-Some.word Colon c.in-Some.ensures.some
    (c.in-Some-token.is ∙ ap Some c.in-Colon.is)

pub returns-in_default-token-2 : goal.returns-in_default-token-2
returns-in_default-token-2 c = record {
  takes = other c.in-Some.word (left c.next.new.self) c.in-Some.ensures.some
      (λ is. c.in_default-token-2.not-Colon (cc (is, c.in-Some-token.is))) refl;
  end = c.next.ensures.end;
}
