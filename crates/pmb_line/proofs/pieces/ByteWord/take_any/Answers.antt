use Rattle.std.proofs.Common.{refl}
use Rattle.pmb_line.specs.machine.Left.{left}
use Rattle.pmb_line.specs.machine.Pieces.{other}
use Rattle.pmb_line.proofs.pieces.ByteWord.take_any.Goals as goal

pub returns-in_default-token-clause-takes : goal.returns-in_default-token-clause-takes
returns-in_default-token-clause-takes c = other c.in-Some.word (left c.next.new.self) c.in-Some.ensures.some
    (λ is. cc (is.1, c.in_default-token.is)) refl

pub returns-in_default-token-2 : goal.returns-in_default-token-2
returns-in_default-token-2 c = record {
  takes = other c.in-Some.word (left c.next.new.self) c.in-Some.ensures.some
      (λ is. c.in_default-token-2.not-Byte is.0 (cc (is.1, c.in-Some-token.is))) refl;
  end = c.next.ensures.end;
}
