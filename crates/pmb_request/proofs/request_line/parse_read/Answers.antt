use Rattle.std.proofs.Common.{refl}
use Rattle.std.proofs.lemmas.Result.{err_from_is_err_and}
use Rattle.pmb_line.specs.Left.{words_left}
use Rattle.pmb_request.specs.declared.verb.Verb.TheVariants.{Read}
use Rattle.pmb_request.specs.Spelling.{Ask, to_read}
use Rattle.pmb_request.specs.machine.Reading.{StandsAt, behind, command_with}
use Rattle.pmb_request.proofs.Standing.{of_the_line}
use Rattle.pmb_request.proofs.request_line.parse_read.Goals as goal

pub returns-in_err-addr-clause-err : goal.returns-in_err-addr-clause-err
returns-in_err-addr-clause-err c all stands =
    let p = err_from_is_err_and c.from_residual.result c.from_residual.ensures.1 in
    rw (p.1, p.2) (of_the_line all _ _ c.in_err-addr.field-0.0 refl (c.in_err-addr.ensures.takes all Read stands))

pub returns-in_err-pec-clause-err : goal.returns-in_err-pec-clause-err
returns-in_err-pec-clause-err c all stands =
    let target = c.in_ok-addr.field-0 in
    let at_end : StandsAt all (behind target.addr target.code to_read) (words_left c.take.new.words) =
    c.in_ok-addr.ensures.takes all Read stands in
    let p = err_from_is_err_and c.from_residual-in_err-pec.result c.from_residual-in_err-pec.ensures.1 in
    rw (p.1, p.2) (of_the_line all _ _ c.in_err-pec.field-0.0 c.take.ensures.end
    (c.in_err-pec.ensures all target.addr target.code to_read at_end tt))

pub returns-clause-ok : goal.returns-clause-ok
returns-clause-ok c all mode stands =
    let target = c.in_ok-addr.field-0 in
    let at_end : StandsAt all (behind target.addr target.code to_read) (words_left c.take.new.words) =
    c.in_ok-addr.ensures.takes all Read stands in
    record {
      wording = Ask (command_with target.addr target.code c.in_ok-pec.pec) to_read;
      asks = c.in_ok-pec.ensures all target.addr target.code to_read at_end tt;
      means = refl;
    }
