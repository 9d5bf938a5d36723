use Rattle.std.proofs.Common.{subst}
use Rattle.std.proofs.lemmas.Result.{err_from_is_err_and}
use Rattle.pmb_line.specs.Left.{words_left}
use Rattle.pmb_request.specs.machine.Reading.{StandsAt, IsFaultOf, at_code}
use Rattle.pmb_request.proofs.Standing.{wants_address, wants_code}
use Rattle.pmb_request.proofs.command_words.Target.take.Goals as goal

pub returns-in_err-addr-clause-takes : goal.returns-in_err-addr-clause-takes
returns-in_err-addr-clause-takes c all verb stands =
    let p = err_from_is_err_and c.from_residual.result c.from_residual.ensures.1 in
    rw (p.1, p.2) (c.in_err-addr.ensures.takes all _ _ (wants_address verb) stands)

pub returns-in_err-code-clause-takes : goal.returns-in_err-code-clause-takes
returns-in_err-code-clause-takes c all verb stands =
    let a = c.in_ok-addr.addr in
    let at_code_now : StandsAt all (at_code verb a) (words_left c.take_byte.new.words) =
    c.in_ok-addr.ensures.takes all _ _ (wants_address verb) stands in
    let p = err_from_is_err_and c.from_residual-in_err-code.result c.from_residual-in_err-code.ensures.1 in
    rw (p.1, p.2) (subst (λ n. IsFaultOf all n c.in_err-code.field-0.0) c.take_byte.ensures.end
    (c.in_err-code.ensures.takes all _ _ (wants_code verb a) at_code_now))

pub returns-clause-takes : goal.returns-clause-takes
returns-clause-takes c all verb stands =
    let a = c.in_ok-addr.addr in
    let at_code_now : StandsAt all (at_code verb a) (words_left c.take_byte.new.words) =
    c.in_ok-addr.ensures.takes all _ _ (wants_address verb) stands in
    c.in_ok-code.ensures.takes all _ _ (wants_code verb a) at_code_now
