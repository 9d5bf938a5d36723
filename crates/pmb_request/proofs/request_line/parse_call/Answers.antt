use Rattle.std.proofs.Common.{refl, ◌∙◌}
use Rattle.std.proofs.lemmas.Result.{err_from_is_err_and}
use Rattle.pmb_request.specs.declared.verb.Verb.TheVariants.{Call}
use Rattle.pmb_request.specs.Spelling.{Ask, to_call}
use Rattle.pmb_request.specs.machine.Reading.{command_with}
use Rattle.pmb_request.proofs.Standing.{no_bytes_yet, of_the_line}
use Rattle.pmb_request.proofs.request_line.parse_call.Goals as goal

pub returns-in_err-addr-clause-err : goal.returns-in_err-addr-clause-err
returns-in_err-addr-clause-err c all stands =
    let p = err_from_is_err_and c.from_residual.result c.from_residual.ensures.1 in
    rw (p.1, p.2) (of_the_line all _ _ c.in_err-addr.field-0.0 refl (c.in_err-addr.ensures.takes all Call stands))

pub returns-in_err-take_bytes-clause-err : goal.returns-in_err-take_bytes-clause-err
returns-in_err-take_bytes-clause-err c all stands =
    let target = c.in_ok-addr.field-0 in
    let at_new = no_bytes_yet all target.addr target.code _ _ (c.in_ok-addr.ensures.takes all Call stands)
    c.new-bytes.ensures in
    let p = err_from_is_err_and c.from_residual-in_err-take_bytes.result c.from_residual-in_err-take_bytes.ensures.1 in
    rw (p.1, p.2) (of_the_line all _ _ c.in_err-take_bytes.field-0.0 c.take.ensures.end
    (c.in_err-take_bytes.ensures.takes all target.addr target.code at_new))

pub returns-in_err-pec-clause-err : goal.returns-in_err-pec-clause-err
returns-in_err-pec-clause-err c all stands =
    let target = c.in_ok-addr.field-0 in
    let at_new = no_bytes_yet all target.addr target.code _ _ (c.in_ok-addr.ensures.takes all Call stands)
    c.new-bytes.ensures in
    let taken = c.in_ok-take_bytes.ensures.takes all target.addr target.code at_new in
    let p = err_from_is_err_and c.from_residual-in_err-pec.result c.from_residual-in_err-pec.ensures.1 in
    rw (p.1, p.2) (of_the_line all _ _ c.in_err-pec.field-0.0 (c.take_bytes.ensures.end ∙ c.take.ensures.end)
    (c.in_err-pec.ensures all target.addr target.code (to_call c.take_bytes.new.bytes.items) taken.0 taken.1))

pub returns-clause-ok : goal.returns-clause-ok
returns-clause-ok c all mode stands =
    let target = c.in_ok-addr.field-0 in
    let at_new = no_bytes_yet all target.addr target.code _ _ (c.in_ok-addr.ensures.takes all Call stands)
    c.new-bytes.ensures in
    let taken = c.in_ok-take_bytes.ensures.takes all target.addr target.code at_new in
    let bytes = c.take_bytes.new.bytes.items in
    record {
      wording = Ask (command_with target.addr target.code c.in_ok-pec.pec) (to_call bytes);
      asks = c.in_ok-pec.ensures all target.addr target.code (to_call bytes) taken.0 taken.1;
      means = refl;
    }
