use Rattle.std.proofs.Common.{refl, sym, ap, ◌∙◌}
use Rattle.std.proofs.lemmas.Result.{err_from_is_err_and}
use Rattle.pmb_line.specs.Left.{words_left}
use Rattle.pmb_request.specs.declared.verb.Verb.TheVariants as verb
use Rattle.pmb_request.specs.Request.{Set}
use Rattle.pmb_request.specs.Spelling.{Ask, to_set}
use Rattle.pmb_request.specs.machine.Reading.{StandsAt, at_quantity, behind, command_with}
use Rattle.pmb_request.proofs.Standing.{of_the_line}
use Rattle.pmb_request.proofs.request_line.parse_set.Goals as goal

pub returns-in_err-addr-clause-err : goal.returns-in_err-addr-clause-err
returns-in_err-addr-clause-err c all stands =
    let p = err_from_is_err_and c.from_residual.result c.from_residual.ensures.1 in
    rw (p.1, p.2) (of_the_line all _ _ c.in_err-addr.field-0.0 refl (c.in_err-addr.ensures.takes all verb.Set stands))

pub returns-in_err-text-clause-err : goal.returns-in_err-text-clause-err
returns-in_err-text-clause-err c all stands =
    let target = c.in_ok-addr.field-0 in
    let at_text : StandsAt all (at_quantity target.addr target.code) (words_left c.take.new.words) =
    c.in_ok-addr.ensures.takes all verb.Set stands in
    let p = err_from_is_err_and c.from_residual-in_err-text.result c.from_residual-in_err-text.ensures.1 in
    rw (p.1, p.2) (of_the_line all _ _ c.in_err-text.field-0.0 c.take.ensures.end
    (c.in_err-text.ensures.takes all target.addr target.code at_text))

pub returns-in_err-pec-clause-err : goal.returns-in_err-pec-clause-err
returns-in_err-pec-clause-err c all stands =
    let target = c.in_ok-addr.field-0 in
    let at_text : StandsAt all (at_quantity target.addr target.code) (words_left c.take.new.words) =
    c.in_ok-addr.ensures.takes all verb.Set stands in
    let at_end : StandsAt all (behind target.addr target.code (to_set c.in_ok-text.text.now))
    (words_left c.take_quantity.new.words) = c.in_ok-text.ensures.takes all target.addr target.code at_text in
    let p = err_from_is_err_and c.from_residual-in_err-pec.result c.from_residual-in_err-pec.ensures.1 in
    rw (p.1, p.2) (of_the_line all _ _ c.in_err-pec.field-0.0 (c.take_quantity.ensures.end ∙ c.take.ensures.end)
    (c.in_err-pec.ensures all target.addr target.code (to_set c.in_ok-text.text.now) at_end tt))

pub returns-in-Ok-clause-ok : goal.returns-in-Ok-clause-ok
returns-in-Ok-clause-ok c all profile ts seen stands =
    let target = c.in_ok-addr.field-0 in
    let at_text : StandsAt all (at_quantity target.addr target.code) (words_left c.take.new.words) =
    c.in_ok-addr.ensures.takes all verb.Set stands in
    let at_end : StandsAt all (behind target.addr target.code (to_set c.in_ok-text.text.now))
    (words_left c.take_quantity.new.words) = c.in_ok-text.ensures.takes all target.addr target.code at_text in
    let command = command_with target.addr target.code c.in_ok-pec.pec in
    record {
      wording = Ask command (to_set c.in_ok-text.text.now);
      asks = c.in_ok-pec.ensures all target.addr target.code (to_set c.in_ok-text.text.now) at_end tt;
      means = (
        c.in-Ok.value,
        sym c.parse.ensures ∙ c.in-Ok.is,
        ap (Set command c.in-Ok.value) (c.mode.ensures profile ts seen),
      );
    }

pub returns-in-Err-clause-err : goal.returns-in-Err-clause-err
returns-in-Err-clause-err c all stands =
    let target = c.in_ok-addr.field-0 in
    let at_text : StandsAt all (at_quantity target.addr target.code) (words_left c.take.new.words) =
    c.in_ok-addr.ensures.takes all verb.Set stands in
    let at_end : StandsAt all (behind target.addr target.code (to_set c.in_ok-text.text.now))
    (words_left c.take_quantity.new.words) = c.in_ok-text.ensures.takes all target.addr target.code at_text in
    record {
      command = command_with target.addr target.code c.in_ok-pec.pec;
      text = c.in_ok-text.text.now;
      asks = c.in_ok-pec.ensures all target.addr target.code (to_set c.in_ok-text.text.now) at_end tt;
      bad = sym c.parse.ensures ∙ c.in-Err.is;
    }
