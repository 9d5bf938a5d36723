use Rattle.std.proofs.Common.{refl, subst, ◌∙◌}
use Rattle.std.proofs.lemmas.Result.{err_from_is_err_and}
use Rattle.pmb_line.specs.machine.Left.{left, end}
use Rattle.pmb_line.specs.machine.Pieces.{IsByteToken, ReadsLine, read_of, replied}
use Rattle.pmb_line.specs.machine.Reading.{LineStandsAt, read_next, read_code, read_colon}
use Rattle.pmb_line.proofs.Standing.{misses_of, next_of, no_byte}
use Rattle.pmb_line.proofs.reply.read_read.Goals as goal

pub returns-in_err-addr : goal.returns-in_err-addr
returns-in_err-addr c all stands =
    let p = err_from_is_err_and c.from_residual.result c.from_residual.ensures.1 in
    rw (p.1, p.2) (misses_of all (end c.args.words.now) _ read_next IsByteToken _ _ refl stands (λ e. cc e) refl
    (λ word rest same not. no_byte _ word.token not) c.in_err-addr.ensures.takes)

pub returns-in_err-code : goal.returns-in_err-code
returns-in_err-code c all stands =
    let a = c.in_ok-addr.field-0.byte in
    let at_code : LineStandsAt all (read_code a) (left c.take.new.words) =
    next_of all read_next (read_code a) _ _ _ stands c.in_ok-addr.ensures.takes refl tt in
    let p = err_from_is_err_and c.from_residual-in_err-code.result c.from_residual-in_err-code.ensures.1 in
    rw (p.1, p.2) (misses_of all (end c.args.words.now) _ (read_code a) IsByteToken _ _ c.take.ensures.end at_code
    (λ e. cc e) refl (λ word rest same not. no_byte _ word.token not) c.in_err-code.ensures.takes)

pub returns : goal.returns
returns c all stands =
    let a = c.in_ok-addr.field-0.byte in
    let at_code : LineStandsAt all (read_code a) (left c.take.new.words) =
    next_of all read_next (read_code a) _ _ _ stands c.in_ok-addr.ensures.takes refl tt in
    let d = c.in_ok-code.field-0.byte in
    let at_colon : LineStandsAt all (read_colon a d) (left c.take-2.new.words) =
    next_of all (read_code a) (read_colon a d) _ _ _ at_code c.in_ok-code.ensures.takes refl tt in
    subst (λ n. ReadsLine all n (replied (read_of a d) c.read_reply.new.reply.items c.read_reply.new.pec)
    c.read_reply.result) (c.take-2.ensures.end ∙ c.take.ensures.end)
    (c.read_reply.ensures all (read_of a d) at_colon tt)
