use Rattle.std.proofs.Common.{[], refl, sym, subst, ◌∙◌, arith}
use Rattle.std.proofs.lemmas.Result.{err_from_is_err_and}
use Rattle.pmb_line.specs.Fault.{IsCallWithin}
use Rattle.pmb_line.specs.machine.Left.{left, end}
use Rattle.pmb_line.specs.machine.Pieces.{IsByteToken, ReadsLine, call_of, replied}
use Rattle.pmb_line.specs.machine.Reading.{LineStandsAt, call_next, call_code, call_data}
use Rattle.pmb_line.proofs.Standing.{bytes_on, misses_of, next_of, no_byte, too_many}
use Rattle.pmb_line.proofs.Replies.{call_begun}
use Rattle.pmb_line.proofs.reply.read_call.Goals as goal

pub returns-in_err-addr : goal.returns-in_err-addr
returns-in_err-addr c all stands =
    let p = err_from_is_err_and c.from_residual.result c.from_residual.ensures.1 in
    rw (p.1, p.2) (misses_of all (end c.args.words.now) _ call_next IsByteToken _ _ refl stands (λ e. cc e) refl
    (λ word rest same not. no_byte _ word.token not) c.in_err-addr.ensures.takes)

pub returns-in_err-code : goal.returns-in_err-code
returns-in_err-code c all stands =
    let a = c.in_ok-addr.field-0.byte in
    let at_code : LineStandsAt all (call_code a) (left c.take.new.words) =
    next_of all call_next (call_code a) _ _ _ stands c.in_ok-addr.ensures.takes refl tt in
    let p = err_from_is_err_and c.from_residual-in_err-code.result c.from_residual-in_err-code.ensures.1 in
    rw (p.1, p.2) (misses_of all (end c.args.words.now) _ (call_code a) IsByteToken _ _ c.take.ensures.end at_code
    (λ e. cc e) refl (λ word rest same not. no_byte _ word.token not) c.in_err-code.ensures.takes)

pub returns-in_err-take_bytes : goal.returns-in_err-take_bytes
returns-in_err-take_bytes c all stands =
    let a = c.in_ok-addr.field-0.byte in
    let d = c.in_ok-code.field-0.byte in
    let at_new = call_begun all a d _ _ _ _ _ _ stands c.in_ok-addr.ensures.takes c.in_ok-code.ensures.takes
    c.clear.ensures in
    let p = err_from_is_err_and c.from_residual-in_err-take_bytes.result c.from_residual-in_err-take_bytes.ensures.1 in
    rw (p.1, p.2) (too_many all (end c.args.words.now) (call_data a d)
    (λ bs b. refl) 255 _ _ _ _ at_new c.in_err-take_bytes.ensures.takes
    (λ le. record { few_sent = le; few_replied = omega arith }) (λ bs (r : IsCallWithin bs []). r.few_sent))

pub returns : goal.returns
returns c all stands =
    let a = c.in_ok-addr.field-0.byte in
    let d = c.in_ok-code.field-0.byte in
    let bs = c.take_bytes.new.bytes.items in
    let at_new = call_begun all a d _ _ _ _ _ _ stands c.in_ok-addr.ensures.takes c.in_ok-code.ensures.takes
    c.clear.ensures in
    let at_colon : LineStandsAt all (call_data a d bs) (left c.take_bytes.new.words) =
    bytes_on all (call_data a d) (λ bs b. refl) _ _ _ _ at_new c.in_ok-take_bytes.ensures.takes.0
    (record { few_sent = c.take_bytes.ensures.fits; few_replied = omega arith }) in
    subst (λ n. ReadsLine all n (replied (call_of a d bs) c.read_reply.new.reply.items c.read_reply.new.pec)
    c.read_reply.result) (c.take_bytes.ensures.end ∙ c.take-2.ensures.end ∙ c.take.ensures.end)
    (c.read_reply.ensures all (call_of a d bs) at_colon c.in_ok-take_bytes.ensures.takes.1)
