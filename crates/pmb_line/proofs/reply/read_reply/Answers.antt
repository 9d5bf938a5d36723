use Rattle.std.proofs.Common.{refl}
use Rattle.std.proofs.lemmas.Result.{err_from_is_err_and}
use Rattle.pmb_line.specs.declared.token.Token.TheVariants.{Pec}
use Rattle.pmb_line.specs.machine.Left.{left, end}
use Rattle.pmb_line.specs.machine.Pieces.{at_colon, at_reply, at_pec, replied}
use Rattle.pmb_line.specs.machine.Reading.{LineStandsAt}
use Rattle.pmb_line.proofs.Standing.{bytes_on, misses_of, too_many}
use Rattle.pmb_line.proofs.Endings.{tail}
use Rattle.pmb_line.proofs.Replies.{colon_begun, colon_unfinished, colon_unfit, pec_finished, pec_last, pec_room}
use Rattle.pmb_line.proofs.Replies.{pec_step, reply_begun, reply_finished, reply_room, reply_short, reply_step}
use Rattle.pmb_line.proofs.Replies.{reply_unfit}
use Rattle.pmb_line.proofs.reply.read_reply.Goals as goal

pub returns-in_err-take_colon : goal.returns-in_err-take_colon
returns-in_err-take_colon c all asked stands none =
    let p = err_from_is_err_and c.from_residual.result c.from_residual.ensures.1 in
    rw (p.1, p.2) (misses_of all (end c.args.words.now) _ (at_colon asked) _ _ _ refl stands (colon_begun asked)
    (colon_unfinished asked) (colon_unfit asked _ none) c.in_err-take_colon.ensures.takes)

pub returns-in_err-take_bytes : goal.returns-in_err-take_bytes
returns-in_err-take_bytes c all asked stands none =
    let at_new = reply_begun all asked _ _ _ stands c.in_ok-take_colon.ensures.takes c.clear.ensures in
    let p = err_from_is_err_and c.from_residual-in_err-take_bytes.result c.from_residual-in_err-take_bytes.ensures.1 in
    rw (p.1, p.2) (too_many all (end c.args.words.now) (at_reply asked) (reply_step asked) 255 _ _ _ _ at_new
    c.in_err-take_bytes.ensures.takes (reply_room asked _ stands.room) (reply_short asked))

pub returns : goal.returns
returns c all asked stands none =
    let at_new = reply_begun all asked _ _ _ stands c.in_ok-take_colon.ensures.takes c.clear.ensures in
    let rs = c.take_bytes.new.bytes.items in
    let at_end : LineStandsAt all (at_reply asked rs) (left c.take_bytes.new.words) =
    bytes_on all (at_reply asked) (reply_step asked) _ _ _ _ at_new c.in_ok-take_bytes.ensures.takes.0
    (reply_room asked rs stands.room c.take_bytes.ensures.fits) in
    tail all (end c.args.words.now) Pec (at_reply asked rs) (at_pec asked rs) (replied asked rs) _ _ c.take_pec.result
    c.take_end.result
    at_end (pec_step asked rs) (pec_room asked rs) (reply_finished asked rs) (pec_finished asked rs)
    (λ word rest same not. reply_unfit asked rs word.token
    (λ b is. c.in_ok-take_bytes.ensures.takes.1 word rest b same is) not) (pec_last asked rs)
    c.take_pec.ensures.takes c.take_end.ensures.takes
