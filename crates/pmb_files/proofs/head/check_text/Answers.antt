use Rattle.std.proofs.Common.{◌∙◌, Err, Some, ap, subst, sym}
use Rattle.pmb_files.specs.Head.{HasMarkAt, line_after}
use Rattle.pmb_files.proofs.Heads.{front_has_mark, front_is_long, front_is_whole}
use Rattle.pmb_files.proofs.head.check_text.Goals as goal

-- It has a line `%%`.
pub returns-in-Ok : goal.returns-in-Ok
returns-in-Ok c =
    subst (HasMarkAt c.args.text.now) (sym (c.line_after.ensures ∙ ap line_after c.profile.ensures))
    (front_has_mark _ c.new-reader.result c.front.new.reader c.args.text.now
    (ap (λ inner. Some inner.now) c.new-reader.ensures.inner) c.in-Ok.front c.in-Ok.ensures.ok
    (sym c.has_capture.ensures ∙ c.if-has_capture.true) c.one_front.ensures.stays)

-- It has none.
pub returns-in-Ok-2 : goal.returns-in-Ok-2
returns-in-Ok-2 c =
    front_is_whole _ c.new-reader.result c.front.new.reader c.args.text.now
    (ap (λ inner. Some inner.now) c.new-reader.ensures.inner) c.in-Ok.front c.in-Ok.ensures.ok
    (sym c.has_capture.ensures ∙ c.if-has_capture.false)

-- It is too long.
pub returns-in-Err-ProfileTooLong : goal.returns-in-Err-ProfileTooLong
returns-in-Err-ProfileTooLong c =
    front_is_long _ c.new-reader.result c.front.new.reader c.args.text.now
    (ap (λ inner. Some inner.now) c.new-reader.ensures.inner)
    (c.front.ensures.too_long (c.in-Err-ProfileTooLong.is ∙ ap Err c.in-Err-ProfileTooLong.field-0-is))
