use Rattle.std.proofs.Common.{◌∙◌, ap, subst}
use Rattle.pmb_files.specs.Head.{with_line_end}
use Rattle.pmb_files.specs.Joined.{joined_left}
use Rattle.pmb_files.specs.machine.FailsHead.{has_mark, too_long}
use Rattle.pmb_files.specs.machine.Head.{IsFaultOf}
use Rattle.pmb_files.proofs.Reading.{is_read}
use Rattle.pmb_files.proofs.program.read_head.Goals as goal

-- the head is that of what was read
pub returns-in-Ok-make_head-clause-head : goal.returns-in-Ok-make_head-clause-head
returns-in-Ok-make_head-clause-head g c = (
  c.in-Ok.text.items,
  is_read (g.F.Opener.known c.args.files.now c.args.profile.now) _ _ c.in-Ok.text.items
      (ap (joined_left g.F.Opener.known g.F.Opened.Read.remaining) c.new-reader.ensures.inner ∙ c.new.ensures)
      c.in-Ok.ensures.read c.in-Ok.ensures.ended,
  c.in-Ok-make_head.ensures.1,
  c.in-Ok-make_head.ensures.0,
)

pub returns-in-Err-TooLong-clause-fault : goal.returns-in-Err-TooLong-clause-fault
returns-in-Err-TooLong-clause-fault g c =
    too_long c.in-Ok.text.items
    (is_read (g.F.Opener.known c.args.files.now c.args.profile.now) _ _ c.in-Ok.text.items
    (ap (joined_left g.F.Opener.known g.F.Opened.Read.remaining) c.new-reader.ensures.inner ∙ c.new.ensures)
    c.in-Ok.ensures.read c.in-Ok.ensures.ended)
    (subst (IsFaultOf (with_line_end c.in-Ok.text.items)) c.in-Err-TooLong.field-0-is c.in-Err-TooLong.ensures)
    c.report_too_long.ensures

pub returns-in-Err-Mark-clause-fault : goal.returns-in-Err-Mark-clause-fault
returns-in-Err-Mark-clause-fault g c =
    has_mark c.in-Ok.text.items
    (is_read (g.F.Opener.known c.args.files.now c.args.profile.now) _ _ c.in-Ok.text.items
    (ap (joined_left g.F.Opener.known g.F.Opened.Read.remaining) c.new-reader.ensures.inner ∙ c.new.ensures)
    c.in-Ok.ensures.read c.in-Ok.ensures.ended)
    c.in-Err-Mark.line
    (subst (IsFaultOf (with_line_end c.in-Ok.text.items)) c.in-Err-Mark.field-0-is c.in-Err-Mark.ensures)
    c.report_mark.ensures
