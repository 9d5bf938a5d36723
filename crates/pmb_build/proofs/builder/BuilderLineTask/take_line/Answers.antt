use Rattle.std.proofs.Common.{refl, sym, subst}
use Rattle.std.proofs.lemmas.Result.{on_ok_weaker}
use Rattle.pmb_io.specs.Lines.{line_text}
use Rattle.pmb_io.specs.declared.input_line.InputLine.{InputLine}
use Rattle.pmb_line.specs.declared.line_fault.LineFault.TheVariants as fault
use Rattle.pmb_build.specs.Answer.{BuildsLine, Refused, numbered_fault, most_build_line}
use Rattle.pmb_build.proofs.Building.{answers_more, puts_more}
use Rattle.pmb_build.proofs.builder.BuilderLineTask.take_line.Goals as goal

pub returns-in-Ended-clause-takes : goal.returns-in-Ended-clause-takes
returns-in-Ended-clause-takes g c start given text stands =
    on_ok_weaker c.take_text.result
    (puts_more start c.args.self.now _ c.take_text.new.self given text (line_text c.args.line) c.in-Ended.text.now _ _ _
    _ refl c.saturating_add-self.ensures refl
    (λ answer answers. subst (λ (line : InputLine). BuildsLine c.args.self.now.profile.now (line_text line) answer)
    (sym c.in-Ended.is) answers) stands)
    c.take_text.ensures.takes

pub returns-in-Last-clause-takes : goal.returns-in-Last-clause-takes
returns-in-Last-clause-takes g c start given text stands =
    on_ok_weaker c.take_text-in-Last.result
    (puts_more start c.args.self.now _ c.take_text-in-Last.new.self given text
    (line_text c.args.line) c.in-Last.text.now _ _ _ _ refl c.saturating_add-self.ensures refl
    (λ answer answers. subst (λ (line : InputLine). BuildsLine c.args.self.now.profile.now (line_text line) answer)
    (sym c.in-Last.is) answers) stands)
    c.take_text-in-Last.ensures.takes

pub returns-in-TooLong-clause-takes : goal.returns-in-TooLong-clause-takes
returns-in-TooLong-clause-takes g c start given text stands =
    let why = fault.TooLong most_build_line in
    on_ok_weaker c.take_fault.result
    (λ writes. record {
      text = numbered_fault c.saturating_add-self.result why;
      writes = writes;
      holds = answers_more start c.args.self.now c.take_fault.new.self given text (line_text c.args.line)
          (Refused why) c.saturating_add-self.result c.saturating_add-self.ensures
          (λ i. (c.take_fault.ensures.profile i).now) c.take_fault.ensures.lines c.take_fault.ensures.counted
          (subst (λ (line : InputLine). BuildsLine c.args.self.now.profile.now (line_text line) (Refused why))
          (sym c.in-TooLong.is) refl) stands;
    })
    c.take_fault.ensures.writes
