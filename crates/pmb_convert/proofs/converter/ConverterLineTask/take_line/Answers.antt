use Rattle.std.proofs.lemmas.Result.{on_ok_weaker}
use Rattle.pmb_io.specs.Lines.{line_text}
use Rattle.pmb_convert.specs.machine.Converting.{answer_of}
use Rattle.pmb_convert.specs.Answer.{answer_line}
use Rattle.pmb_convert.proofs.Converting.{answers_more}
use Rattle.pmb_convert.proofs.converter.ConverterLineTask.take_line.Goals as goal

pub returns-clause-takes : goal.returns-clause-takes
returns-clause-takes g c start lines text stands =
    let answer = answer_of c.answer-answer.result in
    on_ok_weaker c.put_answer.result
    (λ writes. record {
      text = answer_line answer;
      writes = writes;
      holds = answers_more start c.args.self.now c.count.new.self lines text
          (line_text c.args.line) answer c.count.ensures c.answer-answer.ensures stands;
    })
    c.put_answer.ensures.ok
