use Rattle.std.proofs.Common.{◌≡◌, ◌∷◌, sym, subst, ◌∙◌}
use Rattle.pmb_line.specs.Left.{end, text_word, words_left}
use Rattle.pmb_line.specs.Words.{line_words}
use Rattle.pmb_request.specs.RequestFault.{IsRequestFault}
use Rattle.pmb_request.specs.machine.Reading.{StandsAt, at_address}
use Rattle.pmb_request.proofs.WholeLines.{at_verb, faulted, no_verb, spelled}
use Rattle.pmb_request.proofs.request_line.parse_request.Goals as goal

pub returns-in-Some-of : goal.returns-in-Some-of
returns-in-Some-of c =
    let line = c.args.line.now in
    let same : line_words line ≡ text_word c.in-Some.first ∷ words_left c.next_word.new.self =
    sym c.of-words.ensures.left ∙ c.in-Some.ensures.some in
    let at_word : StandsAt (line_words line) (at_address c.in-Some-of.verb) (words_left c.next_word.new.self) =
    at_verb (line_words line) c.in-Some-of.verb (text_word c.in-Some.first) _ same
    (λ is. cc (c.is_write.ensures.1 is, c.if-is_write.false)) (sym c.of.ensures ∙ c.in-Some-of.is) in
    record {
      ok = spelled c.args.context.now line c.parse_operands.result
          (λ profile ts seen. c.parse_operands.ensures.ok (line_words line) profile ts seen at_word);
      err = faulted line (end c.next_word.new.self) c.parse_operands.result
          (c.in-Some.ensures.end ∙ c.of-words.ensures.end) (c.parse_operands.ensures.err (line_words line) at_word);
    }

pub returns-in-None-clause-err : goal.returns-in-None-clause-err
returns-in-None-clause-err c =
    let line = c.args.line.now in
    let same : line_words line ≡ text_word c.in-Some.first ∷ words_left c.next_word.new.self =
    sym c.of-words.ensures.left ∙ c.in-Some.ensures.some in
    subst (IsRequestFault line) (sym c.from-in-None.ensures)
    (no_verb line (text_word c.in-Some.first) _ same (λ is. cc (c.is_write.ensures.1 is, c.if-is_write.false))
    (sym c.of.ensures ∙ c.in-None.is))
