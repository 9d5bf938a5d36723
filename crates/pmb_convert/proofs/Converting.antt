-- Lines that are answered one after the other: for `ConverterLineTask::take_line` and
-- `convert_lines`. The answers so far are those of the lines so far; one line more adds its
-- answer, its text, and one to the count of those that are answered or refused.
use Rattle.std.proofs.Common.{◌≡◌, ℕ, ◌+◌, Bool, cond, Ok, Err, List, [], ◌∷◌, ◌++◌, sym, ◌∙◌, subst, refl, append-nil}
use Rattle.std.proofs.Common.{arith, count_by, is_ok, is_err}
use Rattle.std.proofs.lemmas.Grind.{flat_map-append}
use Rattle.std.proofs.lemmas.List.Sums.{fold-append}
use Rattle.pmb_io.specs.Lines.{TextLine}
use Rattle.pmb_io.specs.Tally.{IsTallyOf}
use Rattle.pmb_convert.specs.declared.conversion.Conversion.{Conversion}
use Rattle.pmb_convert.specs.declared.converter.Converter.{Converter}
use Rattle.pmb_convert.specs.Answer.{Answer, AnswersEach, AnswersLine, answer_line}
use Rattle.pmb_convert.specs.machine.Converting.{ConverterStands, fresh, with_answer}

-- nothing was answered yet
pub stands_fresh : (conversion : Conversion) (converter : Converter) → converter ≡ fresh conversion
    → ConverterStands converter converter [] []
stands_fresh conversion converter is =
    let begun : ConverterStands (fresh conversion) (fresh conversion) [] [] = record {
      same = refl;
      answered = record {
        given = record { answers = []; each = tt; whole = refl };
        counts = record { packets_counted = refl; refusals_counted = refl };
      };
    } in
    subst (λ (c : Converter). ConverterStands c c [] []) (sym is) begun

-- the answers to lines and then to others
answers-append : (conversion : Conversion) (lines others : List TextLine) (answers more : List Answer)
    → AnswersEach conversion lines answers → AnswersEach conversion others more
    → AnswersEach conversion (lines ++ others) (answers ++ more)
answers-append conversion [] others [] more each next = next
answers-append conversion [] others (answer ∷ answers) more each next = absurd each
answers-append conversion (line ∷ lines) others [] more each next = absurd each
answers-append conversion (line ∷ lines) others (answer ∷ answers) more each next =
    (each.0, answers-append conversion lines others answers more each.1 next)

-- one answer more is counted
one_more : (p : Answer → Bool) (answers : List Answer) (answer : Answer) → count_by p (answers ++ answer ∷ [])
    ≡ count_by p answers + cond (p answer) 1 0
one_more p answers answer = fold-append (λ (n : ℕ) (a : Answer). n + cond (p a) 1 0) 0 answers (answer ∷ [])

counts_more : (converter : Converter) (answers : List Answer) (answer : Answer)
    → IsTallyOf (count_by is_ok answers) (count_by is_err answers) converter.tally
    → IsTallyOf (count_by is_ok (answers ++ answer ∷ [])) (count_by is_err (answers ++ answer ∷ []))
    (with_answer converter answer).tally
counts_more converter answers (Ok text) counts =
    let packets = one_more is_ok answers (Ok text) in
    let refusals = one_more is_err answers (Ok text) in
    record {
      packets_counted = omega (arith, packets, counts.packets_counted);
      refusals_counted = omega (arith, refusals, counts.refusals_counted);
    }
counts_more converter answers (Err fault) counts =
    let packets = one_more is_ok answers (Err fault) in
    let refusals = one_more is_err answers (Err fault) in
    record {
      packets_counted = omega (arith, packets, counts.packets_counted);
      refusals_counted = omega (arith, refusals, counts.refusals_counted);
    }

kept : (converter : Converter) (answer : Answer) → (with_answer converter answer).conversion ≡ converter.conversion
kept converter (Ok text) = refl
kept converter (Err fault) = refl

-- a line more
line_more : (start before : Converter) (lines : List TextLine) (text : List ℕ) (line : TextLine) (answer : Answer)
    → AnswersLine before.conversion line answer → ConverterStands start before lines text
    → ConverterStands start (with_answer before answer) (lines ++ line ∷ []) (text ++ answer_line answer)
line_more start before lines text line answer answered stands =
    let given = stands.answered.given in
    let one = subst (λ (c : Conversion). AnswersLine c line answer) stands.same answered in record {
      same = kept before answer ∙ stands.same;
      answered = record {
        given = record {
          answers = given.answers ++ answer ∷ [];
          each = answers-append start.conversion lines (line ∷ []) given.answers (answer ∷ []) given.each (one, tt);
          whole = (λ i. given.whole i ++ sym (append-nil (answer_line answer)) i)
              ∙ sym (flat_map-append answer_line given.answers (answer ∷ []));
        };
        counts = counts_more before given.answers answer stands.answered.counts;
      };
    }

pub answers_more : (start before after : Converter) (lines : List TextLine) (text : List ℕ) (line : TextLine)
    (answer : Answer) → after ≡ with_answer before answer
    → AnswersLine before.conversion line answer → ConverterStands start before lines text
    → ConverterStands start after (lines ++ line ∷ []) (text ++ answer_line answer)
answers_more start before after lines text line answer is answered stands =
    subst (λ (c : Converter). ConverterStands start c (lines ++ line ∷ []) (text ++ answer_line answer)) (sym is)
    (line_more start before lines text line answer answered stands)
