-- The text that answers the lines that have ended is a front of the whole text: the law
-- `ended_lines_come_first`. More bytes change no ended line, and each line has one
-- answer.
use Rattle.std.proofs.Common.{◌≡◌, ℕ, List, [], ◌∷◌, ◌++◌, ◌∙◌, ap, refl, subst}
use Rattle.std.specs.List.{flat_map}
use Rattle.std.proofs.lemmas.List.Concat.{flat_map-append}
use Rattle.pmb_io.specs.Lines.{LinesGoOn, TextLine, ended_lines, lines_of}
use Rattle.pmb_convert.specs.declared.conversion.Conversion.{Conversion}
use Rattle.pmb_convert.specs.Answer.{Answer, AnswersEach, answer_line}
use Rattle.pmb_convert.specs.Laws.{ComesFirst}
use Rattle.pmb_convert.specs.Lines.{AnswersLines, most_conversion_line}
use Rattle.pmb_convert.proofs.Determined.{HasOneAnswer, one_text}

-- the answers to lines that begin some others
record Front (conversion : Conversion) (given : List TextLine) (answers : List Answer) : Type 0 where
  -- the answers to the first lines
  front : List Answer
  -- and those to the others
  after : List Answer
  split : answers ≡ front ++ after
  each : AnswersEach conversion given front

front_of : (conversion : Conversion) (given others : List TextLine) (answers : List Answer)
    → AnswersEach conversion (given ++ others) answers → Front conversion given answers
front_of conversion [] others answers each = record { front = []; after = answers; split = refl; each = tt }
front_of conversion (line ∷ given) others [] each = absurd each
front_of conversion (line ∷ given) others (a ∷ answers) each =
    let f = front_of conversion given others answers each.1 in
    record { front = a ∷ f.front; after = f.after; split = ap (λ xs. a ∷ xs) f.split; each = (each.0, f.each) }

answered_first : (conversion : Conversion) → HasOneAnswer conversion
    → (given others : List TextLine) (text whole : List ℕ) → AnswersLines conversion given text
    → AnswersLines conversion (given ++ others) whole
    → (rest : List ℕ) × (whole ≡ text ++ rest)
answered_first conversion one given others text whole first all =
    let f = front_of conversion given others all.answers all.each in
    let same = one_text conversion one given (flat_map answer_line f.front) text
    (record { answers = f.front; each = f.each; whole = refl }) first in
    let rest = flat_map answer_line f.after in (
      rest,
      all.whole ∙ ap (flat_map answer_line) f.split ∙ flat_map-append answer_line f.front f.after
          ∙ ap (λ front. front ++ rest) same,
    )

pub comes_first : (conversion : Conversion) → HasOneAnswer conversion
    → ((bytes more : List ℕ) → LinesGoOn (ended_lines most_conversion_line bytes)
    (lines_of most_conversion_line (bytes ++ more))) → ComesFirst conversion
comes_first conversion one lines_go_on = record {
  one = λ bytes text other left right. one_text conversion one (ended_lines most_conversion_line bytes) text other left
      right;
  front = λ bytes more text whole tally first all.
      let on = lines_go_on bytes more in
      answered_first conversion one (ended_lines most_conversion_line bytes) on.0 text whole first
      (subst (λ ls. AnswersLines conversion ls whole) on.1 all.given);
}
