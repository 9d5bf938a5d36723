-- What is written for lines that are answered one by one. What holds of answers of every type is
-- said here, since no law of a
-- function can speak of every type.
use Rattle.std.specs.Prelude.{◌≡◌, ℕ, ◌+◌, Bool, List, [], ◌∷◌, ◌++◌, count_by, length}
use Rattle.std.proofs.Common.{sym, ◌∙◌, ap, append-nil, append_assoc, arith}
use Rattle.pmb_io.specs.Count.{capped}
use Rattle.pmb_io.specs.Lines.{TextLine, ended_lines, lines_of}
use Rattle.pmb_io.specs.Runs.{Job}
use Rattle.pmb_io.specs.Tally.{IsTallyOf}
use Rattle.pmb_io.specs.declared.tally.Tally.{Tally}

module _ {A : Type 0} (answer_text : ℕ → A → List ℕ) where
  -- The texts of the answers to lines that come after some others. Lines are counted from 1, and
  -- blank ones too; the count
  -- stays at the greatest u64.
  abbrev pub answers_after : ℕ → List A → List ℕ
  answers_after before [] = []
  answers_after before (answer ∷ answers) = answer_text (capped (before + 1)) answer
      ++ answers_after (before + 1) answers

  -- those of answers, and then those of others
  pub answers_after-append : (before : ℕ) (answers more : List A) → answers_after before (answers ++ more)
      ≡ answers_after before answers ++ answers_after (before + length answers) more
  answers_after-append before [] more =
      let number : before ≡ before + length {A = A} [] = omega arith in
      ap (λ (n : ℕ). answers_after n more) number
  answers_after-append before (answer ∷ answers) more =
      let first = answer_text (capped (before + 1)) answer in
      let number : before + 1 + length answers ≡ before + length (answer ∷ answers) = omega arith in
      ap (λ (text : List ℕ). first ++ text) (answers_after-append (before + 1) answers more)
      ∙ sym (append_assoc first (answers_after (before + 1) answers) (answers_after (before + 1 + length answers) more))
      ∙ ap (λ (n : ℕ). answers_after before (answer ∷ answers) ++ answers_after n more) number

  -- and that of one more
  pub answers_after-push : (answers : List A) (answer : A) → answers_after 0 (answers ++ answer ∷ [])
      ≡ answers_after 0 answers ++ answer_text (capped (length answers + 1)) answer
  answers_after-push answers answer =
      let number : 0 + length answers + 1 ≡ length answers + 1 = omega arith in
      answers_after-append 0 answers (answer ∷ [])
      ∙ ap (λ (text : List ℕ). answers_after 0 answers ++ text)
      (append-nil (answer_text (capped (0 + length answers + 1)) answer)
      ∙ ap (λ (n : ℕ). answer_text (capped n) answer) number)

  module _ (AnswersEach : List TextLine → List A → Type 0) where
    -- A text is the answers to some lines.
    pub record AnswersLines (lines : List TextLine) (text : List ℕ) : Type 0 where
      pub answers : List A
      pub each : AnswersEach lines answers
      pub whole : text ≡ answers_after 0 answers

    -- Lines that have one list of answers each have one text, and a front of it is that of the lines that come first.
    module _ (one : (lines : List TextLine) (xs ys : List A) → AnswersEach lines xs → AnswersEach lines ys
        → xs ≡ ys) where
      pub one_text : (lines : List TextLine) (a b : List ℕ) → AnswersLines lines a → AnswersLines lines b → a ≡ b
      one_text lines a b x y = x.whole ∙ ap (answers_after 0) (one lines x.answers y.answers x.each y.each)
          ∙ sym y.whole

      pub front_text : (given all : List TextLine) (a b : List ℕ) (front more : List A) → AnswersEach given front
          → AnswersLines given a → (y : AnswersLines all b)
          → y.answers ≡ front ++ more → (rest : List ℕ) × (b ≡ a ++ rest)
      front_text given all a b front more each x y split =
          let rest = answers_after (0 + length front) more in
          let same : answers_after 0 front ≡ a = ap (answers_after 0) (one given front x.answers each x.each)
          ∙ sym x.whole in (
            rest,
            y.whole ∙ ap (answers_after 0) split ∙ answers_after-append 0 front more
                ∙ ap (λ (text : List ℕ). text ++ rest) same,
          )

    module _ (is_packet is_refusal : A → Bool) where
      -- And so many of them count as packets, and so many as refusals.
      pub record AnswersCounted (tally : Tally) (lines : List TextLine) (text : List ℕ) : Type 0 where
        pub given : AnswersLines lines text
        pub counts : IsTallyOf (count_by is_packet given.answers) (count_by is_refusal given.answers) tally

      -- and one tally
      pub one_tally : ((lines : List TextLine) (xs ys : List A) → AnswersEach lines xs → AnswersEach lines ys → xs ≡ ys)
          → (lines : List TextLine) (a b : List ℕ) (s t : Tally)
          → AnswersCounted s lines a → AnswersCounted t lines b → s ≡ t
      one_tally one lines a b s t x y =
          let same = one lines x.given.answers y.given.answers x.given.each y.given.each in
          ap (λ (n : ℕ). record s { packets = n })
          (x.counts.packets_counted ∙ ap (λ (xs : List A). capped (count_by is_packet xs)) same
          ∙ sym y.counts.packets_counted)
          ∙ ap (λ (n : ℕ). record t { refusals = n })
          (x.counts.refusals_counted ∙ ap (λ (xs : List A). capped (count_by is_refusal xs)) same
          ∙ sym y.counts.refusals_counted)

      -- What is to be written: the answers to the lines of an input, each of so many bytes at most.
      -- More is always wanted.
      abbrev pub answers_job : ℕ → Job Tally
      answers_job most = record {
        Whole = λ tally bytes text. AnswersCounted tally (lines_of most bytes) text;
        Stops = λ tally bytes text. ⊥;
        Front = λ bytes text. AnswersLines (ended_lines most bytes) text;
        IsOpen = λ bytes. Unit {0};
      }
