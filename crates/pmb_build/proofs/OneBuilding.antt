-- What is built of bytes is one text and one tally, and the text of the lines that have ended comes
-- first. For the laws `one_building` and `ended_lines_come_first`. A line has one answer: a
-- transaction has one packet, and a line without one has one first fault (laws of `pmb_line`).
use Rattle.std.proofs.Common.{◌≡◌, ℕ, List, [], ◌∷◌, ◌++◌, refl, sym, ◌∙◌, ap, subst}
use Rattle.pmb_bus.specs.declared.event.Event.{Event}
use Rattle.pmb_command.specs.Parts.{DeviceParts}
use Rattle.pmb_io.specs.Answers as answers
use Rattle.pmb_io.specs.Lines.{LinesGoOn, TextLine, ended_lines, lines_of}
use Rattle.pmb_io.specs.Lines as lines
use Rattle.pmb_io.specs.declared.tally.Tally.{Tally}
use Rattle.pmb_transaction.specs.Packet.{Packet}
use Rattle.pmb_transaction.specs.Transaction.{TransactionData}
use Rattle.pmb_line.specs.LineFault.{IsLineFault, Parses}
use Rattle.pmb_line.specs.Spelling.{SpellsTransaction}
use Rattle.pmb_line.specs.Words.{texts, line_words}
use Rattle.pmb_line.specs.declared.line_fault.LineFault.{LineFault}
use Rattle.pmb_line.specs.declared.line_fault.LineFault.TheVariants as fault
use Rattle.pmb_build.specs.Answer.{BuildAnswer, BuildsLine, BuildsText, Builds, Built, Refused, Nothing, answer_text}
use Rattle.pmb_build.specs.Answer.{is_built, is_refused, most_build_line}
use Rattle.pmb_build.specs.Lines.{BuildsCounted, BuildsEach, BuildsLines, BuildsEnded, BuildsInput}

module _ (profile : List DeviceParts) (one_transaction : (ws : List (List ℕ)) (t u : TransactionData)
    → SpellsTransaction ws t → SpellsTransaction ws u → t ≡ u)
    (one_packet : (t : TransactionData) (a b : List Event) → Packet profile t a → Packet profile t b → a ≡ b)
    (one_fault : (line : List ℕ) (a b : LineFault) → IsLineFault profile line a → IsLineFault profile line b → a ≡ b)
    (no_parse : (line : List ℕ) (why : LineFault) (t : TransactionData) → IsLineFault profile line why
    → Parses profile line t → ⊥) where
  -- a line that is built parses
  parses : (line : List ℕ) (events : List Event) → (b : Builds profile line events) → Parses profile line b.t
  parses line events b = record { spells = b.spells; packet = (events, b.packet) }

  same_answer : (line : List ℕ) (a b : BuildAnswer) → BuildsText profile line a → BuildsText profile line b → a ≡ b
  same_answer line (Built events) (Built others) x y =
      ap Built (one_packet y.t events others (subst (λ (t : TransactionData). Packet profile t events)
      (one_transaction (texts (line_words line)) x.t y.t x.spells y.spells) x.packet) y.packet)
  same_answer line (Built events) (Refused why) x y = absurd (no_parse line why x.t y.first (parses line events x))
  same_answer line (Built events) Nothing x y = absurd (no_parse line fault.Blank x.t y (parses line events x))
  same_answer line (Refused why) (Built events) x y = absurd (no_parse line why y.t x.first (parses line events y))
  same_answer line (Refused why) (Refused other) x y = ap Refused (one_fault line why other x.first y.first)
  same_answer line (Refused why) Nothing x y = absurd (x.has_words (one_fault line why fault.Blank x.first y))
  same_answer line Nothing (Built events) x y = absurd (no_parse line fault.Blank y.t x (parses line events y))
  same_answer line Nothing (Refused why) x y = absurd (y.has_words (one_fault line why fault.Blank y.first x))
  same_answer line Nothing Nothing x y = refl

  same_at : (line : TextLine) (a b : BuildAnswer) → BuildsLine profile line a → BuildsLine profile line b → a ≡ b
  same_at (lines.Ended line) a b x y = same_answer line a b x y
  same_at (lines.Last line) a b x y = same_answer line a b x y
  same_at lines.TooLong a b x y = x ∙ sym y

  same_each : (given : List TextLine) (xs ys : List BuildAnswer) → BuildsEach profile given xs
      → BuildsEach profile given ys → xs ≡ ys
  same_each [] [] [] x y = refl
  same_each [] [] (b ∷ ys) x y = absurd y
  same_each [] (a ∷ xs) ys x y = absurd x
  same_each (line ∷ given) [] ys x y = absurd x
  same_each (line ∷ given) (a ∷ xs) [] x y = absurd y
  same_each (line ∷ given) (a ∷ xs) (b ∷ ys) x y = ap (λ c. c ∷ xs) (same_at line a b x.0 y.0)
      ∙ ap (λ cs. b ∷ cs) (same_each given xs ys x.1 y.1)

  -- ---- one text

  pub one_text : (given : List TextLine) (a b : List ℕ) → BuildsLines profile given a → BuildsLines profile given b
      → a ≡ b
  one_text = answers.one_text answer_text (BuildsEach profile) same_each

  pub one_tally : (given : List TextLine) (a b : List ℕ) (s t : Tally) → BuildsCounted profile s given a
      → BuildsCounted profile t given b → s ≡ t
  one_tally = answers.one_tally answer_text (BuildsEach profile) is_built is_refused same_each

  -- ---- fronts

  -- the answers to lines that begin some others
  record Front (given : List TextLine) (answers : List BuildAnswer) : Type 0 where
    -- the answers to these lines, and those to the others
    front : List BuildAnswer
    after : List BuildAnswer
    split : answers ≡ front ++ after
    each : BuildsEach profile given front

  front_of : (given others : List TextLine) (answers : List BuildAnswer) → BuildsEach profile (given ++ others) answers
      → Front given answers
  front_of [] others answers each = record { front = []; after = answers; split = refl; each = tt }
  front_of (line ∷ given) others [] each = absurd each
  front_of (line ∷ given) others (a ∷ answers) each =
      let f = front_of given others answers each.1 in
      record { front = a ∷ f.front; after = f.after; split = ap (λ xs. a ∷ xs) f.split; each = (each.0, f.each) }

  pub ended_first : (bytes more a b : List ℕ) (tally : Tally)
      → LinesGoOn (ended_lines most_build_line bytes) (lines_of most_build_line (bytes ++ more))
      → BuildsEnded profile bytes a → BuildsInput profile tally (bytes ++ more) b → (rest : List ℕ) × (b ≡ a ++ rest)
  ended_first bytes more a b tally on x y =
      let given = ended_lines most_build_line bytes in
      let all = subst (λ ls. BuildsLines profile ls b) on.1 y.given in
      let f = front_of given on.0 all.answers all.each in
      answers.front_text answer_text (BuildsEach profile) same_each given (given ++ on.0) a b f.front f.after f.each x
      all f.split
