-- Some text is built of any bytes. For the law `some_building`. Each line parses or has a first
-- fault (a law of `pmb_line`), so each has an answer, and the answers have a text and a tally.
use Rattle.std.proofs.Common.{ℕ, ◌⊎◌, inl, inr, List, [], ◌∷◌, refl}
use Rattle.std.specs.Prelude.{count_by}
use Rattle.pmb_command.specs.Parts.{DeviceParts}
use Rattle.pmb_io.specs.Count.{capped}
use Rattle.pmb_io.specs.Lines.{TextLine, lines_of}
use Rattle.pmb_io.specs.Lines as lines
use Rattle.pmb_io.specs.declared.tally.Tally.{Tally}
use Rattle.pmb_transaction.specs.Transaction.{TransactionData}
use Rattle.pmb_line.specs.LineFault.{IsLineFault, Parses}
use Rattle.pmb_line.specs.declared.line_fault.LineFault.{LineFault}
use Rattle.pmb_line.specs.declared.line_fault.LineFault.TheVariants as fault
use Rattle.pmb_build.specs.Answer.{BuildAnswer, BuildsLine, BuildsText, Built, Refused, Nothing, is_built, is_refused}
use Rattle.pmb_build.specs.Answer.{most_build_line}
use Rattle.pmb_build.specs.Lines.{BuildsEach, BuildsInput, answers_behind}

module _ (profile : List DeviceParts) (parse_or_fault : (line : List ℕ)
    → ((t : TransactionData) × Parses profile line t) ⊎ ((why : LineFault) × IsLineFault profile line why)) where
  -- the answer to a line with a fault, which is none where the line is blank
  refused : (line : List ℕ) (why : LineFault) → IsLineFault profile line why
      → (answer : BuildAnswer) × BuildsText profile line answer
  refused line fault.Blank is = (Nothing, is)
  refused line (fault.BadWord at) is = (Refused (fault.BadWord at), record { first = is; has_words = λ same. cc same })
  refused line (fault.TooLong at) is = (Refused (fault.TooLong at), record { first = is; has_words = λ same. cc same })
  refused line (fault.Invalid invalid) is =
      (Refused (fault.Invalid invalid), record { first = is; has_words = λ same. cc same })

  text_some : (line : List ℕ) → (answer : BuildAnswer) × BuildsText profile line answer
  text_some line =
      elim (parse_or_fault line) [
        | inl parsed ↦ (
          Built parsed.1.packet.0,
          record { t = parsed.0; spells = parsed.1.spells; packet = parsed.1.packet.1 },
        )
        | inr first ↦ refused line first.0 first.1
      ]

  line_some : (line : TextLine) → (answer : BuildAnswer) × BuildsLine profile line answer
  line_some (lines.Ended line) = text_some line
  line_some (lines.Last line) = text_some line
  line_some lines.TooLong = (Refused (fault.TooLong most_build_line), refl)

  each_some : (given : List TextLine) → (answers : List BuildAnswer) × BuildsEach profile given answers
  each_some [] = ([], tt)
  each_some (line ∷ rest) =
      let first = line_some line in
      let behind = each_some rest in
      (first.0 ∷ behind.0, (first.1, behind.1))

  pub some_text : (bytes : List ℕ) → (text : List ℕ) × (tally : Tally) × BuildsInput profile tally bytes text
  some_text bytes =
      let all = each_some (lines_of most_build_line bytes) in (
        answers_behind 0 all.0,
        record { packets = capped (count_by is_built all.0); refusals = capped (count_by is_refused all.0) },
        record {
          given = record { answers = all.0; each = all.1; whole = refl };
          counts = record { packets_counted = refl; refusals_counted = refl };
        },
      )
