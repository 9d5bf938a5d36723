-- What is told for bytes that more may follow: the facts of all that has ended in them.
use Rattle.std.specs.Prelude.{◌≡◌, ◌⊎◌, ◌<◌, ℕ, Option, List, [], ◌∷◌, ◌++◌, filter, length}
use Rattle.pmb_bus.specs.declared.event.Event.{Event}
use Rattle.pmb_bus.specs.Text.{BeginsText, EndedWordsSpell, FirstBadWord, front_word}
use Rattle.pmb_command.specs.Parts.{DeviceParts}
use Rattle.pmb_facts.specs.Fact.{FactData}
use Rattle.pmb_scan.specs.declared.after_bad_token.AfterBadToken.{AfterBadToken}
use Rattle.pmb_spans.specs.Spans.{Span, SpansFrom}
use Rattle.pmb_fact_stream.specs.Before.{Before, at_first}
use Rattle.pmb_fact_stream.specs.Choice.{ChoiceData}
use Rattle.pmb_fact_stream.specs.Lines.{fact_lines}
use Rattle.pmb_fact_stream.specs.Lost.{lost_in}
use Rattle.pmb_fact_stream.specs.Others.{is_told}
use Rattle.pmb_telling.specs.Text.{BadLine, GoesOn, IsBadLine, IsBehindLine, bad_line_facts, behind_line, front_facts}
use Rattle.pmb_telling.specs.Text.{text_facts}

-- The bytes end inside the word of a bad line, and fewer than 32 of its bytes have come.
abbrev pub IsUnderWay : List ℕ → List ℕ → Type 0
IsUnderWay line rest = (rest ≡ []) × (front_word line ≡ line) × (length line < 32)

-- No bytes that may follow where the bytes end make a token of it.
abbrev pub StaysBad : BadLine → List ℕ → Type 0
StaysBad bad rest = rest ≡ [] → (others : List ℕ)
    → FirstBadWord (bad.front ++ (bad.line ++ others)) bad.events (length bad.front)

module _ (ignored : Option (List ℕ)) where
  module _ (profile : List DeviceParts) where
    -- A bad word that has not ended at the end of the bytes waits until 32 of its bytes have come;
    -- then, or where it has ended, its fact is out.
    abbrev pub IsOutOf : Before → BadLine → List ℕ → List FactData → Type 0
    IsOutOf b bad rest facts =
        (IsUnderWay bad.line rest × (facts ≡ front_facts ignored profile b bad))
        ⊎ ((IsUnderWay bad.line rest → ⊥) × (facts ≡ bad_line_facts ignored profile b bad))

    -- Bytes that begin some text that spells events: the facts of the packets and refusals of the
    -- words that have ended, and of an other whose address came.
    pub record ReadsSoFar (b : Before) (bytes : List ℕ) (facts : List FactData) : Type 0 where
      pub events : List Event
      pub spans : List Span
      pub begins : BeginsText bytes
      pub spells : EndedWordsSpell bytes events
      pub reads : SpansFrom profile b.n events spans
      pub all : facts
          ≡ text_facts ignored b bytes (lost_in profile b.n events) b.past (filter (is_told ignored) spans)

    -- The facts so far of bytes from there on, with these bad lines. Reading continues after bad
    -- lines, if that is wanted.
    abbrev pub SoFarFrom : AfterBadToken → Before → List ℕ → List BadLine → List FactData → Type 0
    SoFarFrom after b bytes [] facts = ReadsSoFar b bytes facts
    SoFarFrom after b bytes (bad ∷ more) facts =
        (rest : List ℕ) × (bytes ≡ bad.front ++ bad.line ++ rest) × IsBehindLine rest × IsBadLine ignored profile b bad
        × StaysBad bad rest
        × GoesOn after rest
        (λ behind. (others : List FactData) × (facts ≡ bad_line_facts ignored profile b bad ++ others)
        × SoFarFrom after (behind_line ignored profile b bad) behind more others)
        ((more ≡ []) × IsOutOf b bad rest facts)

-- the text so far
pub record HasTold (choice : ChoiceData) (profile : List DeviceParts) (after : AfterBadToken) (bytes : List ℕ)
    (text : List ℕ) : Type 0 where
  pub bad : List BadLine
  pub facts : List FactData
  pub from_first : SoFarFrom choice.ignored profile after at_first bytes bad facts
  pub lines : text ≡ fact_lines choice profile facts
