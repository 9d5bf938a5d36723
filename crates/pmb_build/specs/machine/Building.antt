-- What is kept while lines are built.
use Rattle.std.specs.Prelude.{◌≡◌, ℕ, Option, List, length}
use Rattle.pmb_io.specs.Count.{capped}
use Rattle.pmb_io.specs.Lines.{TextLine}
use Rattle.pmb_io.specs.Outgoing.{PutsText}
use Rattle.pmb_io.specs.Tally.{with_packet, with_refusal}
use Rattle.pmb_io.specs.declared.tally.Tally.{Tally}
use Rattle.pmb_build.specs.Answer.{BuildAnswer, BuildsText, Built, Refused, Nothing, answer_text}
use Rattle.pmb_build.specs.Lines.{BuildsCounted}
use Rattle.pmb_build.specs.declared.builder.Builder.{Builder}

-- an answer more is counted
abbrev pub counted_in : BuildAnswer → Tally → Tally
counted_in (Built events) tally = with_packet tally
counted_in (Refused why) tally = with_refusal tally
counted_in Nothing tally = tally

-- the profile stays, and the text is the answers to the lines, which are counted
pub record BuilderStands (start now : Builder) (lines : List TextLine) (text : List ℕ) : Type 0 where
  pub same : now.profile.now ≡ start.profile.now
  pub answered : BuildsCounted start.profile.now now.tally lines text
  pub number : now.lines ≡ capped (length answered.given.answers)

-- A line that was counted is answered, and the answer is put out and counted.
pub record BuilderTakes (before after : Builder) (line : List ℕ) (held_old : Option (List ℕ)) (waiting_old : List ℕ)
    (held_new : Option (List ℕ)) (waiting_new : List ℕ) : Type 0 where
  pub answer : BuildAnswer
  pub answers : BuildsText before.profile.now line answer
  pub writes : PutsText held_old waiting_old held_new waiting_new (answer_text before.lines answer)
  pub same : after.profile ≡ before.profile
  pub lines : after.lines ≡ before.lines
  pub tally : after.tally ≡ counted_in answer before.tally
