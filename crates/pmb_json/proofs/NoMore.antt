-- That objects say no more holds across a cut: of those of a piece beside those of the whole, where what is
-- known in both agrees. For the laws on pieces; `texts_of_pieces_say_no_more`
-- goes by Cut.
use Rattle.std.proofs.Common.{◌≡◌, ℕ, List, [], ◌∷◌, ◌++◌, take, ap, ◌∙◌, append_assoc}
use Rattle.pmb_command.specs.Parts.{DeviceParts}
use Rattle.pmb_facts.specs.Fact.{FactData}
use Rattle.pmb_unknown_start.specs.declared.start.Start.{Start}
use Rattle.pmb_unknown_start.specs.declared.start.Start.TheVariants.{AllKnown}
use Rattle.pmb_unknown_start.specs.Past.{PastData, Said, Dropped}
use Rattle.pmb_fact_stream.specs.Choice.{ChoiceData}
use Rattle.pmb_json.specs.Pieces.{Timing, all_known}
use Rattle.pmb_json.proofs.Cut.{HoldsAcross}
use Rattle.pmb_json.proofs.Objects.{PacketsHaveObjects}
use Rattle.pmb_json.proofs.Pieces.{Agree, FactsSayNoMore, StandBeside, both_say_no_more, spans_said, token_said}

-- the whole has more that went before
abbrev pub IsAfter : List PastData → List PastData → List PastData → Type 0
IsAfter before x y = y ≡ before ++ x

pub stand_after : (profile : List DeviceParts) (start : Start) (before : List PastData)
    → ((x y : List PastData) → IsAfter before x y → Agree profile start AllKnown x y)
    → StandBeside profile start AllKnown (IsAfter before)
stand_after profile start before agree = record {
  step = λ x y t is. ap (λ (past : List PastData). past ++ Said t ∷ []) is ∙ append_assoc before x (Said t ∷ []);
  drop = λ x y is. ap (λ (past : List PastData). past ++ Dropped ∷ []) is ∙ append_assoc before x (Dropped ∷ []);
  agree = agree;
}

module _ (timing : Timing) (choice : ChoiceData) (profile : List DeviceParts) where
  abbrev pub NoMore : List FactData → List FactData → Type 0
  NoMore facts others = FactsSayNoMore timing profile choice (all_known choice) facts others

  pub no_more_across : PacketsHaveObjects → (m : ℕ) (before : List PastData)
      → StandBeside profile choice.start AllKnown (IsAfter before)
      → HoldsAcross choice.ignored timing m before NoMore
  no_more_across of_packets m before stand = record {
    none = tt;
    both = λ a b c d first second. both_say_no_more timing profile choice (all_known choice) a b c d first second;
    spans = λ place there times theirs lost gone one same x y is tells spans.
        spans_said of_packets timing choice profile choice.start AllKnown (IsAfter before) stand place there times
        theirs lost gone one m same spans x y tells is;
    word = λ head there tells word. (token_said timing head there tells (take 32 word), tt);
  }
