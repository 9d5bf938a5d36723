use Rattle.std.proofs.Common.{inr, List, ◌+◌, ◌++◌, refl, subst, sym}
use Rattle.pmb_unknown_start.specs.declared.start.Start.TheVariants.{AllKnown}
use Rattle.pmb_unknown_start.specs.Past.{PastData}
use Rattle.pmb_json.specs.Pieces.{SameTimes}
use Rattle.pmb_fact_stream.specs.Lost.{lost_in}
use Rattle.pmb_json.proofs.Losses.{loses_one, same_lost}
use Rattle.pmb_json.proofs.NoMore.{IsAfter, stand_after}
use Rattle.pmb_json.proofs.Pieces.{Agree, StandBeside, spans_said}
use Rattle.pmb_json.proofs.laws.pieces_say_no_more.Goals as goal

pub returns : goal.returns
returns c choice profile place there times theirs before within n m events spans bus late told so =
    let stand : StandBeside profile choice.start AllKnown (IsAfter before) =
    stand_after profile choice.start before (λ x y is.
    subst (λ (past : List PastData). Agree profile choice.start AllKnown x past) (sym is)
    (record {
      pages = λ addr number known.
          c.pieces_say_what_the_whole_says.ensures.page profile choice.start before x addr number late known;
      phases = λ addr number known. c.pieces_say_what_the_whole_says.ensures.phase profile before x addr number known;
      modes = λ addr. c.pieces_say_what_the_whole_says.ensures.mode profile choice.start before x addr bus (so addr);
    })) in
    spans_said c.objects_are_of_facts.ensures SameTimes choice profile choice.start AllKnown (IsAfter before) stand
    place there times theirs (lost_in profile m events) (lost_in profile (n + m) events) (loses_one profile m events) n
    (same_lost profile n m (n + m) events refl) spans within (before ++ within) (λ at. inr (told at)) refl
