-- Both clauses by `cut`, which is told of the times of the rest what each clause says of them.
use Rattle.std.proofs.Common.{◌≡◌, ◌≢◌, ℕ, ◌+◌, inl, inr, List, ◌++◌, length, refl, subst, sym}
use Rattle.pmb_command.specs.Bus.{IsBus}
use Rattle.pmb_command.specs.Parts.{DeviceParts}
use Rattle.pmb_facts.specs.Fact.{FactData}
use Rattle.pmb_unknown_start.specs.declared.start.Start.TheVariants.{AllKnown}
use Rattle.pmb_unknown_start.specs.Past.{PastData}
use Rattle.pmb_scan.specs.declared.after_bad_token.AfterBadToken.{AfterBadToken}
use Rattle.pmb_json_objects.specs.Counts.{CountsData}
use Rattle.pmb_fact_stream.specs.Before.{at_first}
use Rattle.pmb_fact_stream.specs.Choice.{ChoiceData}
use Rattle.pmb_fact_stream.specs.Lost.{lost_in}
use Rattle.pmb_fact_stream.specs.Spans.{past_in}
use Rattle.pmb_times.specs.Times.{time_at}
use Rattle.pmb_json.specs.Objects.{objects_of}
use Rattle.pmb_json.specs.Pieces.{CanBeCutBehind, EachSaysNoMore, OtherTimes}
use Rattle.pmb_json.specs.Pieces.{SameTimes, TellsNoMore, Timing, all_known}
use Rattle.pmb_telling.specs.Text.{BadLine, FactsFrom}
use Rattle.pmb_json.proofs.Cut.{CutLaws, FirstPiece, cut, firsts_in}
use Rattle.pmb_json.proofs.NoMore.{IsAfter, NoMore, no_more_across, stand_after}
use Rattle.pmb_json.proofs.PieceMembers.{Tells}
use Rattle.pmb_json.proofs.PieceTimes.{as_many_words}
use Rattle.pmb_json.proofs.Pieces.{Agree, StandBeside}
use Rattle.pmb_json.proofs.laws.texts_of_pieces_say_no_more.Goals as goal

pub returns : goal.returns
returns c =
    let said : (timing : Timing) (choice : ChoiceData) (profile : List DeviceParts) (after : AfterBadToken)
    (front back : List ℕ) (bad lines : List BadLine) (facts whole : List FactData) (x y : CountsData) → IsBus profile
    → choice.start ≢ AllKnown → (first : CanBeCutBehind profile choice.start front)
    → ((rest : List ℕ) (k : ℕ) → Tells timing (time_at rest k) (time_at (front ++ rest) (length first.events + k)))
    → FactsFrom choice.ignored profile after at_first back bad facts x
    → FactsFrom choice.ignored profile after at_first (front ++ back) lines whole y
    → (firsts : List FactData) × (others : List FactData) × (whole ≡ firsts ++ others)
    × EachSaysNoMore timing (objects_of choice profile facts) (objects_of (all_known choice) profile others) =
    λ timing choice profile after front back bad lines facts whole x y bus late first tells rest all.
    let start = choice.start in
    let before = past_in (lost_in profile 0 first.events) first.spans in
    let stand : StandBeside profile start AllKnown (IsAfter before) =
    stand_after profile start before (λ x y is.
    subst (λ (past : List PastData). Agree profile start AllKnown x past) (sym is)
    (record {
      pages = λ addr number known.
          c.pieces_say_what_the_whole_says.ensures.page profile start before x addr number late known;
      phases = λ addr number known. c.pieces_say_what_the_whole_says.ensures.phase profile before x addr number known;
      modes = λ addr. c.pieces_say_what_the_whole_says.ensures.mode profile start before x addr bus (first.told addr);
    })) in
    let piece : FirstPiece profile front = record {
      cut = record {
        events = first.events;
        spells = first.spells;
        stop = first.stop;
        between = first.between;
      };
      spans = first.spans;
      reads = first.reads;
    } in
    let laws : CutLaws profile = record {
      spans_move = λ n k events spans reads. c.spans_move.ensures profile n k events spans reads;
      spelled = c.texts_may_be_cut_between_words.ensures.spelled;
      bad_word = c.texts_may_be_cut_between_words.ensures.bad;
      joined = c.spans_may_be_cut.ensures.joined profile;
      whole = c.spans_may_be_cut.ensures.whole profile;
    } in
    let both = cut choice.ignored timing profile laws front piece
    (NoMore timing choice profile)
    (no_more_across timing choice profile c.objects_are_of_facts.ensures
    (length first.events) before stand) tells after bad back facts x rest in
    let firsts = firsts_in choice.ignored both.lost first.spans both.text in
    let same = c.one_list_of_facts.ensures choice.ignored profile after (front ++ back) lines both.bad whole
    (firsts ++ both.others) y both.counts bus all both.from_first in (
      firsts,
      both.others,
      same.0,
      both.beside,
    ) in
    record {
      values = λ choice profile after front back bad lines facts whole x y bus late first rest all.
          said OtherTimes choice profile after front back bad lines facts whole x y bus late first (λ rest k. inl refl)
          rest all;
      times = λ choice profile after front back bad lines facts whole x y bus late first line rest all.
          said SameTimes choice profile after front back bad lines facts whole x y bus late first
          (λ rest k. inr (subst (λ (n : ℕ). TellsNoMore (time_at rest k) (time_at (front ++ rest) (n + k)))
          (as_many_words front first.events first.spells) (c.times_of_a_piece.ensures front rest k line)))
          rest all;
    }
