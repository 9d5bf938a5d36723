-- Each line that is written for a capture is a JSON object with distinct keys, and so is each line
-- so far. For the law `each_line_is_json`. The text is the lines of objects; each object is that of
-- a span (JsonSpans), of a bad word or of the end, and `pmb_json_text` spells it in one line.
use Rattle.std.proofs.Common.{◌≡◌, ℕ, ◌+◌, ◌<◌, inl, inr, List, [], ◌∷◌, ◌++◌, filter, length, refl, sym, ap, subst}
use Rattle.std.proofs.Common.{append-nil, take}
use Rattle.std.specs.List.{flat_map}
use Rattle.pmb_bus.specs.Text.{front_word}
use Rattle.pmb_command.specs.Bus.{IsBus}
use Rattle.pmb_command.specs.Parts.{DeviceParts}
use Rattle.pmb_facts.specs.Fact.{FactData}
use Rattle.pmb_io.specs.declared.tally.Tally.{Tally}
use Rattle.pmb_scan.specs.declared.after_bad_token.AfterBadToken.{AfterBadToken}
use Rattle.pmb_scan.specs.declared.after_bad_token.AfterBadToken.TheVariants.{End, Continue}
use Rattle.pmb_json.specs.Lines.{AllMakeFormats, AreJsonLines, IsJsonLine}
use Rattle.pmb_json.specs.Objects.{objects_of}
use Rattle.pmb_json_text.specs.Json.{IsJsonText, Json, Spells}
use Rattle.pmb_json_text.specs.Member.{AreWritable, Member, members_of, object_line, object_of}
use Rattle.pmb_json_text.specs.Spelling.{AreBytes, FitsInLine, IsWritable, MembersAreWritable, spelled}
use Rattle.pmb_json_objects.specs.Counts.{CountsData, end_objects}
use Rattle.pmb_json_objects.specs.Laws.{IsJsonObject}
use Rattle.pmb_json_objects.specs.Object.{Object, is_wanted, object_lines}
use Rattle.pmb_places.specs.Text.{place_behind}
use Rattle.pmb_fact_stream.specs.Others.{is_told}
use Rattle.pmb_fact_stream.specs.Before.{Before, at_first}
use Rattle.pmb_fact_stream.specs.Choice.{ChoiceData, gives_others}
use Rattle.pmb_fact_stream.specs.Lost.{lost_in}
use Rattle.pmb_telling.specs.SoFar.{HasTold, IsOutOf, SoFarFrom}
use Rattle.pmb_telling.specs.Text.{BadLine, FactsFrom, GoesOn, IsBadLine, WritesTold, bad_line_facts, behind_line}
use Rattle.pmb_telling.specs.Text.{front_facts, past_before, word_fact, word_head}
use Rattle.pmb_telling.proofs.Words.{each_of_word}
use Rattle.pmb_unknown_start.specs.Past.{Dropped}
use Rattle.pmb_json.proofs.Losses.{loses_one}
use Rattle.pmb_json.proofs.EachOf.{each_filtered, each_of_both, each_of_first, each_of_second, each_taken}
use Rattle.pmb_json.proofs.JsonSpans.{AllSayPackets, AreJson, Below, IsJson, SaysPacket, TellJson, few, place_fits}
use Rattle.pmb_json.proofs.JsonSpans.{open_time_fits, spans_are_json, spans_say_packets, spans_tell_bytes}
use Rattle.pmb_json.proofs.Objects.{each_of_both_facts}
use Rattle.pmb_json.proofs.Telling.{AllTellBytes, PastTellsBytes}

-- ---- the lines of objects

-- what is spelled is JSON, in printable ASCII
pub record SpellsJson : Type 0 where
  -- what is spelled is that value, and has no LF in it
  pub json : (value : Json) → IsWritable value → Spells value (spelled value)
  pub line : (value : Json) → IsWritable value → FitsInLine (spelled value)

all_writable : (members : List Member) → AreWritable members → MembersAreWritable (members_of members)
all_writable [] are = tt
all_writable (m ∷ members) are = (are.0.0, are.0.1, all_writable members are.1)

whole_text : SpellsJson → (value : Json) → IsWritable value → IsJsonText (spelled value) value
whole_text spells value is = ([], spelled value, [], tt, spells.json value is, tt, sym (append-nil (spelled value)))

line_is_json : SpellsJson → (members : List Member) → IsJsonObject members → IsJsonLine (spelled (object_of members))
line_is_json spells members is =
    let writable : IsWritable (object_of members) = all_writable members is.writable in record {
      value = object_of members;
      object = tt;
      distinct = is.distinct;
      spells = whole_text spells (object_of members) writable;
      printable = spells.line (object_of members) writable;
    }

each_line : SpellsJson → (objects : List Object) → AreJson objects
    → AreJsonLines (flat_map (λ (object : Object). object_line object.members) objects)
each_line spells [] are = record { lines = []; each = tt; whole = refl }
each_line spells (object ∷ objects) are =
    let more = each_line spells objects are.1 in record {
      lines = spelled (object_of object.members) ∷ more.lines;
      each = (line_is_json spells object.members are.0, more.each);
      whole = ap (λ (l : List ℕ). object_line object.members ++ l) more.whole;
    }

lines_are_json : SpellsJson → (devices : List ℕ) (objects : List Object) (text : List ℕ)
    → text ≡ object_lines devices objects → AreJson objects → AreJsonLines text
lines_are_json spells devices objects text lines are =
    let wanted = λ (object : Object). is_wanted devices object.device in
    subst AreJsonLines (sym lines) (each_line spells (filter wanted objects) (each_filtered IsJson wanted objects are))

-- ---- a word

-- at most its first 32 bytes
told_has_bytes : (text : List ℕ) → AreBytes text → AreBytes (take 32 (front_word text))
told_has_bytes text small =
    let IsByte = λ (byte : ℕ). byte < 256 in
    each_taken IsByte 32 (front_word text) (each_of_word IsByte text small)

-- bytes that are cut in three
pub record BytesOf (front line rest : List ℕ) : Type 0 where
  -- the bytes of the line, and those after it
  pub in_line : AreBytes line
  pub behind : AreBytes rest

bytes_of : (bytes front line rest : List ℕ) → bytes ≡ front ++ line ++ rest → AreBytes bytes → BytesOf front line rest
bytes_of bytes front line rest split small =
    let IsByte = λ (byte : ℕ). byte < 256 in
    let whole : AreBytes (front ++ line ++ rest) = subst AreBytes split small in record {
      in_line = each_of_second IsByte front line (each_of_first IsByte (front ++ line) rest whole);
      behind = each_of_second IsByte (front ++ line) rest whole;
    }

module _ (below : Below) (choice : ChoiceData) (profile : List DeviceParts) (bus : IsBus profile)
    (formats : AllMakeFormats profile) where
  -- ---- a bad line

  module _ (b : Before) (bad : BadLine) (tell : AllTellBytes b.past) (is : IsBadLine choice.ignored profile b bad) where
    say_packets : AllSayPackets profile bad.spans
    say_packets = subst (AllSayPackets profile) (sym is.reported)
        (each_filtered (SaysPacket profile) (is_told choice.ignored) is.all
        (spans_say_packets profile b.n bad.events is.all is.reads))

    front_is_json : TellJson choice profile (front_facts choice.ignored profile b bad)
    front_is_json = spans_are_json below choice profile bus formats b (bad.front ++ bad.line)
        (lost_in profile b.n bad.events) (loses_one profile b.n bad.events) b.past tell bad.spans say_packets

    bad_line_is_json : AreBytes bad.line → TellJson choice profile (bad_line_facts choice.ignored profile b bad)
    bad_line_is_json small =
        each_of_both_facts choice profile IsJson (front_facts choice.ignored profile b bad) (word_fact b bad ∷ [])
        front_is_json (
          below.bad_token (word_head b bad) (take 32 (front_word bad.line))
              (record {
                at = few (b.n + length bad.events);
                place = place_fits (place_behind (b.read ++ bad.front)) (below.behind (b.read ++ bad.front));
                time = open_time_fits below bad.front bad.events;
              })
              (told_has_bytes bad.line small),
          tt,
        )

    behind_tells_bytes : AllTellBytes (behind_line choice.ignored profile b bad).past
    behind_tells_bytes =
        each_of_both PastTellsBytes (b.past ++ past_before profile b bad) (Dropped ∷ [])
        (each_of_both PastTellsBytes b.past (past_before profile b bad) tell
        (spans_tell_bytes profile (lost_in profile b.n bad.events) (loses_one profile b.n bad.events) bad.spans
        say_packets)) (tt, tt)

  -- ---- a whole text

  rest_is_json : (after : AfterBadToken) (b : Before) (bad : BadLine) (more : List BadLine) (rest : List ℕ)
      (others : List FactData) (counts : CountsData)
      → ((behind : List ℕ) → AreBytes behind
      → FactsFrom choice.ignored profile Continue (behind_line choice.ignored profile b bad) behind more others
      counts → TellJson choice profile others) → AreBytes rest
      → GoesOn after rest
      (λ behind. FactsFrom choice.ignored profile after (behind_line choice.ignored profile b bad) behind more others counts)
      ((more ≡ []) × (others ≡ []) × (counts ≡ (behind_line choice.ignored profile b bad).counts))
      → TellJson choice profile others
  rest_is_json End b bad more rest others counts later small is = subst (TellJson choice profile) (sym is.1) tt
  rest_is_json Continue b bad more [] others counts later small is = subst (TellJson choice profile) (sym is.1) tt
  rest_is_json Continue b bad more (lf ∷ bytes) others counts later small is = later bytes small.1 is

  facts_are_json : (after : AfterBadToken) (b : Before) (bytes : List ℕ) (bad : List BadLine) (facts : List FactData)
      (counts : CountsData) → AllTellBytes b.past → AreBytes bytes
      → FactsFrom choice.ignored profile after b bytes bad facts counts → TellJson choice profile facts
  facts_are_json after b bytes [] facts counts tell small reads =
      subst (TellJson choice profile) (sym reads.all) (spans_are_json below choice profile bus formats b bytes
      (lost_in profile b.n reads.events) (loses_one profile b.n reads.events) b.past tell
      reads.spans (spans_say_packets profile b.n reads.events reads.spans reads.reads))
  facts_are_json after b bytes (bad ∷ more) facts counts tell small reads =
      let cut = bytes_of bytes bad.front bad.line reads.0 reads.2 small in
      subst (TellJson choice profile) (sym reads.5)
      (each_of_both_facts choice profile IsJson (bad_line_facts choice.ignored profile b bad) reads.1
      (bad_line_is_json b bad tell reads.4 cut.in_line)
      (rest_is_json after b bad more reads.0 reads.1 counts
      (λ behind behind_small is. facts_are_json Continue (behind_line choice.ignored profile b bad) behind more reads.1 counts
      (behind_tells_bytes b bad tell reads.4) behind_small is) cut.behind reads.6))

  -- the lines of its objects, and of the last ones
  pub text_is_json : SpellsJson → (after : AfterBadToken) (bytes text : List ℕ) (tally : Tally) → AreBytes bytes
      → (told : WritesTold choice profile after bytes text tally)
      → text ≡ object_lines choice.devices (objects_of choice profile told.facts
      ++ end_objects profile (gives_others choice) told.counts) → AreJsonLines text
  text_is_json spells after bytes text tally small told lines =
      let last = end_objects profile (gives_others choice) told.counts in
      lines_are_json spells choice.devices (objects_of choice profile told.facts ++ last) text lines
      (each_of_both IsJson (objects_of choice profile told.facts) last
      (facts_are_json after at_first bytes told.bad told.facts told.counts tt small told.from_first)
      (below.last profile (gives_others choice) told.counts bus))

  -- ---- a text so far

  out_is_json : (b : Before) (bad : BadLine) (rest : List ℕ) (facts : List FactData) → AllTellBytes b.past
      → IsBadLine choice.ignored profile b bad → AreBytes bad.line
      → IsOutOf choice.ignored profile b bad rest facts → TellJson choice profile facts
  out_is_json b bad rest facts tell is small (inl waits) =
      subst (TellJson choice profile) (sym waits.1) (front_is_json b bad tell is)
  out_is_json b bad rest facts tell is small (inr out) =
      subst (TellJson choice profile) (sym out.1) (bad_line_is_json b bad tell is small)

  rest_so_far_is_json : (after : AfterBadToken) (b : Before) (bad : BadLine) (more : List BadLine) (rest : List ℕ)
      (facts : List FactData)
      → ((behind : List ℕ) (others : List FactData) → AreBytes behind
      → SoFarFrom choice.ignored profile Continue (behind_line choice.ignored profile b bad) behind more others
      → TellJson choice profile others)
      → AllTellBytes b.past → IsBadLine choice.ignored profile b bad → AreBytes bad.line → AreBytes rest
      → GoesOn after rest (λ behind. (others : List FactData)
      × (facts ≡ bad_line_facts choice.ignored profile b bad ++ others)
      × SoFarFrom choice.ignored profile after (behind_line choice.ignored profile b bad) behind more others)
      ((more ≡ []) × IsOutOf choice.ignored profile b bad rest facts)
      → TellJson choice profile facts
  rest_so_far_is_json End b bad more rest facts later tell is line small so_far =
      out_is_json b bad rest facts tell is line so_far.1
  rest_so_far_is_json Continue b bad more [] facts later tell is line small so_far =
      out_is_json b bad [] facts tell is line so_far.1
  rest_so_far_is_json Continue b bad more (lf ∷ bytes) facts later tell is line small so_far =
      subst (TellJson choice profile) (sym so_far.1)
      (each_of_both_facts choice profile IsJson (bad_line_facts choice.ignored profile b bad) so_far.0
      (bad_line_is_json b bad tell is line) (later bytes so_far.0 small.1 so_far.2))

  so_far_is_json : (after : AfterBadToken) (b : Before) (bytes : List ℕ) (bad : List BadLine) (facts : List FactData)
      → AllTellBytes b.past → AreBytes bytes
      → SoFarFrom choice.ignored profile after b bytes bad facts → TellJson choice profile facts
  so_far_is_json after b bytes [] facts tell small reads =
      subst (TellJson choice profile) (sym reads.all)
      (spans_are_json below choice profile bus formats b bytes (lost_in profile b.n reads.events)
      (loses_one profile b.n reads.events) b.past tell (filter (is_told choice.ignored) reads.spans)
      (each_filtered (SaysPacket profile) (is_told choice.ignored) reads.spans
      (spans_say_packets profile b.n reads.events reads.spans reads.reads)))
  so_far_is_json after b bytes (bad ∷ more) facts tell small reads =
      let cut = bytes_of bytes bad.front bad.line reads.0 reads.1 small in
      rest_so_far_is_json after b bad more reads.0 facts
      (λ behind others behind_small is. so_far_is_json Continue (behind_line choice.ignored profile b bad) behind more others
      (behind_tells_bytes b bad tell reads.3) behind_small is)
      tell reads.3 cut.in_line cut.behind reads.5

  pub text_so_far_is_json : SpellsJson → (after : AfterBadToken) (bytes text : List ℕ) → AreBytes bytes
      → (told : HasTold choice profile after bytes text)
      → text ≡ object_lines choice.devices (objects_of choice profile told.facts) → AreJsonLines text
  text_so_far_is_json spells after bytes text small told lines =
      lines_are_json spells choice.devices (objects_of choice profile told.facts) text lines
      (so_far_is_json after at_first bytes told.bad told.facts tt small told.from_first)
