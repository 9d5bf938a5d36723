-- A bad word: where it is met, how it goes on, and what is written of it. For `drop_line` and
-- `end_words` of `src/engine.rt`. The word under way of a scan stands where its line begins to be
-- bad; its fact is fixed once 32 bytes of it came, or it ended, however its line goes on.
use Rattle.std.proofs.Common.{◌≡◌, ℕ, ◌+◌, true, Option, List, [], ◌∷◌, ◌++◌, filter, length, take, refl, sym, ap}
use Rattle.std.proofs.Common.{subst}
use Rattle.std.proofs.Common.{add-zero, append_assoc, append-nil, arith, length-append, ◌∙◌}
use Rattle.std.proofs.lemmas.List.Elements.{filter-append}
use Rattle.pmb_bus.specs.declared.event.Event.{Event}
use Rattle.pmb_bus.specs.LexFault.{OpenWordIsBad}
use Rattle.pmb_bus.specs.Text.{EndsBetween, FirstBadWord, Spells, front_word, is_word, open_word}
use Rattle.pmb_command.specs.Parts.{DeviceParts}
use Rattle.pmb_io.specs.Count.{capped}
use Rattle.pmb_io.specs.Lines.{HasNoLf}
use Rattle.pmb_telling.specs.Text.{BadLine, bad_line_facts, behind_line, front_facts, text_facts}
use Rattle.pmb_telling.specs.Text.{past_before, word_fact}
use Rattle.pmb_telling.specs.machine.Standing.{HasBadWord, InBadLine, IsBadSoFar, KeptIn, behind_bytes, behind_fact}
use Rattle.pmb_telling.specs.machine.Standing.{last_word_lines, longer_line, open_word_fact}
use Rattle.pmb_telling.proofs.Lines.{behind_front}
use Rattle.pmb_telling.proofs.Facts.{counts_append, counts_moved, ends_tell_none, lines_append, told_moved}
use Rattle.pmb_fact_stream.proofs.Losing.{past_both, past_moved}
use Rattle.pmb_telling.proofs.OpenOthers.{TellsOpen, facts_told}
use Rattle.pmb_telling.proofs.Words.{no_lf_append, solid_both}
use Rattle.pmb_fact_stream.specs.Lost.{lost_in}
use Rattle.pmb_fact_stream.specs.Spans.{bad_token_fact}
use Rattle.pmb_json_objects.specs.Head.{Head}
use Rattle.pmb_json_objects.specs.Counts.{CountsData}
use Rattle.pmb_facts.specs.Fact.{BadToken, FactData}
use Rattle.pmb_fact_stream.specs.Lines.{fact_lines, last_lines}
use Rattle.pmb_places.specs.declared.places.Place.{Place}
use Rattle.pmb_places.specs.Places.{place_behind, place_of_last_word}
use Rattle.pmb_scan.specs.Reached.{EndsWith, Reached}
use Rattle.pmb_spans.specs.Spans.{Span, Spans, SpansFrom, moved_spans}
use Rattle.pmb_keeper.specs.Setting.{Setting}
use Rattle.pmb_fact_stream.specs.declared.kept_stream.KeptStream.{KeptStream}
use Rattle.pmb_fact_stream.specs.declared.stream.Stream.{Stream}
use Rattle.pmb_fact_stream.specs.Before.{Before, past_of, with_bytes, with_reached}
use Rattle.pmb_fact_stream.specs.Choice.{ChoiceData}
use Rattle.pmb_fact_stream.specs.Others.{is_told}
use Rattle.pmb_fact_stream.specs.Spans.{after_open, after_spans, past_in}
use Rattle.pmb_fact_stream.specs.Keeping.{IsTold, KeepsOn}
use Rattle.pmb_fact_stream.specs.Stream.{HoldsOf, KeepsOpenTime, StreamKnows, kept_by, stream_time}
use Rattle.pmb_fact_stream.proofs.Keeping.{keeps_both}
use Rattle.pmb_fact_stream.specs.UnderWay.{open_time}
use Rattle.pmb_unknown_start.specs.Past.{PastData}

-- ---- what a stream knows, said otherwise

pub knows_as : (read other : List ℕ) (n : ℕ) (past also : List PastData) (c d : CountsData) (stream : Stream)
    → read ≡ other → past ≡ also → c ≡ d
    → StreamKnows (record { read = read; n = n; past = past; counts = c }) stream
    → StreamKnows (record { read = other; n = n; past = also; counts = d }) stream
knows_as read other n past also c d stream reads said counts knows =
    subst (λ (r : List ℕ). StreamKnows (record { read = r; n = n; past = also; counts = d }) stream) reads
    (subst (λ (t : List PastData). StreamKnows (record { read = read; n = n; past = t; counts = d }) stream)
    said
    (subst (λ (e : CountsData). StreamKnows (record { read = read; n = n; past = past; counts = e }) stream) counts knows))

-- the time of what is under way stays, whatever follows in the text
abbrev pub TimesStay : Type 0
TimesStay = (text more : List ℕ) (events : List Event) → Spells text events
    → open_time (text ++ more) events ≡ open_time text events

-- ---- its fact

-- at most 32 bytes are told
fact_same : (head : Head) (word other : List ℕ) → take 32 word ≡ take 32 other
    → bad_token_fact head word ≡ bad_token_fact head other
fact_same head word other same =
    let told : List ℕ → FactData = λ (bytes : List ℕ). record { before = []; head = head; what = BadToken bytes } in
    ap told same

-- where it stands, by what is under way
pub record StandsThere (b : Before) (bad : BadLine) : Type 0 where
  -- the word under way is the whole bad line so far, and its place is that after the front
  pub opened : open_word ((b.read ++ bad.front) ++ bad.line) ≡ bad.line
  pub placed : place_of_last_word ((b.read ++ bad.front) ++ bad.line) ≡ place_behind (b.read ++ bad.front)

-- a word of which this is told has a byte
some_told : (word line : List ℕ) → take 32 word ≡ take 32 line → is_word word ≡ true → is_word line ≡ true
some_told word (x ∷ line) same some = refl
some_told [] [] same some = some
some_told (x ∷ word) [] same some = absurd (cc same)

-- by the laws of words under way, whatever follows
pub stands_there : ((read front word : List ℕ) → EndsBetween read → EndsBetween front → front_word word ≡ word
    → open_word ((read ++ front) ++ word) ≡ word)
    → ((read front word : List ℕ) → EndsBetween read → EndsBetween front → front_word word ≡ word → is_word word ≡ true
    → place_of_last_word ((read ++ front) ++ word) ≡ place_behind (read ++ front))
    → (b : Before) (bad : BadLine) (rest : List ℕ) → EndsBetween b.read
    → FirstBadWord (bad.front ++ (bad.line ++ rest)) bad.events (length bad.front) → front_word bad.line ≡ bad.line
    → take 32 (front_word (bad.line ++ rest)) ≡ take 32 bad.line → StandsThere b bad
stands_there opened placed b bad rest between first solid told =
    let behind = behind_front bad.front (bad.line ++ rest) bad.events first in record {
      opened = opened b.read bad.front bad.line between behind.between solid;
      placed = placed b.read bad.front bad.line between behind.between solid
          (some_told (front_word (bad.line ++ rest)) bad.line told behind.word);
    }

module _ (choice : ChoiceData) (profile : List DeviceParts) where
  -- the fact that goes out is that of the word of the line, however that goes on
  pub word_is : (b : Before) (bad : BadLine) (more : List ℕ) (time : Option (List ℕ)) → StandsThere b bad
      → time ≡ open_time bad.front bad.events
      → take 32 (front_word (bad.line ++ more)) ≡ take 32 bad.line
      → open_word_fact time (behind_bytes choice.ignored profile b bad) ≡ word_fact b (longer_line bad more)
  word_is b bad more time there timed told =
      let at = capped (b.n + length bad.events) in
      let word = open_word ((b.read ++ bad.front) ++ bad.line) in
      let place = place_of_last_word ((b.read ++ bad.front) ++ bad.line) in
      ap (λ (t : Option (List ℕ)). bad_token_fact (record { at = at; place = place; time = t }) word) timed
      ∙ (ap (λ (p : Place). bad_token_fact
      (record { at = at; place = p; time = open_time bad.front bad.events }) word) there.placed
      ∙ fact_same
      (record { at = at; place = place_behind (b.read ++ bad.front); time = open_time bad.front bad.events })
      word (front_word (bad.line ++ more)) (ap (take 32) there.opened ∙ sym told))

  -- it goes out after those before it
  pub lines_with_word : (b : Before) (bad : BadLine) (more put said : List ℕ) (word : FactData)
      → put ≡ fact_lines choice profile (front_facts choice.ignored profile b (longer_line bad more))
      → said ≡ fact_lines choice profile (word ∷ []) → word ≡ word_fact b (longer_line bad more)
      → put ++ said ≡ fact_lines choice profile (bad_line_facts choice.ignored profile b (longer_line bad more))
  lines_with_word b bad more put said word put_are said_are is =
      let front = front_facts choice.ignored profile b (longer_line bad more) in
      ap (λ (l : List ℕ). l ++ said) put_are
      ∙ (ap (λ (l : List ℕ). fact_lines choice profile front ++ l)
      (said_are ∙ ap (λ (o : FactData). fact_lines choice profile (o ∷ [])) is)
      ∙ sym (lines_append choice profile front (word_fact b (longer_line bad more) ∷ [])))

  -- and is kept
  pub keeps_with_word : (A B C : List FactData → Type 0) (b : Before) (bad : BadLine) (more : List ℕ) (word : FactData)
      → KeepsOn A B (front_facts choice.ignored profile b (longer_line bad more)) → KeepsOn B C (word ∷ [])
      → word ≡ word_fact b (longer_line bad more) → KeepsOn A C (bad_line_facts choice.ignored profile b (longer_line bad more))
  keeps_with_word A B C b bad more word front own is =
      let facts = front_facts choice.ignored profile b (longer_line bad more) in
      subst (λ (o : FactData). KeepsOn A C (facts ++ o ∷ [])) is (keeps_both A B C facts (word ∷ []) front own)

  -- and the counts after it
  pub lines_with_counts : (b : Before) (bad : BadLine) (more put said : List ℕ) (counts : CountsData)
      → put ≡ fact_lines choice profile (bad_line_facts choice.ignored profile b (longer_line bad more))
      → said ≡ last_lines choice profile counts
      → put ++ said ≡ fact_lines choice profile (bad_line_facts choice.ignored profile b (longer_line bad more))
      ++ last_lines choice profile counts
  lines_with_counts b bad more put said counts put_are said_are =
      let facts = bad_line_facts choice.ignored profile b (longer_line bad more) in
      ap (λ (l : List ℕ). l ++ said) put_are ∙ ap (λ (l : List ℕ). fact_lines choice profile facts ++ l) said_are

  -- both
  pub lines_with_last : (b : Before) (bad : BadLine) (more put said : List ℕ) (time : Option (List ℕ))
      → StandsThere b bad → time ≡ open_time bad.front bad.events
      → take 32 (front_word (bad.line ++ more)) ≡ take 32 bad.line
      → put ≡ fact_lines choice profile (front_facts choice.ignored profile b (longer_line bad more))
      → said ≡ last_word_lines choice profile time (behind_bytes choice.ignored profile b bad)
      → put ++ said ≡ fact_lines choice profile (bad_line_facts choice.ignored profile b (longer_line bad more))
      ++ last_lines choice profile (behind_line choice.ignored profile b (longer_line bad more)).counts
  lines_with_last b bad more put said time there timed told put_are said_are =
      let word = open_word_fact time (behind_bytes choice.ignored profile b bad) in
      let counts = (behind_line choice.ignored profile b (longer_line bad more)).counts in
      let ends = last_lines choice profile counts in
      let own = fact_lines choice profile (word ∷ []) in
      ap (λ (l : List ℕ). put ++ l) said_are
      ∙ (sym (append_assoc put own ends)
      ∙ lines_with_counts b bad more (put ++ own) ends counts
      (lines_with_word b bad more put own word put_are refl (word_is b bad more time there timed told)) refl)

  -- ---- it is met

  -- the word under way of what a scan has reached
  -- where these spans are those of an end there
  abbrev pub met : Before → Reached → List ℕ → List Span → BadLine
  met b reached front last = record {
    front = front;
    events = reached.events;
    spans = moved_spans b.n (reached.spans ++ filter (is_told choice.ignored) last);
    line =
        open_word reached.text;
  }

  -- the first bad word stands after that front
  pub met_word : (reached : Reached) (front rest : List ℕ) → reached.text ≡ front ++ open_word reached.text
      → OpenWordIsBad reached.text (reached.text ++ rest) reached.events
      → FirstBadWord (front ++ (open_word reached.text ++ rest)) reached.events (length front)
  met_word reached front rest split bad =
      let lengths : length reached.text ≡ length front + length (open_word reached.text) =
      ap (λ (l : List ℕ). length l) split ∙ length-append front (open_word reached.text) in
      let place : bad.0 ≡ length front = omega (arith, bad.1, lengths) in
      subst (λ (l : List ℕ). FirstBadWord l reached.events (length front))
      (ap (λ (l : List ℕ). l ++ rest) split ∙ append_assoc front (open_word reached.text) rest)
      (subst (λ (n : ℕ). FirstBadWord (reached.text ++ rest) reached.events n) place bad.2)

  -- events that read as spans from their beginning, where others came before
  pub read_from : (b : Before) (p : List DeviceParts) (events : List Event) (spans : List Span)
      → ((p : List DeviceParts) (n m : ℕ) (events : List Event) (spans : List Span) → SpansFrom p m events spans
      → SpansFrom p (n + m) events (moved_spans n spans))
      → p ≡ profile → Spans p events spans → SpansFrom profile b.n events (moved_spans b.n spans)
  read_from b p events spans move under reads =
      subst (λ (n : ℕ). SpansFrom profile n events (moved_spans b.n spans)) (add-zero b.n)
      (move profile b.n 0 events spans (subst (λ (q : List DeviceParts). SpansFrom q 0 events spans) under reads))

  -- the packets and refusals before it
  pub met_reads : (b : Before) (reached : Reached) (last : List Span)
      → ((p : List DeviceParts) (n m : ℕ) (events : List Event) (spans : List Span) → SpansFrom p m events spans
      → SpansFrom p (n + m) events (moved_spans n spans))
      → reached.profile ≡ profile → EndsWith reached last
      → SpansFrom profile b.n reached.events (moved_spans b.n (reached.spans ++ last))
  met_reads b reached last move under end = read_from b reached.profile reached.events
      (reached.spans ++ last) move under end.spans

  pub met_whole : (n : ℕ) (reached : Reached) (last : List Span) → TellsOpen choice.ignored reached last
      → moved_spans n (reached.spans ++ filter (is_told choice.ignored) last)
      ≡ filter (is_told choice.ignored) (moved_spans n (reached.spans ++ last))
  met_whole n reached last tells =
      sym (told_moved choice.ignored n (reached.spans ++ last)
      ∙ ap (moved_spans n) (filter-append (is_told choice.ignored) reached.spans last
      ∙ ap (λ (l : List Span). l ++ filter (is_told choice.ignored) last) tells.whole))

  -- and what the stream knows there
  pub met_knows : (b : Before) (reached : Reached) (front : List ℕ) (last : List Span) (stream : Stream)
      → TellsOpen choice.ignored reached last → EndsWith reached last → reached.text ≡ front ++ open_word reached.text
      → reached.profile ≡ profile → StreamKnows (with_reached choice.ignored b reached) stream
      → StreamKnows (behind_bytes choice.ignored profile b (met b reached front last)) stream
  met_knows b reached front last stream tells end split same knows =
      -- an end inside a packet tells of no transaction; if it is told, it was counted
      let out = filter (is_told choice.ignored) last in
      let spans = reached.spans ++ out in
      let lost = lost_in profile 0 reached.events in
      let same_past : past_in (lost_in profile b.n reached.events) (moved_spans b.n spans) ≡ past_of reached =
      past_moved profile b.n reached.events spans ∙ (past_both lost reached.spans out
      ∙ (ap (λ (past : List PastData). past_in lost reached.spans ++ past)
      (ends_tell_none choice.ignored lost last end.inside) ∙ append-nil (past_in lost reached.spans)))
      ∙ ap (λ (p : List DeviceParts). past_in (lost_in p 0 reached.events) reached.spans) (sym same) in
      let counts = after_spans choice.ignored b.counts reached.spans in
      let same_counts : after_spans choice.ignored b.counts (moved_spans b.n spans)
      ≡ after_open choice.ignored counts reached.standing =
      counts_moved choice.ignored b.counts b.n spans
      ∙ (counts_append choice.ignored b.counts reached.spans out ∙ tells.counts counts) in
      knows_as (b.read ++ reached.text) ((b.read ++ front) ++ open_word reached.text) (b.n + length reached.events)
      (b.past ++ past_of reached)
      (b.past ++ past_in (lost_in profile b.n reached.events) (moved_spans b.n spans))
      (after_open choice.ignored counts reached.standing) (after_spans choice.ignored b.counts (moved_spans b.n spans))
      stream (ap (λ (l : List ℕ). b.read ++ l) split ∙ sym (append_assoc b.read front (open_word reached.text)))
      (ap (λ (l : List PastData). b.past ++ l) (sym same_past)) (sym same_counts) knows

  -- the time that the stream keeps there is that of what is under way
  pub met_time : (reached : Reached) (front rest : List ℕ) (stream : Stream) → TimesStay
      → reached.text ≡ front ++ open_word reached.text
      → OpenWordIsBad reached.text (reached.text ++ rest) reached.events → KeepsOpenTime stream reached
      → stream_time stream ≡ open_time front reached.events
  met_time reached front rest stream stay split bad keeps =
      let own = open_word reached.text in
      let spells = (behind_front front (own ++ rest) reached.events (met_word reached front rest split bad)).spells in
      keeps [] ∙ ap (λ (l : List ℕ). open_time l reached.events) (append-nil reached.text ∙ split)
      ∙ stay front own reached.events spells

  -- what holds of the facts that were told holds of those before the word
  pub met_told : (Holds : List FactData → Type 0) (b : Before) (reached : Reached) (front more : List ℕ)
      (last : List Span) → TellsOpen choice.ignored reached last → reached.profile ≡ profile
      → reached.text ≡ front ++ open_word reached.text → HoldsOf choice b reached Holds
      → Holds (front_facts choice.ignored profile b (longer_line (met b reached front last) more))
  met_told Holds b reached front more last tells same split holds =
      let spans = moved_spans b.n (reached.spans ++ filter (is_told choice.ignored) last) in
      let lost = lost_in reached.profile b.n (reached.events ++ []) in
      let bytes = front ++ (open_word reached.text ++ more) in
      subst Holds
      (facts_told choice.ignored b reached (reached.text ++ more) lost last tells
      ∙ ap (λ (l : List ℕ). text_facts choice.ignored b l lost b.past spans)
      (ap (λ (l : List ℕ). l ++ more) split ∙ append_assoc front (open_word reached.text) more)
      ∙ ap (λ (es : List Event). text_facts choice.ignored b bytes (lost_in reached.profile b.n es) b.past spans)
      (append-nil reached.events)
      ∙ ap (λ (p : List DeviceParts). text_facts choice.ignored b bytes (lost_in p b.n reached.events) b.past spans)
      same) (holds more [])

  pub has_met : {K : Type 0} (Keeps : K → Setting → List FactData → Type 0) (keeper : K) (b : Before)
      (reached : Reached)
      (front at_hand text : List ℕ) (last : List Span) (now : KeptStream K)
      → ((p : List DeviceParts) (n m : ℕ) (events : List Event) (spans : List Span) → SpansFrom p m events spans
      → SpansFrom p (n + m) events (moved_spans n spans)) → TimesStay
      → reached.profile ≡ profile → reached.text ≡ front ++ open_word reached.text → front_word (open_word reached.text)
      ≡ open_word reached.text
      → ((more : List ℕ) → OpenWordIsBad reached.text (reached.text ++ (at_hand ++ more)) reached.events)
      → TellsOpen choice.ignored reached last → EndsWith reached last
      → StreamKnows (with_reached choice.ignored b reached) now.stream → KeepsOpenTime now.stream reached
      → HoldsOf choice b reached
      (IsTold choice profile (KeptIn Keeps choice profile keeper) (KeptIn Keeps choice profile now.keeper) text)
      → HasBadWord Keeps choice profile at_hand now keeper b reached.text text
  has_met Keeps keeper b reached front at_hand text last now move stay under split solid bad tells end knows keeps
      told = record {
        bad = met b reached front last;
        so_far = record {
          word = λ more. met_word reached front (at_hand ++ more) split (bad more);
          all = moved_spans b.n (reached.spans ++ last);
          reads = met_reads b reached last move under end;
          reported = met_whole b.n reached last tells;
        };
        is_text = split;
        under_way = solid;
        knows = met_knows b reached front last now.stream tells end split under knows;
        time = met_time reached front (at_hand ++ []) now.stream stay split (bad []) keeps;
        told = λ more. met_told (IsTold choice profile (KeptIn Keeps choice profile keeper)
            (KeptIn Keeps choice profile now.keeper) text) b reached front more last tells under split told;
      }

  -- ---- it goes on

  -- bytes more of a line
  pub longer_so_far : (b : Before) (bad : BadLine) (word rest at_hand : List ℕ) → at_hand ≡ word ++ rest
      → IsBadSoFar choice profile b bad at_hand → IsBadSoFar choice profile b (longer_line bad word) rest
  longer_so_far b bad word rest at_hand split so_far = record {
    word = λ more. subst (λ (l : List ℕ). FirstBadWord (bad.front ++ l) bad.events (length bad.front))
        (ap (λ (l : List ℕ). bad.line ++ (l ++ more)) split
        ∙ (ap (λ (l : List ℕ). bad.line ++ l) (append_assoc word rest more)
        ∙ sym (append_assoc bad.line word (rest ++ more))))
        (so_far.word more);
    all = so_far.all;
    reads = so_far.reads;
    reported = so_far.reported;
  }

  abbrev pub word_goes_on : {K : Type 0} (Keeps : K → Setting → List FactData → Type 0) (keeper : K) (b : Before)
      (word rest at_hand used put : List ℕ) (old : KeptStream K) (new : Stream)
      → at_hand ≡ word ++ rest → front_word word ≡ word
      → ((b : Before) → StreamKnows b old.stream → StreamKnows (with_bytes b word) new)
      → stream_time new ≡ stream_time old.stream
      → HasBadWord Keeps choice profile at_hand old keeper b used put
      → HasBadWord Keeps choice profile rest (kept_by new old.keeper) keeper b (used ++ word) put
  word_goes_on Keeps keeper b word rest at_hand used put old new split solid takes timed has =
      let bad = has.bad in record {
        bad = longer_line bad word;
        so_far = longer_so_far b bad word rest at_hand split has.so_far;
        is_text = ap (λ (l : List ℕ). l ++ word) has.is_text ∙ append_assoc bad.front bad.line word;
        under_way = solid_both bad.line word has.under_way solid;
        knows = subst (λ (l : List ℕ). StreamKnows
            (record {
              read = l;
              n = b.n + length bad.events;
              past = b.past ++ past_before profile b bad;
              counts =
                  after_spans choice.ignored b.counts bad.spans;
            }) new)
            (append_assoc (b.read ++ bad.front) bad.line word) (takes (behind_bytes choice.ignored profile b bad) has.knows);
        time = timed ∙ has.time;
        told = λ more. subst (λ (l : List ℕ). IsTold choice profile (KeptIn Keeps choice profile keeper)
            (KeptIn Keeps choice profile old.keeper) put (text_facts choice.ignored b (bad.front ++ l)
            (lost_in profile b.n bad.events) b.past bad.spans))
            (sym (append_assoc bad.line word more)) (has.told (word ++ more));
      }

  -- what is told so far
  pub first_so_far : (b : Before) (bad : BadLine) (at_hand : List ℕ) → IsBadSoFar choice profile b bad at_hand
      → FirstBadWord (bad.front ++ (bad.line ++ at_hand)) bad.events (length bad.front)
  first_so_far b bad at_hand so_far = subst
      (λ (l : List ℕ). FirstBadWord (bad.front ++ (bad.line ++ l)) bad.events (length bad.front)) (append-nil at_hand)
      (so_far.word [])

  -- ---- its line goes on

  pub line_goes_on : {K : Type 0} (Keeps : K → Setting → List FactData → Type 0) (keeper : K) (b : Before)
      (line at_hand used put : List ℕ) (old : KeptStream K) (new : Stream) → at_hand ≡ line → HasNoLf line
      → ((b : Before) → StreamKnows b old.stream → StreamKnows (with_bytes b line) new)
      → InBadLine Keeps choice profile at_hand old keeper b used put
      → InBadLine Keeps choice profile [] (kept_by new old.keeper) keeper b (used ++ line) put
  line_goes_on Keeps keeper b line at_hand used put old new all no_lf takes has =
      -- the line is longer by these bytes, and nothing more goes out of it
      let bad = has.bad in record {
        bad = longer_line bad line;
        so_far = longer_so_far b bad line [] at_hand (all ∙ sym (append-nil line)) has.so_far;
        is_text = ap (λ (l : List ℕ). l ++ line) has.is_text ∙ append_assoc bad.front bad.line line;
        in_line = no_lf_append bad.line line has.in_line no_lf;
        over = λ whole more is. has.over whole more
            (is ∙ (append_assoc bad.line line more ∙ ap (λ (l : List ℕ). bad.line ++ (l ++ more)) (sym all)));
        knows = subst (λ (l : List ℕ). StreamKnows
            (record {
              read = l;
              n = b.n + length bad.events;
              past = b.past ++ past_before profile b bad;
              counts =
                  (behind_fact choice.ignored profile b bad).counts;
            }) new)
            (append_assoc (b.read ++ bad.front) bad.line line) (takes (behind_fact choice.ignored profile b bad) has.knows);
        told = λ more later rest split behind. subst (λ (l : List ℕ). IsTold choice profile
            (KeptIn Keeps choice profile keeper) (KeptIn Keeps choice profile old.keeper) put
            (bad_line_facts choice.ignored profile b (record bad { line = l }))) (sym (append_assoc bad.line line later))
            (has.told more (line ++ later) rest (ap (λ (l : List ℕ). l ++ more) all
            ∙ (ap (λ (l : List ℕ). line ++ l) split ∙ sym (append_assoc line later rest))) behind);
      }
