-- Words that may be tokens: from the first byte of a scan on, what the scan told the stream, up to
-- a bad word or the end. For `Teller::new`, `take_words` and `end_words`. What was told are spans
-- from the scan's beginning (`Reached`), and these are moved to where the capture stands.
use Rattle.std.proofs.Common.{◌≡◌, ℕ, ◌+◌, inl, List, [], ◌++◌, drop, filter, length, take, refl, sym, ap, subst, ◌∙◌}
use Rattle.std.proofs.Common.{OnOk, Result, Ok, Err, append_assoc, append-nil, arith, length-drop, take-append-drop}
use Rattle.pmb_bus.specs.declared.event.Event.{Event}
use Rattle.pmb_bus.specs.declared.lexer.LexFault.{LexFault}
use Rattle.pmb_bus.specs.LexFault.{OpenWordIsBad}
use Rattle.pmb_bus.specs.Text.{BeginsText, EndedWordsSpell, Spells, front_word, open_word}
use Rattle.pmb_command.specs.Parts.{DeviceParts}
use Rattle.pmb_io.specs.Tally.{IsTallyOf}
use Rattle.pmb_io.specs.declared.tally.Tally.{Tally}
use Rattle.pmb_scan.specs.declared.after_bad_token.AfterBadToken.{AfterBadToken}
use Rattle.pmb_unknown_start.specs.Past.{PastData}
use Rattle.pmb_telling.specs.declared.engine.Teller.{Teller}
use Rattle.pmb_telling.specs.Kept.{WritesKept}
use Rattle.pmb_telling.specs.SoFar.{ReadsSoFar}
use Rattle.pmb_telling.specs.Text.{IsBadLine, ReadsToEnd, front_facts, text_facts}
use Rattle.pmb_telling.specs.machine.Standing.{Behind, HasBadWord, InBadWord, InWords, IsMadeAs, KeptIn}
use Rattle.pmb_telling.specs.machine.Standing.{teller_bad_words}
use Rattle.pmb_telling.specs.machine.Standing.{longer_line, teller_choice, teller_profile}
use Rattle.pmb_telling.proofs.MetWords.{TimesStay, has_met, met, met_reads, met_time, met_told, met_whole, met_word}
use Rattle.pmb_telling.proofs.Leading.{leads_first, writes_told}
use Rattle.pmb_telling.proofs.Facts.{counts_moved, lines_append}
use Rattle.pmb_fact_stream.proofs.Losing.{past_moved}
use Rattle.pmb_telling.proofs.OpenOthers.{TellsOpen, facts_behind, facts_out, facts_told}
use Rattle.pmb_telling.proofs.Words.{no_lf_append, solid_no_lf}
use Rattle.pmb_json_objects.specs.Counts.{CountsData}
use Rattle.pmb_facts.specs.Fact.{FactData}
use Rattle.pmb_fact_stream.specs.Lines.{fact_lines, last_lines}
use Rattle.pmb_scan.specs.declared.scan.Scan.{Scan}
use Rattle.pmb_scan.specs.Reached.{EndsWith, Reached, at_start}
use Rattle.pmb_scan.specs.Scan.{EndsInBadWord, EndsWords, ScanStandsAt, StopsAtBadWord, TakesAll}
use Rattle.pmb_spans.specs.Spans.{Span, SpansFrom, moved_spans}
use Rattle.pmb_keeper.specs.Setting.{Setting}
use Rattle.pmb_fact_stream.specs.declared.kept_stream.KeptStream.{KeptStream}
use Rattle.pmb_fact_stream.specs.declared.stream.Stream.{Stream}
use Rattle.pmb_fact_stream.specs.Before.{Before, at_first, past_of, with_reached}
use Rattle.pmb_fact_stream.specs.Lost.{lost_in}
use Rattle.pmb_fact_stream.specs.Choice.{ChoiceData}
use Rattle.pmb_fact_stream.specs.Others.{is_told, is_untold}
use Rattle.pmb_fact_stream.specs.Spans.{after_spans, event_place, event_time, past_in}
use Rattle.pmb_fact_stream.specs.Keeping.{IsTold, KeepsOn, setting_under}
use Rattle.pmb_fact_stream.specs.Stream.{HasToldOf, HoldsOf, IsSame, KeepsFacts, StreamAt, StreamBegins, StreamKnows}
use Rattle.pmb_fact_stream.specs.Stream.{StreamStands, kept_by}
use Rattle.pmb_fact_stream.specs.Stream.{stream_choice, stream_profile, stream_time}
use Rattle.pmb_fact_stream.proofs.Keeping.{keeps_both, keeps_none, told_none}
use Rattle.pmb_fact_stream.specs.UnderWay.{open_time}

abbrev pub MovesSpans : Type 0
MovesSpans = (p : List DeviceParts) (n m : ℕ) (events : List Event) (spans : List Span) → SpansFrom p m events spans
    → SpansFrom p (n + m) events (moved_spans n spans)

-- ---- what a stream hands to its keeper

-- is kept under the choice and the profile that it has
pub ended_kept : {K : Type 0} (Keeps : K → Setting → List FactData → Type 0) (choice : ChoiceData)
    (profile : List DeviceParts)
    (stream : Stream) → stream_choice stream ≡ choice → stream_profile stream ≡ profile → (old new : K)
    (facts : ChoiceData → List FactData) → KeepsFacts Keeps stream old new (facts (stream_choice stream))
    → KeepsOn (KeptIn Keeps choice profile old) (KeptIn Keeps choice profile new) (facts choice)
ended_kept Keeps choice profile stream same_choice same_profile old new facts kept =
    let holds = λ (k : ChoiceData) (p : List DeviceParts).
    KeepsOn (KeptIn Keeps k p old) (KeptIn Keeps k p new) (facts k) in
    subst (λ (p : List DeviceParts). holds choice p) same_profile
    (subst (λ (k : ChoiceData). holds k (stream_profile stream)) same_choice kept)

-- what came before is kept too
pub keeps_all : (A B C D : List FactData → Type 0) (before told left all : List FactData) → KeepsOn A B before
    → KeepsOn B C told → KeepsOn C D left → told ++ left ≡ all → KeepsOn A D (before ++ all)
keeps_all A B C D before told left all first second third is =
    keeps_both A B D before all first
    (subst (KeepsOn B D) is (keeps_both B C D told left second third))

-- three that hold where it went well
pub on_ok_all : {T F P Q R S : Type 0} (result : Result T F) → (P → Q → R → S) → OnOk result P → OnOk result Q
    → OnOk result R → OnOk result S
on_ok_all (Ok x) all p q r = all p q r
on_ok_all (Err e) all p q r = tt

-- ---- they begin

-- a stream that begins has told of nothing
told_first : {K : Type 0} (Keeps : K → Setting → List FactData → Type 0) (keeper : K) (b : Before) (stream : Stream)
    (profile : List DeviceParts) → stream_profile stream ≡ profile → StreamBegins b stream
    → StreamStands Keeps (kept_by stream keeper) (kept_by stream keeper) (at_start profile) []
told_first Keeps keeper b stream profile same begins = record {
  begins = (b, begins);
  told = λ other starts. record {
    same = record { choice = refl; profile = refl };
    at = subst (λ (p : List DeviceParts). StreamAt other stream (at_start p)) same starts;
    time = starts.times.time.time;
    told = λ more later. told_none (stream_choice stream) (stream_profile stream) _;
  };
}

pub words_begin : {K : Type 0} (Keeps : K → Setting → List FactData → Type 0) (keeper : K) (choice : ChoiceData)
    (profile : List DeviceParts) (scan : Scan) (stream : Stream) (b : Before) → stream_choice stream ≡ choice →
    stream_profile stream ≡ profile
    → StreamBegins b stream → ScanStandsAt scan (at_start profile)
    → InWords Keeps choice profile scan (kept_by stream keeper) keeper b [] []
words_begin Keeps keeper choice profile scan stream b same_choice same_profile begins scans = record {
  begun = stream;
  begins = begins;
  same_choice = same_choice;
  same_profile = same_profile;
  reached = at_start profile;
  is_text = refl;
  scans = scans;
  told = told_first Keeps keeper b stream profile same_profile begins;
}

-- nothing came
pub first_behind : {K : Type 0} (Keeps : K → Setting → List FactData → Type 0) (choice : ChoiceData)
    (profile : List DeviceParts) (after : AfterBadToken) (keeper : K) (Holds : K → Before → List ℕ → List ℕ → Type 0)
    → Holds keeper at_first [] [] → Behind Keeps choice profile after keeper Holds [] []
first_behind Keeps choice profile after keeper Holds holds = record {
  b = at_first;
  bads = [];
  facts = [];
  leads = leads_first choice profile after;
  between = (refl, refl);
  first = inl refl;
  used = [];
  put = [];
  bytes_are = refl;
  text_is = refl;
  keeper = keeper;
  kept = keeps_none _;
  holds = holds;
}

-- ---- they go on

-- what a stream that was told keeps
pub made_told : {K : Type 0} (start old new : Teller K) (begun : Stream) → IsMadeAs start old → teller_profile new ≡
    teller_profile old
    → teller_bad_words new ≡ teller_bad_words old
    → stream_choice begun ≡ teller_choice start → stream_profile begun ≡ teller_profile start → IsSame begun
    new.kept.stream
    → IsMadeAs start new
made_told start old new begun made profile bad_words choice reads same = record {
  choice = same.choice ∙ choice;
  profile = profile ∙ made.profile;
  reads = same.profile ∙ reads;
  bad_words = bad_words ∙ made.bad_words;
}

module _ {K : Type 0} (Keeps : K → Setting → List FactData → Type 0) (choice : ChoiceData) (profile : List DeviceParts)
    (keeper : K) (b : Before) (scan : Scan) (now : KeptStream K) (used put : List ℕ)
    (words : InWords Keeps choice profile scan now keeper b used put) where
  pub words_on : (piece more : List ℕ) (after : Scan) (new : KeptStream K)
      → TakesAll (StreamStands Keeps (kept_by words.begun keeper) new) words.reached piece after (put ++ more)
      → InWords Keeps choice profile after new keeper b (used ++ piece) (put ++ more)
  words_on piece more after new taken = record {
    begun = words.begun;
    begins = words.begins;
    same_choice = words.same_choice;
    same_profile = words.same_profile;
    reached = taken.there;
    is_text = taken.used ∙ ap (λ (l : List ℕ). l ++ piece) words.is_text;
    scans = taken.stands;
    told = taken.visited;
  }

  -- what was told, by the choice and the profile
  pub told_by : (there : Reached) (text : List ℕ) (new : KeptStream K)
      → HasToldOf Keeps b (kept_by words.begun keeper) new there text
      → HoldsOf choice b there
      (IsTold choice profile (KeptIn Keeps choice profile keeper) (KeptIn Keeps choice profile new.keeper) text)
  told_by there text new told =
      let holds = λ (k : ChoiceData) (p : List DeviceParts). HoldsOf k b there
      (IsTold k p (Keeps keeper (setting_under k p)) (Keeps new.keeper (setting_under k p)) text) in
      subst (λ (p : List DeviceParts). holds choice p) words.same_profile
      (subst (λ (k : ChoiceData). holds k (stream_profile words.begun)) words.same_choice told.told)

  -- .. and what the stream knows
  pub knows_by : (there : Reached) (text : List ℕ) (new : KeptStream K) → HasToldOf Keeps b
      (kept_by words.begun keeper) new there text
      → StreamKnows (with_reached choice.ignored b there) new.stream
  knows_by there text new told =
      subst (λ (k : ChoiceData). StreamKnows (with_reached k.ignored b there) new.stream)
      (told.same.choice ∙ words.same_choice) told.at.knows

  pub under : (there : Reached) (text : List ℕ) (new : KeptStream K) → HasToldOf Keeps b (kept_by words.begun keeper)
      new there text
      → there.profile ≡ profile
  under there text new told = told.at.profile ∙ (told.same.profile ∙ words.same_profile)

  -- one of them is no token
  pub words_to_bad : (piece more : List ℕ) (count : ℕ) (fault : LexFault) (after : Scan) (new : KeptStream K)
      (last : List Span) → MovesSpans → TimesStay
      → ((text : List ℕ) → (front : List ℕ) × (text ≡ front ++ open_word text))
      → ((text : List ℕ) → front_word (open_word text) ≡ open_word text)
      → (stops : StopsAtBadWord (StreamStands Keeps (kept_by words.begun keeper) new) words.reached piece count fault
      after (put ++ more))
      → TellsOpen choice.ignored stops.there last → EndsWith stops.there last
      → InBadWord Keeps choice profile (drop count piece) new keeper b (used ++ take count piece) (put ++ more)
  words_to_bad piece more count fault after new last move stay begun solid stops tells end =
      -- what the scan reached before the word, and the front before the word under way
      let there = stops.there in
      let told = stops.visited.told b words.begins in
      let rest = drop count piece in
      let front = begun there.text in
      -- the bytes that were taken, the rest of the piece, and others after it, in one row
      let bytes_are : (others : List ℕ) → (words.reached.text ++ piece) ++ others ≡ there.text ++ (rest ++ others) =
      λ others. ap (λ (l : List ℕ). (words.reached.text ++ l) ++ others) (sym (take-append-drop count piece))
      ∙ (ap (λ (l : List ℕ). l ++ others) (sym (append_assoc words.reached.text (take count piece) rest))
      ∙ (append_assoc (words.reached.text ++ take count piece) rest others ∙ ap (λ (l : List ℕ). l ++ (rest ++ others))
      (sym stops.used_up_to))) in
      -- so a bad word is met there
      let has = has_met choice profile Keeps keeper b there front.0 rest (put ++ more) last new move stay
      (under there (put ++ more) new told) front.1 (solid there.text)
      (λ others. subst (λ (l : List ℕ). OpenWordIsBad there.text l there.events) (bytes_are others) (stops.bad others))
      tells end (knows_by there (put ++ more) new told) told.time (told_by there (put ++ more) new told) in record {
        word = subst (λ (l : List ℕ). HasBadWord Keeps choice profile rest new keeper b l (put ++ more))
            (stops.used_up_to ∙ ap (λ (l : List ℕ). l ++ take count piece) words.is_text) has;
        -- a byte of the piece is left, that which ends the word
        short = λ none. absurd (omega (
          arith,
          length-drop count piece,
          ap (λ (l : List ℕ). length l) none,
          stops.within,
        ));
      }

  -- ---- the bytes end

  -- what is lost at refusals where these events follow
  abbrev pub lost_there : Reached → List Event → ℕ → List Event → List PastData
  lost_there there later = lost_in there.profile b.n (there.events ++ later)

  -- .. and the facts that were told, where no text follows
  abbrev pub told_so_far : Reached → List Event → List FactData
  told_so_far there later =
      text_facts choice.ignored b (there.text ++ []) (lost_there there later) b.past (moved_spans b.n there.spans)
      ++ facts_out choice.ignored b there (there.text ++ [])

  -- Bytes that spell events: after the lines that were told come those that are left of the other
  -- spans, and of the end.
  pub reads_on : (there : Reached) (later : List Event) (others : List Span) (left : List FactData)
      (own said : List ℕ) → there.text ≡ used → there.profile ≡ profile
      → own ≡ fact_lines choice profile (told_so_far there later) → Spells used (there.events ++ later)
      → SpansFrom profile b.n (there.events ++ later) (moved_spans b.n (there.spans ++ others))
      → text_facts choice.ignored b there.text (lost_there there later)
      (b.past ++ past_in (lost_there there later) (moved_spans b.n there.spans)) (moved_spans b.n others)
      ≡ facts_out choice.ignored b there there.text ++ left
      → said ≡ fact_lines choice profile left
      ++ last_lines choice profile (after_spans choice.ignored b.counts (there.spans ++ others))
      → (facts : List FactData) × ReadsToEnd choice.ignored profile b used facts
      (after_spans choice.ignored b.counts (there.spans ++ others))
      × (own ++ said ≡ fact_lines choice profile facts
      ++ last_lines choice profile (after_spans choice.ignored b.counts (there.spans ++ others)))
      × (told_so_far there later ++ left ≡ facts)
  reads_on there later others left own said text_is same told spells reads left_is said_are =
      -- all spans, those told and the others, with their facts and counts
      let spans = moved_spans b.n (there.spans ++ others) in
      let counts = after_spans choice.ignored b.counts (there.spans ++ others) in
      let lost = lost_there there later in
      let facts = text_facts choice.ignored b there.text lost b.past spans in
      let first = text_facts choice.ignored b there.text lost b.past (moved_spans b.n there.spans) in
      let out = facts_out choice.ignored b there there.text in
      let last = last_lines choice profile counts in
      let lines = fact_lines choice profile in
      -- the lines that were told are those of the first spans, and of an other that is under way
      let so_far : told_so_far there later ≡ first ++ out =
      ap (λ (l : List ℕ). text_facts choice.ignored b l lost b.past (moved_spans b.n there.spans)
      ++ facts_out choice.ignored b there l) (append-nil there.text) in
      let own_is : own ≡ lines (first ++ out) = told ∙ ap lines so_far in
      -- with what is left they are all facts
      let all_are : (first ++ out) ++ left ≡ facts =
      append_assoc first out left
      ∙ (ap (λ (os : List FactData). first ++ os) (sym left_is)
      ∙ sym (facts_behind choice.ignored b there there.text lost others)) in (
        facts,
        record {
          events = there.events ++ later;
          spans = spans;
          spells = spells;
          reads = reads;
          all = ap (λ (l : List ℕ). text_facts choice.ignored b l lost b.past spans) text_is
              ∙ ap (λ (p : List DeviceParts). text_facts choice.ignored b used (lost_in p b.n (there.events ++ later))
              b.past spans) same;
          behind =
              sym (counts_moved choice.ignored b.counts b.n (there.spans ++ others));
        },
        -- together they are the lines of all
        ap (λ (l : List ℕ). l ++ said) own_is
            ∙ (ap (λ (l : List ℕ). lines (first ++ out) ++ l) said_are
            ∙ (sym (append_assoc (lines (first ++ out)) (lines left) last)
            ∙ ap (λ (l : List ℕ). l ++ last) (sym (lines_append choice profile (first ++ out) left)
            ∙ ap lines all_are))),
        ap (λ (l : List FactData). l ++ left) so_far ∙ all_are,
      )

  -- the end is read
  pub reads_end : (more said : List ℕ) (after : Scan) (new : KeptStream K) (last : List Span) → MovesSpans
      → (ends : EndsWords (StreamStands Keeps (kept_by words.begun keeper) new) words.reached after (put ++ more))
      → TellsOpen choice.ignored ends.there last → EndsWith ends.there last
      → said ≡ fact_lines choice profile
      (text_facts choice.ignored b ends.there.text (lost_in ends.there.profile b.n ends.there.events)
      (b.past ++ past_of ends.there)
      (moved_spans b.n (filter (is_untold choice.ignored) last)))
      ++ last_lines choice profile (after_spans choice.ignored b.counts (ends.there.spans ++ last))
      → (facts : List FactData) × ReadsToEnd choice.ignored profile b used facts
      (after_spans choice.ignored b.counts (ends.there.spans ++ last))
      × (put ++ (more ++ said) ≡ fact_lines choice profile facts
      ++ last_lines choice profile (after_spans choice.ignored b.counts (ends.there.spans ++ last)))
      × (told_so_far ends.there []
      ++ text_facts choice.ignored b ends.there.text (lost_in ends.there.profile b.n ends.there.events)
      (b.past ++ past_of ends.there)
      (moved_spans b.n (filter (is_untold choice.ignored) last)) ≡ facts)
  reads_end more said after new last move ends tells end said_are =
      let there = ends.there in
      let told = ends.visited.told b words.begins in
      let at_end = λ (es : List Event) (past : List PastData). text_facts choice.ignored b there.text
      (lost_in there.profile b.n es) (b.past ++ past) (moved_spans b.n (filter (is_untold choice.ignored) last)) in
      let events : there.events ≡ there.events ++ [] = sym (append-nil there.events) in
      let past = λ (es : List Event). past_in (lost_in there.profile b.n es) (moved_spans b.n there.spans) in
      let left = text_facts choice.ignored b there.text (lost_in there.profile b.n there.events)
      (b.past ++ past_of there)
      (moved_spans b.n (filter (is_untold choice.ignored) last)) in
      let left_is : left ≡ at_end (there.events ++ []) (past (there.events ++ [])) =
      ap (at_end there.events) (sym (past_moved there.profile b.n there.events there.spans))
      ∙ ap (λ (es : List Event). at_end es (past es)) events in
      let reads = reads_on there [] last left (put ++ more) said (ends.same_text ∙ words.is_text)
      (under there (put ++ more) new told) (told_by there (put ++ more) new told [] []).lines
      (subst (λ (es : List Event). Spells used es) events
      (subst (λ (l : List ℕ). Spells l there.events) words.is_text ends.spells))
      (subst (λ (es : List Event). SpansFrom profile b.n es (moved_spans b.n (there.spans ++ last))) events
      (met_reads choice profile b there last move (under there (put ++ more) new told) end))
      (sym (tells.rest (event_place b.read b.n there.text) (event_time b.n there.text) (lost_there there [])
      (b.past ++ past (there.events ++ [])) b.n)
      ∙ ap (λ (os : List FactData). facts_out choice.ignored b there there.text ++ os) (sym left_is)) said_are in
      (reads.0, reads.1, sym (append_assoc put more said) ∙ reads.2, reads.3)

  -- they end in a word that is no token
  pub ends_met : (more : List ℕ) (fault : LexFault) (after : Scan) (new : KeptStream K) (last : List Span) → MovesSpans
      → TimesStay → (begun : (text : List ℕ) → (front : List ℕ) × (text ≡ front ++ open_word text))
      → ((text : List ℕ) → front_word (open_word text) ≡ open_word text)
      → EndsInBadWord (StreamStands Keeps (kept_by words.begun keeper) new) words.reached fault after (put ++ more)
      → TellsOpen choice.ignored words.reached last → EndsWith words.reached last
      → (IsBadLine choice.ignored profile b
      (longer_line (met choice profile b words.reached (begun words.reached.text).0 last) []))
      × (used ≡ (begun words.reached.text).0 ++ open_word words.reached.text)
      × IsTold choice profile (KeptIn Keeps choice profile keeper) (KeptIn Keeps choice profile new.keeper)
      (put ++ more)
      (front_facts choice.ignored profile b
      (longer_line (met choice profile b words.reached (begun words.reached.text).0 last) []))
      × (stream_time new.stream ≡ open_time (begun words.reached.text).0 words.reached.events)
  ends_met more fault after new last move stay begun solid ends tells end =
      let there = words.reached in
      let told = ends.visited.told b words.begins in
      let front = begun there.text in
      let bad = subst (λ (l : List ℕ). OpenWordIsBad there.text l there.events) (sym (append-nil there.text))
      ends.bad in (
        record {
          word = met_word choice profile there front.0 [] front.1 bad;
          in_line = no_lf_append (open_word there.text) [] (solid_no_lf (open_word there.text) (solid there.text)) tt;
          all = moved_spans b.n (there.spans ++ last);
          reads = met_reads choice profile b there last move (under there (put ++ more) new told) end;
          reported = met_whole choice profile b.n there last tells;
        },
        sym words.is_text ∙ front.1,
        met_told choice profile (IsTold choice profile (KeptIn Keeps choice profile keeper)
            (KeptIn Keeps choice profile new.keeper) (put ++ more)) b there front.0 [] last tells
            (under there (put ++ more) new told) front.1
            (told_by there (put ++ more) new told),
        met_time choice profile there front.0 [] new.stream stay front.1 bad told.time,
      )

  -- ---- so far

  pub reads_so_far : (last : List Span) → MovesSpans → TellsOpen choice.ignored words.reached last
      → EndsWith words.reached last
      → (facts : List FactData) × ReadsSoFar choice.ignored profile b used facts ×
      (put ≡ fact_lines choice profile facts)
  reads_so_far last move tells end =
      let there = words.reached in
      let told = words.told.told b words.begins in
      let spans = moved_spans b.n (there.spans ++ last) in (
        text_facts choice.ignored b used (lost_in profile b.n there.events) b.past
            (filter (is_told choice.ignored) spans),
        record {
          events = there.events;
          spans = spans;
          begins = subst (λ (l : List ℕ). BeginsText l) words.is_text words.scans.lexer.begins;
          spells = subst (λ (l : List ℕ). EndedWordsSpell l there.events) words.is_text words.scans.lexer.ended;
          reads = met_reads choice profile b there last move (under there put now told) end;
          all = refl;
        },
        (told_by there put now told [] []).lines
            ∙ (ap (fact_lines choice profile) (facts_told choice.ignored b there (there.text ++ [])
            (lost_in there.profile b.n (there.events ++ [])) last tells)
            ∙ (ap (λ (l : List ℕ). fact_lines choice profile (text_facts choice.ignored b l
            (lost_in there.profile b.n (there.events ++ [])) b.past
            (moved_spans b.n (there.spans ++ filter (is_told choice.ignored) last))))
            (append-nil there.text ∙ words.is_text)
            ∙ ap (λ (l : List Span). fact_lines choice profile (text_facts choice.ignored b used
            (lost_in there.profile b.n (there.events ++ [])) b.past l))
            (met_whole choice profile b.n there last tells)
            ∙ ap (λ (es : List Event). fact_lines choice profile (text_facts choice.ignored b used
            (lost_in there.profile b.n es) b.past (filter (is_told choice.ignored) spans))) (append-nil there.events)
            ∙ ap (λ (p : List DeviceParts). fact_lines choice profile (text_facts choice.ignored b used
            (lost_in p b.n there.events) b.past (filter (is_told choice.ignored) spans)))
            (under there put now told))),
      )

-- all that is written where the bytes end
pub ends_told : {K : Type 0} (Keeps : K → Setting → List FactData → Type 0) (choice : ChoiceData)
    (profile : List DeviceParts) (after : AfterBadToken)
    (first : K) (Holds : K → Before → List ℕ → List ℕ → Type 0) (All : List FactData → Type 0)
    (bytes text said : List ℕ) (counts : CountsData) (tally : Tally)
    → (behind : Behind Keeps choice profile after first Holds bytes text)
    → (reads : (facts : List FactData) × ReadsToEnd choice.ignored profile behind.b behind.used facts counts
    × (behind.put ++ said ≡ fact_lines choice profile facts ++ last_lines choice profile counts))
    → IsTallyOf counts.packets (counts.refusals + counts.bad_tokens) tally → All (behind.facts ++ reads.0)
    → WritesKept All choice profile after bytes (text ++ said) tally
ends_told Keeps choice profile after first Holds All bytes text said counts tally behind reads tallied kept =
    subst (λ (l : List ℕ). WritesKept All choice profile after l (text ++ said) tally) (append-nil bytes)
    (writes_told choice profile Keeps after first Holds bytes text behind All [] said [] reads.0 counts tally
    (subst (λ (l : List ℕ). ReadsToEnd choice.ignored profile behind.b l reads.0 counts)
    (sym (append-nil behind.used)) reads.1)
    reads.2 tallied kept)
