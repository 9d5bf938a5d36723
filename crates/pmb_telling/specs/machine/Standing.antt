-- Where a `Teller` is within its capture.
use Rattle.std.proofs.Common.{append_assoc, subst, sym}
use Rattle.std.specs.Prelude.{◌≡◌, ◌⊎◌, ◌<◌, ℕ, Option, List, [], ◌∷◌, ◌++◌, filter, length}
use Rattle.pmb_bus.specs.Text.{EndsBetween, FirstBadWord, front_word, open_word}
use Rattle.pmb_command.specs.Parts.{DeviceParts}
use Rattle.pmb_io.specs.Lines.{HasNoLf}
use Rattle.pmb_io.specs.declared.tally.Tally.{Tally}
use Rattle.pmb_scan.specs.declared.after_bad_token.AfterBadToken.{AfterBadToken}
use Rattle.pmb_scan.specs.declared.after_bad_token.AfterBadToken.TheVariants.{Continue}
use Rattle.pmb_telling.specs.declared.engine.EngineState.{EngineState}
use Rattle.pmb_telling.specs.declared.engine.EngineState.TheVariants as inside
use Rattle.pmb_telling.specs.declared.engine.Teller.{Teller}
use Rattle.pmb_telling.specs.declared.engine.PieceRest.{PieceRest}
use Rattle.pmb_telling.specs.declared.engine.PieceRest.TheVariants as left
use Rattle.pmb_telling.specs.Kept.{StopsKept, WritesKept}
use Rattle.pmb_telling.specs.SoFar.{SoFarFrom}
use Rattle.pmb_telling.specs.machine.Ends.{IsOver}
use Rattle.pmb_telling.specs.Text.{BadLine, FactsFrom, IsBehindLine, at_word, bad_line_facts}
use Rattle.pmb_telling.specs.Text.{front_facts}
use Rattle.pmb_fact_stream.specs.Spans.{bad_token_fact}
use Rattle.pmb_json_objects.specs.Counts.{CountsData, after_bad_token}
use Rattle.pmb_facts.specs.Fact.{FactData}
use Rattle.pmb_fact_stream.specs.Lines.{fact_lines, last_lines}
use Rattle.pmb_places.specs.Places.{place_of_last_word}
use Rattle.pmb_io.specs.Count.{capped}
use Rattle.pmb_scan.specs.declared.scan.Scan.{Scan}
use Rattle.pmb_scan.specs.Reached.{Reached}
use Rattle.pmb_scan.specs.Scan.{ScanStandsAt}
use Rattle.pmb_spans.specs.Spans.{Span, SpansFrom}
use Rattle.pmb_keeper.specs.Setting.{Setting}
use Rattle.pmb_fact_stream.specs.declared.kept_stream.KeptStream.{KeptStream}
use Rattle.pmb_fact_stream.specs.declared.stream.Stream.{Stream}
use Rattle.pmb_fact_stream.specs.Before.{Before, at_first, with_bytes}
use Rattle.pmb_fact_stream.specs.Choice.{ChoiceData}
use Rattle.pmb_fact_stream.specs.Keeping.{IsTold, KeepsOn, setting_under}
use Rattle.pmb_fact_stream.specs.Others.{is_told}
use Rattle.pmb_fact_stream.specs.Stream.{StreamBegins, StreamKnows, StreamStands, kept_by, stream_choice}
use Rattle.pmb_fact_stream.specs.Stream.{stream_profile, stream_tally, stream_time}
use Rattle.pmb_fact_stream.specs.UnderWay.{open_time}

-- ---- what it was made with

abbrev pub teller_profile : {K : Type 0} → Teller K → List DeviceParts
teller_profile teller = teller.profile.now

abbrev pub teller_choice : {K : Type 0} → Teller K → ChoiceData
teller_choice teller = stream_choice teller.kept.stream

abbrev pub teller_bad_words : {K : Type 0} → Teller K → AfterBadToken
teller_bad_words teller = teller.bad_words

-- how many packets it counted, and how many refusals and words that are no token
abbrev pub teller_tally : {K : Type 0} → Teller K → Tally
teller_tally teller = stream_tally teller.kept.stream

-- The same choice and profile, under which its stream reads too.
pub record IsMadeAs {K : Type 0} (start now : Teller K) : Type 0 where
  pub choice : teller_choice now ≡ teller_choice start
  pub profile : teller_profile now ≡ teller_profile start
  pub reads : stream_profile now.kept.stream ≡ teller_profile start
  pub bad_words : teller_bad_words now ≡ teller_bad_words start

-- ---- a bad line so far

-- bytes more of it
abbrev pub longer_line : BadLine → List ℕ → BadLine
longer_line bad more = record bad { line = bad.line ++ more }

-- after its bytes so far, where these addresses are ignored, and where its word's fact was counted
-- too
abbrev pub behind_bytes : Option (List ℕ) → List DeviceParts → Before → BadLine → Before
behind_bytes ignored profile b bad = with_bytes (at_word ignored profile b bad) bad.line

abbrev pub behind_fact : Option (List ℕ) → List DeviceParts → Before → BadLine → Before
behind_fact ignored profile b bad = record (behind_bytes ignored profile b bad) {
  counts = after_bad_token (at_word ignored profile b bad).counts;
}

-- the fact of the word under way, which is no token, with the time of what is under way
abbrev pub open_word_fact : Option (List ℕ) → Before → FactData
open_word_fact time b = bad_token_fact
    (record { at = capped b.n; place = place_of_last_word b.read; time = time }) (open_word b.read)

module _ (choice : ChoiceData) (profile : List DeviceParts) where
  -- what is put out of it where reading ends there
  abbrev pub last_word_lines : Option (List ℕ) → Before → List ℕ
  last_word_lines time b =
      fact_lines choice profile (open_word_fact time b ∷ []) ++ last_lines choice profile (after_bad_token b.counts)

  module _ (after : AfterBadToken) where
    -- After these bad lines, which gave these facts, reading began anew at `b`: what follows
    -- there follows from the first byte too.
    pub record LeadsTo (b : Before) (bads : List BadLine) (facts : List FactData) : Type 0 where
      pub whole : (rest : List ℕ) (more : List BadLine) (others : List FactData) (counts : CountsData)
          → FactsFrom choice.ignored profile after b rest more others counts
          → FactsFrom choice.ignored profile after at_first (b.read ++ rest) (bads ++ more) (facts ++ others) counts
      pub so_far : (rest : List ℕ) (more : List BadLine) (others : List FactData)
          → SoFarFrom choice.ignored profile after b rest more others
          → SoFarFrom choice.ignored profile after at_first (b.read ++ rest) (bads ++ more) (facts ++ others)

  -- Its word is no token, whatever follows after the bytes at hand.
  pub record IsBadSoFar (b : Before) (bad : BadLine) (at_hand : List ℕ) : Type 0 where
    pub word : (more : List ℕ) → FirstBadWord (bad.front ++ (bad.line ++ (at_hand ++ more))) bad.events
        (length bad.front)
    pub all : List Span
    pub reads : SpansFrom profile b.n bad.events all
    pub reported : bad.spans ≡ filter (is_told choice.ignored) all

-- ---- where it is after `b`: these bytes were used since, this text was put out, and the keeper, as it
-- was there, has become another

module _ {K : Type 0} (Keeps : K → Setting → List FactData → Type 0) (choice : ChoiceData)
    (profile : List DeviceParts) where
  -- what a keeper keeps
  abbrev pub KeptIn : K → List FactData → Type 0
  KeptIn keeper = Keeps keeper (setting_under choice profile)

  -- In words that may be tokens, of which the stream was told that began there as `begun`.
  pub record InWords (scan : Scan) (now : KeptStream K) (keeper : K) (b : Before) (bytes text : List ℕ) : Type 0 where
    pub begun : Stream
    pub begins : StreamBegins b begun
    pub same_choice : stream_choice begun ≡ choice
    pub same_profile : stream_profile begun ≡ profile
    pub reached : Reached
    pub is_text : reached.text ≡ bytes
    pub scans : ScanStandsAt scan reached
    pub told : StreamStands Keeps (kept_by begun keeper) now reached text

  -- In a word that is no token, whose fact is not out.
  pub record HasBadWord (at_hand : List ℕ) (now : KeptStream K) (keeper : K) (b : Before)
      (bytes text : List ℕ) : Type 0 where
    pub bad : BadLine
    pub so_far : IsBadSoFar choice profile b bad at_hand
    pub is_text : bytes ≡ bad.front ++ bad.line
    pub under_way : front_word bad.line ≡ bad.line
    pub knows : StreamKnows (behind_bytes choice.ignored profile b bad) now.stream
    pub time : stream_time now.stream ≡ open_time bad.front bad.events
    pub told : (more : List ℕ) → IsTold choice profile (KeptIn keeper) (KeptIn now.keeper) text
        (front_facts choice.ignored profile b (longer_line bad more))

  -- More of it may come: fewer than 32 bytes came where none are at hand.
  pub record InBadWord (at_hand : List ℕ) (now : KeptStream K) (keeper : K) (b : Before)
      (bytes text : List ℕ) : Type 0 where
    pub word : HasBadWord at_hand now keeper b bytes text
    pub short : at_hand ≡ [] → length word.bad.line < 32

  -- No more of it is told: the next byte at hand ends it, or 32 bytes came.
  pub record BehindBadWord (at_hand : List ℕ) (now : KeptStream K) (keeper : K) (b : Before)
      (bytes text : List ℕ) : Type 0 where
    pub word : HasBadWord at_hand now keeper b bytes text
    pub over : IsOver word.bad.line at_hand

  -- In the rest of its line, which is dropped.
  pub record InBadLine (at_hand : List ℕ) (now : KeptStream K) (keeper : K) (b : Before)
      (bytes text : List ℕ) : Type 0 where
    pub bad : BadLine
    pub so_far : IsBadSoFar choice profile b bad at_hand
    pub is_text : bytes ≡ bad.front ++ bad.line
    pub in_line : HasNoLf bad.line
    -- whatever follows, more is told of no word under way
    pub over : (whole more : List ℕ) → whole ≡ bad.line ++ (at_hand ++ more) → front_word whole ≡ whole
        → length whole < 32 → ⊥
    pub knows : StreamKnows (behind_fact choice.ignored profile b bad) now.stream
    -- whatever follows, up to the end of the line
    pub told : (more line rest : List ℕ) → at_hand ++ more ≡ line ++ rest → IsBehindLine rest
        → IsTold choice profile (KeptIn keeper) (KeptIn now.keeper) text
        (bad_line_facts choice.ignored profile b (longer_line bad line))

  module _ (after : AfterBadToken) where
    -- All bytes, and all text: those up to there, and those after it, of which this holds.
    pub record Behind (first_keeper : K) (Holds : K → Before → List ℕ → List ℕ → Type 0)
        (bytes text : List ℕ) : Type 0 where
      pub b : Before
      pub bads : List BadLine
      pub facts : List FactData
      pub leads : LeadsTo choice profile after b bads facts
      pub between : EndsBetween b.read
      -- where reading ends at bad words it never began anew
      pub first : (b.read ≡ []) ⊎ (after ≡ Continue)
      pub used : List ℕ
      pub put : List ℕ
      pub bytes_are : bytes ≡ b.read ++ used
      pub text_is : text ≡ fact_lines choice profile facts ++ put
      pub keeper : K
      pub kept : KeepsOn (KeptIn first_keeper) (KeptIn keeper) facts
      pub holds : Holds keeper b used put

-- ---- as an engine: it began as `start`, and this text was put out for the bytes

module _ {K : Type 0} (Keeps : K → Setting → List FactData → Type 0) where
  pub record Standing (Holds : K → Before → List ℕ → List ℕ → Type 0) (start now : Teller K)
      (bytes text : List ℕ) : Type 0 where
    pub made : IsMadeAs start now
    pub behind : Behind Keeps (teller_choice start) (teller_profile start) (teller_bad_words start) start.kept.keeper
        Holds bytes text

  abbrev pub StandsInWords : Teller K → Teller K → List ℕ → List ℕ → Type 0
  StandsInWords start now = Standing (InWords Keeps (teller_choice start) (teller_profile start) now.scan now.kept)
      start now

  -- with these bytes at hand
  abbrev pub StandsInBadWord : List ℕ → Teller K → Teller K → List ℕ → List ℕ → Type 0
  StandsInBadWord at_hand start now = Standing
      (InBadWord Keeps (teller_choice start) (teller_profile start) at_hand now.kept) start now

  abbrev pub StandsBehindBadWord : List ℕ → Teller K → Teller K → List ℕ → List ℕ → Type 0
  StandsBehindBadWord at_hand start now = Standing
      (BehindBadWord Keeps (teller_choice start) (teller_profile start) at_hand now.kept) start now

  abbrev pub StandsInBadLine : List ℕ → Teller K → Teller K → List ℕ → List ℕ → Type 0
  StandsInBadLine at_hand start now bytes text =
      (teller_bad_words start ≡ Continue)
      × Standing (InBadLine Keeps (teller_choice start) (teller_profile start) at_hand now.kept) start now bytes text

  abbrev pub StandsIn : EngineState → Teller K → Teller K → List ℕ → List ℕ → Type 0
  StandsIn inside.Words start now bytes text = StandsInWords start now bytes text
  StandsIn inside.BadWord start now bytes text = StandsInBadWord [] start now bytes text
  StandsIn inside.BadLine start now bytes text = StandsInBadLine [] start now bytes text

  abbrev pub HasPutOut : Teller K → Teller K → List ℕ → List ℕ → Type 0
  HasPutOut start now bytes text = StandsIn now.inside start now bytes text

  -- what the keeper kept at the start, it keeps with these facts
  abbrev pub HasKept : Teller K → Teller K → List FactData → Type 0
  HasKept start now = KeepsOn (KeptIn Keeps (teller_choice start) (teller_profile start) start.kept.keeper)
      (KeptIn Keeps (teller_choice start) (teller_profile start) now.kept.keeper)

  abbrev pub HasStopped : Teller K → Teller K → List ℕ → List ℕ → Type 0
  HasStopped start now bytes text = StopsKept (HasKept start now) (teller_choice start) (teller_profile start)
      (teller_bad_words start) bytes text (teller_tally now)

  abbrev pub HasEnded : Teller K → Teller K → List ℕ → List ℕ → Type 0
  HasEnded start now bytes text = WritesKept (HasKept start now) (teller_choice start) (teller_profile start)
      (teller_bad_words start) bytes text (teller_tally now)

  -- what stops it holds whatever follows
  pub stops_for_good : (start now : Teller K) (bytes text more : List ℕ) → HasStopped start now bytes text
      → HasStopped start now (bytes ++ more) text
  stops_for_good start now bytes text more stops = record {
    ends = stops.ends;
    writes = stops.whatever_follows more;
    whatever_follows = λ others. subst (λ (b : List ℕ). WritesKept (HasKept start now) (teller_choice start)
        (teller_profile start) (teller_bad_words start) b text (teller_tally now))
        (sym (append_assoc bytes more others)) (stops.whatever_follows (more ++ others));
  }

  -- ---- what a piece comes to, up to the end of a bad line

  pub record TakesFront (start now : Teller K) (bytes piece rest text : List ℕ) : Type 0 where
    pub front : List ℕ
    pub split : piece ≡ front ++ rest
    pub stands : HasPutOut start now (bytes ++ front) text

  abbrev pub TakesLine : Teller K → Teller K → List ℕ → List ℕ → PieceRest → List ℕ → Type 0
  TakesLine start now bytes piece left.Nothing text = HasPutOut start now (bytes ++ piece) text
  TakesLine start now bytes piece left.Stop text = HasStopped start now (bytes ++ piece) text
  TakesLine start now bytes piece (left.Bytes rest) text = TakesFront start now bytes piece rest.now text

-- what is left is less than there was
abbrev pub IsLess : PieceRest → ℕ → Type 0
IsLess left.Nothing count = Unit {0}
IsLess left.Stop count = Unit {0}
IsLess (left.Bytes rest) count = length rest.now < count
