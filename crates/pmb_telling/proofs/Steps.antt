-- A `Teller` after bytes more: in words, in a bad word (more of it may come, or no more of it is
-- reported), in the rest of its line, and after the LF that ends it. For `take_words`,
-- `take_bad_word`, `drop_line`, `end_bad_word` and `take_line` of `src/engine.rt`. What stands
-- before the bytes at hand stays (`Behind`), and the last part of it is replaced.
use Rattle.std.proofs.Common.{◌≡◌, ◌≢◌, ◌⊎◌, ℕ, ◌+◌, ◌<◌, ◌≤◌, true, inl, inr, Option, List, [], ◌∷◌, ◌++◌, drop}
use Rattle.std.proofs.Common.{length}
use Rattle.std.proofs.Common.{refl, sym, ap, subst, ◌∙◌, append_assoc, append-nil, arith, length-append, length-take}
use Rattle.std.proofs.Common.{take, take-append-drop}
use Rattle.pmb_bus.specs.Text.{EndsBetween, front_word, is_word, open_word}
use Rattle.pmb_command.specs.Parts.{DeviceParts}
use Rattle.pmb_io.specs.Tally.{IsTallyOf}
use Rattle.pmb_io.specs.declared.tally.Tally.{Tally}
use Rattle.pmb_scan.specs.declared.after_bad_token.AfterBadToken.{AfterBadToken}
use Rattle.pmb_scan.specs.declared.after_bad_token.AfterBadToken.TheVariants.{End, Continue}
use Rattle.pmb_telling.specs.declared.engine.Teller.{Teller}
use Rattle.pmb_telling.specs.Kept.{StopsKept, WritesKept}
use Rattle.pmb_telling.specs.Text.{BadLine, IsBadLine, IsBehindLine, bad_line_facts, behind_line}
use Rattle.pmb_telling.specs.Text.{front_facts}
use Rattle.pmb_telling.specs.machine.Ends.{EndsLine}
use Rattle.pmb_telling.specs.machine.Standing.{Behind, BehindBadWord, HasBadWord, InBadLine, InBadWord, InWords}
use Rattle.pmb_telling.specs.machine.Standing.{IsBadSoFar, IsMadeAs, KeptIn, behind_bytes, behind_fact}
use Rattle.pmb_telling.specs.machine.Standing.{teller_bad_words}
use Rattle.pmb_telling.specs.machine.Standing.{last_word_lines, longer_line, open_word_fact, teller_choice}
use Rattle.pmb_telling.specs.machine.Standing.{teller_profile}
use Rattle.pmb_telling.proofs.MetWords.{StandsThere, first_so_far, keeps_with_word, knows_as, lines_with_counts}
use Rattle.pmb_telling.proofs.MetWords.{word_goes_on}
use Rattle.pmb_telling.proofs.MetWords.{lines_with_last, lines_with_word, stands_there, word_is}
use Rattle.pmb_telling.proofs.Leading.{bad_line_is, leads_line, writes_bad_line}
use Rattle.pmb_telling.proofs.Lines.{behind_front, front_cut, never_under_way, same_split, split_line, told_for_good}
use Rattle.pmb_telling.proofs.Facts.{lines_append}
use Rattle.pmb_telling.proofs.Reading.{words_begin}
use Rattle.pmb_telling.proofs.Words.{solid_no_lf, solid_then}
use Rattle.pmb_fact_stream.specs.Lines.{fact_lines, last_lines}
use Rattle.pmb_places.specs.Places.{place_behind, place_of_last_word}
use Rattle.pmb_facts.specs.Fact.{FactData}
use Rattle.pmb_keeper.specs.Setting.{Setting}
use Rattle.pmb_fact_stream.specs.declared.kept_stream.KeptStream.{KeptStream}
use Rattle.pmb_fact_stream.specs.declared.stream.Stream.{Stream}
use Rattle.pmb_scan.specs.declared.scan.Scan.{Scan}
use Rattle.pmb_scan.specs.Reached.{at_start}
use Rattle.pmb_scan.specs.Scan.{ScanStandsAt}
use Rattle.pmb_fact_stream.specs.Before.{Before, drop_line, with_bytes}
use Rattle.pmb_fact_stream.specs.Choice.{ChoiceData}
use Rattle.pmb_fact_stream.specs.Keeping.{IsTold, KeepsOn}
use Rattle.pmb_fact_stream.specs.Stream.{IsSame, KeepsFacts, StreamBegins, StreamKnows, kept_by, stream_choice}
use Rattle.pmb_fact_stream.specs.Stream.{stream_profile}
use Rattle.pmb_fact_stream.proofs.Keeping.{keeps_both}
use Rattle.pmb_fact_stream.specs.Stream.{stream_time}
use Rattle.pmb_fact_stream.specs.UnderWay.{open_time}

-- ---- bytes and text more

-- it was made as before
pub made_on : {K : Type 0} (start old new : Teller K) → IsMadeAs start old → teller_profile new ≡ teller_profile old
    → teller_bad_words new ≡ teller_bad_words old → IsSame old.kept.stream new.kept.stream → IsMadeAs start new
made_on start old new made profile bad_words same = record {
  choice = same.choice ∙ made.choice;
  profile = profile ∙ made.profile;
  reads = same.profile ∙ made.reads;
  bad_words = bad_words ∙ made.bad_words;
}

-- and what its stream hands to its keeper is kept under the choice and the profile that it was made with
pub made_kept : {K : Type 0} (Keeps : K → Setting → List FactData → Type 0) (start now : Teller K) → IsMadeAs start
    now → (old new : K)
    (facts : List FactData) → KeepsFacts Keeps now.kept.stream old new facts
    → KeepsOn (KeptIn Keeps (teller_choice start) (teller_profile start) old)
    (KeptIn Keeps (teller_choice start) (teller_profile start) new) facts
made_kept Keeps start now made old new facts kept =
    let holds = λ (k : ChoiceData) (p : List DeviceParts). KeepsOn (KeptIn Keeps k p old) (KeptIn Keeps k p new) facts
    in
    subst (λ (p : List DeviceParts). holds (teller_choice start) p) made.reads
    (subst (λ (k : ChoiceData). holds k (stream_profile now.kept.stream)) made.choice kept)

module _ {K : Type 0} (Keeps : K → Setting → List FactData → Type 0) (choice : ChoiceData) (profile : List DeviceParts)
    (after : AfterBadToken) (first : K) where
  pub behind_more : (Holds Next : K → Before → List ℕ → List ℕ → Type 0) (bytes text piece said : List ℕ)
      → (behind : Behind Keeps choice profile after first Holds bytes text)
      → Next behind.keeper behind.b (behind.used ++ piece) (behind.put ++ said)
      → Behind Keeps choice profile after first Next (bytes ++ piece) (text ++ said)
  behind_more Holds Next bytes text piece said behind holds = record {
    b = behind.b;
    bads = behind.bads;
    facts = behind.facts;
    leads = behind.leads;
    between = behind.between;
    first = behind.first;
    used = behind.used ++ piece;
    put = behind.put ++ said;
    bytes_are = ap (λ (l : List ℕ). l ++ piece) behind.bytes_are ∙ append_assoc behind.b.read behind.used piece;
    text_is = ap (λ (l : List ℕ). l ++ said) behind.text_is
        ∙ append_assoc (fact_lines choice profile behind.facts) behind.put said;
    keeper = behind.keeper;
    kept = behind.kept;
    holds = holds;
  }

  pub behind_taken : (Holds Next : K → Before → List ℕ → List ℕ → Type 0) (bytes text piece : List ℕ)
      → (behind : Behind Keeps choice profile after first Holds bytes text)
      → Next behind.keeper behind.b (behind.used ++ piece) behind.put → Behind Keeps choice profile after first Next
      (bytes ++ piece) text
  behind_taken Holds Next bytes text piece behind holds =
      subst (λ (l : List ℕ). Behind Keeps choice profile after first Next (bytes ++ piece) l) (append-nil text)
      (behind_more Holds Next bytes text piece [] behind
      (subst (λ (l : List ℕ). Next behind.keeper behind.b (behind.used ++ piece) l) (sym (append-nil behind.put))
      holds))

  abbrev pub behind_put : (Holds Next : K → Before → List ℕ → List ℕ → Type 0) (bytes text said : List ℕ)
      → (behind : Behind Keeps choice profile after first Holds bytes text)
      → Next behind.keeper behind.b behind.used (behind.put ++ said) → Behind Keeps choice profile after first Next
      bytes (text ++ said)
  behind_put Holds Next bytes text said behind holds = record {
    b = behind.b;
    bads = behind.bads;
    facts = behind.facts;
    leads = behind.leads;
    between = behind.between;
    first = behind.first;
    used = behind.used;
    put = behind.put ++ said;
    bytes_are = behind.bytes_are;
    text_is = ap (λ (l : List ℕ). l ++ said) behind.text_is
        ∙ append_assoc (fact_lines choice profile behind.facts) behind.put said;
    keeper = behind.keeper;
    kept = behind.kept;
    holds = holds;
  }

  -- what holds there, said otherwise
  abbrev pub behind_as : (Holds Next : K → Before → List ℕ → List ℕ → Type 0) (bytes text : List ℕ)
      → (behind : Behind Keeps choice profile after first Holds bytes text)
      → Next behind.keeper behind.b behind.used behind.put → Behind Keeps choice profile after first Next bytes text
  behind_as Holds Next bytes text behind holds = record {
    b = behind.b;
    bads = behind.bads;
    facts = behind.facts;
    leads = behind.leads;
    between = behind.between;
    first = behind.first;
    used = behind.used;
    put = behind.put;
    bytes_are = behind.bytes_are;
    text_is = behind.text_is;
    keeper = behind.keeper;
    kept = behind.kept;
    holds = holds;
  }

-- ---- a word of which no more is told

abbrev pub OpensWord : Type 0
OpensWord = (read front word : List ℕ) → EndsBetween read → EndsBetween front → front_word word ≡ word
    → open_word ((read ++ front) ++ word) ≡ word

abbrev pub PlacesWord : Type 0
PlacesWord = (read front word : List ℕ) → EndsBetween read → EndsBetween front → front_word word ≡ word
    → is_word word ≡ true → place_of_last_word ((read ++ front) ++ word) ≡ place_behind (read ++ front)

-- as many bytes as are under way
pub under_way_is : {K : Type 0} (Keeps : K → Setting → List FactData → Type 0) (choice : ChoiceData)
    (profile : List DeviceParts) (keeper : K) (b : Before) (at_hand used put : List ℕ) (now : KeptStream K) → OpensWord
    → EndsBetween b.read → (has : HasBadWord Keeps choice profile at_hand now keeper b used put)
    → open_word ((b.read ++ has.bad.front) ++ has.bad.line) ≡ has.bad.line
under_way_is Keeps choice profile keeper b at_hand used put now opened between has =
    opened b.read has.bad.front has.bad.line between
    (behind_front has.bad.front (has.bad.line ++ at_hand) has.bad.events
    (first_so_far choice profile b has.bad at_hand has.so_far)).between has.under_way

-- so many bytes of the 32 that are told
pub told_few : (word : List ℕ) → length (take 32 word) < 32 → length word < 32
told_few word few = omega (arith, length-take 32 word)

pub told_full : (word : List ℕ) → 32 ≤ length (take 32 word) → 32 ≤ length word
told_full word full = omega (arith, length-take 32 word)

-- with bytes at hand
pub word_at_hand : {K : Type 0} (Keeps : K → Setting → List FactData → Type 0) (choice : ChoiceData)
    (profile : List DeviceParts) (at_hand : List ℕ) (keeper : K) (b : Before) (used put : List ℕ) (now : KeptStream K)
    → InBadWord Keeps choice profile [] now keeper b used put
    → InBadWord Keeps choice profile at_hand now keeper b used put
word_at_hand Keeps choice profile at_hand keeper b used put now word = record {
  word = record {
    bad = word.word.bad;
    so_far = record {
      word = λ more. word.word.so_far.word (at_hand ++ more);
      all = word.word.so_far.all;
      reads =
          word.word.so_far.reads;
      reported = word.word.so_far.reported;
    };
    is_text = word.word.is_text;
    under_way = word.word.under_way;
    knows = word.word.knows;
    time = word.word.time;
    told = word.word.told;
  };
  short = λ none. word.short refl;
}

pub line_at_hand : {K : Type 0} (Keeps : K → Setting → List FactData → Type 0) (choice : ChoiceData)
    (profile : List DeviceParts) (at_hand : List ℕ) (keeper : K) (b : Before) (used put : List ℕ) (now : KeptStream K)
    → InBadLine Keeps choice profile [] now keeper b used put
    → InBadLine Keeps choice profile at_hand now keeper b used put
line_at_hand Keeps choice profile at_hand keeper b used put now line = record {
  bad = line.bad;
  so_far = record {
    word = λ more. line.so_far.word (at_hand ++ more);
    all = line.so_far.all;
    reads =
        line.so_far.reads;
    reported = line.so_far.reported;
  };
  is_text = line.is_text;
  in_line = line.in_line;
  over = λ whole more is. line.over whole (at_hand ++ more) is;
  knows = line.knows;
  told = λ more later rest split behind. line.told (at_hand ++ more) later rest split behind;
}

module _ {K : Type 0} (Keeps : K → Setting → List FactData → Type 0) (choice : ChoiceData) (profile : List DeviceParts)
    (opened : OpensWord) (keeper : K) (b : Before) (between : EndsBetween b.read)
    (at_hand word rest used put : List ℕ) (old : KeptStream K) (new : Stream) (split : at_hand ≡ word ++ rest)
    (solid : front_word word ≡ word)
    (takes : (b : Before) → StreamKnows b old.stream → StreamKnows (with_bytes b word) new)
    (timed : stream_time new ≡ stream_time old.stream)
    (has : HasBadWord Keeps choice profile at_hand old keeper b used put) where
  -- the word goes on
  abbrev pub goes_on : HasBadWord Keeps choice profile rest (kept_by new old.keeper) keeper b (used ++ word) put
  goes_on = word_goes_on choice profile Keeps keeper b word rest at_hand used put old new split solid takes timed has

  -- more of it may come
  pub waits : rest ≡ [] → (length (take 32 (open_word (behind_bytes choice.ignored profile b (goes_on).bad).read)) < 32)
      → InBadWord Keeps choice profile [] (kept_by new old.keeper) keeper b (used ++ at_hand) put
  waits none few =
      let all : word ≡ at_hand = sym (split ∙ (ap (λ (l : List ℕ). word ++ l) none ∙ append-nil word)) in
      let line = (goes_on).bad.line in
      let short : length line < 32 =
      told_few line (subst (λ (l : List ℕ). length (take 32 l) < 32)
      (under_way_is Keeps choice profile keeper b rest (used ++ word) put (kept_by new old.keeper) opened between
      goes_on) few) in
      subst (λ (w : List ℕ). InBadWord Keeps choice profile [] (kept_by new old.keeper) keeper b (used ++ w) put) all
      (waits_so (goes_on) none short)
    where
      waits_so : (now : HasBadWord Keeps choice profile rest (kept_by new old.keeper) keeper b (used ++ word) put) →
          rest ≡ [] → length now.bad.line < 32
          → InBadWord Keeps choice profile [] (kept_by new old.keeper) keeper b (used ++ word) put
      waits_so now none short = record {
        word = record {
          bad = now.bad;
          so_far = subst (λ (r : List ℕ). IsBadSoFar choice profile b now.bad r) none now.so_far;
          is_text = now.is_text;
          under_way = now.under_way;
          knows = now.knows;
          time = now.time;
          told = now.told;
        };
        short = λ _. short;
      }

  -- or no more of it is told
  pub is_behind : (front_word rest ≡ []) ⊎
      (32 ≤ length (take 32 (open_word (behind_bytes choice.ignored profile b has.bad).read)) + length word)
      → (rest ≢ []) ⊎ (32 ≤ length (take 32 (open_word (behind_bytes choice.ignored profile b (goes_on).bad).read)))
      → BehindBadWord Keeps choice profile rest (kept_by new old.keeper) keeper b (used ++ word) put
  is_behind stops (inr full) = record {
    word = goes_on;
    over = inr (told_full (goes_on).bad.line
        (subst (λ (l : List ℕ). 32 ≤ length (take 32 l))
        (under_way_is Keeps choice profile keeper b rest (used ++ word) put (kept_by new old.keeper) opened between
        goes_on) full));
  }
  is_behind (inl none) (inl some) = record { word = goes_on; over = inl (some, none) }
  is_behind (inr full) (inl some) = record {
    word = goes_on;
    over = inr (many has.bad.line word (subst (λ (l : List ℕ). 32 ≤ length (take 32 l) + length word)
        (under_way_is Keeps choice profile keeper b at_hand used put old opened between has) full));
  }
    where
      many : (line word : List ℕ) → 32 ≤ length (take 32 line) + length word → 32 ≤ length (line ++ word)
      many line word full = omega (arith, length-take 32 line, length-append line word)

module _ {K : Type 0} (Keeps : K → Setting → List FactData → Type 0) (choice : ChoiceData) (profile : List DeviceParts)
    (after : AfterBadToken) (first : K) (bytes text : List ℕ) where
  module _ (opened : OpensWord) (placed : PlacesWord) (rest : List ℕ) (old : KeptStream K)
      (behind : Behind Keeps choice profile after first (BehindBadWord Keeps choice profile rest old) bytes text) where
    -- however its line goes on
    told : (more : List ℕ) → take 32 (front_word (behind.holds.word.bad.line ++ (rest ++ more)))
        ≡ take 32 behind.holds.word.bad.line
    told more = told_for_good behind.holds.word.bad.line rest more behind.holds.word.under_way behind.holds.over

    there : StandsThere behind.b behind.holds.word.bad
    there =
        let has = behind.holds.word in
        stands_there opened placed behind.b has.bad rest behind.between
        (first_so_far choice profile behind.b has.bad rest has.so_far) has.under_way
        (subst (λ (l : List ℕ). take 32 (front_word (has.bad.line ++ l)) ≡ take 32 has.bad.line) (append-nil rest)
        (told []))

    told_up_to : (more line after_line : List ℕ) → rest ++ more ≡ line ++ after_line → IsBehindLine after_line
        → take 32 (front_word (behind.holds.word.bad.line ++ line)) ≡ take 32 behind.holds.word.bad.line
    told_up_to more line after_line split is_behind =
        let bad = behind.holds.word.bad in
        let whole : bad.line ++ (rest ++ more) ≡ (bad.line ++ line) ++ after_line =
        ap (λ (l : List ℕ). bad.line ++ l) split ∙ sym (append_assoc bad.line line after_line) in
        ap (take 32) (sym (front_cut (bad.line ++ line) after_line is_behind)
        ∙ ap (λ (l : List ℕ). front_word l) (sym whole)) ∙ told more

    -- its fact is out, and its line is dropped
    pub drops_line : (said : List ℕ) (new : KeptStream K)
        → said ≡ fact_lines choice profile
        (open_word_fact (stream_time old.stream) (behind_bytes choice.ignored profile behind.b behind.holds.word.bad) ∷ [])
        → KeepsOn (KeptIn Keeps choice profile old.keeper) (KeptIn Keeps choice profile new.keeper)
        (open_word_fact (stream_time old.stream) (behind_bytes choice.ignored profile behind.b behind.holds.word.bad) ∷ [])
        → StreamKnows (behind_fact choice.ignored profile behind.b behind.holds.word.bad) new.stream
        → Behind Keeps choice profile after first (InBadLine Keeps choice profile rest new) bytes (text ++ said)
    drops_line said new said_are kept knows =
        let has = behind.holds.word in
        let word = open_word_fact (stream_time old.stream) (behind_bytes choice.ignored profile behind.b has.bad) in
        behind_put Keeps choice profile after first _ (InBadLine Keeps choice profile rest new) bytes text said behind
        (record {
          bad = has.bad;
          so_far = has.so_far;
          is_text = has.is_text;
          in_line = solid_no_lf has.bad.line has.under_way;
          over = λ whole more is. never_under_way has.bad.line rest more whole has.under_way behind.holds.over is;
          knows = knows;
          told = λ more line after_line split is_behind.
              let is = word_is choice profile behind.b has.bad line (stream_time old.stream) there has.time
              (told_up_to more line after_line split is_behind) in record {
                lines = lines_with_word choice profile behind.b has.bad line behind.put said word (has.told line).lines
                    said_are is;
                kept = keeps_with_word choice profile (KeptIn Keeps choice profile behind.keeper)
                    (KeptIn Keeps choice profile old.keeper) (KeptIn Keeps choice profile new.keeper) behind.b has.bad
                    line word (has.told line).kept kept is;
              };
        })

    -- or reading ends there, whatever follows
    pub stops_at : (last : K) (tail said : List ℕ) (tally : Tally) → after ≡ End
        → said ≡ last_word_lines choice profile (stream_time old.stream)
        (behind_bytes choice.ignored profile behind.b behind.holds.word.bad)
        → IsTallyOf (behind_fact choice.ignored profile behind.b behind.holds.word.bad).counts.packets
        ((behind_fact choice.ignored profile behind.b behind.holds.word.bad).counts.refusals +
        (behind_fact choice.ignored profile behind.b behind.holds.word.bad).counts.bad_tokens) tally
        → KeepsOn (KeptIn Keeps choice profile old.keeper) (KeptIn Keeps choice profile last)
        (open_word_fact (stream_time old.stream) (behind_bytes choice.ignored profile behind.b behind.holds.word.bad) ∷ [])
        → WritesKept (KeepsOn (KeptIn Keeps choice profile first) (KeptIn Keeps choice profile last)) choice profile
        after
        ((bytes ++ rest) ++ tail) (text ++ said) tally
    stops_at last tail said tally ends said_are tallied kept =
        let At = KeptIn Keeps choice profile in
        let All = KeepsOn (At first) (At last) in
        let has = behind.holds.word in
        let bad = has.bad in
        let s = split_line (rest ++ tail) in
        let whole : bad.line ++ (rest ++ tail) ≡ (bad.line ++ s.line) ++ s.rest =
        ap (λ (l : List ℕ). bad.line ++ l) s.split ∙ sym (append_assoc bad.line s.line s.rest) in
        let bytes_are : behind.used ++ (rest ++ tail) ≡ bad.front ++ ((bad.line ++ s.line) ++ s.rest) =
        ap (λ (l : List ℕ). l ++ (rest ++ tail)) has.is_text
        ∙ (append_assoc bad.front bad.line (rest ++ tail) ∙ ap (λ (l : List ℕ). bad.front ++ l) whole) in
        let told_line = told_up_to tail s.line s.rest s.split s.behind in
        subst (λ (l : List ℕ). WritesKept All choice profile after l (text ++ said) tally)
        (sym (append_assoc bytes rest tail))
        (writes_bad_line choice profile Keeps after first _ bytes text behind All (rest ++ tail) said
        (longer_line bad s.line) s.rest tally bytes_are
        (bad_line_is choice profile behind.b bad rest tail s.line s.rest has.so_far s.split
        (solid_no_lf bad.line has.under_way) s.in_line s.behind) s.behind (inl ends)
        (lines_with_last choice profile behind.b bad s.line behind.put said (stream_time old.stream) there has.time
        told_line (has.told s.line).lines said_are) tallied
        (keeps_both (At first) (At behind.keeper) (At last) behind.facts _ behind.kept
        (keeps_with_word choice profile (At behind.keeper) (At old.keeper) (At last) behind.b bad s.line
        (open_word_fact (stream_time old.stream) (behind_bytes choice.ignored profile behind.b bad)) (has.told s.line).kept kept
        (word_is choice profile behind.b bad s.line (stream_time old.stream) there has.time told_line))))

    pub stops_told : (last : K) (said : List ℕ) (tally : Tally) → after ≡ End
        → said ≡ last_word_lines choice profile (stream_time old.stream)
        (behind_bytes choice.ignored profile behind.b behind.holds.word.bad)
        → IsTallyOf (behind_fact choice.ignored profile behind.b behind.holds.word.bad).counts.packets
        ((behind_fact choice.ignored profile behind.b behind.holds.word.bad).counts.refusals +
        (behind_fact choice.ignored profile behind.b behind.holds.word.bad).counts.bad_tokens) tally
        → KeepsOn (KeptIn Keeps choice profile old.keeper) (KeptIn Keeps choice profile last)
        (open_word_fact (stream_time old.stream) (behind_bytes choice.ignored profile behind.b behind.holds.word.bad) ∷ [])
        → StopsKept (KeepsOn (KeptIn Keeps choice profile first) (KeptIn Keeps choice profile last)) choice profile
        after
        (bytes ++ rest) (text ++ said) tally
    stops_told last said tally ends said_are tallied kept = record {
      ends = ends;
      writes = subst (λ (l : List ℕ). WritesKept (KeepsOn (KeptIn Keeps choice profile first) (KeptIn Keeps choice
          profile last))
          choice profile after l (text ++ said) tally)
          (append-nil (bytes ++ rest)) (stops_at last [] said tally ends said_are tallied kept);
      whatever_follows = λ more. stops_at last more said tally ends said_are tallied kept;
    }

  -- ---- the bytes end

  module _ (Holds : K → Before → List ℕ → List ℕ → Type 0)
      (behind : Behind Keeps choice profile after first Holds bytes text) (now last : K) where
    -- in a word that is no token
    pub ends_in_word : (opened : OpensWord) (placed : PlacesWord) (bad : BadLine) (time : Option (List ℕ))
        (said : List ℕ) (tally : Tally) → time ≡ open_time bad.front bad.events → behind.used ≡ bad.front ++ bad.line
        → IsBadLine choice.ignored profile behind.b (longer_line bad []) → front_word bad.line ≡ bad.line
        → IsTold choice profile (KeptIn Keeps choice profile behind.keeper) (KeptIn Keeps choice profile now) behind.put
        (front_facts choice.ignored profile behind.b (longer_line bad []))
        → said ≡ last_word_lines choice profile time (behind_bytes choice.ignored profile behind.b bad)
        → IsTallyOf (behind_fact choice.ignored profile behind.b bad).counts.packets
        ((behind_fact choice.ignored profile behind.b bad).counts.refusals
        + (behind_fact choice.ignored profile behind.b bad).counts.bad_tokens) tally
        → KeepsOn (KeptIn Keeps choice profile now) (KeptIn Keeps choice profile last)
        (open_word_fact time (behind_bytes choice.ignored profile behind.b bad) ∷ [])
        → WritesKept (KeepsOn (KeptIn Keeps choice profile first) (KeptIn Keeps choice profile last)) choice profile
        after
        bytes (text ++ said) tally
    ends_in_word opened placed bad time said tally timed used_are is_bad solid told said_are tallied kept =
        let At = KeptIn Keeps choice profile in
        let All = KeepsOn (At first) (At last) in
        let told_line : take 32 (front_word (bad.line ++ [])) ≡ take 32 bad.line =
        ap (take 32) (solid_then bad.line [] solid ∙ append-nil bad.line) in
        let stands = stands_there opened placed behind.b bad [] behind.between is_bad.word solid told_line in
        subst (λ (l : List ℕ). WritesKept All choice profile after l (text ++ said) tally) (append-nil bytes)
        (writes_bad_line choice profile Keeps after first Holds bytes text behind All [] said (longer_line bad []) []
        tally
        (append-nil behind.used ∙ (used_are ∙ ap (λ (l : List ℕ). bad.front ++ l)
        (sym (append-nil bad.line) ∙ sym (append-nil (bad.line ++ [])))))
        is_bad tt (inr refl) (lines_with_last choice profile behind.b bad [] behind.put said time stands timed told_line
        told.lines said_are) tallied
        (keeps_both (At first) (At behind.keeper) (At last) behind.facts _ behind.kept
        (keeps_with_word choice profile (At behind.keeper) (At now) (At last) behind.b bad []
        (open_word_fact time (behind_bytes choice.ignored profile behind.b bad)) told.kept kept
        (word_is choice profile behind.b bad [] time stands timed told_line))))

    -- in the rest of its line
    pub ends_in_line : (bad : BadLine) (said : List ℕ) (tally : Tally) → behind.used ≡ bad.front ++ bad.line
        → IsBadLine choice.ignored profile behind.b (longer_line bad [])
        → IsTold choice profile (KeptIn Keeps choice profile behind.keeper) (KeptIn Keeps choice profile last)
        behind.put
        (bad_line_facts choice.ignored profile behind.b (longer_line bad []))
        → said ≡ last_lines choice profile (behind_fact choice.ignored profile behind.b bad).counts
        → IsTallyOf (behind_fact choice.ignored profile behind.b bad).counts.packets
        ((behind_fact choice.ignored profile behind.b bad).counts.refusals
        + (behind_fact choice.ignored profile behind.b bad).counts.bad_tokens) tally
        → WritesKept (KeepsOn (KeptIn Keeps choice profile first) (KeptIn Keeps choice profile last)) choice profile
        after
        bytes (text ++ said) tally
    ends_in_line bad said tally used_are is_bad told said_are tallied =
        let At = KeptIn Keeps choice profile in
        let All = KeepsOn (At first) (At last) in
        subst (λ (l : List ℕ). WritesKept All choice profile after l (text ++ said) tally) (append-nil bytes)
        (writes_bad_line choice profile Keeps after first Holds bytes text behind All [] said (longer_line bad []) []
        tally
        (append-nil behind.used ∙ (used_are ∙ ap (λ (l : List ℕ). bad.front ++ l)
        (sym (append-nil bad.line) ∙ sym (append-nil (bad.line ++ [])))))
        is_bad tt (inr refl) (lines_with_counts choice profile behind.b bad [] behind.put said
        (behind_fact choice.ignored profile behind.b bad).counts told.lines said_are) tallied
        (keeps_both (At first) (At behind.keeper) (At last) behind.facts _ behind.kept told.kept))

-- ---- a line ends

-- its bytes and the LF
-- (10 is LF)
pub with_lf : (bytes : List ℕ) (count : ℕ) → EndsLine bytes count → take (count + 1) bytes ≡ take count bytes ++ 10 ∷ []
with_lf bytes count ends =
    let tail = drop (count + 1) bytes in
    let whole : take (count + 1) bytes ++ tail ≡ (take count bytes ++ 10 ∷ []) ++ tail =
    take-append-drop (count + 1) bytes ∙ (sym (take-append-drop count bytes)
    ∙ (ap (λ (l : List ℕ). take count bytes ++ l) ends.lf
    ∙ sym (append_assoc (take count bytes) (10 ∷ []) tail))) in
    let lengths : length (take (count + 1) bytes) ≡ length (take count bytes ++ 10 ∷ []) =
    omega (
      arith,
      ap (λ (l : List ℕ). length l) whole,
      length-append (take (count + 1) bytes) tail,
      length-append (take count bytes ++ 10 ∷ []) tail,
    ) in
    (same_split (take (count + 1) bytes) (take count bytes ++ 10 ∷ []) tail tail whole lengths).0

-- reading begins anew after it
pub begins_anew : {K : Type 0} (Keeps : K → Setting → List FactData → Type 0) (choice : ChoiceData)
    (profile : List DeviceParts) (after : AfterBadToken)
    (first : K) (given text at_hand : List ℕ) (count : ℕ) (old : KeptStream K) (mid new : Stream) (scan : Scan) →
    after ≡ Continue
    → EndsLine at_hand count
    → ((text : List ℕ) → EndsBetween (text ++ 10 ∷ [])) → stream_choice new ≡ choice → stream_profile new ≡ profile
    → ScanStandsAt scan (at_start profile)
    → ((b : Before) → StreamKnows b old.stream → StreamKnows (with_bytes b (take (count + 1) at_hand)) mid)
    → ((b : Before) → StreamKnows b mid → EndsBetween b.read → StreamBegins (drop_line b) new)
    → Behind Keeps choice profile after first (InBadLine Keeps choice profile at_hand old) given text
    → Behind Keeps choice profile after first (InWords Keeps choice profile scan (kept_by new old.keeper))
    (given ++ take (count + 1) at_hand) text
begins_anew Keeps choice profile after first given text at_hand count old mid new scan goes ends lines same_choice
    same_profile scans takes begin behind =
    -- the bad line, with the bytes up to its LF
    let b = behind.b in
    let has = behind.holds in
    let bad = has.bad in
    let line = take count at_hand in
    let tail = drop (count + 1) at_hand in
    let longer = longer_line bad line in
    -- these bytes and the LF are taken, and the rest follows
    let front_is = with_lf at_hand count ends in
    let split : at_hand ++ [] ≡ line ++ (10 ∷ tail) = append-nil at_hand
    ∙ (sym (take-append-drop count at_hand) ∙ ap (λ (l : List ℕ). line ++ l) ends.lf) in
    -- so the line is bad as a whole
    let is_bad = bad_line_is choice profile b bad at_hand [] line (10 ∷ tail) has.so_far split has.in_line ends.in_line
    refl in
    -- all bytes that were read end after the LF, between words
    let rest_is : take (count + 1) at_hand ≡ line ++ 10 ∷ [] = front_is in
    let read_is : ((b.read ++ bad.front) ++ bad.line) ++ take (count + 1) at_hand
    ≡ (behind_line choice.ignored profile b longer).read =
    ap (λ (l : List ℕ). ((b.read ++ bad.front) ++ bad.line) ++ l) rest_is
    ∙ (sym (append_assoc ((b.read ++ bad.front) ++ bad.line) line (10 ∷ []))
    ∙ ap (λ (l : List ℕ). l ++ 10 ∷ []) (append_assoc (b.read ++ bad.front) bad.line line)) in
    let between : EndsBetween (behind_line choice.ignored profile b longer).read =
    lines ((b.read ++ bad.front) ++ (bad.line ++ line)) in
    -- the stream knows of them, is cleared there, and knows that the line was dropped
    let there : Before = record (behind_fact choice.ignored profile b longer) {
      read = (behind_line choice.ignored profile b longer).read;
    } in
    let knows : StreamKnows there mid =
    knows_as _ there.read _ _ _ _ _ mid read_is refl refl (takes (behind_fact choice.ignored profile b bad) has.knows) in
    record {
      -- reading begins anew with nothing used and nothing written
      b = behind_line choice.ignored profile b longer;
      bads = behind.bads ++ longer ∷ [];
      facts = behind.facts ++ bad_line_facts choice.ignored profile b longer;
      leads = leads_line choice profile after b behind.bads behind.facts longer goes behind.leads is_bad;
      between = between;
      first = inr goes;
      used = [];
      put = [];
      bytes_are = ap (λ (l : List ℕ). l ++ take (count + 1) at_hand)
          (behind.bytes_are ∙ ap (λ (l : List ℕ). b.read ++ l) has.is_text)
          ∙ (ap (λ (l : List ℕ). l ++ take (count + 1) at_hand) (sym (append_assoc b.read bad.front bad.line))
          ∙ (read_is ∙ sym (append-nil (behind_line choice.ignored profile b longer).read)));
      text_is = behind.text_is
          ∙ (ap (λ (l : List ℕ). fact_lines choice profile behind.facts ++ l)
          (has.told [] line (10 ∷ tail) split refl).lines
          ∙ (sym (lines_append choice profile behind.facts (bad_line_facts choice.ignored profile b longer))
          ∙ sym (append-nil (fact_lines choice profile
          (behind.facts ++ bad_line_facts choice.ignored profile b longer)))));
      keeper = old.keeper;
      kept = keeps_both (KeptIn Keeps choice profile first) (KeptIn Keeps choice profile behind.keeper)
          (KeptIn Keeps choice profile old.keeper) behind.facts (bad_line_facts choice.ignored profile b longer) behind.kept
          (has.told [] line (10 ∷ tail) split refl).kept;
      holds = words_begin Keeps old.keeper choice profile scan new (behind_line choice.ignored profile b longer) same_choice
          same_profile
          (begin there knows between) scans;
    }
