-- What is still to be written if the bytes end where an engine stands. For the law
-- `fronts_are_written` of `src/engine.rt`: the text so far is the beginning of what is written for
-- the bytes. It depends on where the bytes end: in words that may be tokens, in a bad word, or in
-- the rest of its line.
use Rattle.std.proofs.Common.{◌≡◌, ◌⊎◌, ℕ, ◌+◌, inl, inr, List, [], ◌∷◌, ◌++◌, refl, sym, ap, subst, ◌∙◌}
use Rattle.std.proofs.Common.{append_assoc}
use Rattle.std.proofs.Common.{append-nil, filter}
use Rattle.pmb_bus.specs.declared.event.Event.{Event}
use Rattle.pmb_bus.specs.Text.{BeginsText, EndedWordsSpell, FirstBadWord, Spells, front_word, is_word}
use Rattle.pmb_bus.specs.Event.{event_of}
use Rattle.pmb_command.specs.Parts.{DeviceParts}
use Rattle.pmb_io.specs.Count.{capped}
use Rattle.pmb_io.specs.Lines.{HasNoLf}
use Rattle.pmb_io.specs.Tally.{IsTallyOf}
use Rattle.pmb_io.specs.declared.tally.Tally.{Tally}
use Rattle.pmb_scan.specs.declared.after_bad_token.AfterBadToken.{AfterBadToken}
use Rattle.pmb_unknown_start.specs.Past.{PastData}
use Rattle.pmb_telling.specs.declared.engine.EngineState.{EngineState}
use Rattle.pmb_telling.specs.declared.engine.EngineState.TheVariants.{BadLine as InLine, BadWord, Words}
use Rattle.pmb_telling.specs.declared.engine.Teller.{Teller}
use Rattle.pmb_telling.specs.Text.{BadLine, IsBadLine, IsBehindLine, WritesTold, bad_line_facts, behind_line}
use Rattle.pmb_telling.specs.Text.{front_facts, text_facts, word_fact}
use Rattle.pmb_telling.specs.machine.Standing.{Behind, InWords, StandsIn, teller_bad_words, teller_choice}
use Rattle.pmb_telling.specs.machine.Standing.{teller_profile}
use Rattle.pmb_telling.specs.machine.Standing.{longer_line}
use Rattle.pmb_telling.proofs.Fronts.{bad_line_now}
use Rattle.pmb_telling.proofs.Leading.{writes_bad_line}
use Rattle.pmb_telling.proofs.Lines.{front_cut, split_line}
use Rattle.pmb_telling.proofs.MetWords.{met_reads, met_whole, read_from}
use Rattle.pmb_telling.proofs.Facts.{lines_append}
use Rattle.pmb_telling.proofs.OpenOthers.{HasEnds, LeadsToMore, TellsOpen, facts_out, facts_told}
use Rattle.pmb_telling.proofs.Reading.{MovesSpans, ends_told, reads_on, told_by, under}
use Rattle.pmb_telling.proofs.Words.{solid_no_lf}
use Rattle.pmb_json_objects.specs.Counts.{CountsData}
use Rattle.pmb_facts.specs.Fact.{FactData}
use Rattle.pmb_fact_stream.specs.Lost.{lost_in}
use Rattle.pmb_fact_stream.specs.Lines.{fact_lines, last_lines}
use Rattle.pmb_scan.specs.declared.scan.Scan.{Scan}
use Rattle.pmb_scan.specs.Reached.{EndsWith, Reached}
use Rattle.pmb_scan.specs.Scan.{HasRead}
use Rattle.pmb_spans.specs.Spans.{Span, Spans, moved_spans}
use Rattle.pmb_keeper.specs.Setting.{Setting}
use Rattle.pmb_fact_stream.specs.declared.kept_stream.KeptStream.{KeptStream}
use Rattle.pmb_fact_stream.specs.Before.{Before}
use Rattle.pmb_fact_stream.specs.Choice.{ChoiceData}
use Rattle.pmb_fact_stream.specs.Others.{is_told, is_untold}
use Rattle.pmb_fact_stream.specs.Spans.{after_spans, event_place, event_time, past_in}

-- ---- what is used of laws

-- a text that spells events has no bad word
abbrev pub SpellsNoBadWord : Type 0
SpellsNoBadWord = (text : List ℕ) (events others : List Event) (place : ℕ) → Spells text events
    → FirstBadWord text others place → ⊥

-- where the bytes end in words, the last one is a token, or none, or the first bad word
abbrev pub EndsInLastWord : List ℕ → List Event → Type 0
EndsInLastWord text events = Spells text events
    ⊎ (((event : Event) × Spells text (events ++ event ∷ [])) ⊎ ((place : ℕ) × FirstBadWord text events place))

-- ---- a bad word in a text with which some text that spells events begins

-- it has not ended, so no LF comes after it
no_lf_behind : SpellsNoBadWord → (text : List ℕ) (events : List Event) (place : ℕ) → BeginsText text
    → (bad : FirstBadWord text events place) → (line rest : List ℕ) → bad.rest ≡ line ++ rest
    → HasNoLf line → IsBehindLine rest → HasNoLf bad.rest
-- no LF so far
no_lf_behind spells_none text events place begins bad line [] split in_line behind =
    subst (λ (l : List ℕ). HasNoLf l) (sym (split ∙ append-nil line)) in_line
-- a byte follows the line, an LF: then the text that goes on has this bad word, and spells no
-- events
no_lf_behind spells_none text events place begins bad line (b ∷ rest) split in_line behind =
    let more = begins.0 in
    let longer : bad.rest ++ more ≡ line ++ (b ∷ (rest ++ more)) = ap (λ (l : List ℕ). l ++ more) split
    ∙ append_assoc line (b ∷ rest) more in
    let same : front_word (bad.rest ++ more) ≡ front_word bad.rest =
    ap (λ (l : List ℕ). front_word l) longer
    ∙ (front_cut line (b ∷ (rest ++ more)) behind
    ∙ (sym (front_cut line (b ∷ rest) behind) ∙ ap (λ (l : List ℕ). front_word l) (sym split))) in
    absurd
    (
    spells_none (text ++ more) begins.1 events place begins.2
    (record {
      front = bad.front;
      rest = bad.rest ++ more;
      split = ap (λ (l : List ℕ). l ++ more) bad.split ∙ append_assoc bad.front bad.rest more;
      at = bad.at;
      between = bad.between;
      spells = bad.spells;
      word = ap (λ (w : List ℕ). is_word w) same ∙ bad.word;
      no_token = ap (λ (w : List ℕ). event_of w) same ∙ bad.no_token;
    })
    )

-- ---- more is written

-- what is counted, as a tally
abbrev tally_of : CountsData → Tally
tally_of counts = record { packets = capped counts.packets; refusals = capped (counts.refusals + counts.bad_tokens) }

tally_of_is : (counts : CountsData) → IsTallyOf counts.packets (counts.refusals + counts.bad_tokens) (tally_of counts)
tally_of_is counts = record { packets_counted = refl; refusals_counted = refl }

module _ {K : Type 0} (Keeps : K → Setting → List FactData → Type 0) (choice : ChoiceData) (profile : List DeviceParts)
    (after : AfterBadToken) (first : K) (bytes text : List ℕ) where
  -- the text is the beginning of what is written for the bytes
  abbrev pub WritesMore : Type 0
  WritesMore = (rest : List ℕ) × (tally : Tally) × WritesTold choice profile after bytes (text ++ rest) tally

  -- The bytes end in a bad line, and some of its facts are out.
  ends_bad : (Holds : K → Before → List ℕ → List ℕ → Type 0)
      (behind : Behind Keeps choice profile after first Holds bytes text)
      (bad : BadLine) (out left : List FactData)
      → behind.used ≡ bad.front ++ bad.line → IsBadLine choice.ignored profile behind.b bad
      → out ++ left ≡ bad_line_facts choice.ignored profile behind.b bad
      → behind.put ≡ fact_lines choice profile out → WritesMore
  ends_bad Holds behind bad out left used_are is_bad both put_are =
      let counts = (behind_line choice.ignored profile behind.b bad).counts in
      let lines = fact_lines choice profile in
      let last = last_lines choice profile counts in
      let said = lines left ++ last in
      let bytes_are : behind.used ++ [] ≡ bad.front ++ (bad.line ++ []) =
      append-nil behind.used ∙ (used_are ∙ ap (λ (l : List ℕ). bad.front ++ l) (sym (append-nil bad.line))) in
      let lines_are : behind.put ++ said ≡ lines (bad_line_facts choice.ignored profile behind.b bad) ++ last =
      ap (λ (l : List ℕ). l ++ said) put_are
      ∙ (sym (append_assoc (lines out) (lines left) last)
      ∙ ap (λ (l : List ℕ). l ++ last) (sym (lines_append choice profile out left) ∙ ap lines both)) in (
        said,
        tally_of counts,
        subst (λ (l : List ℕ). WritesTold choice profile after l (text ++ said) (tally_of counts)) (append-nil bytes)
            (writes_bad_line choice profile Keeps after first Holds bytes text behind (λ facts. Unit {0}) [] said bad []
            (tally_of counts) bytes_are is_bad tt (inr refl) lines_are (tally_of_is counts) tt).writes,
      )

  module _ (scan : Scan) (now : KeptStream K)
      (behind : Behind Keeps choice profile after first (InWords Keeps choice profile scan now) bytes text)
      (move : MovesSpans) where
    -- what is lost at refusals, and went before, where these events follow
    abbrev lost_after : List Event → ℕ → List Event → List PastData
    lost_after later = lost_in behind.holds.reached.profile behind.b.n (behind.holds.reached.events ++ later)

    abbrev past_after : List Event → List PastData
    past_after later = past_in (lost_after later) (moved_spans behind.b.n behind.holds.reached.spans)

    -- They spell events, of which some were not told: these spans are theirs, and these facts are left.
    ends_read : (later : List Event) (others : List Span)
        → Spells behind.holds.reached.text (behind.holds.reached.events ++ later)
        → Spans behind.holds.reached.profile (behind.holds.reached.events ++ later)
        (behind.holds.reached.spans ++ others)
        → (left : List FactData) × (text_facts choice.ignored behind.b behind.holds.reached.text
        (lost_after later) (behind.b.past ++ past_after later) (moved_spans behind.b.n others)
        ≡ facts_out choice.ignored behind.b behind.holds.reached behind.holds.reached.text ++ left) → WritesMore
    ends_read later others spells spans left =
        let b = behind.b in
        let words = behind.holds in
        let there = words.reached in
        let told = words.told.told b words.begins in
        let same = under Keeps choice profile behind.keeper b scan now behind.used behind.put words there behind.put
        now told in
        let counts = after_spans choice.ignored b.counts (there.spans ++ others) in
        let said = fact_lines choice profile left.0 ++ last_lines choice profile counts in
        let reads = reads_on Keeps choice profile behind.keeper b scan now behind.used behind.put words there later
        others left.0 behind.put said words.is_text same
        (told_by Keeps choice profile behind.keeper b scan now behind.used behind.put words there behind.put now told
        [] later).lines
        (subst (λ (l : List ℕ). Spells l (there.events ++ later)) words.is_text spells)
        (read_from choice profile b there.profile (there.events ++ later) (there.spans ++ others) move same spans)
        left.1 refl in (
          said,
          tally_of counts,
          (ends_told Keeps choice profile after first _ (λ facts. Unit {0}) bytes text said counts (tally_of counts)
              behind (reads.0, reads.1, reads.2) (tally_of_is counts) tt).writes,
        )

    -- Their last word is no token.
    ends_in_word : SpellsNoBadWord → (last : List Span) (place : ℕ) → EndsWith behind.holds.reached last
        → TellsOpen choice.ignored behind.holds.reached last
        → FirstBadWord behind.holds.reached.text behind.holds.reached.events place → WritesMore
    ends_in_word spells_none last place end tells first =
        let b = behind.b in
        let words = behind.holds in
        let there = words.reached in
        let told = words.told.told b words.begins in
        let same = under Keeps choice profile behind.keeper b scan now behind.used behind.put words there behind.put
        now told in
        -- the bad line is the word under way, with the events before it
        let bad : BadLine = record {
          front = first.front;
          events = there.events;
          spans =
              moved_spans b.n (there.spans ++ filter (is_told choice.ignored) last);
          line = first.rest;
        } in
        let cut = split_line first.rest in
        -- its front is out, and the word's fact is left
        ends_bad _ behind bad (front_facts choice.ignored profile b bad) (word_fact b bad ∷ [])
        (sym words.is_text ∙ first.split)
        (record {
          word = record {
            front = first.front;
            rest = first.rest;
            split = refl;
            at = refl;
            between = first.between;
            spells = first.spells;
            word = first.word;
            no_token = first.no_token;
          };
          -- the rest of the bytes is in its line, since no LF came
          in_line = no_lf_behind spells_none there.text there.events place words.scans.lexer.begins first cut.line
              cut.rest cut.split cut.in_line cut.behind;
          all = moved_spans b.n (there.spans ++ last);
          reads = met_reads choice profile b there last move same end;
          reported = met_whole choice profile b.n there last tells;
        })
        refl
        ((told_by Keeps choice profile behind.keeper b scan now behind.used behind.put words there behind.put now told
        [] []).lines
        ∙ (ap (fact_lines choice profile) (facts_told choice.ignored b there (there.text ++ []) (lost_after []) last
        tells)
        ∙ ap (λ (l : List ℕ). fact_lines choice profile
        (text_facts choice.ignored b l (lost_after []) b.past
        (moved_spans b.n (there.spans ++ filter (is_told choice.ignored) last))))
        (append-nil there.text ∙ first.split)
        ∙ ap (λ (es : List Event). fact_lines choice profile
        (text_facts choice.ignored b (first.front ++ first.rest) (lost_in there.profile b.n es) b.past
        (moved_spans b.n (there.spans ++ filter (is_told choice.ignored) last)))) (append-nil there.events)
        ∙ ap (λ (p : List DeviceParts). fact_lines choice profile
        (text_facts choice.ignored b (first.front ++ first.rest) (lost_in p b.n there.events) b.past
        (moved_spans b.n (there.spans ++ filter (is_told choice.ignored) last)))) same))

    -- The bytes end in words that may be tokens.
    ends_in_words : SpellsNoBadWord → (last : List Span) → EndsWith behind.holds.reached last
        → TellsOpen choice.ignored behind.holds.reached last
        → ((rest : List Event) → LeadsToMore choice.ignored behind.holds.reached rest)
        → EndsInLastWord behind.holds.reached.text behind.holds.reached.events → WritesMore
    ends_in_words spells_none last end tells follows (inl spells) =
        let b = behind.b in
        let there = behind.holds.reached in
        let past = b.past ++ past_after [] in
        let events : there.events ≡ there.events ++ [] = sym (append-nil there.events) in
        ends_read [] last (subst (λ (es : List Event). Spells there.text es) events spells)
        (subst (λ (es : List Event). Spans there.profile es (there.spans ++ last)) events end.spans) (
          text_facts choice.ignored b there.text (lost_after []) past
              (moved_spans b.n (filter (is_untold choice.ignored) last)),
          sym (tells.rest (event_place b.read b.n there.text) (event_time b.n there.text) (lost_after []) past b.n),
        )
    ends_in_words spells_none last end tells follows (inr (inl one)) =
        let b = behind.b in
        let there = behind.holds.reached in
        let more = follows (one.0 ∷ []) in
        ends_read (one.0 ∷ []) more.others one.1 more.spans
        (more.left (event_place b.read b.n there.text) (event_time b.n there.text) (lost_after (one.0 ∷ []))
        (b.past ++ past_after (one.0 ∷ [])) b.n)
    ends_in_words spells_none last end tells follows (inr (inr bad)) =
        ends_in_word spells_none last bad.0 end tells bad.1

-- wherever they end
pub ends_in : {K : Type 0} (Keeps : K → Setting → List FactData → Type 0) (inside : EngineState)
    (start now : Teller K) (bytes text : List ℕ) → MovesSpans → SpellsNoBadWord
    → ((text : List ℕ) (events : List Event) → EndedWordsSpell text events → EndsInLastWord text events)
    → ((reached : Reached) → reached.profile ≡ teller_profile start → HasRead now.scan reached
    → HasEnds (teller_choice start).ignored reached)
    → ((reached : Reached) (rest : List Event) → reached.profile ≡ teller_profile start → HasRead now.scan reached
    → LeadsToMore (teller_choice start).ignored reached rest)
    → StandsIn Keeps inside start now bytes text → WritesMore Keeps (teller_choice start) (teller_profile start)
    (teller_bad_words start) start.kept.keeper bytes text
-- in words: they are tokens, or the last one is the bad word
ends_in Keeps Words start now bytes text move spells_none last_word ends follows stands =
    let behind = stands.behind in
    let words = behind.holds in
    let there = words.reached in
    let told = words.told.told behind.b words.begins in
    let same = under Keeps (teller_choice start) (teller_profile start) behind.keeper behind.b now.scan now.kept
    behind.used behind.put words there behind.put now.kept told in
    let end = ends there same words.scans.reader in
    ends_in_words Keeps (teller_choice start) (teller_profile start) (teller_bad_words start) start.kept.keeper bytes
    text now.scan now.kept behind
    move spells_none end.last end.ends end.tells
    (λ rest. follows there rest same words.scans.reader) (last_word there.text there.events words.scans.lexer.ended)
-- in a bad word: its fact is left
ends_in Keeps BadWord start now bytes text move spells_none last_word ends follows stands =
    let choice = teller_choice start in
    let profile = teller_profile start in
    let behind = stands.behind in
    let has = behind.holds.word in
    let bad = longer_line has.bad [] in
    ends_bad Keeps choice profile (teller_bad_words start) start.kept.keeper bytes text _ behind bad
    (front_facts choice.ignored profile behind.b bad)
    (word_fact behind.b bad ∷ [])
    (has.is_text ∙ ap (λ (l : List ℕ). has.bad.front ++ l) (sym (append-nil has.bad.line)))
    (bad_line_now choice profile behind.b has.bad has.so_far (solid_no_lf has.bad.line has.under_way)) refl
    (has.told []).lines
-- in the rest of its line: all its facts are out
ends_in Keeps InLine start now bytes text move spells_none last_word ends follows stands =
    let choice = teller_choice start in
    let profile = teller_profile start in
    let behind = stands.1.behind in
    let has = behind.holds in
    let bad = longer_line has.bad [] in
    ends_bad Keeps choice profile (teller_bad_words start) start.kept.keeper bytes text _ behind bad
    (bad_line_facts choice.ignored profile behind.b bad) []
    (has.is_text ∙ ap (λ (l : List ℕ). has.bad.front ++ l) (sym (append-nil has.bad.line)))
    (bad_line_now choice profile behind.b has.bad has.so_far has.in_line)
    (append-nil (bad_line_facts choice.ignored profile behind.b bad)) (has.told [] [] [] refl tt).lines
