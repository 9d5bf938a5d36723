-- What is written where a capture's text ends, or a word of it is no token: the refusal of an end
-- inside a packet, the line of the bad word, and the tally. For `Capture::end_events` and
-- `stop_at`, `CaptureEngine::take` and `end`, and `fronts_are_written`. What came so far is
-- written; the last span or the bad word is added.
use Rattle.std.proofs.Common.{◌≡◌, ℕ, ◌+◌, Option, Some, None, Result, OnOk, List, [], ◌∷◌, ◌++◌, length, map}
use Rattle.std.proofs.Common.{append-nil, ◌⊎◌, inl, inr, sym, ◌∙◌, ap, subst, refl, append_assoc, arith}
use Rattle.std.proofs.lemmas.List.{map-append}
use Rattle.std.proofs.lemmas.Result.{on_ok_weaker}
use Rattle.pmb_bus.specs.declared.event.Event.{Event}
use Rattle.pmb_bus.specs.declared.lexer.LexFault.{LexFault}
use Rattle.pmb_bus.specs.declared.lexer.LexFault.TheVariants.{BadToken}
use Rattle.pmb_bus.specs.Lexer.{IsFaultOf, OpenWordIsBad}
use Rattle.pmb_bus.specs.Text.{BeginsText, EndedWordsSpell, FirstBadWord, Spells}
use Rattle.pmb_command.specs.Parts.{DeviceParts}
use Rattle.pmb_io.specs.declared.tally.Tally.{Tally}
use Rattle.pmb_io.specs.Count.{capped}
use Rattle.pmb_io.specs.Outgoing.{PutsText}
use Rattle.pmb_io.specs.Tally.{with_refusal}
use Rattle.pmb_io.proofs.Writing.{writes_then}
use Rattle.pmb_reader.specs.declared.refusal.Refusal.{Refusal as HeldRefusal}
use Rattle.pmb_reader.specs.Refusal.{refusal_data}
use Rattle.pmb_scan.specs.Reached.{Reached, EndsWith}
use Rattle.pmb_scan.specs.Scan.{Truncates, end_spans}
use Rattle.pmb_spans.specs.Spans.{Span, Spans, outcome}
use Rattle.pmb_spans.proofs.Outcomes.{spans_read}
use Rattle.pmb_transaction.specs.Reading.{Outcome, Refusal, Reading}
use Rattle.pmb_transaction.specs.Transaction.{TransactionData}
use Rattle.pmb_capture.specs.declared.account.Account.{Account}
use Rattle.pmb_capture.specs.declared.capture.Capture.{Capture}
use Rattle.pmb_capture.specs.Lines.{bad_token_line, refusal_line}
use Rattle.pmb_capture.specs.Output.{OutputText, accepted_in, but_truncation, packets_in, refusals_in, outcomes_text}
use Rattle.pmb_capture.specs.Output.{text_behind}
use Rattle.pmb_capture.specs.Written.{Writes, WritesFront, WritesUpToBadWord}
use Rattle.pmb_capture.specs.machine.Account.{AccountStands}
use Rattle.pmb_capture.specs.machine.Capture.{EndsEvents, HasEnded, HasStopped, HasWritten, capture_profile}
use Rattle.pmb_capture.proofs.Outcomes.{adds_refusal, counts_both, refusal_counted}
use Rattle.pmb_capture.proofs.Spans.{all_but_the_end, no_end, one_end, reads_as}
use Rattle.pmb_capture.proofs.Texts.{text_append}

-- the text of a fault, and of the end after it
abbrev pub fault_text : OutputText → Tally → LexFault → List ℕ
fault_text output tally (BadToken at) = bad_token_line at ++ output.at_end tally

-- a fault's text goes out, whatever its place
pub fault_puts : {O T F : Type 0} (r : Result T F) (TextOf : O → OutputText) (o : O) (output : OutputText)
    (tally : Tally) (fault : LexFault) (h0 h1 : Option (List ℕ)) (w0 w1 : List ℕ)
    → TextOf o ≡ output → ((at : ℕ) → fault ≡ BadToken at
    → OnOk r (PutsText h0 w0 h1 w1 (bad_token_line at ++ (TextOf o).at_end tally)))
    → OnOk r (PutsText h0 w0 h1 w1 (fault_text output tally fault))
fault_puts r TextOf o output tally (BadToken at) h0 h1 w0 w1 same puts =
    subst (λ (text : OutputText). OnOk r (PutsText h0 w0 h1 w1 (bad_token_line at ++ text.at_end tally))) same
    (puts at refl)

-- a text, and then another by its equal
pub puts_then : {T F : Type 0} (r : Result T F) (h0 h1 h2 : Option (List ℕ)) (w0 w1 w2 a b e : List ℕ)
    → PutsText h0 w0 h1 w1 a → b ≡ e → OnOk r (PutsText h1 w1 h2 w2 b) → OnOk r (PutsText h0 w0 h2 w2 (a ++ e))
puts_then r h0 h1 h2 w0 w1 w2 a b e first same second =
    on_ok_weaker r (λ last. writes_then h0 h1 h2 w0 w1 w2 a e first
    (subst (λ (t : List ℕ). PutsText h1 w1 h2 w2 t) same last)) second

-- two places from which the same word goes to the end are one
same_place : (a b word whole : ℕ) → a + word ≡ whole → b + word ≡ whole → a ≡ b
same_place a b open_length whole h k = omega arith

module _ {O : Type 0} (TextOf : O → OutputText) (StandsBehind : O → List TransactionData → Type 0) where
  -- the word under way is no token
  pub writes_bad : (start now : Account O) (reached : Reached) (last : List Span) (profile : List DeviceParts)
      (after : Tally) (text bytes : List ℕ) (fault : LexFault)
      → reached.profile ≡ profile → EndsWith reached last
      → AccountStands TextOf StandsBehind start now (map outcome reached.spans) text
      → OpenWordIsBad reached.text bytes reached.events → IsFaultOf (length reached.text) reached.text fault
      → after ≡ with_refusal now.tally
      → WritesUpToBadWord (TextOf start.output) profile bytes (text ++ fault_text (TextOf start.output) after fault)
      after
  writes_bad start now reached last profile after text bytes (BadToken at) under end stands bad fault_is refused =
      -- all outcomes, of which the end inside a packet isn't written
      let output = TextOf start.output in
      let outcomes = map outcome (reached.spans ++ last) in
      let left = all_but_the_end reached last end in
      -- the place of the fault is that of the bad word, which goes to the end from both
      let at_is : at ≡ capped bad.0 = fault_is.2 ∙ ap capped (same_place fault_is.0 bad.0 _ _ fault_is.1 bad.1) in
      record {
        events = reached.events;
        outcomes = outcomes;
        place = bad.0;
        bad = bad.2;
        reads = subst (λ (p : List DeviceParts). Reading p reached.events outcomes) under (reads_as reached last end);
        lines = ap (λ t. t ++ (bad_token_line at ++ output.at_end after))
            (stands.lines ∙ ap (outcomes_text output) (sym left))
            ∙ ap (λ (k : ℕ). outcomes_text output (but_truncation outcomes)
            ++ (bad_token_line k ++ output.at_end after)) at_is;
        -- the bad word counts as one more refusal
        counts = rw left (refusal_counted now.tally after (packets_in (map outcome reached.spans))
            (refusals_in (map outcome reached.spans)) refused stands.counts);
      }

  -- the events end between packets, and while events are passed over
  pub ends_in_none : (start now : Account O) (reached : Reached) (text last : List ℕ) → Truncates reached None
      → AccountStands TextOf StandsBehind start now (map outcome reached.spans) text
      → last ≡ (TextOf start.output).at_end now.tally
      → EndsEvents (TextOf start.output) reached now.tally (text ++ last)
  ends_in_none start now reached text last end stands same = record {
    outcomes = map outcome reached.spans;
    reads = subst (λ (l : List Span). Reading reached.profile reached.events (map outcome l))
        (ap (λ l. reached.spans ++ l) (no_end reached.standing) ∙ append-nil reached.spans)
        (reads_as reached (end_spans reached.standing None) end);
    lines = ap (λ t. t ++ last) stands.lines
        ∙ ap (λ l. outcomes_text (TextOf start.output) (map outcome reached.spans) ++ l) same;
    counts = stands.counts;
  }

  -- they end inside a packet
  pub ends_in_refusal : (start old : Account O) (reached : Reached) (after : Tally) (refusal : HeldRefusal)
      (text last : List ℕ) → Truncates reached (Some refusal)
      → AccountStands TextOf StandsBehind start old (map outcome reached.spans) text → after ≡ with_refusal old.tally
      → last ≡ (TextOf start.output).at_end after
      → EndsEvents (TextOf start.output) reached after (text ++ (refusal_line (refusal_data refusal) ++ last))
  ends_in_refusal start old reached after refusal text last end stands refused same =
      let output = TextOf start.output in
      let before = map outcome reached.spans in
      let line = refusal_line (refusal_data refusal) in
      let more = Refusal (refusal_data refusal) ∷ [] in
      let outcomes_are : map outcome (reached.spans ++ end_spans reached.standing (Some refusal)) ≡ before ++ more =
      map-append outcome reached.spans (end_spans reached.standing (Some refusal))
      ∙ ap (λ l. before ++ l) (one_end reached.standing refusal) in record {
        outcomes = before ++ more;
        reads = subst (λ (l : List Outcome). Reading reached.profile reached.events l) outcomes_are
            (reads_as reached (end_spans reached.standing (Some refusal)) end);
        lines = sym (append_assoc text line last)
            ∙ (ap (λ t. (t ++ line) ++ last) stands.lines
            ∙ (ap (λ t. t ++ last) (ap (λ l. outcomes_text output before ++ l) (sym (append-nil line))
            ∙ sym (text_append output [] before more))
            ∙ ap (λ l. outcomes_text output (before ++ more) ++ l) same));
        counts = counts_both after before more (adds_refusal old.tally after (refusal_data refusal) refused
            (packets_in before) (refusals_in before) stands.counts);
      }

  -- ---- of a whole capture

  -- the bytes end, and spell the events
  pub ends_whole : (start now : Capture O) (bytes text a b : List ℕ) (reached there : Reached)
      → reached.profile ≡ capture_profile start → reached.text ≡ bytes → BeginsText reached.text
      → there.profile ≡ reached.profile → Spells reached.text there.events
      → EndsEvents (TextOf start.account.output) there now.account.tally ((text ++ a) ++ b)
      → HasEnded TextOf StandsBehind start now bytes (text ++ (a ++ b))
  ends_whole start now bytes text a b reached there under is_text begins same spells ends = record {
    begins = subst (λ (l : List ℕ). BeginsText l) is_text begins;
    writes = inl (record {
      events = there.events;
      outcomes = ends.outcomes;
      spells = subst (λ (l : List ℕ). Spells l there.events) is_text spells;
      reads = subst (λ (p : List DeviceParts). Reading p there.events ends.outcomes) (same ∙ under) ends.reads;
      lines = sym (append_assoc text a b) ∙ ends.lines;
      counts = ends.counts;
    });
  }

  -- they end in a word that is no token
  pub ends_bad : (start now : Capture O) (account : Account O) (bytes text a : List ℕ) (reached : Reached)
      (last : List Span) (fault : LexFault) → reached.profile ≡ capture_profile start → reached.text ≡ bytes
      → BeginsText reached.text → EndsWith reached last
      → AccountStands TextOf StandsBehind start.account account (map outcome reached.spans) (text ++ a)
      → OpenWordIsBad reached.text reached.text reached.events → IsFaultOf (length reached.text) reached.text fault
      → now.account.tally ≡ with_refusal account.tally
      → HasEnded TextOf StandsBehind start now bytes
      (text ++ (a ++ fault_text (TextOf start.account.output) now.account.tally fault))
  ends_bad start now account bytes text a reached last fault under is_text begins end stands bad fault_is refused =
      let output = TextOf start.account.output in
      let last_text = fault_text output now.account.tally fault in record {
        begins = subst (λ (l : List ℕ). BeginsText l) is_text begins;
        writes = inr (subst (λ (b : List ℕ). WritesUpToBadWord output (capture_profile start) b
            (text ++ (a ++ last_text)) now.account.tally) is_text
            (subst (λ (t : List ℕ). WritesUpToBadWord output (capture_profile start) reached.text t now.account.tally)
            (append_assoc text a last_text)
            (writes_bad start.account account reached last (capture_profile start) now.account.tally
            (text ++ a) reached.text fault under end stands bad fault_is refused)));
      }

  -- a piece has a word that is no token
  pub stops_bad : (start now : Capture O) (account : Account O) (bytes piece text a : List ℕ) (reached there : Reached)
      (last : List Span) (fault : LexFault) → reached.profile ≡ capture_profile start → reached.text ≡ bytes
      → there.profile ≡ reached.profile → EndsWith there last
      → AccountStands TextOf StandsBehind start.account account (map outcome there.spans) (text ++ a)
      → ((more : List ℕ) → OpenWordIsBad there.text ((reached.text ++ piece) ++ more) there.events)
      → IsFaultOf (length there.text) there.text fault → now.account.tally ≡ with_refusal account.tally
      → HasStopped TextOf StandsBehind start now (bytes ++ piece)
      (text ++ (a ++ fault_text (TextOf start.account.output) now.account.tally fault))
  stops_bad start now account bytes piece text a reached there last fault under is_text same end stands bad fault_is
      refused =
      let output = TextOf start.account.output in
      let last_text = fault_text output now.account.tally fault in
      let follows : (more : List ℕ) → WritesUpToBadWord output (capture_profile start) ((bytes ++ piece) ++ more)
      (text ++ (a ++ last_text)) now.account.tally =
      λ more. subst (λ (b : List ℕ). WritesUpToBadWord output (capture_profile start) ((b ++ piece) ++ more)
      (text ++ (a ++ last_text)) now.account.tally) is_text
      (subst (λ (t : List ℕ). WritesUpToBadWord output (capture_profile start) ((reached.text ++ piece) ++ more) t
      now.account.tally) (append_assoc text a last_text)
      (writes_bad start.account account there last (capture_profile start) now.account.tally (text ++ a)
      ((reached.text ++ piece) ++ more) fault (same ∙ under) end stands (bad more) fault_is refused)) in record {
        writes = subst (λ (b : List ℕ). WritesUpToBadWord output (capture_profile start) b
            (text ++ (a ++ last_text)) now.account.tally) (append-nil (bytes ++ piece)) (follows []);
        whatever_follows = follows;
      }

  -- what came so far, and whatever it comes to
  pub writes_front : (start now : Capture O) (bytes text rest : List ℕ) (tally : Tally) (last : List Span)
      → (written : HasWritten TextOf StandsBehind start now bytes text)
      → EndsWith written.reached last → Writes (TextOf start.account.output) (capture_profile start) bytes
      (text ++ rest) tally
      → WritesFront (TextOf start.account.output) (capture_profile start) bytes text
  writes_front start now bytes text rest tally last written end writes =
      let reached = written.reached in record {
        rest = rest;
        tally = tally;
        so_far = record {
          events = reached.events;
          outcomes = map outcome (reached.spans ++ last);
          begins = subst (λ (l : List ℕ). BeginsText l) written.is_text written.stands.lexer.begins;
          spells = subst (λ (l : List ℕ). EndedWordsSpell l reached.events) written.is_text written.stands.lexer.ended;
          reads = subst (λ (p : List DeviceParts). Reading p reached.events (map outcome (reached.spans ++ last)))
              written.profile (reads_as reached last end);
          lines = written.written.lines ∙ ap (outcomes_text (TextOf start.account.output))
              (sym (all_but_the_end reached last end));
        };
        writes = writes;
      }

  -- they end there, and spell events
  whole_front : (start now : Capture O) (bytes text : List ℕ) (events : List Event) (last others : List Span)
      → (written : HasWritten TextOf StandsBehind start now bytes text)
      → EndsWith written.reached last → Spells written.reached.text events
      → Spans written.reached.profile events (written.reached.spans ++ others)
      → WritesFront (TextOf start.account.output) (capture_profile start) bytes text
  whole_front start now bytes text events last others written end spells spans =
      -- what was written, and what the other spans would add
      let reached = written.reached in
      let output = TextOf start.account.output in
      let before = map outcome reached.spans in
      let more = map outcome others in
      let outcomes = map outcome (reached.spans ++ others) in
      let tally : Tally = record { packets = capped (packets_in outcomes); refusals = capped (refusals_in outcomes) } in
      let more_text = text_behind output (accepted_in before) more in
      let end_text = output.at_end tally in
      let outcomes_are : outcomes ≡ before ++ more = map-append outcome reached.spans others in
      writes_front start now bytes text (more_text ++ end_text) tally last written end
      (inl (record {
        events = events;
        outcomes = outcomes;
        spells = subst (λ (l : List ℕ). Spells l events) written.is_text spells;
        reads = subst (λ (p : List DeviceParts). Reading p events outcomes) written.profile
            (spans_read reached.profile (reached.spans ++ others) 0 events spans);
        -- so the text goes on with these lines and the end's
        lines = sym (append_assoc text more_text end_text)
            ∙ ap (λ t. (t ++ more_text) ++ end_text) written.written.lines
            ∙ ap (λ t. t ++ end_text) (sym (text_append output [] before more)
            ∙ ap (outcomes_text output) (sym outcomes_are));
        counts = record { packets_counted = refl; refusals_counted = refl };
      }))

  -- they end there, in a word that is no token
  bad_front : (start now : Capture O) (bytes text : List ℕ) (place : ℕ) (last : List Span)
      → (written : HasWritten TextOf StandsBehind start now bytes text)
      → EndsWith written.reached last → FirstBadWord written.reached.text written.reached.events place
      → WritesFront (TextOf start.account.output) (capture_profile start) bytes text
  bad_front start now bytes text place last written end bad =
      -- all outcomes but the end inside a packet, and one refusal more
      let reached = written.reached in
      let output = TextOf start.account.output in
      let outcomes = map outcome (reached.spans ++ last) in
      let tally : Tally = record {
        packets = capped (packets_in (but_truncation outcomes));
        refusals =
            capped (refusals_in (but_truncation outcomes) + 1);
      } in
      let end_text = bad_token_line (capped place) ++ output.at_end tally in
      writes_front start now bytes text end_text tally last written end
      (inr (record {
        events = reached.events;
        outcomes = outcomes;
        place = place;
        bad = subst (λ (l : List ℕ). FirstBadWord l reached.events place) written.is_text bad;
        reads = subst (λ (p : List DeviceParts). Reading p reached.events outcomes) written.profile
            (reads_as reached last end);
        -- so the text goes on with the bad word's line and the end's
        lines = ap (λ t. t ++ end_text) (written.written.lines
            ∙ ap (outcomes_text output) (sym (all_but_the_end reached last end)));
        counts = record { packets_counted = refl; refusals_counted = refl };
      }))

  -- they end there: the word under way is a token, none or bad
  pub some_front : (start now : Capture O) (bytes text : List ℕ) (last : List Span)
      → (written : HasWritten TextOf StandsBehind start now bytes text)
      → EndsWith written.reached last
      → ((rest : List Event) → (others : List Span) × Spans written.reached.profile (written.reached.events ++ rest)
      (written.reached.spans ++ others))
      → Spells written.reached.text written.reached.events
      ⊎ (((event : Event) × Spells written.reached.text (written.reached.events ++ event ∷ []))
      ⊎ ((place : ℕ) × FirstBadWord written.reached.text written.reached.events place))
      → WritesFront (TextOf start.account.output) (capture_profile start) bytes text
  some_front start now bytes text last written end follows (inl spells) =
      whole_front start now bytes text written.reached.events last last written end spells end.spans
  some_front start now bytes text last written end follows (inr (inl one)) =
      let others = follows (one.0 ∷ []) in
      whole_front start now bytes text (written.reached.events ++ one.0 ∷ []) last others.0 written end one.1 others.1
  some_front start now bytes text last written end follows (inr (inr bad)) =
      bad_front start now bytes text bad.0 last written end bad.1
