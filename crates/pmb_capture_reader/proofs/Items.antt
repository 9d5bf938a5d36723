-- What a reader of items has told is records: for the law `readers_of_items`.
use Rattle.std.proofs.Common.{◌≡◌, ◌∙◌, ℕ, ◌+◌, ◌*◌, ◌-◌, List, [], ◌++◌, ap, sym, append-nil, arith}
use Rattle.std.proofs.Common.{length, length-append}
use Rattle.pmb_capture_reader.specs.Items.{AreFacts}
use Rattle.pmb_capture_reader.specs.Reader.{ReaderStands, Tells, reader_ready, reader_state, reader_tally}
use Rattle.pmb_capture_reader.specs.declared.reader.CaptureReader.{CaptureReader}
use Rattle.pmb_capture_reader.specs.declared.reader.Fed.{Fed}
use Rattle.pmb_capture_reader.specs.declared.reader.Fed.TheVariants.{More, Ended, Memory}
use Rattle.pmb_command.specs.Parts.{DeviceParts}
use Rattle.pmb_fact_stream.specs.Choice.{ChoiceData}
use Rattle.pmb_fact_stream.specs.Lines.{fact_lines, last_lines}
use Rattle.pmb_fact_stream.specs.Records.{TakesNext, wanted_facts}
use Rattle.pmb_facts.specs.Fact.{FactData}
use Rattle.pmb_io.specs.declared.tally.Tally.{Tally}
use Rattle.pmb_json_objects.specs.Counts.{CountsData}
use Rattle.pmb_scan.specs.declared.after_bad_token.AfterBadToken.{AfterBadToken}

module _ (choice : ChoiceData) (profile : List DeviceParts) (after : AfterBadToken)
    (no_last : (counts : CountsData) → last_lines choice profile counts ≡ []) where
  -- what was told is the lines of the facts of what was given
  told_facts : (state : Fed) (tally : Tally) (given told : List ℕ) → Tells choice profile after state tally given told
      → (facts : List FactData) × AreFacts choice profile after state given facts
      × (told ≡ fact_lines choice profile facts)
  told_facts More tally given told tells =
      (tells.so_far.facts, (tells.so_far.bad, tells.so_far.from_first), tells.so_far.lines)
  told_facts Ended tally given told tells = (
    tells.facts,
    (tells.bad, tells.counts, tells.from_first),
    tells.lines ∙ ap (λ (l : List ℕ). fact_lines choice profile tells.facts ++ l) (no_last tells.counts)
        ∙ append-nil (fact_lines choice profile tells.facts),
  )
  told_facts Memory tally given told (front, rest, split, tells) =
      (tells.so_far.facts, (front, rest, split, (tells.so_far.bad, tells.so_far.from_first)), tells.so_far.lines)

  module _ (given taken : List ℕ) (reader : CaptureReader) (n : ℕ)
      (stands : ReaderStands choice profile after given taken reader) (before : length taken ≡ 680 * n) where
    pub whole : ((facts : List FactData)
        → length (fact_lines choice profile facts) ≡ 680 * length (wanted_facts choice profile facts))
        → (k : ℕ) × (length (reader_ready reader) ≡ 680 * k)
    whole long =
        let ready = reader_ready reader in
        let told = told_facts (reader_state reader) (reader_tally reader) given (taken ++ ready) stands.tells in
        let many = length (wanted_facts choice profile told.0) in
        (many - n, omega (arith, before, length-append taken ready, ap (λ (l : List ℕ). length l) told.2, long told.0))

    pub next : (one left : List ℕ) → reader_ready reader ≡ one ++ left → ((facts : List FactData)
        → fact_lines choice profile facts ≡ taken ++ (one ++ left) → TakesNext choice profile facts taken one left)
        → (facts : List FactData) × AreFacts choice profile after (reader_state reader) given facts
        × TakesNext choice profile facts taken one left
    next one left split takes =
        let ready = reader_ready reader in
        let told = told_facts (reader_state reader) (reader_tally reader) given (taken ++ ready) stands.tells in
        (told.0, told.1, takes told.0 (sym told.2 ∙ ap (λ (l : List ℕ). taken ++ l) split))
