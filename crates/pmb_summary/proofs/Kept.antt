-- A run that kept all facts in statistics and wrote nothing, after which the text of their sums was written, is a
-- run of `stats`. For `write_table` and `write_objects`.
use Rattle.std.proofs.Common.{◌≡◌, ◌∙◌, ℕ, Ok, Err, List, [], ◌∷◌, ◌++◌, filter, flat_map, inl, inr}
use Rattle.std.proofs.Common.{refl, sym, ap, subst}
use Rattle.std.specs.Io.KnownBytes.{Appends}
use Rattle.pmb_command.specs.Parts.{DeviceParts}
use Rattle.pmb_facts.specs.Fact.{FactData}
use Rattle.pmb_fact_stream.specs.Lines.{fact_line, fact_lines, is_wanted_fact}
use Rattle.pmb_io.specs.Calls.{WriterTells}
use Rattle.pmb_io.specs.Count.{raised}
use Rattle.pmb_io.specs.Runs.{AsTool, Done, Ran}
use Rattle.pmb_io.specs.Tally.{IsTallyOf}
use Rattle.pmb_io.specs.Told.{ReaderTold, WriterTold}
use Rattle.pmb_io.specs.declared.fault.RunFault.{RunFault}
use Rattle.pmb_io.specs.declared.fault.RunFault.TheVariants.{Read, Write, TooManyReads}
use Rattle.pmb_io.specs.declared.fault.ToolFault.{ToolFault}
use Rattle.pmb_io.specs.declared.fault.ToolFault.TheVariants as tool
use Rattle.pmb_io.specs.declared.tally.Tally.{Tally}
use Rattle.pmb_io.proofs.RunLemmas.{failed_as, ran_into_write, ran_to_its_end}
use Rattle.pmb_stats.specs.Standing.{StatsStand}
use Rattle.pmb_stats.specs.declared.statistics.Statistics.{Statistics}
use Rattle.pmb_stats_counts.specs.Counts.{packets}
use Rattle.pmb_stats_counts.specs.Fails.{fails}
use Rattle.pmb_telling.specs.Kept.{StopsKept, WritesKept, keeping_job}
use Rattle.pmb_summary.specs.Choice.{SumsData, choice_of, setting_of}
use Rattle.pmb_summary.specs.Summing.{StopsSums, WritesSums, one_if, summing}
use Rattle.pmb_summary.proofs.Continuing.{done_then}

-- ---- no line is told

no_lines : (sums : SumsData) (profile : List DeviceParts) (facts : List FactData)
    → flat_map (fact_line (choice_of sums) profile) facts ≡ []
no_lines sums profile [] = refl
no_lines sums profile (fact ∷ facts) = no_lines sums profile facts

nothing_told : (sums : SumsData) (profile : List DeviceParts) (facts : List FactData)
    → fact_lines (choice_of sums) profile facts ≡ []
nothing_told sums profile facts = no_lines sums profile (filter (is_wanted_fact (choice_of sums) profile) facts)

-- ---- what was kept is summed up

module _ (stats : Statistics) (sums : SumsData) (profile : List DeviceParts) (text_of : List FactData → List ℕ)
    (one : (f g : List FactData) → StatsStand stats (setting_of sums profile) f
    → StatsStand stats (setting_of sums profile) g → text_of f ≡ text_of g)
    (answer tally : Tally)
    (judged : (facts : List FactData) → StatsStand stats (setting_of sums profile) facts
    → IsTallyOf (packets facts) (one_if (fails profile sums.fail_on facts)) tally)
    (known : List FactData) (stands : StatsStand stats (setting_of sums profile) known) where
  -- of the same bytes
  sums_of : (bytes others : List ℕ)
      → WritesKept (StatsStand stats (setting_of sums profile)) (choice_of sums) profile sums.after_bad_token bytes others
      answer → WritesSums text_of sums profile tally bytes (text_of known)
  sums_of bytes others kept = record {
    bad = kept.writes.bad;
    facts = kept.writes.facts;
    counts = kept.writes.counts;
    from_first = kept.writes.from_first;
    sums_are = one known kept.writes.facts stands kept.kept;
    tallied = judged kept.writes.facts kept.kept;
  }

  none_written : (bytes others : List ℕ)
      → WritesKept (StatsStand stats (setting_of sums profile)) (choice_of sums) profile sums.after_bad_token bytes others
      answer → others ≡ []
  none_written bytes others kept =
      kept.writes.lines ∙ ap (λ (l : List ℕ). l ++ []) (nothing_told sums profile kept.writes.facts)

  pub whole_of : (bytes others : List ℕ)
      → WritesKept (StatsStand stats (setting_of sums profile)) (choice_of sums) profile sums.after_bad_token bytes others
      answer → (others ≡ []) × WritesSums text_of sums profile tally bytes (text_of known)
  whole_of bytes others kept = (none_written bytes others kept, sums_of bytes others kept)

  pub stops_of : (bytes others : List ℕ)
      → StopsKept (StatsStand stats (setting_of sums profile)) (choice_of sums) profile sums.after_bad_token bytes others
      answer → (others ≡ []) × StopsSums text_of sums profile tally bytes (text_of known)
  stops_of bytes others stops = (
    none_written bytes others stops.writes,
    record {
      ends = stops.ends;
      writes = sums_of bytes others stops.writes;
      whatever_follows = λ more. sums_of (bytes ++ more) others (stops.whatever_follows more);
    },
  )

-- the facts that a done run has kept
kept_facts : {R W : Type 0} (reader_told : R → ReaderTold) (writer_told : W → WriterTold)
    (Kept : List FactData → Type 0) (sums : SumsData) (profile : List DeviceParts) (first : List ℕ) (old new : R × W)
    (tally : Tally)
    → Done reader_told writer_told (keeping_job Kept (choice_of sums) profile sums.after_bad_token) tally first old new
    → (facts : List FactData) × Kept facts
kept_facts reader_told writer_told Kept sums profile first old new tally (inl ended) =
    (ended.through.holds.writes.facts, ended.through.holds.kept)
kept_facts reader_told writer_told Kept sums profile first old new tally (inr stopped) =
    (stopped.through.holds.writes.writes.facts, stopped.through.holds.writes.kept)

module _ {R W : Type 0} (reader_told : R → ReaderTold) (writer_told : W → WriterTold) (stats : Statistics)
    (sums : SumsData) (profile : List DeviceParts) (text_of : List FactData → List ℕ)
    (one : (f g : List FactData) → StatsStand stats (setting_of sums profile) f
    → StatsStand stats (setting_of sums profile) g → text_of f ≡ text_of g)
    (first : List ℕ) (reader reader_new : R) (out mid out_new : W) where
  -- all was written
  pub summed : (answer tally : Tally)
      → ((facts : List FactData) → StatsStand stats (setting_of sums profile) facts
      → IsTallyOf (packets facts) (one_if (fails profile sums.fail_on facts)) tally)
      → ((facts : List FactData) → StatsStand stats (setting_of sums profile) facts
      → Appends (writer_told mid).held (writer_told out_new).held (text_of facts))
      → (writer_told out_new).failures ≡ (writer_told mid).failures
      → Ran reader_told writer_told
      (keeping_job (StatsStand stats (setting_of sums profile)) (choice_of sums) profile sums.after_bad_token) first
      (reader, out) (reader_new, mid) (Ok answer)
      → Ran reader_told writer_told (summing text_of sums profile) first (reader, out) (reader_new, out_new) (Ok tally)
  summed answer tally judged written none_failed ran =
      let job = keeping_job (StatsStand stats (setting_of sums profile)) (choice_of sums) profile
      sums.after_bad_token in
      let known = kept_facts reader_told writer_told (StatsStand stats (setting_of sums profile)) sums profile first
      (reader, out) (reader_new, mid) answer ran.ok in
      ran_to_its_end reader_told writer_told (summing text_of sums profile) first (reader, out) (reader_new, out_new)
      tally (ran.no_read (λ is. cc)) (none_failed ∙ ran.no_write (λ is. cc)) ran.reads
      (done_then reader_told writer_told first (text_of known.0) reader reader_new out mid out_new
      (written known.0 known.1) job (summing text_of sums profile) answer tally
      (whole_of stats sums profile text_of one answer tally judged known.0 known.1)
      (stops_of stats sums profile text_of one answer tally judged known.0 known.1)
      (λ bytes opened. opened) ran.ok)

  -- the text could not be written
  pub unwritten : (answer : Tally) (fault : RunFault)
      → WriterTells {A = Unit {0}} (writer_told mid) (writer_told out_new) (Err fault)
      → Ran reader_told writer_told
      (keeping_job (StatsStand stats (setting_of sums profile)) (choice_of sums) profile sums.after_bad_token) first
      (reader, out) (reader_new, mid) (Ok answer)
      → Ran reader_told writer_told (summing text_of sums profile) first (reader, out) (reader_new, out_new) (Err fault)
  unwritten answer fault tells ran =
      subst (λ (why : RunFault). Ran reader_told writer_told (summing text_of sums profile) first (reader, out)
      (reader_new, out_new) (Err why)) (sym tells.0)
      (ran_into_write reader_told writer_told (summing text_of sums profile) first (reader, out) (reader_new, out_new)
      (ran.no_read (λ is. cc)) (tells.1 ∙ ap (λ n. raised n 1) (ran.no_write (λ is. cc))) ran.reads)

  -- the capture could not be read
  pub unread : (fault : RunFault)
      → Ran reader_told writer_told
      (keeping_job (StatsStand stats (setting_of sums profile)) (choice_of sums) profile sums.after_bad_token) first
      (reader, out) (reader_new, mid) (Err fault)
      → Ran reader_told writer_told (summing text_of sums profile) first (reader, out) (reader_new, mid) (Err fault)
  unread fault ran =
      failed_as reader_told writer_told
      (keeping_job (StatsStand stats (setting_of sums profile)) (choice_of sums) profile sums.after_bad_token) first
      (reader, out) (reader_new, mid) (summing text_of sums profile) fault
      (λ bytes text front. front.so_far.lines ∙ nothing_told sums profile front.so_far.facts) ran

  -- .. as the tool tells it
  pub tool_unread : (fault : ToolFault)
      → AsTool (Ran reader_told writer_told
      (keeping_job (StatsStand stats (setting_of sums profile)) (choice_of sums) profile sums.after_bad_token) first
      (reader, out) (reader_new, mid)) (Err fault)
      → AsTool (Ran reader_told writer_told (summing text_of sums profile) first (reader, out) (reader_new, mid))
      (Err fault)
  tool_unread tool.Read ran = unread Read ran
  tool_unread tool.Write ran = unread Write ran
  tool_unread tool.TooManyReads ran = unread TooManyReads ran
  tool_unread tool.ProfileTooLong ran = absurd ran
  tool_unread tool.Memory ran = absurd ran
