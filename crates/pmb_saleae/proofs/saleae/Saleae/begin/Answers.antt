use Rattle.std.proofs.Common.{ℕ, List, ◌≡◌, true, ap, arith, length, sym, ◌∙◌}
use Rattle.pmb_csv.specs.Columns.{has_quote}
use Rattle.pmb_csv.specs.Fields.{record_of}
use Rattle.pmb_recording.specs.Recording.{at_begin}
use Rattle.pmb_saleae.specs.Packets.{on}
use Rattle.pmb_saleae.specs.Row.{value_if}
use Rattle.pmb_saleae.specs.Time.{time_of}
use Rattle.pmb_saleae.proofs.FieldLengths.{short_value_if}
use Rattle.pmb_saleae.proofs.RowLemmas.{not_plain, plain_is}
use Rattle.pmb_saleae.proofs.TimeLemmas.{no_quote, no_time}
use Rattle.pmb_saleae.proofs.saleae.Saleae.begin.Goals as goal

pub begin_at-requires : goal.begin_at-requires
begin_at-requires g c =
    let row = c.args.row.now in
    let text = value_if row.columns.start_time (record_of row.line.now) in
    let same : c.in-Some.time.now ≡ text = plain_is text c.in-Some.time.now c.in-Some.ensures in
    record {
      plain = ap has_quote same ∙ no_quote text c.in-Some.time.now c.in-Some.ensures;
      short = omega (arith, ap length same, short_value_if row.columns.start_time row.line.now);
    }

pub returns-in-Some-clause-now : goal.returns-in-Some-clause-now
returns-in-Some-clause-now g c =
    let row = c.args.row.now in
    let text = value_if row.columns.start_time (record_of row.line.now) in
    let t = c.args.self.now in
    let same : c.in-Some.time.now ≡ text = plain_is text c.in-Some.time.now c.in-Some.ensures in
    c.begin_at.ensures.now
    ∙ ap (λ (time : List ℕ). (on (record t { is_at_start = true }) (at_begin t.recording (time_of time))).now) same

pub returns-in-None-clause-now : goal.returns-in-None-clause-now
returns-in-None-clause-now g c =
    let row = c.args.row.now in
    let text = value_if row.columns.start_time (record_of row.line.now) in
    let t = c.args.self.now in
    c.begin_at-in-None.ensures.now
    ∙ ap (λ (told : List ℕ). (on (record t { is_at_start = true }) (at_begin t.recording told)).now)
    (sym (no_time text (not_plain text c.in-None.ensures)))
