use Rattle.std.proofs.Common.{◌≡◌, ◌∙◌, [], ap, refl, subst, sym}
use Rattle.std.specs.Io.KnownBytes.{Appends}
use Rattle.pmb_io.specs.Count.{raised}
use Rattle.pmb_args.specs.ExitStatus.{code_of}
use Rattle.pmb_args.specs.declared.exit_status.ExitStatus.TheVariants.{IoFailed}
use Rattle.pmb_colour.specs.Onward.{all_pieces}
use Rattle.pmb_colour.specs.Painted.{painted_text, writer_of}
use Rattle.pmb_colour.specs.Pieces.{shown}
use Rattle.pmb_files.specs.Painted.{failed, well}
use Rattle.pmb_files.proofs.Ended.{counts_failure, counts_well, tells, tells_same}
use Rattle.pmb_files.proofs.painted.run_on.Goals as goal

-- the last line went on
pub returns-in-Ok : goal.returns-in-Ok
returns-in-Ok g c =
    let told = g.W.Sink.told in
    let first = c.new-kept.result in
    let last = c.run_files-status.new.out in
    let text = last.inner.told.bytes in
    record {
      ran = λ not_asked.
          let done = c.run_files-status.ensures.ran not_asked in (
            done.0,
            done.1,
            record {
              first = first;
              last = last;
              err = c.run_files-status.new.err;
              ended = done.0;
              nothing = subst (λ p. tells (painted_text p) (told (writer_of p)).failures
                  ≡ tells [] (told (writer_of c.args.painted)).failures)
                  (sym c.new-kept.ensures.inner) (tells_same _ [] _ _ c.requires refl);
              ran = done.2;
              text = text;
              told = refl;
              shown_text = subst (λ p. (told c.end-out.result.0).failures ≡ 0
                  → Appends g.B.Start.before (told c.end-out.result.0).held
                  (shown (all_pieces g.B.Start.lines (painted_text p))))
                  c.into_inner.ensures c.end-out.ensures.shows;
              ends = well done.0 (subst (λ p. (told c.end-out.result.0).failures ≡ (told (writer_of p)).failures)
                  c.into_inner.ensures (counts_well _ _ _ _ c.in-Ok.is c.end-out.ensures.failed)) refl;
            },
          );
    }

-- it did not
pub returns-in-Err : goal.returns-in-Err
returns-in-Err g c =
    let told = g.W.Sink.told in
    let first = c.new-kept.result in
    let last = c.run_files-status.new.out in
    let text = last.inner.told.bytes in
    record {
      ran = λ not_asked.
          let done = c.run_files-status.ensures.ran not_asked in (
            IoFailed,
            c.code.ensures ∙ ap code_of c.report.ensures.status,
            record {
              first = first;
              last = last;
              err = c.run_files-status.new.err;
              ended = done.0;
              nothing = subst (λ p. tells (painted_text p) (told (writer_of p)).failures
                  ≡ tells [] (told (writer_of c.args.painted)).failures)
                  (sym c.new-kept.ensures.inner) (tells_same _ [] _ _ c.requires refl);
              ran = done.2;
              text = text;
              told = refl;
              shown_text = subst (λ p. (told c.end-out.result.0).failures ≡ 0
                  → Appends g.B.Start.before (told c.end-out.result.0).held
                  (shown (all_pieces g.B.Start.lines (painted_text p))))
                  c.into_inner.ensures c.end-out.ensures.shows;
              ends = failed done.0 (subst (λ p. (told c.end-out.result.0).failures ≡ raised (told (writer_of p)).failures 1)
                  c.into_inner.ensures (counts_failure _ _ _ _ c.in-Err.is c.end-out.ensures.failed))
                  c.report.ensures.err_told;
            },
          );
    }
