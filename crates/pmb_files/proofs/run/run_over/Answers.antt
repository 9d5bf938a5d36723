use Rattle.std.proofs.Common.{◌∙◌, ap, subst}
use Rattle.pmb_io.specs.Calls.{io_ended, io_failures, io_given, io_inner, io_reads}
use Rattle.pmb_io.specs.Told.{WriterTold}
use Rattle.pmb_args.specs.ExitStatus.{IsTold}
use Rattle.pmb_files.specs.Joined.{joined_left}
use Rattle.pmb_files.specs.machine.Said.{said_told}
use Rattle.pmb_files.proofs.Errs.{program_said}
use Rattle.pmb_files.proofs.Passed.{is_passed_on}
use Rattle.pmb_files.proofs.run.run_over.Goals as goal

-- The tool ran over the reader, what it said was passed on, and then explained.
pub returns : goal.returns
returns g c =
    let inner = c.new-reader.ensures.inner in
    let unsaid = c.new-said.ensures in
    let said = c.tool-ended.new.err in
    let ran = c.tool-ended.ensures.ran in
    let tell = c.tell-code.ensures in
    let passed = is_passed_on g.E.Sink.told (said_told said) c.args.err.now c.tell-code.new.err ran.0 _ c.tell-code.result ran.1
    tell.quiet tell.told tell.kept tell.no_memory in (
      passed.0,
      passed.1,
      record {
        first = c.new-reader.result;
        last = c.tool-ended.new.reader;
        said = said_told said;
        ended = ran.0;
        err = c.tell-code.new.err;
        at_first = record {
          left = ap (λ io. joined_left g.F.Opener.known g.F.Opened.Read.remaining (io_inner io)) inner
              ∙ (ap (joined_left g.F.Opener.known g.F.Opened.Read.remaining) c.new-input.ensures.inner ∙ c.new-joined.ensures);
          given = ap io_given inner ∙ c.new-input.ensures.given;
          reads = ap io_reads inner ∙ c.new-input.ensures.reads;
          failures = ap io_failures inner ∙ c.new-input.ensures.failures;
          ended = ap io_ended inner ∙ c.new-input.ensures.ended;
        };
        ran = program_said _ _ _ _ _ _ _ _ _ _ _ _ _ ran.0 (λ ended. ap said_told (ran.2.quiet ended) ∙ unsaid)
            (λ failed. subst (λ (told : WriterTold). IsTold told (said_told said)) unsaid (ran.2.err_text failed)) _ ran.2;
        passed_on = passed.2;
        grew = c.explain.ensures;
      },
    )
