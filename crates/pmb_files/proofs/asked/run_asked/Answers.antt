use Rattle.std.proofs.Common.{ap, map}
use Rattle.pmb_files.specs.machine.Color.{color_words_of}
use Rattle.pmb_files.proofs.Colors.{none_is_bad, others_have_fault}
use Rattle.pmb_files.proofs.asked.run_asked.Goals as goal

-- no word of `--color` is bad
pub returns-in-Some : goal.returns-in-Some
returns-in-Some g c =
    let done = c.run_split.ensures.ran in
    record {
      ran = (
        done.0,
        done.1,
        none_is_bad _ _ _ _ _ _ _ (c.args.out.now, c.args.err.now) (c.run_split.new.out, c.run_split.new.err) done.0
            (color_words_of c.in-Ok.asked) c.in-Ok.ensures _
            (ap (map (λ word. word.now)) c.as_slice-left.ensures.value) c.in-Some.field-0 c.in-Some.ensures done.2,
      );
    }

-- one is, and so are other words
pub returns-in-Ok-true : goal.returns-in-Ok-true
returns-in-Ok-true g c =
    let done = c.run_split-in-Ok-true.ensures.ran in
    record {
      ran = (
        done.0,
        done.1,
        others_have_fault _ _ _ _ _ _ _ (c.args.out.now, c.args.err.now)
            (c.run_split-in-Ok-true.new.out, c.run_split-in-Ok-true.new.err) done.0 (color_words_of c.in-Ok.asked)
            c.in-Ok.ensures _
            (ap (map (λ word. word.now)) c.as_slice-left.ensures.value)
            (c.in-Ok-true.ensures.fault c.in-Ok-true.field-0-test) done.2,
      );
    }
