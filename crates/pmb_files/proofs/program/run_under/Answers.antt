use Rattle.std.proofs.Common.{◌∙◌, sym}
use Rattle.pmb_files.specs.Program.{ran, ran_each}
use Rattle.pmb_files.proofs.program.run_under.Goals as goal

-- The files are captures of their own.
pub returns-then-has_several : goal.returns-then-has_several
returns-then-has_several g c =
    let each = rw (c.as_slice-words.ensures.value, c.heading.ensures, c.names-names.ensures) at c.run_each.ensures in
    record {
      ran = (
        each.0,
        each.1,
        ran_each c.requires.asks (sym c.has_several.ensures ∙ c.if-has_several.true) c.requires.fine
            c.args.head.now c.requires.head each.2,
      );
    }

-- They are one.
pub returns-else-has_several : goal.returns-else-has_several
returns-else-has_several g c =
    let over = rw (c.as_slice-words.ensures.value, c.names-names.ensures) at c.run_over.ensures in
    record {
      ran = (
        over.0,
        over.1,
        ran c.requires.asks (sym c.has_several.ensures ∙ c.if-has_several.false) c.requires.fine
            c.args.head.now c.requires.head over.2,
      );
    }
