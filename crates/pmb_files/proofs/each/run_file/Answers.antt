use Rattle.std.proofs.Common.{◌≡◌, ◌∙◌, subst, sym}
use Rattle.std.specs.Io.KnownBytes.{Appends}
use Rattle.pmb_explained.specs.Kept.{output_inner}
use Rattle.pmb_files.specs.Each.{heading_line}
use Rattle.pmb_files.proofs.each.run_file.Goals as goal

-- It was announced, what was reported before is forgotten, and the tool ran over it.
pub returns-in-Ok-write_all-clause-ran : goal.returns-in-Ok-write_all-clause-ran
returns-in-Ok-write_all-clause-ran g c =
    let before = g.W.Sink.told (output_inner c.args.out.now) in
    let over = c.run_over.ensures in (
      over.0,
      over.1,
      record {
        announced = c.begin.new.self;
        line = subst (λ out. Appends before.held (g.W.Sink.told out).held
            (heading_line c.args.heading c.args.name.now)) (sym c.begin.ensures.inner)
            (subst (Appends before.held (g.W.Sink.told (output_inner c.write_all.new.self)).held)
            (c.as_slice.ensures.value ∙ c.in-Ok.ensures) c.in-Ok-write_all.ensures.written);
        written = subst (λ out. (g.W.Sink.told out).failures ≡ before.failures) (sym c.begin.ensures.inner)
            c.in-Ok-write_all.ensures.failed;
        ran = over.2;
      },
    )
