use Rattle.std.proofs.Common.{map, take}
use Rattle.pmb_args.specs.ExitStatus.{OfCode}
use Rattle.pmb_explained.specs.Kept.{kept_told}
use Rattle.pmb_table.specs.declared.sample.TheConstants.{SAMPLE}
use Rattle.pmb_files.specs.Each.{RanAll}
use Rattle.pmb_files.proofs.each.run_each.Given as goal

-- the files so far
abbrev pub invariant-loop-name : goal.invariant-loop-name
invariant-loop-name g l =
    OfCode (RanAll g.F.Opener.known g.F.Opened.Read.remaining (kept_told g.W.Sink.told) g.E.Sink.told SAMPLE.now l.files
    (map (λ word. word.now) l.words) l.heading l.head (l.fn.out, l.fn.err)
    (map (λ name. name.now) (take l.name-index l.names)) (l.out, l.err)) l.status
