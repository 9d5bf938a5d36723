use Rattle.std.proofs.Common.{◌≡◌, ◌∙◌, drop, sym, subst, rules}
use Rattle.std.proofs.lemmas.Grind.{common_steps}
use Rattle.pmb_io.proofs.Writing.{WritesUpTo, up_to_kept, up_to_more}
use Rattle.pmb_io.proofs.io.IoSink.write_all.Goals.{in-Some, in-Interrupted}
use Rattle.pmb_io.proofs.io.IoSink.write_all.Goals as goal

-- a write that takes some bytes leaves the others, and one that is interrupted leaves all
pub loop-preserved : goal.loop-preserved
loop-preserved g c = record {
  failures = c.write_some.ensures.failures ∙ c.loop.invariant.failures;
  idle = elim c.match-write_some.branch [
    | in-Some w ↦ w.in-Some.ensures.idle ∙ c.loop.invariant.idle
    | in-Interrupted w ↦ w.in-Interrupted.ensures.idle ∙ c.loop.invariant.idle
  ];
  so_far = elim c.match-write_some.branch [
    | in-Some w ↦
        let left : c.match-write_some.rest.now ≡ drop w.in-Some.count c.loop.rest.now = search (rules, common_steps) in
        subst (λ r. WritesUpTo (g.T.Write.contents c.args.self.now.inner)
        (g.T.Write.contents c.write_some.new.self.inner) c.args.bytes.now r) (sym left)
        (up_to_more _ _ _ _ _ w.in-Some.count c.loop.invariant.so_far w.in-Some.ensures.took.1)
    | in-Interrupted w ↦
        let left : c.match-write_some.rest.now ≡ c.loop.rest.now = search rules in
        subst (λ r. WritesUpTo (g.T.Write.contents c.args.self.now.inner)
        (g.T.Write.contents c.write_some.new.self.inner) c.args.bytes.now r) (sym left)
        (up_to_kept _ _ _ _ _ c.loop.invariant.so_far w.in-Interrupted.ensures.took)
  ];
}
