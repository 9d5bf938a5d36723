use Rattle.std.proofs.Common.{codes, subst, sym}
use Rattle.clap.specs.Words.{Text, found_of, rows_of}
use Rattle.pmb_args.specs.Asked.{NameAsks, Wanted}
use Rattle.pmb_args.specs.Facts.{json, log}
use Rattle.pmb_args.proofs.AskedLemmas.{is_text}
use Rattle.pmb_args.proofs.Names.{facts_want_none, stats_want_none}
use Rattle.pmb_args.proofs.tasks.work_of.Goals as goal

-- The flags of `json` have a fault.
pub returns-in-Err : goal.returns-in-Err
returns-in-Err c =
    let rows = rows_of (found_of c.args.arguments.now) in
    let named = is_text c.args.name.now (codes "json") c.eq-else-eq-2.result c.eq-else-eq-2.ensures c.if-eq-3.true in
    subst (λ (name : Text). (wanted : Wanted) → ¬ (NameAsks name rows wanted)) (sym named)
    (facts_want_none json rows c.in-Err.fault c.in-Err.ensures.is)

-- Those of `log` have one.
pub returns-in-Err-read_facts : goal.returns-in-Err-read_facts
returns-in-Err-read_facts c =
    let rows = rows_of (found_of c.args.arguments.now) in
    let named = is_text c.args.name.now (codes "log") c.eq-else-eq-3.result c.eq-else-eq-3.ensures c.if-eq-4.true in
    subst (λ (name : Text). (wanted : Wanted) → ¬ (NameAsks name rows wanted)) (sym named)
    (facts_want_none log rows c.in-Err-read_facts.fault c.in-Err-read_facts.ensures.is)

-- Those of `stats` have one.
pub returns-in-Err-read_stats : goal.returns-in-Err-read_stats
returns-in-Err-read_stats c =
    let rows = rows_of (found_of c.args.arguments.now) in
    let named = is_text c.args.name.now (codes "stats") c.eq-else-eq-4.result c.eq-else-eq-4.ensures c.if-eq-5.true in
    subst (λ (name : Text). (wanted : Wanted) → ¬ (NameAsks name rows wanted)) (sym named)
    (stats_want_none rows c.in-Err-read_stats.fault c.in-Err-read_stats.ensures.is)
