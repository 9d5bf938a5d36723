use Rattle.std.proofs.Common.{ap, ◌∙◌}
use Rattle.std.proofs.lemmas.Result.{IfOk-weaker}
use Rattle.pmb_args.specs.Words.{with_fact_flags}
use Rattle.pmb_args.proofs.CommandLemmas.{still_local, with_flag}
use Rattle.pmb_args.proofs.fact_commands.stats_command.Goals as goal

-- `--json`, the flags that `json` has too, and `--fail-on`
pub returns-clause-shape : goal.returns-clause-shape
returns-clause-shape c =
    let json = with_flag _ _ _ c.flag.ensures.local c.in_ok-with_json.ensures _ _ c.bare_stats_command.ensures.shape
    c.flag.ensures.rule in
    let facts = c.in_ok-with_facts.ensures.shape ∙ ap with_fact_flags json in
    IfOk-weaker c.arg-2.result _ _ (λ command adds. with_flag _ _ _ c.valued.ensures.local adds _ _ facts
    c.valued.ensures.rule) c.arg-2.ensures

pub returns-clause-local : goal.returns-clause-local
returns-clause-local c =
    IfOk-weaker c.arg-2.result _ _ (λ command adds. still_local _ _ _ c.valued.ensures.local adds
    c.in_ok-with_facts.ensures.local) c.arg-2.ensures

pub with_fact_flags-requires : goal.with_fact_flags-requires
with_fact_flags-requires c = record {
  local = still_local _ _ _ c.flag.ensures.local c.in_ok-with_json.ensures c.bare_stats_command.ensures.local;
}
