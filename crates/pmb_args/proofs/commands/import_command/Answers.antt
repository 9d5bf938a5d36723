use Rattle.std.proofs.lemmas.Result.{IfOk-weaker}
use Rattle.pmb_args.proofs.CommandLemmas.{still_local, with_flag}
use Rattle.pmb_args.proofs.commands.import_command.Goals as goal

-- its word, and each flag in turn
pub returns-clause-shape : goal.returns-clause-shape
returns-clause-shape c =
    let source = with_flag _ _ _ c.source_word.ensures.local c.in_ok-arg.ensures _ _ c.bare_command-bare.ensures.shape
    c.source_word.ensures.rule in
    let bus = with_flag _ _ _ c.valued.ensures.local c.in_ok-arg-2.ensures _ _ source c.valued.ensures.rule in
    let rate = with_flag _ _ _ c.valued-2.ensures.local c.in_ok-arg-3.ensures _ _ bus c.valued-2.ensures.rule in
    IfOk-weaker c.arg-4.result _ _ (λ command adds. with_flag _ _ _ c.flag.ensures.local adds _ _ rate
    c.flag.ensures.rule) c.arg-4.ensures

pub returns-clause-local : goal.returns-clause-local
returns-clause-local c =
    let source = still_local _ _ _ c.source_word.ensures.local c.in_ok-arg.ensures c.bare_command-bare.ensures.local in
    let bus = still_local _ _ _ c.valued.ensures.local c.in_ok-arg-2.ensures source in
    let rate = still_local _ _ _ c.valued-2.ensures.local c.in_ok-arg-3.ensures bus in
    IfOk-weaker c.arg-4.result _ _ (λ command adds. still_local _ _ _ c.flag.ensures.local adds rate) c.arg-4.ensures
