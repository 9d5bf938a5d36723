use Rattle.std.proofs.Common.{refl}
use Rattle.std.proofs.lemmas.Result.{IfOk-weaker}
use Rattle.pmb_args.proofs.CommandLemmas.{still_local, with_flag}
use Rattle.pmb_args.proofs.fact_commands.with_fact_flags.Goals as goal

-- each flag in turn
pub returns-clause-shape : goal.returns-clause-shape
returns-clause-shape c =
    let sample = with_flag _ _ _ c.sample_flag.ensures.local c.in_ok-arg.ensures _ _ refl
    c.sample_flag.ensures.rule in
    let late = with_flag _ _ _ c.flag.ensures.local c.in_ok-arg-2.ensures _ _ sample c.flag.ensures.rule in
    let fixed = with_flag _ _ _ c.flag-2.ensures.local c.in_ok-arg-3.ensures _ _ late c.flag-2.ensures.rule in
    let going = with_flag _ _ _ c.flag-3.ensures.local c.in_ok-arg-4.ensures _ _ fixed c.flag-3.ensures.rule in
    let digits = with_flag _ _ _ c.valued.ensures.local c.in_ok-arg-5.ensures _ _ going c.valued.ensures.rule in
    IfOk-weaker c.arg-6.result _ _ (λ command adds. with_flag _ _ _ c.valued-2.ensures.local adds _ _ digits
    c.valued-2.ensures.rule) c.arg-6.ensures

pub returns-clause-local : goal.returns-clause-local
returns-clause-local c =
    let sample = still_local _ _ _ c.sample_flag.ensures.local c.in_ok-arg.ensures c.requires.local in
    let late = still_local _ _ _ c.flag.ensures.local c.in_ok-arg-2.ensures sample in
    let fixed = still_local _ _ _ c.flag-2.ensures.local c.in_ok-arg-3.ensures late in
    let going = still_local _ _ _ c.flag-3.ensures.local c.in_ok-arg-4.ensures fixed in
    let digits = still_local _ _ _ c.valued.ensures.local c.in_ok-arg-5.ensures going in
    IfOk-weaker c.arg-6.result _ _ (λ command adds. still_local _ _ _ c.valued-2.ensures.local adds digits)
    c.arg-6.ensures
