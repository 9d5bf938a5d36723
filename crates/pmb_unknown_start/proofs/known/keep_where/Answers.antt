use Rattle.std.proofs.Common.{ℕ, ◌<◌, Option, None, List, ◌++◌, ap, drop, get_or, length, map, slice_set, ◌∙◌, arith}
use Rattle.std.proofs.lemmas.List.{append-nil, drop_all, get_or_default, take_all}
use Rattle.std.proofs.lemmas.List.Edits.{map_over_more}
use Rattle.pmb_unknown_start.specs.Known.{kept_under}
use Rattle.pmb_unknown_start.proofs.known.keep_where.Goals as goal

pub loop-known-preserved : goal.loop-known-preserved
loop-known-preserved c =
    let within : c.loop-known.known-index < length c.loop-known.modes = omega arith in
    let was : Option ℕ = get_or c.loop-known.modes c.loop-known.known-index None in
    ap (λ (known : Option ℕ). slice_set c.loop-known.modes c.loop-known.known-index known) c.kept_under.ensures
    ∙ map_over_more (kept_under c.args.mode) c.args.modes.now c.loop-known.modes c.loop-known.known-index was
    c.loop-known-test.true c.loop-known.invariant
    (get_or_default c.loop-known.modes c.loop-known.known-index None was within)

pub returns : goal.returns
returns c =
    c.loop-known.invariant
    ∙ ap (λ (modes : List (Option ℕ)). map (kept_under c.args.mode) modes
    ++ drop c.loop-known.known-index c.args.modes.now)
    (take_all c.loop-known.known-index c.args.modes.now c.loop-known-test.false)
    ∙ ap (λ (modes : List (Option ℕ)). map (kept_under c.args.mode) c.args.modes.now ++ modes)
    (drop_all c.loop-known.known-index c.args.modes.now c.loop-known-test.false)
    ∙ append-nil (map (kept_under c.args.mode) c.args.modes.now)
