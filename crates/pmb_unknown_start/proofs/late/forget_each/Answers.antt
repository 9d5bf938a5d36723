use Rattle.std.proofs.Common.{◌≡◌, List, ◌++◌, ap, drop, map, option_map, slice_set, subst, sym, ◌∙◌}
use Rattle.std.proofs.lemmas.List.{append-nil, drop_all, length-map, take_all}
use Rattle.std.proofs.lemmas.List.Edits.{map_over_more}
use Rattle.std.proofs.lemmas.Option.{slice_get-map}
use Rattle.pmb_command.specs.Parts.{DeviceParts}
use Rattle.pmb_unknown_start.specs.machine.Keeping.{KeptData, Keeps, kept_dropped}
use Rattle.pmb_unknown_start.proofs.late.forget_each.Goals as goal

-- what is kept of each device, changed alike
changed : (change : KeptData → KeptData) (kept : List KeptData) (profile : List DeviceParts)
    (now : DeviceParts → KeptData)
    → Keeps kept profile now → Keeps (map change kept) profile (λ device. change (now device))
changed change kept profile now keeps = record {
  bus = keeps.bus;
  long = length-map kept change ∙ keeps.long;
  each = λ addr device known. slice_get-map change kept addr ∙ ap (option_map change) (keeps.each addr device known);
}

pub loop-one-preserved : goal.loop-one-preserved
loop-one-preserved c =
    ap (λ (kept : KeptData). slice_set c.loop-one.kept c.loop-one.one-index kept)
    (c.drop_line.ensures ∙ ap (kept_dropped c.args.start) (sym c.one-item.is))
    ∙ map_over_more (kept_dropped c.args.start) c.args.kept.now c.loop-one.kept c.loop-one.one-index
    c.one-item.result c.loop-one-test.true c.loop-one.invariant c.one-item.is

pub returns : goal.returns
returns c = λ profile now keeps.
    let change = kept_dropped c.args.start in
    let whole : c.loop-one.kept ≡ map change c.args.kept.now =
    c.loop-one.invariant
    ∙ ap (λ (kept : List KeptData). map change kept ++ drop c.loop-one.one-index c.args.kept.now)
    (take_all c.loop-one.one-index c.args.kept.now c.loop-one-test.false)
    ∙ ap (λ (kept : List KeptData). map change c.args.kept.now ++ kept)
    (drop_all c.loop-one.one-index c.args.kept.now c.loop-one-test.false)
    ∙ append-nil (map change c.args.kept.now) in
    subst (λ (kept : List KeptData). Keeps kept profile (λ device. change (now device))) (sym whole)
    (changed change c.args.kept.now profile now keeps)
