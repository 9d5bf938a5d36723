use Rattle.std.proofs.Common.{◌+◌, drop, ⊎_elim, inl, inr, refl, sym, ap, ◌∙◌}
use Rattle.std.specs.List.{IsDistinct}
use Rattle.toml.specs.View.{items_view, view}
use Rattle.pmb_table.specs.Profile.{commands_after}
use Rattle.pmb_table.proofs.CommandSteps.{fault_of_one, item_at}
use Rattle.pmb_table.proofs.device_commands.read_commands.Goals as goal

pub loop-value-init : goal.loop-value-init
unfolding IsDistinct
loop-value-init c = rw c.new-taken.ensures record {
  read = refl;
  taken = (tt, tt);
  own_codes =
      c.requires.own_codes;
  accepted = c.requires.accepted;
}

pub returns-in-Err-clause-read : goal.returns-in-Err-clause-read
returns-in-Err-clause-read c =
    let vs = c.args.values.now in
    let i = c.loop-value.value-index in
    let rest = commands_after c.args.device c.args.pages c.loop-value.taken.items c.loop-value.commands in
    ⊎_elim
    (λ memory. inl cc)
    (λ fault. inr (fault_of_one c.args.device c.args.pages c.loop-value.taken.items c.loop-value.commands
    (view c.value-item.result)
    (items_view (drop (i + 1) vs)) c.in-Err.fault fault
    ∙ ap rest (sym (item_at vs i c.value-item.result c.loop-value-test.true c.value-item.is))
    ∙ c.loop-value.invariant.read))
    c.in-Err.ensures.read
