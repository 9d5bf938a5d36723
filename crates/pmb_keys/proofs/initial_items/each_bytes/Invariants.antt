use Rattle.std.proofs.Common.{◌≡◌, ◌++◌, Ok, drop, length, map}
use Rattle.std.specs.List.{AllByRecursion}
use Rattle.toml.specs.View.{items_view}
use Rattle.pmb_command.specs.Bus.{IsInitial}
use Rattle.pmb_command.specs.Entry.{entry_parts}
use Rattle.pmb_keys.specs.CommandRules.{bytes_rule}
use Rattle.pmb_keys.specs.Rules.{bind, each_of}
use Rattle.pmb_keys.proofs.initial_items.each_bytes.Given as goal

-- with those from here on, all are read
abbrev pub invariant-loop-item : goal.invariant-loop-item
invariant-loop-item l = record {
  read : bind (each_of (bytes_rule (entry_parts l.entry)) (items_view (drop l.item-index l.items)))
      (λ rest. Ok (map (λ v. v.items) l.each.items ++ rest))
      ≡ each_of (bytes_rule (entry_parts l.entry)) (items_view l.items);
  fits : AllByRecursion (IsInitial (entry_parts l.entry)) (map (λ v. v.items) l.each.items);
  count : length (map (λ v. v.items) l.each.items) ≡ l.item-index;
}
