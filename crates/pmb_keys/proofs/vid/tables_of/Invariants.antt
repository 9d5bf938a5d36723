use Rattle.std.proofs.Common.{◌≡◌, ◌++◌, Ok, drop, length}
use Rattle.toml.specs.View.{items_view}
use Rattle.pmb_keys.specs.VidRule.{table_rule}
use Rattle.pmb_keys.specs.Rules.{bind, each_of}
use Rattle.pmb_keys.proofs.vid.tables_of.Given as goal

-- with those from here on, all are read
abbrev pub invariant-loop-item : goal.invariant-loop-item
invariant-loop-item l = record {
  read : bind (each_of table_rule (items_view (drop l.item-index l.items))) (λ rest. Ok (l.tables.items ++ rest))
      ≡ each_of table_rule (items_view l.items);
  count : length l.tables.items ≡ l.item-index;
}
