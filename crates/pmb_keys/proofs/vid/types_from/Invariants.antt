use Rattle.std.proofs.Common.{◌≡◌, ◌++◌, Ok, drop, length, map}
use Rattle.toml.specs.View.{table_view}
use Rattle.pmb_keys.specs.VidRule.{types_from}
use Rattle.pmb_keys.specs.Rules.{bind}
use Rattle.pmb_keys.proofs.vid.types_from.Given as goal

-- with those of the names from here on, all are read
abbrev pub invariant-loop-name : goal.invariant-loop-name
invariant-loop-name l = record {
  read : bind (types_from (map (λ name. name.now) (drop l.name-index l.names)) (table_view l.table)) (λ rest. Ok (l.tables.items ++ rest))
      ≡ types_from (map (λ name. name.now) l.names) (table_view l.table);
  count : length l.tables.items ≡ l.name-index;
}
