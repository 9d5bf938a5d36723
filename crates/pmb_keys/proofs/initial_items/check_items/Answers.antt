use Rattle.std.proofs.Common.{◌≡◌, arith, false, true, nat_eq, rules}
use Rattle.std.proofs.lemmas.Bool.{eq-eqb, ne_eqb}
use Rattle.toml.specs.View.{items_view}
use Rattle.pmb_keys.specs.Rules.{item_count}
use Rattle.pmb_keys.proofs.Arrays.{item_count-view}
use Rattle.pmb_keys.proofs.initial_items.check_items.Goals as goal

-- the fault of the number of items
pub returns-then-items-from-clause-read : goal.returns-then-items-from-clause-read
returns-then-items-from-clause-read c =
    let items = items_view c.args.items.now in
    let count = item_count-view c.args.items.now in
    let other : nat_eq (item_count items) c.args.pages ≡ false =
    ne_eqb (item_count items) c.args.pages (λ same. omega arith) in
    rw (c.if-not-entry.false, other) (search rules)

pub returns-clause-read : goal.returns-clause-read
returns-clause-read c =
    let items = items_view c.args.items.now in
    let count = item_count-view c.args.items.now in
    let same : nat_eq (item_count items) c.args.pages ≡ true =
    eq-eqb (item_count items) c.args.pages (omega arith) in
    rw (c.if-not-entry.false, same) (search rules)
