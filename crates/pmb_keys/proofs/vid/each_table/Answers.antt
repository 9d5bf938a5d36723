use Rattle.std.proofs.Common.{◌≡◌, ◌∙◌, ap, arith, false, true, Ok, nat_eq, sym}
use Rattle.std.proofs.lemmas.Bool.{eq-eqb, ne_eqb}
use Rattle.toml.specs.View.{items_view}
use Rattle.pmb_keys.specs.declared.fault.FaultKind.TheVariants.{BadValue}
use Rattle.pmb_keys.specs.VidRule.{table_rule}
use Rattle.pmb_keys.specs.Rules.{bind, each_of, item_count, unless}
use Rattle.pmb_keys.proofs.Arrays.{bind-ok, item_count-view, refused}
use Rattle.pmb_keys.proofs.vid.each_table.Goals as goal

-- the fault of the number of items, where each names a table
pub returns-then-items-from-clause-read : goal.returns-then-items-from-clause-read
returns-then-items-from-clause-read c =
    let items = items_view c.args.items.now in
    let pages = c.args.pages in
    let count = item_count-view c.args.items.now in
    let other : nat_eq (item_count items) pages ≡ false = ne_eqb (item_count items) pages (λ same. omega arith) in
    refused (each_of table_rule items)
    (λ tables. bind (unless BadValue (nat_eq (item_count items) pages)) (λ _. Ok tables)) BadValue
    (sym c.in_ok-check_tables.ensures) (λ tables. ap (λ b. bind (unless BadValue b) (λ _. Ok tables)) other)

pub returns-clause-read : goal.returns-clause-read
returns-clause-read c =
    let items = items_view c.args.items.now in
    let pages = c.args.pages in
    let count = item_count-view c.args.items.now in
    let same : nat_eq (item_count items) pages ≡ true = eq-eqb (item_count items) pages (omega arith) in
    c.tables_of.ensures.read ∙ rw same (sym (bind-ok (each_of table_rule items)))
