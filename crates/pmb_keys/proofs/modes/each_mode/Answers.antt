use Rattle.std.proofs.Common.{◌≡◌, ◌∙◌, ap, arith, false, true, Ok, nat_eq, sym}
use Rattle.std.proofs.lemmas.Bool.{eq-eqb, ne_eqb}
use Rattle.toml.specs.View.{items_view}
use Rattle.pmb_keys.specs.declared.fault.FaultKind.TheVariants.{BadValue}
use Rattle.pmb_keys.specs.CommandRules.{byte_rule}
use Rattle.pmb_keys.specs.Rules.{bind, each_of, item_count, unless}
use Rattle.pmb_keys.proofs.Arrays.{bind-ok, item_count-view, refused}
use Rattle.pmb_keys.proofs.modes.each_mode.Goals as goal

-- the fault of the number of items, where each is a byte
pub returns-then-items-from-clause-read : goal.returns-then-items-from-clause-read
returns-then-items-from-clause-read c =
    let items = items_view c.args.items.now in
    let pages = c.args.pages in
    let count = item_count-view c.args.items.now in
    let other : nat_eq (item_count items) pages ≡ false = ne_eqb (item_count items) pages (λ same. omega arith) in
    λ d. refused (each_of byte_rule items)
    (λ modes. bind (unless BadValue (nat_eq (item_count items) pages)) (λ _. Ok modes)) BadValue
    (sym c.in_ok-check_bytes.ensures) (λ modes. ap (λ b. bind (unless BadValue b) (λ _. Ok modes)) other)

pub returns-clause-read : goal.returns-clause-read
returns-clause-read c =
    let items = items_view c.args.items.now in
    let pages = c.args.pages in
    let count = item_count-view c.args.items.now in
    let same : nat_eq (item_count items) pages ≡ true = eq-eqb (item_count items) pages (omega arith) in
    λ d. c.bytes_of.ensures.read ∙ rw same (sym (bind-ok (each_of byte_rule items)))
