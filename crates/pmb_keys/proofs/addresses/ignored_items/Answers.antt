use Rattle.std.proofs.Common.{◌≤◌, ◌∙◌, Ok, replicate, false, ap, arith, length, sym}
use Rattle.std.proofs.lemmas.List.{at_drop_all}
use Rattle.toml.specs.View.{items_view}
use Rattle.pmb_keys.specs.Addresses.{addresses_among, listed_address}
use Rattle.pmb_keys.specs.Rules.{bind, each_of}
use Rattle.pmb_keys.specs.machine.Addresses.{marked, marking}
use Rattle.pmb_keys.proofs.Arrays.{bind-same}
use Rattle.pmb_keys.proofs.AddressFlags.{marked_all}
use Rattle.pmb_keys.proofs.addresses.ignored_items.Goals as goal

-- no items are left, and the flags of all are those of the addresses among them
pub returns : goal.returns
returns c =
    let items = c.args.items.now in
    let i = c.loop-item.item-index in
    let past : length items ≤ i = omega arith in
    let ended = at_drop_all (λ vs. bind (each_of listed_address (items_view vs))
    (λ rest. Ok (marked (marking c.loop-item.flags rest)))) items i past in
    sym ended ∙ c.loop-item.invariant.read
    ∙ bind-same (each_of listed_address (items_view items))
    (λ numbers. Ok (marked (marking (replicate 128 false) numbers))) (λ numbers. Ok (addresses_among numbers))
    (λ numbers. ap (λ addresses. Ok addresses) (marked_all numbers))
