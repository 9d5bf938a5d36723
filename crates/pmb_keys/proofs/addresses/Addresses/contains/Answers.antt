use Rattle.std.proofs.Common.{◌∙◌, ap, nat_eq}
use Rattle.std.specs.List.{list_any}
use Rattle.std.proofs.lemmas.Bool.{le-ltb}
use Rattle.pmb_keys.proofs.AddressFlags.{is_marked, past_is_not}
use Rattle.pmb_keys.proofs.addresses.Addresses.contains.Goals as goal

pub returns-then-address-lt-ADDRESSES : goal.returns-then-address-lt-ADDRESSES
returns-then-address-lt-ADDRESSES c =
    is_marked c.self.inside.flags c.args.address c.if-address-lt-ADDRESSES.true
    ∙ ap (list_any (nat_eq c.args.address)) c.self.view_is

pub returns-else-address-lt-ADDRESSES : goal.returns-else-address-lt-ADDRESSES
returns-else-address-lt-ADDRESSES c =
    le-ltb c.args.address 128 c.if-address-lt-ADDRESSES.false
    ∙ past_is_not c.self.inside.flags c.args.address c.if-address-lt-ADDRESSES.false
    ∙ ap (list_any (nat_eq c.args.address)) c.self.view_is
