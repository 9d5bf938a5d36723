use Rattle.std.proofs.Common.{◌≡◌, ◌+◌, ◌*◌, ◌++◌, codes, length, take}
use Rattle.std.specs.List.{flat_map}
use Rattle.pmb_profile_text.specs.Words.{digits}
use Rattle.pmb_profile_text.proofs.addresses.append_others.Given as goal

-- the addresses so far
abbrev pub invariant-loop-address : goal.invariant-loop-address
invariant-loop-address l = record {
  text : l.row.items ≡ l.fn.row.items
      ++ flat_map (λ other. codes " " ++ digits other) (take l.address-index l.addresses);
  len : length l.row.items ≡ length l.fn.row.items + 3 * l.address-index;
}
