use Rattle.std.proofs.Common.{◌≡◌, ℕ, List, Some, map, subst, sym, ◌∙◌}
use Rattle.std.proofs.lemmas.Result.{IfOk-at_ok}
use Rattle.toml.specs.View.{view}
use Rattle.pmb_command.specs.Parts.{IsNew, all_same, command_with, has_one_mode}
use Rattle.pmb_command.specs.Protection.{begins_protected, can_protect}
use Rattle.pmb_keys.specs.Addresses.{named_address}
use Rattle.pmb_keys.specs.DeviceKeysView.{keys_parts}
use Rattle.pmb_keys.specs.machine.Addresses.{AreAmong}
use Rattle.pmb_keys.proofs.Named.{AreNamed, if_read}
use Rattle.pmb_table.proofs.Accepted.{commands_of, go_together, holds_where, items_of, of_part}
use Rattle.pmb_table.proofs.device_reader.read_device.Goals as goal

pub device_from-requires : goal.device_from-requires
device_from-requires c = λ together.
    let commands = c.in-Ok-commands_of.commands in
    let fit = go_together (keys_parts c.in-Ok.keys) commands together in
    record {
      address = c.in-Ok.ensures.address;
      some_page = c.in-Ok.ensures.pages.0;
      few_pages = c.in-Ok.ensures.pages.1;
      name = c.in-Ok.ensures.name;
      mode_of_each = c.in-Ok.ensures.mode_of_each;
      bytes = rw c.as_slice-2.ensures.value at c.are_bytes.ensures;
      one_mode = holds_where (has_one_mode commands) (all_same c.in-Ok.keys.modes.items) fit.modes;
      tables = c.in-Ok.ensures.tables;
      phases = c.in-Ok.ensures.phases;
      own_codes = c.in-Ok-commands_of.ensures.own_codes;
      commands = commands_of c.in-Ok.keys.pages c.in-Ok-commands_of.commands c.in-Ok-commands_of.ensures.accepted;
      items = items_of c.in-Ok.keys.pages c.in-Ok-commands_of.commands c.in-Ok-commands_of.ensures.accepted;
      protection = holds_where c.in-Ok.keys.protect (can_protect (command_with 0x10 commands)) fit.protection;
      first_protection = holds_where c.in-Ok.keys.protect (begins_protected (command_with 0x10 commands)) fit.first_protection;
    }

-- the address is that of the keys, which no device before has
pub returns-clause-own_address : goal.returns-clause-own_address
returns-clause-own_address c =
    let before = c.args.before.now in
    of_part (λ d. d.address) (λ (a : ℕ). IsNew a (map (λ x. x.address) before)) c.in-Ok.keys.address c.device_from.result
    c.device_from.ensures.address
    (subst (IsNew c.in-Ok.keys.address) (c.as_slice.ensures.value ∙ c.addresses_of-addresses.ensures)
    c.in-Ok.ensures.own_address)

-- and which is not ignored
pub returns-clause-not_ignored : goal.returns-clause-not_ignored
returns-clause-not_ignored c =
    of_part (λ d. d.address) (λ (a : ℕ). IsNew a c.args.ignored.now) c.in-Ok.keys.address c.device_from.result
    c.device_from.ensures.address c.in-Ok.ensures.not_ignored

-- the value's table names it
pub returns-clause-named : goal.returns-clause-named
returns-clause-named c =
    let d = view c.args.value.now in
    let are : AreNamed c.args.named.now d (keys_parts c.in-Ok.keys) =
    IfOk-at_ok (AreNamed c.args.named.now d) (sym c.in-Ok.ensures.read)
    (if_read c.as_slice.result.now c.args.ignored.now c.args.named.now d) in
    of_part (λ x. x.address) (λ (a : ℕ). named_address d ≡ Some a) c.in-Ok.keys.address c.device_from.result
    c.device_from.ensures.address are.own

-- and tables name the others
pub returns-clause-also : goal.returns-clause-also
returns-clause-also c =
    let d = view c.args.value.now in
    let are : AreNamed c.args.named.now d (keys_parts c.in-Ok.keys) =
    IfOk-at_ok (AreNamed c.args.named.now d) (sym c.in-Ok.ensures.read)
    (if_read c.as_slice.result.now c.args.ignored.now c.args.named.now d) in
    of_part (λ x. x.also) (λ (addresses : List ℕ). AreAmong c.args.named.now addresses) c.in-Ok.keys.also
    c.device_from.result c.device_from.ensures.also are.also
