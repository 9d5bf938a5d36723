use Rattle.std.proofs.Common.{◌≡◌, ◌-◌, List, map, ℕ, refl, sym, ap, subst, ◌∙◌}
use Rattle.std.specs.List.{slice_get}
use Rattle.std.proofs.lemmas.Option.{slice_get_read}
use Rattle.pmb_transaction.specs.declared.part.Part.{Part}
use Rattle.pmb_transaction.specs.Transaction.{Write, part_data, transaction_data}
use Rattle.pmb_host.specs.Signals.{leg_form, legs_of}
use Rattle.pmb_host.specs.machine.Standing.{AreAddresses}
use Rattle.pmb_host.proofs.Parts.{part_leg, small_address}
use Rattle.pmb_host.proofs.host.Host.leg_under_way.Goals as goal

pub returns-in_ok-part-in-Write-clause-bytes : goal.returns-in_ok-part-in-Write-clause-bytes
returns-in_ok-part-in-Write-clause-bytes c = λ small one form.
    let part = c.in_ok-part-in-Write.part.now in
    let lookup = c.in_ok-part-in-Write.ensures.lookup in
    let index = c.in_ok-checked_sub-in-Write.field-0 in
    let profile = c.args.self.now.profile.now in
    let place : index ≡ c.args.self.now.leg - 1 = c.in_ok-checked_sub-in-Write.ensures.1
    ∙ ap (λ (n : ℕ). n - 1) c.from.ensures in
    let there = slice_get_read c.as_slice.result.now _ index part refl lookup.3.0 lookup.1 in
    let found = ap (λ (parts : List Part). slice_get parts index) (sym c.as_slice.ensures.value) ∙ there in
    let task = Write (map part_data c.in-Write.parts.items) in
    let tr : transaction_data c.args.self.now.transaction ≡ task = ap transaction_data c.in-Write.is in
    let addresses = subst AreAddresses tr small in
    let form_is = form ∙ ap (λ t. leg_form profile t (c.args.self.now.leg - 1)) tr
    ∙ ap (λ (n : ℕ). leg_form profile task n) (sym place) in
    part_leg profile c.in-Write.parts.items index part found c.args.self.now.form c.write_address.result
    c.count_of.result c.as_slice-data.result.now form_is
    (c.write_address.ensures.seven_bits (small_address profile c.in-Write.parts.items index part found addresses))
    c.count_of.ensures c.as_slice-data.ensures.value
    ∙ ap (λ (n : ℕ). slice_get (legs_of profile task) n) place
    ∙ ap (λ t. slice_get (legs_of profile t) (c.args.self.now.leg - 1)) (sym tr)
