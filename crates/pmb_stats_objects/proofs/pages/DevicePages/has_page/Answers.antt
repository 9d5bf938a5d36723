use Rattle.std.proofs.Common.{◌∙◌, ◌||◌, Bool, ap, sym}
use Rattle.pmb_observed.specs.Observing.{observations}
use Rattle.pmb_observed.specs.Told.{page_bits, page_numbers}
use Rattle.pmb_stats_objects.specs.machine.Written.{has_any}
use Rattle.pmb_stats_objects.proofs.Putting.{any_on_page}
use Rattle.pmb_stats_objects.proofs.pages.DevicePages.has_page.Goals as goal

pub returns-then-has_bits : goal.returns-then-has_bits
returns-then-has_bits c = λ setting facts stands.
    let told = observations setting facts in
    let bits = page_bits setting.profile told c.args.self.now.addr c.args.page in
    let numbers = page_numbers setting.profile told c.args.self.now.addr c.args.page in
    c.if-has_bits.true
    ∙ sym (any_on_page c.args.self.now.digits c.args.page bits numbers
    ∙ ap (λ (any : Bool). any || has_any numbers)
    (sym (c.has_bits.ensures setting facts stands) ∙ c.if-has_bits.true))

pub returns-else-has_bits : goal.returns-else-has_bits
returns-else-has_bits c = λ setting facts stands.
    let told = observations setting facts in
    let bits = page_bits setting.profile told c.args.self.now.addr c.args.page in
    let numbers = page_numbers setting.profile told c.args.self.now.addr c.args.page in
    c.has_numbers.ensures setting facts stands
    ∙ sym (any_on_page c.args.self.now.digits c.args.page bits numbers
    ∙ ap (λ (any : Bool). any || has_any numbers)
    (sym (c.has_bits.ensures setting facts stands) ∙ c.if-has_bits.false))
