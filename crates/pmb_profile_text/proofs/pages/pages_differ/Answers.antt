use Rattle.std.proofs.Common.{◌≡◌, ◌∙◌, ◌<◌, ℕ, ap, arith, bytes_eq, not, refl, sym}
use Rattle.std.specs.List.{list_any, range_with_len}
use Rattle.pmb_registers.specs.State.{first_bytes}
use Rattle.pmb_profile_text.proofs.SomePage.{none_more, some_page}
use Rattle.pmb_profile_text.proofs.pages.pages_differ.Goals as goal

pub loop-page-init : goal.loop-page-init
loop-page-init c = λ command is. refl

pub loop-page-preserved : goal.loop-page-preserved
loop-page-preserved c = λ command is.
    let device = c.args.device.now in
    let form = c.args.form in
    none_more (λ page. not (bytes_eq (first_bytes device page command form) (first_bytes device 0 command form)))
    c.loop-page.page (c.loop-page.invariant command is)
    (sym (c.differs.ensures command is) ∙ c.if-differs.false)

pub returns-then-differs : goal.returns-then-differs
returns-then-differs c = λ command is.
    let device = c.args.device.now in
    let form = c.args.form in
    let within : c.loop-page.page < device.pages = omega (arith, c.loop-page-test.true, c.pages-page-end.ensures) in
    sym (some_page
    (λ page. not (bytes_eq (first_bytes device page command form) (first_bytes device 0 command form)))
    device.pages c.loop-page.page within (sym (c.differs.ensures command is) ∙ c.if-differs.true))

pub returns : goal.returns
returns c = λ command is.
    let device = c.args.device.now in
    let form = c.args.form in
    let all : c.loop-page.page ≡ device.pages =
    omega (arith, c.loop-page-test.false, c.loop-page.auto.page-end, c.pages-page-end.ensures) in
    sym (ap (λ (pages : ℕ). list_any
    (λ page. not (bytes_eq (first_bytes device page command form) (first_bytes device 0 command form)))
    (range_with_len 0 pages)) (sym all) ∙ c.loop-page.invariant command is)
