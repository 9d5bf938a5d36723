use Rattle.std.proofs.Common.{◌≡◌, ◌∙◌, ◌++◌, List, ℕ, [], ap, codes, decimal}
use Rattle.pmb_command.specs.declared.pec_mode.PecMode.{PecMode}
use Rattle.pmb_profile_text.specs.Table.{address_text, field, name_line}
use Rattle.pmb_profile_text.specs.Words.{pec_word}
use Rattle.pmb_profile_text.proofs.Texts.{then}
use Rattle.pmb_profile_text.proofs.device_head.device_head.Goals as goal

pub returns : goal.returns
returns c =
    let device = c.args.device.now in
    let t0 = c.append.new.row.items in
    let t1 = c.append_count.new.head.items in
    let t2 = c.append_name.new.head.items in
    let t3 = c.append_address.new.head.items in
    let t4 = c.append_field.new.head.items in
    let t5 = c.append_count-2.new.head.items in
    let e0 : t0 ≡ codes "\n" = c.append.ensures ∙ ap (λ (t : List ℕ). t ++ codes "\n") c.new-head.ensures in
    let e1 : t1 ≡ t0 ++ field (codes "device") (decimal c.args.place) = c.append_count.ensures.text in
    let e2 : t2 ≡ t1 ++ name_line device.name = c.append_name.ensures.text in
    let e3 : t3 ≡ t2 ++ field (codes "address") (address_text device.address) = c.append_address.ensures.text
    ∙ ap (λ (a : ℕ). t2 ++ field (codes "address") (address_text a)) c.address.ensures.address in
    let pec = c.pec_word.ensures.word ∙ ap (λ (p : PecMode). pec_word p) c.pec.ensures in
    let e4 : t4 ≡ t3 ++ field (codes "pec") (pec_word device.pec) = c.append_field.ensures.text
    ∙ ap (λ (w : List ℕ). t3 ++ field (codes "pec") w) pec in
    let e5 : t5 ≡ t4 ++ field (codes "pages") (decimal device.pages) = c.append_count-2.ensures.text
    ∙ ap (λ (n : ℕ). t4 ++ field (codes "pages") (decimal n)) c.pages.ensures in
    then [] t0 t5 (codes "\n") _ e0
    (then t0 t1 t5 _ _ e1
    (then t1 t2 t5 _ _ e2
    (then t2 t3 t5 _ _ e3
    (then t3 t4 t5 _ _ e4 e5))))
