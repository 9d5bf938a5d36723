use Rattle.std.proofs.Common.{◌≡◌, ◌∙◌, ◌++◌, List, ℕ, Option, [], ap, codes, decimal, length}
use Rattle.pmb_coefficients.specs.Coefficients.{Coefficients}
use Rattle.pmb_profile_text.specs.Table.{also_line, field, phases_line, protect_line, vid_lines}
use Rattle.pmb_profile_text.specs.Words.{vout_direct_word}
use Rattle.pmb_profile_text.proofs.Texts.{then}
use Rattle.pmb_profile_text.proofs.device_head.device_end.Goals as goal

pub returns : goal.returns
returns c =
    let device = c.args.device.now in
    let t0 = c.append_field.new.head.items in
    let t1 = c.append_vid.new.lines.items in
    let t2 = c.append_phases.new.end.items in
    let t3 = c.append_protect.new.end.items in
    let t4 = c.append_also.new.row.items in
    let t5 = c.append_count.new.head.items in
    let vout_direct = c.as_slice.ensures.value
    ∙ (c.vout_direct_word-vout_direct.ensures.word
    ∙ ap (λ (d : Option Coefficients). vout_direct_word d) c.vout_direct.ensures) in
    let e0 : t0 ≡ field (codes "vout_direct") (vout_direct_word device.vout_direct) = c.append_field.ensures.text
    ∙ (ap (λ (t : List ℕ). t ++ field (codes "vout_direct") c.as_slice.result.now) c.new-end.ensures
    ∙ ap (field (codes "vout_direct")) vout_direct) in
    let e1 : t1 ≡ t0 ++ vid_lines device.vid = c.append_vid.ensures.text in
    let e2 : t2 ≡ t1 ++ phases_line device.phases = c.append_phases.ensures.text in
    let e3 : t3 ≡ t2 ++ protect_line device.protect = c.append_protect.ensures.text in
    let addresses = c.as_slice-2.ensures.value ∙ c.addresses.ensures ∙ c.also.ensures in
    let e4 : t4 ≡ t3 ++ also_line device.also = c.append_also.ensures.text
    ∙ ap (λ (xs : List ℕ). t3 ++ also_line xs) addresses in
    let e5 : t5 ≡ t4 ++ field (codes "commands") (decimal (length device.commands)) = c.append_count.ensures.text
    ∙ ap (λ (n : ℕ). t4 ++ field (codes "commands") (decimal n)) c.len.ensures.len in
    then [] t0 t5 _ _ e0 (then t0 t1 t5 _ _ e1 (then t1 t2 t5 _ _ e2 (then t2 t3 t5 _ _ e3 (then t3 t4 t5 _ _ e4 e5))))
