use Rattle.std.proofs.Common.{rules, ◌≡◌, ◌∙◌, ◌++◌, ℤ, SFits, [], ap, codes, w8, w16}
use Rattle.std.specs.Fmt.{signed_decimal}
use Rattle.std.proofs.lemmas.Int.{to_z-of_z}
use Rattle.pmb_profile_text.proofs.Texts.{then}
use Rattle.pmb_profile_text.specs.Words.{direct_name}
use Rattle.pmb_profile_text.proofs.words.direct_word.Goals as goal

-- the name, and then m, b and R, with a comma between two
pub returns-clause-word : goal.returns-clause-word
returns-clause-word c =
    let d = c.args.direct.now in
    let t0 = c.word_of-word.result.items in
    let t1 = c.append_number.new.row.items in
    let t2 = c.append.new.row.items in
    let t3 = c.append_number-2.new.row.items in
    let t4 = c.append-2.new.row.items in
    let t5 = c.append_number-3.new.row.items in
    let m_fits : SFits w16 c.m.result = search rules in
    let b_fits : SFits w16 c.b.result = search rules in
    let r_fits : SFits w8 c.r.result = search rules in
    let e0 : t0 ≡ direct_name d.unsigned = c.word_of-word.ensures.word ∙ c.direct_name.ensures.name in
    let e1 : t1 ≡ t0 ++ signed_decimal d.m = c.append_number.ensures.text
    ∙ ap (λ (z : ℤ). t0 ++ signed_decimal z) (to_z-of_z w16 c.m.result m_fits ∙ c.m.ensures.value) in
    let e2 : t2 ≡ t1 ++ codes "," = c.append.ensures in
    let e3 : t3 ≡ t2 ++ signed_decimal d.b = c.append_number-2.ensures.text
    ∙ ap (λ (z : ℤ). t2 ++ signed_decimal z) (to_z-of_z w16 c.b.result b_fits ∙ c.b.ensures.value) in
    let e4 : t4 ≡ t3 ++ codes "," = c.append-2.ensures in
    let e5 : t5 ≡ t4 ++ signed_decimal d.r = c.append_number-3.ensures.text
    ∙ ap (λ (z : ℤ). t4 ++ signed_decimal z) (to_z-of_z w8 c.r.result r_fits ∙ c.r.ensures.value) in
    then [] t0 t5 _ _ e0
    (then t0 t1 t5 _ _ e1
    (then t1 t2 t5 _ _ e2
    (then t2 t3 t5 _ _ e3 (then t3 t4 t5 _ _ e4 e5))))
