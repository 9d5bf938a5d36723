-- `take_apart` puts the two words under the other struct's name: what it owns stays the same.
use Rattle.pmb_handle.proofs.Steps.{[], ◌∷◌, refl, proved, Ptr-Good, ftrue, agg, sub, whole, ‵, ◌⊛◌, ◌$◌, ◌∵◌, !, qed}
use Rattle.pmb_handle.proofs.Steps.{done, move, keep, split, join, suffices, enter, stop, fld, of_opd, no_more}
use Rattle.pmb_handle.proofs.Steps.{and_then, returns, alloc_all, pass_all, free_all, look_at, get, get_in, sets, yes}
use Rattle.pmb_handle.proofs.Steps.{RattleType, plain, nothing, Stays, walk_of, says, stay_dropped, Goes-dropped}
use Rattle.pmb_handle.proofs.Steps.{ends_at}
use Rattle.pmb_handle.proofs.Holds.{word, word_good, heap_good}
use Rattle.pmb_c.specs.contracts.handle.PmbHandle.{the_row as handle_row}
use Rattle.pmb_c.proofs.handle.PmbHandle.TheLaws as handle_laws
use Rattle.pmb_c.specs.contracts.handle.PmbHandle.take_apart as f
use Rattle.pmb_c.proofs.handle.PmbHandle.take_apart.Statement.{statement}
use Rattle.pmb_c.proofs.handle.PmbHandle.take_apart.Code as code

pub take_apart_spec : {M : Type 1} → statement M
take_apart_spec 𝓤 𝓛 𝓜 𝓡 wired =
    let c = f.clauses 𝓛 𝓜.mem 𝓡.returns in let From : RattleType = handle_row in let told = handle_laws.lowers in
    let stayed : Stays f.ended.signature.params f.ended.kept = (stay_dropped (plain (λ _. From)) yes, tt) in
    let W = walk_of 𝓛 f.ended stayed c in
    proved 𝓛 f.ended stayed c 𝓜 𝓡 (Goes-dropped 𝓛 0 (plain (λ _. From)) yes (λ κs x w. refl), tt)
    f.Key.name code.function (code.unfolded 𝓤 𝓛.H 𝓜 𝓡 wired)
    (λ κs. ((λ m. told.lowered m ∷ []), tt)) (λ κs. (told.val_is, tt)) (λ κs qs bounds a _ are.
    let p = a.0.at in let h = a.0.alloc in let v = word p h in
    let y : W.Ghost = ((κs, qs, bounds, a, (v ∷ [], tt)), tt) in
    qed 𝓛 ((‵ ftrue ⊛ ‵ (From.own_val a.0 (v ∷ [])) ⊛ ‵ ftrue) ∷ ‵ ftrue ∷ []) ∵
    split ! $ move ! (1 ∷ []) $ split ! $ keep ! (0 ∷ 2 ∷ []) $
    -- [what is owned; no tokens]
    enter ! _ _ _ _ _ $ alloc_all ! (λ l. pass_all ! refl (word_good p h, tt) $
    sets ! (of_opd ! (get_in ! (fld ! refl (stop !)) (sub ! 0 refl (whole !)))) refl (Ptr-Good p) $
    sets ! (of_opd ! (get_in ! (fld ! refl (stop !)) (sub ! 1 refl (whole !)))) refl (heap_good h) $
    sets ! (of_opd ! (get ! refl)) refl (Ptr-Good p) $
    sets ! (agg ! (and_then ! (get ! refl) (and_then ! (get ! refl) (no_more !)))) refl (word_good p h) $
    returns ! (look_at ! 0 refl) $ free_all ! refl $
    suffices ! _ (ends_at 𝓛 f.ended stayed c y v (record { at = p; alloc = h; held = a.0.held }) (tt, tt) (tt, tt)) $
    says ! refl $
    nothing ! $ nothing ! $ join ! $ move ! (2 ∷ []) $ done !))
