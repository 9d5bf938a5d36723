-- `closed` stores null beside the handle, and owns nothing.
use Rattle.pmb_handle.proofs.Steps.{[], ◌∷◌, refl, proved, None, ftrue, flft, a_type, inst_fn, fact, ◌⊑◌, agg, ‵, raw}
use Rattle.pmb_handle.proofs.Steps.{◌⊛◌, ◌$◌, ◌∵◌, !, qed, done, move, keep, split, join, fjoin, feq_i, suffices}
use Rattle.pmb_handle.proofs.Steps.{enter, lit, no_more, and_then, returns, alloc_all, pass_all, free_all, look_at}
use Rattle.pmb_handle.proofs.Steps.{get, sets, yes, Ptr, null_ptr, layouts, plain, nothing, Stays, walk_of, says}
use Rattle.pmb_handle.proofs.Steps.{stay_dropped, Goes-dropped, ends_at}
use Rattle.std.proofs.alloc.Global.TheLaws as heap_laws
use Rattle.pmb_handle.proofs.Holds.{Z, heap_val, heap_good, word, word_good, words_in}
use Rattle.pmb_handle.specs.contracts.maybe.Maybe.closed as f
use Rattle.pmb_handle.proofs.maybe.Maybe.closed.Statement.{statement}
use Rattle.pmb_handle.proofs.maybe.Maybe.closed.Code as code

pub closed_spec : {M : Type 1} → statement M
closed_spec 𝓤 𝓛 𝓜 𝓡 wired T L =
    let En = f.ended T in let c = f.clauses T 𝓛 𝓜.mem 𝓡.returns in
    let given = layouts (a_type ∷ []) (T, tt) in
    let stayed : Stays En.signature.params En.kept = (stay_dropped (plain (λ _. Z)) yes, tt) in
    let W = walk_of 𝓛 En stayed c in
    proved 𝓛 En stayed c 𝓜 𝓡 (Goes-dropped 𝓛 1 (plain (λ _. Z)) yes (λ κs x w. refl), tt)
    (f.Key.name given) (inst_fn given code.function) (code.unfolded 𝓤 𝓛.H 𝓜 𝓡 wired (T, tt))
    (λ κs. ((λ a. heap_val a ∷ []), tt)) (λ κs. (heap_laws.lowers.val_is, tt)) (λ κs qs bounds a _ are.
    let v = word null_ptr a.0 in let y : W.Ghost = ((κs, qs, bounds, a, (heap_val a.0 ∷ [], tt)), tt) in
    qed 𝓛 (((‵ (flft κs.0 qs.0) ⊛ ‵ ftrue) ⊛ ‵ (Z.own_val a.0 (heap_val a.0 ∷ [])) ⊛ ‵ ftrue)
    ∷ (raw (fact 𝓤 (κs.0 ⊑ T.lives)) ⊛ ‵ ftrue) ∷ []) ∵
    split ! $ keep ! (0 ∷ []) $
    -- [the token]
    enter ! _ _ _ _ _ $ alloc_all ! (λ l. pass_all ! refl (heap_good a.0, tt) $
    sets ! (agg ! (and_then ! (lit ! tt) (and_then ! (get ! refl) (no_more !)))) refl (word_good null_ptr a.0) $
    returns ! (look_at ! 0 refl) $ free_all ! refl $
    suffices ! _ (ends_at 𝓛 En stayed c y v (record { at = null_ptr; alloc = a.0; held = None }) (tt, tt) (tt, tt)) $
    says ! refl $
    feq_i ! Ptr null_ptr null_ptr refl $ words_in ! null_ptr a.0 are.0 $ fjoin ! $
    nothing ! $ nothing ! $ join ! $ move ! (2 ∷ []) $ done !))
