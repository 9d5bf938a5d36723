-- `into_box` has std put the box together from the two fields: a struct that owns what a box does has all that is
-- asked.
use Rattle.pmb_handle.proofs.Steps.{◌≡◌, List, [], ◌∷◌, refl, proved, Ptr-Good, ghosts, full_share, id⊢, ftrue}
use Rattle.pmb_handle.proofs.Steps.{flft, a_type, dcons, dnil, inst_fn, Val, fact, tables, ◌⊑◌, sub, whole, ‵, raw}
use Rattle.pmb_handle.proofs.Steps.{◌⊛◌, some, later, at_ret, ◌$◌, ◌∵◌, !, qed, done, move, drop, use1, use2, split}
use Rattle.pmb_handle.proofs.Steps.{split3}
use Rattle.pmb_handle.proofs.Steps.{join, fsplit, fjoin, feq_i, pick, await, suffices, enter, stop, fld, of_opd}
use Rattle.pmb_handle.proofs.Steps.{no_more, and_then, first, blocks, exec, returns, alloc_all, pass_all, free_all}
use Rattle.pmb_handle.proofs.Steps.{look_at, get, get_in}
use Rattle.pmb_handle.proofs.Steps.{sets, lands_last, env, no, Is, shows, ptr_val, param, bounded, param_laws, plain}
use Rattle.pmb_handle.proofs.Steps.{nothing, heard, peeks, calls_at_last, Lasts, lasts, triple_of, framed, Stays}
use Rattle.pmb_handle.proofs.Steps.{walk_of, says, stay_dropped, Goes-dropped, ends_at}
use Rattle.std.proofs.VecSteps.Shapes.{after}
use Rattle.std.proofs.alloc.Global.TheLaws as heap_laws
use Rattle.std.specs.Box.Ownership.{box_owns}
use Rattle.std.specs.contracts.boxed.Box as box
use Rattle.std.proofs.boxed.Box.TheLaws as box_laws
use Rattle.std.specs.contracts.impls.GlobalAllocator.TheImpl as global
use Rattle.std.proofs.impls.GlobalAllocator.TheImpl.Met as global_meets
use Rattle.std.specs.contracts.boxed.Box.from_raw as g
use Rattle.std.proofs.boxed.Box.from_raw.Met.{met}
use Rattle.pmb_handle.proofs.Holds.{longer, shorter, asks, Z, Heap, heap_row_laws, gone, lets_go, heap_val, heap_good}
use Rattle.pmb_handle.proofs.Holds.{word, word_good, heap_is, heap_in}
use Rattle.pmb_handle.specs.contracts.parts.Parts as parts
use Rattle.pmb_handle.proofs.parts.Parts.TheLaws as parts_laws
use Rattle.pmb_handle.specs.contracts.parts.Parts.into_box as f
use Rattle.pmb_handle.proofs.parts.Parts.into_box.Statement.{statement}
use Rattle.pmb_handle.proofs.parts.Parts.into_box.Code as code

pub into_box_spec : {M : Type 1} → statement M
into_box_spec {M} 𝓤 𝓛 𝓜 𝓡 wired T L dx drops =
    let En = f.ended T dx in let c = f.clauses T dx 𝓛 𝓜.mem 𝓡.returns in
    let given = bounded (a_type ∷ []) (T, tt) (dcons dx dnil) in
    let 𝓣 = tables 𝓤 𝓛.H 𝓜 𝓡 𝓡.env in let fn = inst_fn given code.function in
    let R = param 0 T in let RL = param_laws 0 T L in
    let Apart = parts.the_row R in let Boxed = box.the_row R Z ghosts in
    let told = parts_laws.lowers R RL in
    let typed = ((box_laws.the_row_laws R Z ghosts RL heap_laws.the_row_laws).lawful 𝓛).typed in
    let stayed : Stays En.signature.params En.kept = (stay_dropped (plain (λ _. Apart)) no, tt) in
    let W = walk_of 𝓛 En stayed c in
    -- the callee at the heap's allocator, and what its bounds ask
    let Ends = g.ended T Heap ghosts global.dict gone in
    let G = triple_of 𝓛 (g.signature T Heap ghosts global.dict gone)
    (g.spec T Heap ghosts global.dict gone 𝓛 𝓜.mem 𝓡.returns) in
    let allocates = global_meets.passed 𝓡.env (code.calls-std_heap::GlobalAllocator::allocate 𝓡.env wired)
    (code.calls-std_heap::GlobalAllocator::deallocate 𝓡.env wired)
    (code.calls-std_heap::GlobalAllocator::grow 𝓡.env wired)
    (code.calls-std_heap::GlobalAllocator::shrink 𝓡.env wired) M 𝓤 𝓛 𝓜 𝓡 in
    let goes = lets_go 𝓡.env (code.calls-pmb_handle::Destruct++none::drop 𝓡.env wired) M 𝓤 𝓛 𝓜 𝓡 in
    let together = met 𝓤 𝓛 𝓜 𝓡 (code.calls-std_alloc::boxed::Box::from_raw 𝓡.env wired)
    T Heap L heap_row_laws ghosts global.dict gone allocates goes in
    proved 𝓛 En stayed c 𝓜 𝓡 (Goes-dropped 𝓛 1 (plain (λ _. Apart)) no (λ κs x w. refl), tt)
    (f.Key.name given) fn (code.unfolded 𝓤 𝓛.H 𝓜 𝓡 wired (T, tt) dx)
    (λ κs. ((λ p. told.lowered p ∷ []), tt)) (λ κs. (told.val_is, tt)) (λ κs qs bounds a _ are.
    let p = a.0 in let h = p.alloc in let v = word p.ptr h in
    let y : W.Ghost = ((κs, qs, bounds, a, (v ∷ [], tt)), tt) in
    let z : G.Ghost = (
      (
        (κs.0, ([], tt)),
        (qs.0, (full_share, tt)),
        tt,
        (h, (p.ptr, tt)),
        (heap_val h ∷ [], (ptr_val p.ptr ∷ [], tt)),
      ),
      p.value,
    ) in
    qed 𝓛 (((‵ (flft κs.0 qs.0) ⊛ ‵ ftrue) ⊛ ‵ (Apart.own_val p (v ∷ [])) ⊛ ‵ ftrue)
    ∷ (raw (fact 𝓤 (κs.0 ⊑ T.lives)) ⊛ ‵ ftrue) ∷ []) ∵
    split ! $ move ! (1 ∷ []) $ split ! $ fsplit ! $ drop ! $
    -- [what a box owns; nothing; the token; the bound]
    move ! (3 ∷ 0 ∷ []) $ asks ! (κs.0 ⊑ T.lives) (‵ (box_owns (ghosts.dealloc_token h) R p.ptr p.value)) $
    move ! (1 ∷ []) $
    feq_i ! (List Val) (ptr_val p.ptr ∷ []) (ptr_val p.ptr ∷ []) refl $ fjoin ! $
    heap_in ! h (heap_is p.ptr h (v ∷ []) are.0.0) $ fjoin ! $
    move ! (2 ∷ []) $ longer ! κs.0 qs.0 $ join ! $ use2 𝓛 (raw (G.pre z)) (id⊢ 𝓤 _) $
    enter ! _ _ _ _ _ $ alloc_all ! (λ l. pass_all ! refl (word_good p.ptr h, tt) $ let Ev = env fn.locals l in
    sets ! (of_opd ! (get_in ! (fld ! refl (stop !)) (sub ! 0 refl (whole !)))) refl (Ptr-Good p.ptr) $
    sets ! (of_opd ! (get_in ! (fld ! refl (stop !)) (sub ! 1 refl (whole !)))) refl (heap_good h) $
    first ! $ blocks ! $
    calls_at_last ! (framed 𝓤 𝓛.H 𝓜 𝓣) G together z
    (and_then ! (get ! refl) (and_then ! (get ! refl) (no_more !))) (λ u.
    use1 𝓛 (later (some (λ (r : Boxed.Denot).
    ((‵ (flft κs.0 qs.0) ⊛ ‵ (flft [] full_share) ⊛ ‵ ftrue) ⊛ ‵ (Boxed.own_val r (u ∷ []))) ⊛
    some (λ (ws : Lasts Ends z.0.0 z.0.3). ‵ (lasts Ends z.0.0 z.0.3 ws) ⊛
    (raw (fact 𝓤 (r.value ≡ p.value)) ⊛ raw (fact 𝓤 (r.alloc ≡ h))))))) (id⊢ 𝓤 _) $
    await ! tt $ pick ! (λ r. split ! $ move ! (1 ∷ []) $ pick ! (λ ws. split3 ! $
    drop ! $ heard ! (r.value ≡ p.value) (λ same. drop ! $ split ! $ move ! (1 ∷ []) $
    -- [the box; the tokens]
    peeks ! Boxed (Is Boxed) (shows 𝓛 Boxed) r (u ∷ []) (λ is. let good = (typed r (u ∷ []) is).0 in
    lands_last ! refl good $ exec ! 𝓣.C 𝓣.Λ Ev (after 3 fn.body) (at_ret Ev (W.post y)) $
    sets ! (of_opd ! (get ! refl)) refl good $ returns ! (look_at ! 0 refl) $ free_all ! refl $
    suffices ! _ (ends_at 𝓛 En stayed c y u r (tt, tt) (tt, tt)) $ says ! same $
    move ! (1 ∷ []) $ shorter ! κs.0 qs.0 $ nothing ! $ nothing ! $ join ! $ move ! (1 ∷ 0 ∷ []) $ done !)))))))
