-- `into_box` tests the pointer, and has the box of one that isn't null put together again.
use Rattle.pmb_handle.proofs.Steps.{◌≡◌, List, [], ◌∷◌, refl, ap, sym, lit<, proved, Ptr-Good, Some-of, none_of}
use Rattle.pmb_handle.proofs.Steps.{some_Good, None, Some, ghosts, full_share, id⊢, ftrue, flft, a_type, dcons, dnil}
use Rattle.pmb_handle.proofs.Steps.{inst_fn, Val, vcons, vnil, WpFn, fact, tables, ◌⊑◌, live, agg, sub, whole, ‵, raw}
use Rattle.pmb_handle.proofs.Steps.{◌⊛◌, some, later, prop, at_ret, ◌$◌, ◌∵◌, !, qed, done, move, keep, drop, use0}
use Rattle.pmb_handle.proofs.Steps.{use1, use2, split, split3, join, fsplit, fjoin, feq_i, pick, await, regoal}
use Rattle.pmb_handle.proofs.Steps.{suffices, enter, stop, fld, of_opd, bin, lit, no_more, and_then, first, blocks}
use Rattle.pmb_handle.proofs.Steps.{branches, skips, exec, returns, returns_within, alloc_all, pass_all, free_all}
use Rattle.pmb_handle.proofs.Steps.{look_at, get, get_in, sets, lands_last, env, no, Is, shows, Ptr, block_ptr}
use Rattle.pmb_handle.proofs.Steps.{null_ptr, tests_null, param, bounded, param_laws, plain, nothing, heard, peeks}
use Rattle.pmb_handle.proofs.Steps.{calls_at_last, Lasts, lasts, triple_of, framed, Stays, walk_of, says}
use Rattle.pmb_handle.proofs.Steps.{stay_dropped, Goes-dropped, ends_at}
use mir.Val.{vptr}
use denote.Param.{layout}
use Rattle.std.proofs.Common.{◌∙◌}
use Rattle.std.proofs.alloc.Global.TheLaws as heap_laws
use Rattle.std.proofs.VecSteps.Shapes.{after}
use Rattle.std.specs.contracts.option.Option as option
use Rattle.std.specs.contracts.boxed.Box as box
use Rattle.std.proofs.boxed.Box.TheLaws as box_laws
use Rattle.std.specs.contracts.impls.GlobalAllocator.TheImpl as global
use Rattle.std.proofs.impls.GlobalAllocator.TheImpl.Met as global_meets
use Rattle.std.specs.contracts.boxed.Box.from_raw as g
use Rattle.std.proofs.boxed.Box.from_raw.Met.{met}
use Rattle.pmb_handle.specs.Owned.{handle_owns}
use Rattle.pmb_handle.proofs.Holds.{longer, shorter, asks, Z, Heap, heap_row_laws, gone, lets_go, heap_val, heap_good}
use Rattle.pmb_handle.proofs.Holds.{word, word_good, heap_is, heap_in, either_held}
use Rattle.pmb_handle.specs.contracts.maybe.Maybe as maybe
use Rattle.pmb_handle.proofs.maybe.Maybe.TheLaws as maybe_laws
use Rattle.pmb_handle.specs.contracts.maybe.Maybe.into_box as f
use Rattle.pmb_handle.proofs.maybe.Maybe.into_box.Statement.{statement}
use Rattle.pmb_handle.proofs.maybe.Maybe.into_box.Code as code

pub into_box_spec : {M : Type 1} → statement M
into_box_spec {M} 𝓤 𝓛 𝓜 𝓡 wired T L dx drops =
    let En = f.ended T dx in let c = f.clauses T dx 𝓛 𝓜.mem 𝓡.returns in
    let given = bounded (a_type ∷ []) (T, tt) (dcons dx dnil) in
    let 𝓣 = tables 𝓤 𝓛.H 𝓜 𝓡 𝓡.env in let fn = inst_fn given code.function in
    let R = param 0 T in let RL = param_laws 0 T L in
    let Held = maybe.the_row R in let Boxed = box.the_row R Z ghosts in
    let told = maybe_laws.lowers R RL in
    let typed = ((box_laws.the_row_laws R Z ghosts RL heap_laws.the_row_laws).lawful 𝓛).typed in
    let stayed : Stays En.signature.params En.kept = (stay_dropped (plain (λ _. Held)) no, tt) in
    let W = walk_of 𝓛 En stayed c in
    -- the callee at the heap's allocator, and what its bounds ask
    let Ends = g.ended T Heap ghosts global.dict gone in
    let G = triple_of 𝓛 (g.signature T Heap ghosts global.dict gone)
    (g.spec T Heap ghosts global.dict gone 𝓛 𝓜.mem 𝓡.returns) in
    let allocates = global_meets.passed 𝓡.env (code.calls-std_heap::GlobalAllocator::allocate 𝓡.env wired)
    (code.calls-std_heap::GlobalAllocator::deallocate 𝓡.env wired)
    (code.calls-std_heap::GlobalAllocator::grow 𝓡.env wired)
    (code.calls-std_heap::GlobalAllocator::shrink 𝓡.env wired) M 𝓤 𝓛 𝓜 𝓡 in
    let goes = lets_go 𝓡.env (code.calls-pmb_handle::Destruct++none::drop 𝓡.env wired) M 𝓤 𝓛 𝓜 𝓡 in
    let together = met 𝓤 𝓛 𝓜 𝓡 (code.calls-std_alloc::boxed::Box::from_raw 𝓡.env wired)
    T Heap L heap_row_laws ghosts global.dict gone allocates goes in
    proved 𝓛 En stayed c 𝓜 𝓡 (Goes-dropped 𝓛 1 (plain (λ _. Held)) no (λ κs x w. refl), tt)
    (f.Key.name given) fn (code.unfolded 𝓤 𝓛.H 𝓜 𝓡 wired (T, tt) dx)
    (λ κs. ((λ m. told.lowered m ∷ []), tt)) (λ κs. (told.val_is, tt)) (λ κs qs bounds a _ are.
    let m = a.0 in let h = m.alloc in let v = word m.at h in
    let y : W.Ghost = ((κs, qs, bounds, a, (v ∷ [], tt)), tt) in
    let Runs = λ (p : Ptr). prop (WpFn 𝓤 𝓛.H 𝓣.C 𝓣.Λ fn (word p h ∷ []) (W.post y)) in
    qed 𝓛 (((‵ (flft κs.0 qs.0) ⊛ ‵ ftrue) ⊛ ‵ (Held.own_val m (v ∷ [])) ⊛ ‵ ftrue)
    ∷ (raw (fact 𝓤 (κs.0 ⊑ T.lives)) ⊛ ‵ ftrue) ∷ []) ∵
    split ! $ move ! (1 ∷ []) $ split ! $ fsplit ! $ drop ! $
    -- [what is held; nothing; the token; the bound]
    either_held R h ! m.at m.held
    -- at null
    (λ null none. keep ! (1 ∷ []) $ regoal ! Runs null refl $
    enter ! _ _ _ _ _ $ alloc_all ! (λ l. pass_all ! refl (word_good null_ptr h, tt) $
    sets ! (of_opd ! (get_in ! (fld ! refl (stop !)) (sub ! 0 refl (whole !)))) refl (Ptr-Good null_ptr) $
    sets ! (of_opd ! (get_in ! (fld ! refl (stop !)) (sub ! 1 refl (whole !)))) refl (heap_good h) $
    sets ! (of_opd ! (get ! refl)) refl (Ptr-Good null_ptr) $
    sets ! (bin ! (get ! refl) (lit ! tt) tt) refl (tt, tt) $ first ! $ branches ! (get ! refl)
    (λ _. sets ! (agg ! (and_then ! (lit ! tt) (no_more !))) refl (tt, (record { fits = lit< tt }, tt)) $
    returns_within ! (W.post y) refl (look_at ! 0 refl) $ free_all ! refl $
    suffices ! _ (ends_at 𝓛 En stayed c y (live 0 vnil) None (tt, tt) (tt, tt)) $ says ! (sym none) $
    use0 𝓛 (‵ ((option.the_row Boxed).own_val None (live 0 vnil ∷ []))) (none_of 𝓛 Boxed) $
    nothing ! $ nothing ! $ join ! $ move ! (2 ∷ []) $ done !)
    (λ wrong. absurd wrong)))
    -- in a block
    (λ b n x at full test.
    let z : G.Ghost = (
      (
        (κs.0, ([], tt)),
        (qs.0, (full_share, tt)),
        tt,
        (h, (block_ptr b n, tt)),
        (heap_val h ∷ [], (vptr b n ∷ [], tt)),
      ),
      x,
    ) in
    move ! (3 ∷ 0 ∷ []) $ asks ! (κs.0 ⊑ T.lives) (‵ (handle_owns R h (block_ptr b n) (Some x))) $ move ! (1 ∷ []) $
    feq_i ! (List Val) (vptr b n ∷ []) (vptr b n ∷ []) refl $ fjoin ! $
    heap_in ! h (heap_is m.at h (v ∷ []) are.0.0) $ fjoin ! $
    move ! (2 ∷ []) $ longer ! κs.0 qs.0 $ join ! $ use2 𝓛 (raw (G.pre z)) (id⊢ 𝓤 _) $ regoal ! Runs at refl $
    enter ! _ _ _ _ _ $ alloc_all ! (λ l. pass_all ! refl (word_good (block_ptr b n) h, tt) $
    let Ev = env fn.locals l in
    sets ! (of_opd ! (get_in ! (fld ! refl (stop !)) (sub ! 0 refl (whole !)))) refl (tt, tt) $
    sets ! (of_opd ! (get_in ! (fld ! refl (stop !)) (sub ! 1 refl (whole !)))) refl (heap_good h) $
    sets ! (of_opd ! (get ! refl)) refl (tt, tt) $
    sets ! (bin ! (get ! refl) (lit ! tt) (tests_null (block_ptr b n) test)) refl (tt, tt) $
    first ! $ branches ! (get ! refl) (λ wrong. absurd wrong)
    (λ _. skips ! $ exec ! 𝓣.C 𝓣.Λ Ev (after 5 fn.body) (at_ret Ev (W.post y)) $ first ! $ blocks ! $
    sets ! (of_opd ! (get ! refl)) refl (heap_good h) $ sets ! (of_opd ! (get ! refl)) refl (tt, tt) $
    calls_at_last ! (framed 𝓤 𝓛.H 𝓜 𝓣) G together z
    (and_then ! (get ! refl) (and_then ! (get ! refl) (no_more !))) (λ u.
    use1 𝓛 (later (some (λ (r : Boxed.Denot).
    ((‵ (flft κs.0 qs.0) ⊛ ‵ (flft [] full_share) ⊛ ‵ ftrue) ⊛ ‵ (Boxed.own_val r (u ∷ []))) ⊛
    some (λ (ws : Lasts Ends z.0.0 z.0.3). ‵ (lasts Ends z.0.0 z.0.3 ws) ⊛
    (raw (fact 𝓤 (r.value ≡ x)) ⊛ raw (fact 𝓤 (r.alloc ≡ h))))))) (id⊢ 𝓤 _) $
    await ! tt $ pick ! (λ r. split ! $ move ! (1 ∷ []) $ pick ! (λ ws. split3 ! $
    drop ! $ heard ! (r.value ≡ x) (λ same. drop ! $ split ! $ move ! (1 ∷ []) $
    -- [the box; the tokens]
    peeks ! Boxed (Is Boxed) (shows 𝓛 Boxed) r (u ∷ []) (λ is. let good = (typed r (u ∷ []) is).0 in
    lands_last ! refl good $ exec ! 𝓣.C 𝓣.Λ Ev (after 6 fn.body) (at_ret Ev (W.post y)) $
    sets ! (of_opd ! (get ! refl)) refl good $
    sets ! (agg ! (and_then ! (lit ! tt) (and_then ! (get ! refl) (no_more !)))) refl
    (some_Good (layout Boxed) u good) $
    returns ! (look_at ! 0 refl) $ free_all ! refl $
    suffices ! _ (ends_at 𝓛 En stayed c y (live 1 (vcons u vnil)) (Some r) (tt, tt) (tt, tt)) $
    says ! (ap (λ w. Some w) same ∙ sym full) $
    use1 𝓛 (‵ ((option.the_row Boxed).own_val (Some r) (live 1 (vcons u vnil) ∷ []))) (Some-of 𝓛 Boxed r u) $
    move ! (1 ∷ []) $ shorter ! κs.0 qs.0 $ nothing ! $ nothing ! $ join ! $ move ! (1 ∷ 0 ∷ []) $ done !)))))))))
