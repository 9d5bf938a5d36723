-- `of` has the box taken apart; what that gives is what the struct owns.
use Rattle.pmb_handle.proofs.Steps.{◌≡◌, [], ◌∷◌, refl, ap, proved, Ptr-Good, Global, ghosts, full_share, id⊢}
use Rattle.pmb_handle.proofs.Steps.{ftrue, flft, a_type, dcons, dnil, inst_fn, fact, tables, ◌⊑◌, agg, sub, whole, ‵}
use Rattle.pmb_handle.proofs.Steps.{raw, ◌⊛◌, some, later, ◌$◌, ◌∵◌, !, qed, done, move, drop, use1, use2, split}
use Rattle.pmb_handle.proofs.Steps.{split3, join, fjoin, pick, await, rewrite, suffices, enter, stop, fld, of_opd}
use Rattle.pmb_handle.proofs.Steps.{no_more, and_then, returns, alloc_all, pass_all, free_all, look_at, get, get_in}
use Rattle.pmb_handle.proofs.Steps.{sets, lands_as, no, Is, shows, Ptr, param, bounded, param_laws, plain, nothing}
use Rattle.pmb_handle.proofs.Steps.{peeks, only, calls_at, Lasts, lasts, triple_of, framed, Stays, walk_of, says}
use Rattle.pmb_handle.proofs.Steps.{stay_dropped, Goes-dropped, ends_at}
use denote.Builtin.{RawPtr}
use denote.Struct.Tuple.{Tuple}
use Rattle.std.proofs.alloc.Global.TheLaws as heap_laws
use Rattle.std.specs.contracts.boxed.Box as box
use Rattle.std.proofs.boxed.Box.TheLaws as box_laws
use Rattle.std.specs.contracts.impls.GlobalAllocator.TheImpl as global
use Rattle.std.proofs.impls.GlobalAllocator.TheImpl.Met as global_meets
use Rattle.std.specs.contracts.boxed.Box.into_raw_with_allocator as g
use Rattle.std.proofs.boxed.Box.into_raw_with_allocator.Met.{met}
use Rattle.std.specs.Box.Ownership.{box_owns}
use Rattle.pmb_handle.proofs.Holds.{longer, shorter, asks, Z, Heap, heap_row_laws, gone, lets_go, heap_good, word}
use Rattle.pmb_handle.proofs.Holds.{word_good, word_is}
use Rattle.pmb_handle.specs.contracts.parts.Parts.of as f
use Rattle.pmb_handle.proofs.parts.Parts.of.Statement.{statement}
use Rattle.pmb_handle.proofs.parts.Parts.of.Code as code

pub of_spec : {M : Type 1} → statement M
of_spec {M} 𝓤 𝓛 𝓜 𝓡 wired T L dx drops =
    let En = f.ended T dx in let c = f.clauses T dx 𝓛 𝓜.mem 𝓡.returns in
    let given = bounded (a_type ∷ []) (T, tt) (dcons dx dnil) in
    let R = param 0 T in let RL = param_laws 0 T L in let Boxed = box.the_row R Z ghosts in
    let told = box_laws.lowers R Z ghosts RL heap_laws.the_row_laws heap_laws.the_told in
    let typed = ((box_laws.the_row_laws R Z ghosts RL heap_laws.the_row_laws).lawful 𝓛).typed in
    let stayed : Stays En.signature.params En.kept = (stay_dropped (plain (λ _. Boxed)) no, tt) in
    let W = walk_of 𝓛 En stayed c in
    -- the callee at the heap's allocator, and what its bounds ask
    let Ends = g.ended T Heap ghosts global.dict gone dx in
    let G = triple_of 𝓛 (g.signature T Heap ghosts global.dict gone dx)
    (g.spec T Heap ghosts global.dict gone dx 𝓛 𝓜.mem 𝓡.returns) in
    let allocates = global_meets.passed 𝓡.env (code.calls-std_heap::GlobalAllocator::allocate 𝓡.env wired)
    (code.calls-std_heap::GlobalAllocator::deallocate 𝓡.env wired)
    (code.calls-std_heap::GlobalAllocator::grow 𝓡.env wired)
    (code.calls-std_heap::GlobalAllocator::shrink 𝓡.env wired) M 𝓤 𝓛 𝓜 𝓡 in
    let goes = lets_go 𝓡.env (code.calls-pmb_handle::Destruct++none::drop 𝓡.env wired) M 𝓤 𝓛 𝓜 𝓡 in
    let apart = met 𝓤 𝓛 𝓜 𝓡 (code.calls-std_alloc::boxed::Box::into_raw_with_allocator 𝓡.env wired)
    T Heap L heap_row_laws ghosts global.dict gone dx allocates goes drops in
    let Pair = Tuple (RawPtr ∷ Z ∷ []) in
    proved 𝓛 En stayed c 𝓜 𝓡 (Goes-dropped 𝓛 1 (plain (λ _. Boxed)) no (λ κs x w. refl), tt)
    (f.Key.name given) (inst_fn given code.function) (code.unfolded 𝓤 𝓛.H 𝓜 𝓡 wired (T, tt) dx)
    (λ κs. ((λ b. told.lowered b ∷ []), tt)) (λ κs. (told.val_is, tt)) (λ κs qs bounds a _ are.
    let b = a.0 in let v = told.lowered b in let y : W.Ghost = ((κs, qs, bounds, a, (v ∷ [], tt)), tt) in
    let z : G.Ghost = (((κs.0, ([], tt)), (qs.0, (full_share, tt)), tt, a, (v ∷ [], tt)), tt) in
    qed 𝓛 (((‵ (flft κs.0 qs.0) ⊛ ‵ ftrue) ⊛ ‵ (Boxed.own_val b (v ∷ [])) ⊛ ‵ ftrue)
    ∷ (raw (fact 𝓤 (κs.0 ⊑ T.lives)) ⊛ ‵ ftrue) ∷ []) ∵
    split ! $ longer ! κs.0 qs.0 $ join ! $
    nothing ! $ move ! (2 ∷ 0 ∷ []) $ asks ! (κs.0 ⊑ T.lives) (‵ ftrue) $
    move ! (1 ∷ 0 ∷ []) $ use2 𝓛 (raw (G.pre z)) (id⊢ 𝓤 _) $
    enter ! _ _ _ _ _ $ alloc_all ! (λ l. pass_all ! refl (typed b (v ∷ []) are.0) $
    sets ! (of_opd ! (get ! refl)) refl (typed b (v ∷ []) are.0).0 $
    calls_at ! (framed 𝓤 𝓛.H 𝓜 (tables 𝓤 𝓛.H 𝓜 𝓡 𝓡.env)) G apart z (and_then ! (get ! refl) (no_more !)) (λ u.
    use1 𝓛 (later (some (λ (r : Ptr × Global).
    ((‵ (flft κs.0 qs.0) ⊛ ‵ (flft [] full_share) ⊛ ‵ ftrue) ⊛ ‵ (Pair.own_val r (u ∷ []))) ⊛
    some (λ (ws : Lasts Ends z.0.0 z.0.3). ‵ (lasts Ends z.0.0 z.0.3 ws) ⊛
    (raw (fact 𝓤 (r.1 ≡ b.alloc)) ⊛ ‵ (box_owns (ghosts.dealloc_token b.alloc) R r.0 b.value)))))) (id⊢ 𝓤 _) $
    await ! tt $ pick ! (λ r. split ! $ move ! (1 ∷ []) $ pick ! (λ ws. split3 ! $
    drop ! $ drop ! $ move ! (1 ∷ []) $ split ! $ move ! (1 ∷ []) $
    -- [the pair; the tokens; what the pointer leads to]
    peeks ! Pair (Is Pair) (shows 𝓛 Pair) r (u ∷ []) (λ is. let e = word_is r.0 r.1 (u ∷ []) is in
    rewrite ! 0 (λ us. ‵ (Pair.own_val r us)) e refl $ move ! (0 ∷ 2 ∷ []) $ fjoin ! $
    -- [the struct; the tokens]
    lands_as ! (ap only e) refl (word_good r.0 r.1) $
    sets ! (of_opd ! (get_in ! (fld ! refl (stop !)) (sub ! 0 refl (whole !)))) refl (Ptr-Good r.0) $
    sets ! (of_opd ! (get_in ! (fld ! refl (stop !)) (sub ! 1 refl (whole !)))) refl (heap_good r.1) $
    sets ! (agg ! (and_then ! (get ! refl) (and_then ! (get ! refl) (no_more !)))) refl (word_good r.0 r.1) $
    returns ! (look_at ! 0 refl) $ free_all ! refl $
    suffices ! _ (ends_at 𝓛 En stayed c y (word r.0 r.1)
    (record { ptr = r.0; alloc = r.1; value = b.value }) (tt, tt) (tt, tt)) $ says ! refl $
    move ! (1 ∷ []) $ shorter ! κs.0 qs.0 $ nothing ! $ nothing ! $ join ! $ move ! (1 ∷ 0 ∷ []) $ done !))))))
