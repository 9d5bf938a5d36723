-- `tie` makes a lifetime, lends the ground for it, and puts what is made on the ground into the seat.
use Rattle.std.proofs.Common.{ℕ, List, [], ◌∷◌, refl, Bor}
use Rattle.std.proofs.raw_atomic.Walks.{proved}
use Rattle.std.proofs.mem.Facts.{says_two}
use base.Fraction.{full_share}
use base.Logic.{id⊢, never, fst∗}
use base.Fml.{Incl-refl, ftrue, flft, flent, fat}
use borrow.Table.OneValue.{part_out_at, part_in_at}
use mir.Raw.{raw as bare}
use mir.Syntax.{static, named}
use mir.Val.{Val, vptr, vstruct, of_list}
use contract.Monad.{fact}
use contract.Running.{tables}
use prog.Wp.{WpFn}
use types.Logic.{sem}
use types.Kit.{‵, raw, ◌⊛◌, some, later, at_ret, prop, ◌$◌, ◌∵◌, !, qed, move, keep, drop, use1, use2, split, split3, join, fsplit, fjoin, fjoin3, fpick, fpack, feq_l, feq_i, pick, await, rewrite, regoal, suffices, done}
use types.Run.{enter, of_opd, addr, stop, fld, no_more, and_then, first, blocks, exec, returns, assigns_last, store_raw}
use types.ByLocal.{alloc_all, pass_all, free_all, look_at, get, get_in, through, sets, sets_last, lands_as, env}
use types.Part.{whole, sub, agg}
use types.Tokens.{lft_new}
use denote.Builtin.{RawPtr}
use denote.Laws.{shows}
use denote.Lend.{lends_shr}
use denote.Memory.{lone, part_at}
use denote.RattleType.{RattleType, Valss}
use denote.RawPtr.{Ptr, block_ptr, null_ptr, lies_at, ptr_val, in_a_block}
use denote.Ref.{ShrRef}
use denote.Signature.{plain}
use denote.Steps.{nothing, peeks, heard}
use denote.Struct.Owning.{shape, to}
use denote.Struct.Struct.{within}
use denote.Triple.Call.{calls_at}
use denote.Triple.Clauses.{lasts, Lasts}
use denote.Triple.Spec.{triple_of}
use denote.Triple.Table.{framed}
use denote.Triple.Walked.{Stays, walk_of, stay_dropped, Goes-dropped, ends_at}
use Rattle.std.specs.Box.Ownership.{box_owns}
use Rattle.std.specs.declared.option.Option.{Option}
use Rattle.std.specs.contracts.alloc.Global as Heap
use Rattle.std.specs.declared.alloc.Global.{Global}
use Rattle.std.proofs.alloc.Global.TheLaws as heap
use Rattle.std.specs.contracts.impls.GlobalAllocator.TheImpl.{ghosts}
use Rattle.pmb_capture_reader.specs.declared.reader.CaptureReader.{CaptureReader}
use Rattle.pmb_capture_reader.specs.declared.reader_ground.ReaderGround.{ReaderGround}
use Rattle.pmb_open_reader.specs.declared.seat.Seat.{Seat}
use Rattle.pmb_capture_reader.specs.contracts.reader_ground.ReaderGround as ground
use Rattle.pmb_capture_reader.proofs.reader_ground.ReaderGround.TheLaws as ground_laws
use Rattle.pmb_handle.specs.contracts.parts.Parts as parts
use Rattle.pmb_handle.proofs.parts.Parts.TheLaws as parts_laws
use Rattle.pmb_open_reader.proofs.seat.Seat.TheLaws as seat_laws
use Rattle.std.specs.Prelude.{IfSome}
use Rattle.pmb_capture_reader.specs.Work.{StandsFresh}
use Rattle.pmb_open_reader.specs.Owned.{seat_at, lives}
use Rattle.pmb_open_reader.specs.contracts.open.OpenReader as T
use Rattle.pmb_open_reader.specs.contracts.open.OpenReader.tie as f
use Rattle.pmb_open_reader.proofs.open.OpenReader.tie.Statement.{statement}
use Rattle.pmb_open_reader.proofs.open.OpenReader.tie.Code as code
use Rattle.pmb_open_reader.specs.contracts.seat.Seat.over as g
use Rattle.pmb_open_reader.proofs.seat.Seat.over.Met.{met}

-- the parts that hold a T
abbrev PartsOf : RattleType → RattleType
PartsOf T = parts.the_row T

abbrev Empty : RattleType
Empty = seat_at []

abbrev word : Ptr → Global → Val
word p h = vstruct (of_list (ptr_val p ∷ heap.lowered h ∷ []))

abbrev stayed : Stays f.ended.signature.params f.ended.kept
stayed = (stay_dropped (plain (λ _. PartsOf ground.the_row)) f.ended.kept.0, (stay_dropped (plain (λ _. PartsOf Empty)) f.ended.kept.1.0, tt))

pub tie_spec : {M : Type 1} → statement M
tie_spec 𝓤 𝓛 𝓜 𝓡 wired =
    let c = f.clauses 𝓛 𝓜.mem 𝓡.returns in let W = walk_of 𝓛 f.ended stayed c in let 𝓣 = tables 𝓤 𝓛.H 𝓜 𝓡 𝓡.env in
    let LO = ground_laws.the_row_laws in let LE = seat_laws.the_row_laws (record { mir = static; lft = [] }) in
    proved 𝓛 f.ended stayed c 𝓜 𝓡 (Goes-dropped 𝓛 0 (plain (λ _. PartsOf ground.the_row)) f.ended.kept.0 (λ κs x w. refl), (Goes-dropped 𝓛 0 (plain (λ _. PartsOf Empty)) f.ended.kept.1.0 (λ κs x w. refl), tt))
    f.Key.name code.function (code.unfolded 𝓤 𝓛.H 𝓜 𝓡 wired)
    (λ κs. ((λ d. word d.ptr d.alloc ∷ []), ((λ d. word d.ptr d.alloc ∷ []), tt)))
    (λ κs. ((λ d us is. (parts_laws.lowers ground.the_row LO).val_is d us is), ((λ d us is. (parts_laws.lowers Empty LE).val_is d us is), tt))) (λ κs qs bounds a _ are.
    let d1 = a.0 in let d2 = a.1.0 in let x : ReaderGround = d1.value in
    let y : W.Ghost = ((κs, qs, bounds, a, (word d1.ptr d1.alloc ∷ [], (word d2.ptr d2.alloc ∷ [], tt))), tt) in
    let Token = λ (h : Global) (R : RattleType) (p : Ptr). ghosts.dealloc_token h (bare (lone R.mir)) p in
    qed 𝓛 ((‵ ftrue ⊛ ‵ ((PartsOf ground.the_row).own_val d1 (word d1.ptr d1.alloc ∷ [])) ⊛ ‵ ((PartsOf Empty).own_val d2 (word d2.ptr d2.alloc ∷ [])) ⊛ ‵ ftrue) ∷ ‵ ftrue ∷ []) ∵
    split ! $ drop ! $ split3 ! $ keep ! (0 ∷ 1 ∷ []) $
    fsplit ! $ fpick ! (λ vs1. fsplit ! $ feq_l ! (λ _. fsplit ! $ drop ! $ fsplit ! $
    peeks ! Heap.the_row _ (shows 𝓛 Heap.the_row) d1.alloc vs1.1.0 (λ i1. rewrite ! 0 (λ (us : List Val). ‵ (Heap.the_row.own_val d1.alloc us)) (heap.lowers.val_is d1.alloc vs1.1.0 i1) refl $
    move ! (3 ∷ []) $ fsplit ! $ fpick ! (λ vs2. fsplit ! $ feq_l ! (λ _. fsplit ! $ drop ! $ fsplit ! $
    peeks ! Heap.the_row _ (shows 𝓛 Heap.the_row) d2.alloc vs2.1.0 (λ i2. rewrite ! 0 (λ (us : List Val). ‵ (Heap.the_row.own_val d2.alloc us)) (heap.lowers.val_is d2.alloc vs2.1.0 i2) refl $
    -- [the seat's handle; true; the seat; the ground's handle; true; the ground]
    move ! (5 ∷ []) $ in_a_block ! d1.ptr (λ p. box_owns (ghosts.dealloc_token d1.alloc) ground.the_row p x) (fst∗ 𝓤 (never 𝓤) (sem 𝓛 (Token d1.alloc ground.the_row null_ptr))) (λ b1 o1 e1. fsplit ! $
    move ! (4 ∷ []) $ in_a_block ! d2.ptr (λ p. box_owns (ghosts.dealloc_token d2.alloc) Empty p d2.value) (fst∗ 𝓤 (never 𝓤) (sem 𝓛 (Token d2.alloc Empty null_ptr))) (λ b2 o2 e2. fsplit ! $
    -- [the seat; the right to free it; the ground; the right to free it; the seat's handle; true; the ground's handle; true]
    keep ! (0 ∷ 1 ∷ 2 ∷ 3 ∷ 4 ∷ 6 ∷ []) $
    let p1 = block_ptr b1 o1 in let p2 = block_ptr b2 o2 in
    regoal ! (λ (p : Ptr). prop (WpFn 𝓤 𝓛.H 𝓣.C 𝓣.Λ code.function (word p d1.alloc ∷ word d2.ptr d2.alloc ∷ []) (W.post y))) e1 refl $
    regoal ! (λ (p : Ptr). prop (WpFn 𝓤 𝓛.H 𝓣.C 𝓣.Λ code.function (word p1 d1.alloc ∷ word p d2.alloc ∷ []) (W.post y))) e2 refl $
    enter ! _ _ _ _ _ $ alloc_all ! (λ l. pass_all ! refl ((tt, (tt, (((tt, tt), tt), tt))), ((tt, (tt, (((tt, tt), tt), tt))), tt)) $
    sets ! (of_opd ! (get_in ! (fld ! refl (stop !)) (sub ! 0 refl (whole !)))) refl (tt, tt) $ sets ! (of_opd ! (get_in ! (fld ! refl (stop !)) (sub ! 1 refl (whole !)))) refl (tt, ((tt, tt), tt)) $
    sets ! (of_opd ! (get_in ! (fld ! refl (stop !)) (sub ! 0 refl (whole !)))) refl (tt, tt) $ sets ! (of_opd ! (get_in ! (fld ! refl (stop !)) (sub ! 1 refl (whole !)))) refl (tt, ((tt, tt), tt)) $
    first ! $ blocks ! $ sets_last ! (addr ! (through ! refl (stop !))) refl (tt, tt) $
    exec ! 𝓣.C 𝓣.Λ (env code.Mir.locals l) code.Mir.t-6 (at_ret (env code.Mir.locals l) (W.post y)) $ sets ! (of_opd ! (get ! refl)) refl (tt, tt) $
    -- the ground is lent for α
    lft_new ! tt (λ α. let κ = α ∷ [] in let Row = seat_at κ in
    let rf : Bor ReaderGround = record { ref_ptr = (b1, o1); now = x } in
    move ! (3 ∷ 0 ∷ []) $ use2 𝓛 (later ((‵ ((ShrRef (named 0) κ ground.the_row).own_val rf (vptr b1 o1 ∷ [])) ⊛ ‵ (flent κ (part_at ground.the_row full_share x b1 o1))) ⊛ ‵ (flft κ full_share)))
    (lends_shr 𝓛 ground.the_row (named 0) κ full_share x b1 o1 ground.the_row.lives (LO.shares 𝓛 x) ((κ, full_share) ∷ []) (ground_laws.the_within κ) (Incl-refl κ)) $ await ! tt $ split ! $ split ! $
    -- [the reference; the right to the ground; α's token; the seat; the right to free it; the ground's; the seat's handle; the ground's]
    let G = triple_of 𝓛 g.signature (g.spec 𝓛 𝓜.mem 𝓡.returns) in
    let z : G.Ghost = (((κ, tt), (full_share, tt), tt, (rf, tt), (vptr b1 o1 ∷ [], tt)), tt) in
    nothing ! $ move ! (1 ∷ 0 ∷ []) $ join ! $ nothing ! $ move ! (3 ∷ 0 ∷ []) $ join ! $ join ! $ nothing ! $ move ! (1 ∷ 0 ∷ []) $ use2 𝓛 (raw (G.pre z)) (id⊢ 𝓤 _) $
    calls_at ! (framed 𝓤 𝓛.H 𝓜 𝓣) G (met 𝓤 𝓛 𝓜 𝓡 (code.calls-pmb_open_reader::seat::Seat::over 𝓡.env wired)) z
    (and_then ! (get ! refl) (no_more !)) (λ v.
    use1 𝓛 (later (some (λ (r : Seat). ((‵ (flft κ full_share) ⊛ ‵ ftrue) ⊛ ‵ (Row.own_val r (v ∷ []))) ⊛
    some (λ (ws : Lasts g.ended z.0.0 z.0.3). ‵ (lasts g.ended z.0.0 z.0.3 ws) ⊛ raw (fact 𝓤 (IfSome r.inner (λ (w : CaptureReader). StandsFresh x w))))))) (id⊢ 𝓤 _) $
    await ! tt $ pick ! (λ r. split ! $ split ! $ split ! $ move ! (3 ∷ []) $ pick ! (λ ws. split ! $ drop ! $ heard ! _ (λ made. let s = r.inner in
    -- [α's token; true; what the new seat owns; the right to the ground; the seat; the right to free it; the ground's; the seat's handle; the ground's]
    move ! (2 ∷ []) $ peeks ! Row _ (shows 𝓛 Row) r (v ∷ []) (λ is_r.
    let good = (((seat_laws.the_row_laws (record { mir = static; lft = κ })).lawful 𝓛).typed r (v ∷ []) is_r).0 in
    lands_as ! refl refl good $
    move ! (4 ∷ []) $ use1 𝓛 (some (λ (u : Val). ‵ (fat full_share (bare (lone Empty.mir)) b2 o2 u) ⊛ ‵ (Empty.own_val d2.value (u ∷ [])))) (part_out_at 𝓛 Empty refl full_share d2.value b2 o2 (bare (lone Empty.mir)) refl) $ pick ! (λ u. split ! $ move ! (1 ∷ []) $ drop ! $
    first ! $ blocks ! $ sets ! (of_opd ! (get ! refl)) refl (tt, tt) $ sets ! (of_opd ! (get ! refl)) refl good $
    assigns_last ! (of_opd ! (get ! refl)) (through ! refl (stop !)) (store_raw ! 0 refl good) $
    exec ! 𝓣.C 𝓣.Λ (env code.Mir.locals l) code.Mir.t-9 (at_ret (env code.Mir.locals l) (W.post y)) $
    sets ! (of_opd ! (get ! refl)) refl (tt, tt) $ sets ! (of_opd ! (get ! refl)) refl (tt, tt) $ sets ! (of_opd ! (get ! refl)) refl (tt, ((tt, tt), tt)) $ sets ! (of_opd ! (get ! refl)) refl (tt, ((tt, tt), tt)) $
    let made_word : Val = vstruct (of_list (vptr b1 o1 ∷ vptr b2 o2 ∷ heap.lowered d1.alloc ∷ heap.lowered d2.alloc ∷ [])) in
    let t : T.the_row.Denot = record { below = p1; at = p2; home = d1.alloc; room = d2.alloc; base = x; is = s } in
    sets ! (agg ! (and_then ! (get ! refl) (and_then ! (get ! refl) (and_then ! (get ! refl) (and_then ! (get ! refl) (no_more !)))))) refl (tt, (tt, (tt, (((tt, tt), tt), (((tt, tt), tt), tt))))) $
    returns ! (look_at ! 0 refl) $ free_all ! refl $
    -- [the seat's cell; what the new seat owns; α's token; true; the right to the ground; the right to free the seat; the ground's; the seat's handle; the ground's]
    use2 𝓛 (‵ (part_at Row full_share r b2 o2)) (part_in_at 𝓛 Row refl full_share r b2 o2 (bare (lone Empty.mir)) refl v) $
    move ! (0 ∷ 1 ∷ 3 ∷ []) $ fjoin3 ! $ fpack ! ℕ (lives p1 p2 x s) α $
    -- [the borrower's part; true; the right to free the seat; the ground's; the seat's handle; the ground's]
    move ! (3 ∷ 2 ∷ []) $ fjoin ! $ move ! (1 ∷ 0 ∷ []) $ fjoin ! $
    nothing ! $ move ! (3 ∷ 0 ∷ []) $ fjoin ! $ move ! (3 ∷ 0 ∷ []) $ fjoin ! $
    feq_i ! (List Val) (vptr b2 o2 ∷ []) (vptr b2 o2 ∷ []) refl $ fjoin ! $ feq_i ! (List Val) (vptr b1 o1 ∷ []) (vptr b1 o1 ∷ []) refl $ fjoin ! $
    feq_i ! (List Val) (made_word ∷ []) (made_word ∷ []) refl $ fjoin ! $
    fpack ! (Valss (RawPtr ∷ RawPtr ∷ Heap.the_row ∷ Heap.the_row ∷ [])) (within (shape T.the_type) (to T.the_type t) (made_word ∷ [])) (vptr b1 o1 ∷ [], (vptr b2 o2 ∷ [], (heap.lowered d1.alloc ∷ [], (heap.lowered d2.alloc ∷ [], tt)))) $ fjoin ! $
    use1 𝓛 (‵ (T.the_row.own_val t (made_word ∷ []))) (id⊢ 𝓤 _) $ keep ! (0 ∷ []) $
    suffices ! _ (ends_at 𝓛 f.ended stayed c y made_word t (tt, (tt, tt)) (tt, (tt, tt))) $ says_two ! (refl, made) $
    nothing ! $ nothing ! $ fjoin ! $ nothing ! $ fjoin ! $ join ! $ nothing ! $ join ! $ done !)))))))))))))))))
