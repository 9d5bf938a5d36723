-- `untie` frees the seat, ends the lifetime, and has the ground back.
use Rattle.std.proofs.Common.{List, [], ◌∷◌, refl, ap}
use Rattle.std.proofs.raw_atomic.Walks.{proved}
use base.Fraction.{full_share}
use base.Logic.{id⊢}
use base.Fml.{ftrue, flft}
use mir.Val.{Val, vstruct, of_list}
use contract.Running.{tables}
use types.Kit.{‵, raw, ◌⊛◌, some, later, ◌$◌, ◌∵◌, !, qed, move, keep, drop, use1, use2, split, join, fsplit, fsplit3}
use types.Kit.{fjoin, fpick, fpack, feq_l, feq_i, pick, await, rewrite, suffices, done}
use types.Run.{enter, of_opd, stop, fld, no_more, and_then, returns}
use types.ByLocal.{alloc_all, pass_all, free_all, look_at, get, get_in, sets, lands_as}
use types.Part.{whole, sub, agg}
use types.Tokens.{lft_end, lent_back}
use denote.Builtin.{unit, RawPtr}
use denote.Exit.{yes}
use denote.Laws.{shows}
use denote.RattleType.{RattleType, Valss}
use denote.RawPtr.{Ptr, ptr_val, rawptr_Lawful}
use denote.Signature.{plain}
use denote.Steps.{nothing, only, peeks}
use denote.Struct.Owning.{shape, to}
use denote.Struct.Struct.{within}
use denote.Triple.Call.{calls_at}
use denote.Triple.Clauses.{lasts, Lasts}
use denote.Triple.Spec.{triple_of}
use denote.Triple.Table.{framed}
use denote.Triple.Walked.{Stays, walk_of, says, stay_dropped, Goes-dropped, ends_at}
use Rattle.std.specs.contracts.alloc.Global as Heap
use Rattle.std.specs.declared.alloc.Global.{Global}
use Rattle.std.proofs.alloc.Global.TheLaws as heap
use Rattle.std.specs.declared.option.Option.{Option}
use Rattle.pmb_capture_reader.specs.declared.reader.CaptureReader.{CaptureReader}
use Rattle.pmb_capture_reader.specs.contracts.reader_ground.ReaderGround as ground
use Rattle.pmb_capture_reader.proofs.reader_ground.ReaderGround.TheLaws as ground_laws
use Rattle.pmb_handle.specs.contracts.parts.Parts as parts
use Rattle.pmb_handle.proofs.parts.Parts.TheLaws as parts_laws
use Rattle.pmb_open_reader.proofs.seat.Seat.TheLaws as seat_laws
use mir.Syntax.{static}
use Rattle.pmb_open_reader.specs.Owned.{seat_at, seat_with}
use Rattle.pmb_open_reader.specs.contracts.open.OpenReader.untie as f
use Rattle.pmb_open_reader.specs.contracts.open.OpenReader.{the_row as R}
use Rattle.pmb_open_reader.proofs.open.OpenReader.TheLaws.{lowered, lowers, the_row_laws}
use Rattle.pmb_open_reader.proofs.open.OpenReader.untie.Statement.{statement}
use Rattle.pmb_open_reader.proofs.open.OpenReader.untie.Code as code
use Rattle.pmb_open_reader.specs.contracts.seat.Seat.free as g
use Rattle.pmb_open_reader.proofs.seat.Seat.free.Met.{met}

abbrev stayed : Stays f.ended.signature.params f.ended.kept
stayed = (stay_dropped (plain (λ _. R)) yes, tt)

-- the parts that hold a T
abbrev PartsOf : RattleType → RattleType
PartsOf T = parts.the_row T

abbrev word : Ptr → Global → Val
word p h = vstruct (of_list (ptr_val p ∷ heap.lowered h ∷ []))

pub untie_spec : {M : Type 1} → statement M
untie_spec 𝓤 𝓛 𝓜 𝓡 wired =
    let c = f.clauses 𝓛 𝓜.mem 𝓡.returns in let W = walk_of 𝓛 f.ended stayed c in let 𝓣 = tables 𝓤 𝓛.H 𝓜 𝓡 𝓡.env in
    proved 𝓛 f.ended stayed c 𝓜 𝓡 (Goes-dropped 𝓛 0 (plain (λ _. R)) yes (λ κs x w. refl), tt)
    f.Key.name code.function (code.unfolded 𝓤 𝓛.H 𝓜 𝓡 wired)
    (λ κs. ((λ d. lowered d ∷ []), tt)) (λ κs. ((λ d us is. lowers.val_is d us is), tt)) (λ κs qs bounds a _ are.
    let d = a.0 in let s : Option CaptureReader = d.is in
    let y : W.Ghost = ((κs, qs, bounds, a, (lowered d ∷ [], tt)), tt) in
    let ptr_ok = λ (p : Ptr). ((rawptr_Lawful 𝓛).typed p (ptr_val p ∷ []) refl).0 in
    qed 𝓛 ((‵ ftrue ⊛ ‵ (R.own_val d (lowered d ∷ [])) ⊛ ‵ ftrue) ∷ ‵ ftrue ∷ []) ∵
    split ! $ drop ! $ split ! $ keep ! (0 ∷ []) $
    fsplit ! $ fpick ! (λ vss. fsplit ! $ feq_l ! (λ _. fsplit ! $ drop ! $ fsplit ! $ drop ! $ fsplit ! $
    peeks ! Heap.the_row _ (shows 𝓛 Heap.the_row) d.home vss.1.1.0 (λ ih. rewrite ! 0 (λ (us : List Val). ‵
    (Heap.the_row.own_val d.home us)) (heap.lowers.val_is d.home vss.1.1.0 ih) refl $
    move ! (1 ∷ []) $ fsplit ! $
    peeks ! Heap.the_row _ (shows 𝓛 Heap.the_row) d.room vss.1.1.1.0 (λ ir. rewrite ! 0 (λ (us : List Val). ‵
    (Heap.the_row.own_val d.room us)) (heap.lowers.val_is d.room vss.1.1.1.0 ir) refl $
    move ! (3 ∷ []) $ fsplit ! $ fpick ! (λ α. fsplit3 ! $ move ! (3 ∷ []) $ fsplit ! $
    -- [the ground's right to be freed; the seat's; the seat; α's token; the right to the ground; the seat's handle;
    -- true; the ground's handle]
    let Row = seat_at (α ∷ []) in
    enter ! _ _ _ _ _ $ alloc_all ! (λ l. pass_all ! refl ((the_row_laws.lawful 𝓛).typed d _ are.0) $
    sets ! (of_opd ! (get_in ! (fld ! refl (stop !)) (sub ! 0 refl (whole !)))) refl (ptr_ok d.below) $
    sets ! (of_opd ! (get_in ! (fld ! refl (stop !)) (sub ! 1 refl (whole !)))) refl (ptr_ok d.at) $
    sets ! (of_opd ! (get_in ! (fld ! refl (stop !)) (sub ! 2 refl (whole !)))) refl (tt, ((tt, tt), tt)) $
    sets ! (of_opd ! (get_in ! (fld ! refl (stop !)) (sub ! 3 refl (whole !)))) refl (tt, ((tt, tt), tt)) $
    let P1 : (PartsOf Row).Denot = record { ptr = d.at; alloc = d.room; value = seat_with s } in
    let w1 = word d.at d.room in
    move ! (2 ∷ 1 ∷ 5 ∷ []) $ fjoin ! $ nothing ! $ move ! (2 ∷ 0 ∷ []) $ fjoin ! $
    feq_i ! (List Val) (ptr_val d.at ∷ []) (ptr_val d.at ∷ []) refl $ fjoin ! $
    feq_i ! (List Val) (w1 ∷ []) (w1 ∷ []) refl $ fjoin ! $
    fpack ! (Valss (RawPtr ∷ Heap.the_row ∷ [])) (within (shape (parts.the_type Row)) (to (parts.the_type Row) P1)
    (w1 ∷ [])) (ptr_val d.at ∷ [], (heap.lowered d.room ∷ [], tt)) $
    fjoin ! $
    use1 𝓛 (‵ ((PartsOf Row).own_val P1 (w1 ∷ []))) (id⊢ 𝓤 _) $
    peeks ! (PartsOf Row) _ (shows 𝓛 (PartsOf Row)) P1 (w1 ∷ []) (λ is1.
    sets ! (agg ! (and_then ! (get ! refl) (and_then ! (get ! refl)
    (no_more !)))) refl (((parts_laws.the_row_laws Row (seat_laws.the_row_laws (record {
      mir = static;
      lft = α ∷ [];
    }))).lawful 𝓛).typed P1 (w1 ∷ []) is1).0 $
    -- [the seat's parts; the ground's right to be freed; α's token; the right to the ground; true; the ground's handle]
    let G = triple_of 𝓛 g.signature (g.spec 𝓛 𝓜.mem 𝓡.returns) in
    let z : G.Ghost = (((α ∷ [], tt), (full_share, tt), tt, (P1, tt), (w1 ∷ [], tt)), tt) in
    nothing ! $ move ! (1 ∷ 0 ∷ []) $ join ! $ nothing ! $ move ! (3 ∷ 0 ∷ []) $ join ! $ join ! $ nothing ! $
    move ! (1 ∷ 0 ∷ []) $ use2 𝓛 (raw (G.pre z)) (id⊢ 𝓤 _) $
    calls_at ! (framed 𝓤 𝓛.H 𝓜 𝓣) G (met 𝓤 𝓛 𝓜 𝓡 (code.calls-pmb_open_reader::seat::Seat::free 𝓡.env wired)) z
    (and_then ! (get ! refl) (no_more !)) (λ v.
    use1 𝓛 (later (some (λ (u : Unit {0}). ((‵ (flft (α ∷ []) full_share) ⊛ ‵ ftrue) ⊛ ‵ (unit.own_val u (v ∷ []))) ⊛
    some (λ (ws : Lasts g.ended z.0.0 z.0.3). ‵ (lasts g.ended z.0.0 z.0.3 ws) ⊛ ‵ ftrue)))) (id⊢ 𝓤 _) $
    await ! tt $ pick ! (λ u. split ! $ split ! $ split ! $ lft_end ! tt $ move ! (0 ∷ 5 ∷ []) $ lent_back ! tt $
    -- [the ground; true; the result; what the call ensures; the ground's right to be freed; true; the ground's handle]
    move ! (2 ∷ []) $ feq_l ! (λ is_unit. move ! (2 ∷ []) $ pick ! (λ ws. split ! $ drop ! $ drop ! $
    lands_as ! (ap only is_unit) refl (tt, tt) $
    let P2 : (PartsOf ground.the_row).Denot = record { ptr = d.below; alloc = d.home; value = d.base } in
    let w2 = word d.below d.home in
    move ! (0 ∷ 2 ∷ 4 ∷ []) $ fjoin ! $ nothing ! $ move ! (2 ∷ 0 ∷ []) $ fjoin ! $
    feq_i ! (List Val) (ptr_val d.below ∷ []) (ptr_val d.below ∷ []) refl $ fjoin ! $
    feq_i ! (List Val) (w2 ∷ []) (w2 ∷ []) refl $ fjoin ! $
    fpack ! (Valss (RawPtr ∷ Heap.the_row ∷ [])) (within (shape (parts.the_type ground.the_row))
    (to (parts.the_type ground.the_row) P2) (w2 ∷ [])) (ptr_val d.below ∷ [], (heap.lowered d.home ∷ [], tt)) $
    fjoin ! $
    use1 𝓛 (‵ ((PartsOf ground.the_row).own_val P2 (w2 ∷ []))) (id⊢ 𝓤 _) $
    peeks ! (PartsOf ground.the_row) _ (shows 𝓛 (PartsOf ground.the_row)) P2 (w2 ∷ []) (λ is2.
    sets ! (agg ! (and_then ! (get ! refl) (and_then ! (get ! refl)
    (no_more !)))) refl (((parts_laws.the_row_laws ground.the_row ground_laws.the_row_laws).lawful 𝓛).typed P2 (w2 ∷
    []) is2).0 $
    returns ! (look_at ! 0 refl) $ free_all ! refl $ keep ! (0 ∷ []) $
    suffices ! _ (ends_at 𝓛 f.ended stayed c y w2 P2 (tt, tt) (tt, tt)) $ says ! refl $
    nothing ! $ nothing ! $ fjoin ! $ join ! $ nothing ! $ join ! $ done !
    )))))))))))))
