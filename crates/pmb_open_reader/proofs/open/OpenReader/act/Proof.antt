-- `act` opens the struct, lends the seat for a lifetime of the call, hands the work on as it came, and takes the seat
-- back.
use Rattle.std.proofs.Common.{ℕ, List, [], ◌∷◌, refl, sym, ap, ◌∙◌, MutBor}
use Rattle.std.proofs.raw_atomic.Walks.{proved}
use Rattle.std.proofs.mem.Facts.{says_two}
use mathlib.Core.Path.{subst}
use lib.Dec.{T}
use base.Fraction.{full_share}
use base.Share
use base.Logic.{id⊢}
use base.Fml.{Lft, GName, ftrue, flft, flent, fdead}
use mir.Syntax.{named, ty_unit}
use mir.Val.{Val, vptr, vunit, has_ty, WT}
use contract.Lifetimes.{Lfts}
use contract.Monad.{fact}
use contract.BorrowLft.{meet_⊑_left, meet_⊑_right}
use contract.Running.{tables}
use types.Kit.{‵, raw, ◌⊛◌, some, later, at_ret, ◌$◌, ◌∵◌, !, qed, move, keep, use1, use2, use3, split, split3}
use types.Kit.{join, fsplit, fsplit3, fjoin, fjoin3, fpick, fpack, feq_l, feq_i, pick, await, rewrite, suffices, frame}
use types.Kit.{group, done}
use types.Run.{enter, of_opd, unit_lit, addr, stop, fld, hop, no_more, and_then, first, blocks, exec, returns}
use types.ByLocal.{alloc_all, pass_all, free_all, look_at, get, through, sets, lands_last, env}
use types.Part.{whole, sub, look_in}
use types.SemTy.{Body}
use types.Tokens.{lft_new, lft_end}
use denote.Builtin.{unit}
use denote.Laws.{shows}
use denote.Lend.{lends_ref, ref_back}
use denote.Memory.{mem, cell_at}
use denote.RattleType.{RattleType}
use denote.RawPtr.{Ptr, block_ptr, lies_at, in_a_block}
use denote.Ref.{MutRef, mut_vals, mut_Tells}
use denote.Signature.{plain, named_lft}
use denote.Steps.{nothing, only, opens, closes, heard, peeks}
use denote.Triple.Call.{calls_at_last}
use denote.Triple.Clauses.{lasts, Lasts}
use denote.Triple.Spec.{triple_of}
use denote.Triple.Table.{framed}
use denote.Triple.Walked.{Stays, walk_of, stay_ref, gave_ref, Goes-ref, Goes-gave_ref, ends_at}
use Rattle.std.specs.declared.option.Option.{Option}
use Rattle.pmb_open_reader.specs.Acts.{ActsIn}
use Rattle.pmb_capture_reader.specs.declared.reader.CaptureReader.{CaptureReader}
use Rattle.pmb_capture_reader.specs.contracts.work.Work as asked
use Rattle.pmb_open_reader.specs.Owned.{seat_at, seat_with, lives}
use Rattle.pmb_open_reader.specs.declared.seat.Seat.{Seat}
use Rattle.pmb_open_reader.specs.contracts.open.OpenReader.act as f
use Rattle.pmb_open_reader.specs.contracts.open.OpenReader.{the_row as R}
use Rattle.pmb_open_reader.proofs.open.OpenReader.TheLaws.{lowers}
use Rattle.pmb_open_reader.proofs.open.OpenReader.act.Statement.{statement}
use Rattle.pmb_open_reader.proofs.open.OpenReader.act.Code as code
use Rattle.pmb_open_reader.specs.contracts.seat.Seat.act as g
use Rattle.pmb_open_reader.proofs.seat.Seat.act.Met.{met}

-- the work that is handed on
abbrev Handed : Lfts 3 → RattleType
Handed κs = asked.the_row (named_lft 3 2 tt κs)

-- the reader is still owned at the return; the work was given up to the callee
abbrev stayed : Stays f.ended.signature.params f.ended.kept
stayed = (stay_ref (0 ∷ []) tt (plain (λ _. R)), (gave_ref (1 ∷ []) tt (plain Handed), tt))

pub act_spec : {M : Type 1} → statement M
act_spec 𝓤 𝓛 𝓜 𝓡 wired =
    let c = f.clauses 𝓛 𝓜.mem 𝓡.returns in let W = walk_of 𝓛 f.ended stayed c in let 𝓣 = tables 𝓤 𝓛.H 𝓜 𝓡 𝓡.env in
    proved 𝓛 f.ended stayed c 𝓜 𝓡 (Goes-ref 𝓛 3 0 tt (plain (λ _. R)), (Goes-gave_ref 𝓛 3 1 tt (plain Handed), tt))
    f.Key.name code.function (code.unfolded 𝓤 𝓛.H 𝓜 𝓡 wired)
    (λ κs. (mut_vals, (mut_vals, tt))) (λ κs. (
      mut_Tells (named 0) κs.0 R,
      (
        mut_Tells (named 1) κs.1.0 (Handed κs),
        tt,
      ),
    )) (λ κs qs bounds a _ are.
    let b = a.0.ref_ptr.0 in let o = a.0.ref_ptr.1 in let h = a.0.now in let vs = mut_vals a.0 in
    let ws0 = mut_vals a.1.0 in
    let y : W.Ghost = ((κs, qs, bounds, a, (vs, (ws0, tt))), tt) in
    let s : Option CaptureReader = h.is in
    qed 𝓛 (((‵ (flft κs.0 qs.0) ⊛ ‵ (flft κs.1.0 qs.1.0) ⊛ ‵ (flft κs.1.1.0 qs.1.1.0) ⊛ ‵ ftrue) ⊛
    ‵ ((MutRef (named 0) κs.0 R).own_val a.0 vs) ⊛ ‵ ((MutRef (named 1) κs.1.0 (Handed κs)).own_val a.1.0 ws0) ⊛
    ‵ ftrue) ∷ ‵ ftrue ∷ []) ∵
    split ! $ split3 ! $ move ! (3 ∷ []) $ split3 ! $ move ! (5 ∷ []) $ split ! $ keep ! (2 ∷ 3 ∷ 5 ∷ 6 ∷ 0 ∷ []) $
    -- [self; the work; the tokens of self, of the work's reference and of the work]
    enter ! _ _ _ _ _ $ alloc_all ! (λ l. pass_all ! refl ((tt, tt), ((tt, tt), tt)) $
    fsplit3 ! $ move ! (1 ∷ 2 ∷ 4 ∷ []) $ opens ! tt R b o (λ us.
    move ! (1 ∷ []) $ peeks ! R _ (shows 𝓛 R) h us (λ is. fsplit ! $ move ! (1 ∷ []) $ fsplit ! $
    fpick ! (λ α. fsplit3 ! $
    in_a_block ! h.at (λ p. lies_at (seat_at (α ∷ [])) full_share p (seat_with s)) (id⊢ 𝓤 _) (λ b' o' e.
    -- [the seat; α's token; the right to the ground; the right to free both; the fields; the cell; the open borrow, in
    -- three; self's first part; the work; its two tokens]
    let word = lowers.val_is h us is ∙ ap (λ (p : Ptr). lowers.lowered (record h { at = p }) ∷ []) e in
    let Cell = λ (ws : List Val). ‵ (cell_at full_share R.mir ws b o) in
    let Row = seat_at (α ∷ []) in let L = Share.left full_share in let Q = Share.right full_share in
    rewrite ! 5 Cell word refl $
    first ! $ blocks ! $
    sets ! (addr ! (through ! refl (fld ! refl (hop ! (look_in ! 5 (sub ! 1 refl (whole !)))
    (stop !))))) refl (tt, tt) $
    sets ! (addr ! (through ! refl (stop !))) refl (tt, tt) $
    lft_new ! tt (λ β. let κ : Lft = β ∷ α ∷ [] in
    use1 𝓛 (‵ (flft (β ∷ []) L) ⊛ ‵ (flft (β ∷ []) Q)) (𝓛.lfts.lft_split (β ∷ []) full_share) $ split ! $
    move ! (3 ∷ []) $ use1 𝓛 (‵ (flft (α ∷ []) L) ⊛ ‵ (flft (α ∷ []) Q)) (𝓛.lfts.lft_split (α ∷ []) full_share) $
    split ! $
    move ! (2 ∷ 0 ∷ []) $ use2 𝓛 (‵ (flft κ L)) (𝓛.lfts.lft_meet (β ∷ []) (α ∷ []) L) $
    -- [the token of κ; half of α's; half of β's; the seat; the right to the ground; ..]
    move ! (3 ∷ []) $
    use1 𝓛 (later (some (λ (γ : GName). ‵ ((MutRef (named 0) κ Row).own_val (record {
      ref_ptr = (b', o');
      ghost_name =
          γ;
      now = seat_with s;
    }) (vptr b' o' ∷ [])) ⊛ ‵ (flent κ (Body (mem Row) b' o' γ)))))
    (lends_ref 𝓛 Row (named 0) κ (seat_with s) b' o') $ await ! tt $ pick ! (λ γ. split ! $
    let r' : MutBor Seat = record { ref_ptr = (b', o'); ghost_name = γ; now = seat_with s } in
    let G = triple_of 𝓛 g.signature (g.spec 𝓛 𝓜.mem 𝓡.returns) in
    let z : G.Ghost = (
      (
        (κ, (α ∷ [], (κs.1.0, (κs.1.1.0, tt)))),
        (L, (Q, (qs.1.0, (qs.1.1.0, tt)))),
        (
          meet_⊑_right (β ∷
              []) (α ∷ []),
          (bounds.0, tt),
        ),
        (r', (a.1.0, tt)),
        (vptr b' o' ∷ [], (ws0, tt)),
      ),
      tt,
    ) in
    -- the seat's reference and the work, then the four tokens
    nothing ! $ move ! (1 ∷ 14 ∷ 0 ∷ []) $ group ! 3 $ nothing ! $ move ! (3 ∷ 4 ∷ 14 ∷ 15 ∷ 0 ∷ []) $ group ! 5 $
    join ! $
    nothing ! $ move ! (1 ∷ 0 ∷ []) $ use2 𝓛 (raw (G.pre z)) (id⊢ 𝓤 _) $
    calls_at_last ! (framed 𝓤 𝓛.H 𝓜 𝓣) G (met 𝓤 𝓛 𝓜 𝓡 (code.calls-pmb_open_reader::seat::Seat::act 𝓡.env wired)) z
    (and_then ! (get ! refl) (and_then ! (get ! refl) (no_more !))) (λ v.
    use1 𝓛 (later (some (λ (r : Unit {0}). ((‵ (flft κ L) ⊛ ‵ (flft (α ∷ []) Q) ⊛ ‵ (flft κs.1.0 qs.1.0) ⊛
    ‵ (flft κs.1.1.0 qs.1.1.0) ⊛ ‵ ftrue) ⊛ ‵ (unit.own_val r (v ∷ []))) ⊛
    some (λ (ws : Lasts g.ended z.0.0 z.0.3). ‵ (lasts g.ended z.0.0 z.0.3 ws) ⊛
    raw (fact 𝓤 (ActsIn s ws.0.inner a.1.0.now ws.1.0)))))) (id⊢ 𝓤 _) $
    await ! tt $ pick ! (λ r. split ! $ split ! $ split3 ! $ move ! (2 ∷ []) $ split3 ! $ move ! (3 ∷ 4 ∷ []) $
    use1 𝓛 (‵ (flft (β ∷ []) L) ⊛ ‵ (flft (α ∷ []) L)) (𝓛.lfts.lft_unmeet (β ∷ []) (α ∷ []) L) $ split ! $
    move ! (1 ∷ 2 ∷ []) $ use2 𝓛 (‵ (flft (α ∷ []) full_share)) (𝓛.lfts.lft_join (α ∷ []) full_share) $
    move ! (1 ∷ 8 ∷ []) $ use2 𝓛 (‵ (flft (β ∷ []) full_share)) (𝓛.lfts.lft_join (β ∷ []) full_share) $
    lft_end ! tt $ use1 𝓛 (‵ (fdead κ)) (𝓛.lfts.dead-incl κ (β ∷ []) (meet_⊑_left (β ∷ []) (α ∷ []))) $
    -- [κ is over; α's token; the work's two; true; the result; what the call ensures; the lender's part; the right to
    -- the ground; ..]
    move ! (6 ∷ []) $ pick ! (λ ws. split ! $ fsplit ! $ fsplit ! $ move ! (2 ∷ []) $ fsplit ! $
    move ! (5 ∷ 11 ∷ 2 ∷ []) $
    use3 𝓛 (later (‵ (lies_at Row full_share (block_ptr b' o') ws.0))) (ref_back 𝓛 Row κ γ ws.0 b' o') $ await ! tt $
    move ! (4 ∷ []) $ heard ! _ (λ ensured. let w = ws.0.inner in
    -- [the seat; what the call left of the work; true; the seat's borrow; α's token; the work's two; true; the result;
    -- the right to the ground; the right to free both; the fields; the cell; the open borrow; self's first part]
    rewrite ! 0 (λ (p : Ptr). ‵ (lies_at Row full_share p (seat_with w))) (sym e) refl $
    move ! (8 ∷ []) $ feq_l ! (λ is_unit.
    let good : T (has_ty ty_unit v) × WT v = subst (λ (u : Val). T (has_ty ty_unit u) × WT u) (sym (ap only is_unit))
    (tt, tt) in
    lands_last ! refl good $ exec ! 𝓣.C 𝓣.Λ (env code.Mir.locals l) code.Mir.t-2 (at_ret _ (W.post y)) $
    sets ! (of_opd ! (unit_lit !)) refl (tt, tt) $
    move ! (0 ∷ 4 ∷ 8 ∷ []) $ fjoin3 ! $ fpack ! ℕ (lives h.below h.at h.base w) α $ move ! (0 ∷ 7 ∷ []) $ fjoin ! $
    move ! (7 ∷ 0 ∷ []) $ fjoin ! $
    -- [what the struct owns; the work; true; the seat's borrow; the work's two tokens; true; the cell; the open borrow;
    -- self's first part]
    rewrite ! 7 Cell (sym word) refl $ move ! (7 ∷ 0 ∷ 8 ∷ 9 ∷ 10 ∷ []) $ closes ! tt R (record h { is = w }) us b o $
    returns ! (look_at ! 0 refl) $ free_all ! refl $ keep ! (9 ∷ 0 ∷ 1 ∷ 3 ∷ 2 ∷ 6 ∷ 7 ∷ []) $
    suffices ! _ (ends_at 𝓛 f.ended stayed c y vunit tt (record h { is = w }, (ws.1.0, tt)) (tt, (tt, tt))) $
    says_two ! (refl, ensured) $
    group ! 3 $ nothing ! $ move ! (1 ∷ 2 ∷ 0 ∷ []) $ group ! 3 $ nothing ! $ move ! (2 ∷ 3 ∷ 4 ∷ 0 ∷ []) $ group ! 4 $
    frame ! $ frame ! $
    feq_i ! _ (vunit ∷ []) _ refl $ done !
    )))))))))))))
