use Rattle.std.proofs.Common.{◌≡◌, ◌∙◌, ℕ, ◌+◌, ◌-◌, min, List, ◌++◌, take, drop, length, sym, ap, subst, arith}
use Rattle.pmb_in_memory.specs.Laid.{laid}
use Rattle.pmb_in_memory.proofs.Laying.{laid_length, laid_more}
use Rattle.pmb_in_memory.proofs.room.RoomSink.write_all.Goals as goal

pub invariant_of-self-clause-kept : goal.invariant_of-self-clause-kept
invariant_of-self-clause-kept g c =
    let before = g.P.BufferId.before in
    let text = c.args.self.now.written.bytes in
    let piece = c.args.bytes.now in
    let kept = c.min-kept.result in
    let fits = c.min-fits.result in
    let old : List ℕ = c.args.self.now.room.now in
    let is_old : old ≡ laid text before = c.args.self.now.kept in
    let same_length : length old ≡ length before = ap (λ (l : List ℕ). length l) is_old ∙ laid_length text before in
    let is_kept : kept ≡ min (length text) (length before) =
    omega (
      arith,
      c.min-kept.ensures,
      c.args.self.now.counted,
      c.capacity-room.ensures,
      c.capacity-room.type_inv,
      same_length,
    ) in
    let is_fits : fits ≡ min (length piece) (length before - kept) =
    omega (arith, c.min-fits.ensures, c.capacity-room.ensures, same_length) in
    let behind : (kept + fits) - kept ≡ fits = omega arith in
    let copied : c.copy_from_slice.new.self ≡ take fits piece = c.copy_from_slice.ensures.after in
    subst (λ (w : List ℕ). take kept old ++ (c.copy_from_slice.new.self ++ drop ((kept + fits) - kept) (drop kept old))
    ≡ laid w before) (sym c.append.ensures)
    (subst (λ (l : List ℕ). take kept old ++ (l ++ drop ((kept + fits) - kept) (drop kept old))
    ≡ laid (text ++ piece) before) (sym copied)
    (subst (λ n. take kept old ++ (take fits piece ++ drop n (drop kept old)) ≡ laid (text ++ piece) before)
    (sym behind)
    (subst (λ (l : List ℕ). take kept l ++ (take fits piece ++ drop fits (drop kept l)) ≡ laid (text ++ piece) before)
    (sym is_old)
    (laid_more text piece before kept fits is_kept is_fits))))
