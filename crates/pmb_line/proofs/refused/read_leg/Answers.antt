use Rattle.std.proofs.Common.{◌≡◌, ℕ, suc, ◌<◌, ◌≤◌, List, [], map, length, refl, ap, sym, subst, ◌∙◌, arith}
use Rattle.std.proofs.lemmas.Result.{err_from_is_err_and}
use Rattle.pmb_transaction.specs.Transaction.{PartData, part_data}
use Rattle.pmb_line.specs.Fault.{IsRefusedWithin}
use Rattle.pmb_line.specs.machine.Left.{left, end}
use Rattle.pmb_line.specs.machine.Pieces.{IsByteToken, ReadsLeg}
use Rattle.pmb_line.specs.machine.Reading.{LineStandsAt, refused_next, refused_sent}
use Rattle.pmb_line.proofs.Standing.{bytes_on, misses_of, next_of, no_byte, too_many}
use Rattle.pmb_line.proofs.refused.read_leg.Goals as goal

-- an address, some bytes and a word more are taken
fewer : (before mid after last : ℕ) → before ≡ suc mid → after ≤ mid → last < after → last < before
fewer before mid after last one none_more less = omega arith

pub returns-in_err-addr-clause-reads : goal.returns-in_err-addr-clause-reads
returns-in_err-addr-clause-reads c all stands =
    let ps : List PartData = map part_data c.args.parts.now.items in
    let p = err_from_is_err_and c.from_residual.result c.from_residual.ensures.1 in
    rw (p.1, p.2) (misses_of all (end c.args.words.now) _ (refused_next ps) IsByteToken _ _ refl stands (λ e. cc e) refl
    (λ word rest same not. no_byte _ word.token not) c.in_err-addr.ensures.takes)

pub returns-in_err-addr-clause-end : goal.returns-in_err-addr-clause-end
returns-in_err-addr-clause-end c = c.take.ensures.end

pub returns-in_err-addr-clause-shrinks : goal.returns-in_err-addr-clause-shrinks
returns-in_err-addr-clause-shrinks c ok =
    let p = err_from_is_err_and c.from_residual.result c.from_residual.ensures.1 in cc (p.1, ok)

pub returns-in_err-take_bytes-clause-end : goal.returns-in_err-take_bytes-clause-end
returns-in_err-take_bytes-clause-end c = c.take_bytes.ensures.end ∙ c.take.ensures.end

pub returns-in_err-take_bytes-clause-shrinks : goal.returns-in_err-take_bytes-clause-shrinks
returns-in_err-take_bytes-clause-shrinks c ok =
    let p = err_from_is_err_and c.from_residual-in_err-take_bytes.result c.from_residual-in_err-take_bytes.ensures.1 in
    cc (p.1, ok)

pub returns-clause-end : goal.returns-clause-end
returns-clause-end c = c.end_leg.ensures.end ∙ c.take_bytes.ensures.end ∙ c.take.ensures.end

pub returns-clause-shrinks : goal.returns-clause-shrinks
returns-clause-shrinks c ok =
    fewer (length (left c.args.words.now)) (length (left c.take.new.words)) (length (left c.take_bytes.new.words))
    (length (left c.end_leg.new.words)) (ap length c.in_ok-addr.ensures.takes) c.take_bytes.ensures.shrinks
    (c.end_leg.ensures.shrinks ok)

pub returns-in_err-take_bytes-clause-reads : goal.returns-in_err-take_bytes-clause-reads
returns-in_err-take_bytes-clause-reads c all stands =
    let ps : List PartData = map part_data c.args.parts.now.items in
    let a = c.in_ok-addr.field-0.byte in
    let at_addr : LineStandsAt all (refused_sent ps a []) (left c.take.new.words) =
    next_of all (refused_next ps) (refused_sent ps a []) _ _ _ stands c.in_ok-addr.ensures.takes refl
    (record { few_parts = stands.room; few_sent = omega arith }) in
    let at_new : LineStandsAt all (refused_sent ps a c.clear.new.self.items) (left c.take.new.words) =
    subst (λ bs. LineStandsAt all (refused_sent ps a bs) (left c.take.new.words)) (sym c.clear.ensures) at_addr in
    let p = err_from_is_err_and c.from_residual-in_err-take_bytes.result c.from_residual-in_err-take_bytes.ensures.1 in
    rw (p.1, p.2) (too_many all (end c.args.words.now) (refused_sent ps a)
    (λ bs b. refl) 258 _ _ _ _ at_new c.in_err-take_bytes.ensures.takes
    (λ le. record { few_parts = stands.room; few_sent = le }) (λ bs (r : IsRefusedWithin ps bs). r.few_sent))

pub returns-clause-reads : goal.returns-clause-reads
returns-clause-reads c all stands =
    let ps : List PartData = map part_data c.args.parts.now.items in
    let a = c.in_ok-addr.field-0.byte in
    let at_addr : LineStandsAt all (refused_sent ps a []) (left c.take.new.words) =
    next_of all (refused_next ps) (refused_sent ps a []) _ _ _ stands c.in_ok-addr.ensures.takes refl
    (record { few_parts = stands.room; few_sent = omega arith }) in
    let sent = c.take_bytes.new.bytes.items in
    let at_sent : LineStandsAt all (refused_sent ps a sent) (left c.take_bytes.new.words) =
    bytes_on all (refused_sent ps a) (λ bs b. refl) _ _ _ _
    (subst (λ bs. LineStandsAt all (refused_sent ps a bs) (left c.take.new.words)) (sym c.clear.ensures) at_addr)
    c.in_ok-take_bytes.ensures.takes.0 (record { few_parts = stands.room; few_sent = c.take_bytes.ensures.fits }) in
    let same = c.as_slice.ensures.value in
    let reads : ReadsLeg all (end c.take_bytes.new.words) (map part_data c.end_leg.new.parts.items) a
    c.as_slice.result.now c.end_leg.new.at_read c.end_leg.result (left c.end_leg.new.words) =
    c.end_leg.ensures.reads all (subst (λ bs. LineStandsAt all (refused_sent ps a bs) (left c.take_bytes.new.words))
    (sym same) at_sent) c.in_ok-take_bytes.ensures.takes.1 in
    subst (λ n. ReadsLeg all n (map part_data c.end_leg.new.parts.items) a sent c.end_leg.new.at_read c.end_leg.result
    (left c.end_leg.new.words)) (c.take_bytes.ensures.end ∙ c.take.ensures.end)
    (subst (λ bs. ReadsLeg all (end c.take_bytes.new.words) (map part_data c.end_leg.new.parts.items) a bs
    c.end_leg.new.at_read c.end_leg.result (left c.end_leg.new.words)) same reads)
