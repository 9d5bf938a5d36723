use Rattle.std.proofs.Common.{◌≡◌, ℕ, ◌<◌, ◌+◌, Some, List, [], ◌∷◌, ◌++◌, map, take, drop, length, refl, sym, ap}
use Rattle.std.proofs.Common.{suc, subst, ◌∙◌, arith}
use Rattle.std.proofs.lemmas.Result.{err_from_is_err_and}
use Rattle.std.proofs.lemmas.List.{map-append, length-map, length-set, length-take-le, take_more_set}
use Rattle.std.proofs.Math.Seq.{take-append_seam}
use Rattle.std.specs.List.{refill}
use Rattle.std.specs.Prelude.{slice_set}
use Rattle.pmb_transaction.specs.Transaction.{PartData, part_data}
use Rattle.pmb_line.specs.declared.token.Token.TheVariants.{Byte}
use Rattle.pmb_line.specs.machine.Left.{left, end}
use Rattle.pmb_line.specs.machine.Pieces.{IsByteToken, ReadsPart}
use Rattle.pmb_line.specs.machine.Reading.{LineStandsAt, HasRoomForPart, write_next, write_code}
use Rattle.pmb_line.proofs.Standing.{full_word, misses_of, next_of, no_byte}
use Rattle.pmb_line.proofs.parts.read_part.Goals as goal

-- an item is put over another one, and is the last of those up to it
put_at : {X : Type 0} (items slice : List X) (number : ℕ) (item : X) → slice ≡ items → number < length items
    → take (number + 1) (refill (length items) items (slice_set slice number item)) ≡ take number items ++ item ∷ []
put_at {X} items slice number item same there =
    let long : length (slice_set items number item) ≡ length items = length-set items number item in
    ap (λ (s : List X). take (number + 1) (refill (length items) items (slice_set s number item))) same
    ∙ (ap (λ n. take (number + 1) (take n (slice_set items number item
    ++ drop (length (slice_set items number item)) items))) (sym long)
    ∙ (ap (take (number + 1)) (take-append_seam (slice_set items number item)
    (drop (length (slice_set items number item)) items)) ∙ take_more_set items number item there))

-- an address is taken, and then at least a word more
fewer : (before mid last : ℕ) → before ≡ suc mid → last < mid → last < before
fewer before mid last one less = omega arith

pub returns-in_err-addr-clause-reads : goal.returns-in_err-addr-clause-reads
returns-in_err-addr-clause-reads c all stands =
    let ps : List PartData = map part_data (take c.args.number c.args.parts.now.items) in
    let p = err_from_is_err_and c.from_residual.result c.from_residual.ensures.1 in
    rw (p.1, p.2) (misses_of all (end c.args.words.now) _ (write_next ps) IsByteToken _ _ refl stands (λ e. cc e) refl
    (λ word rest same not. no_byte _ word.token not) c.in_err-addr.ensures.takes)

pub returns-in_err-addr-clause-there : goal.returns-in_err-addr-clause-there
returns-in_err-addr-clause-there c =
    let p = err_from_is_err_and c.from_residual.result c.from_residual.ensures.1 in rw p.1 tt

pub returns-in_err-addr-clause-few : goal.returns-in_err-addr-clause-few
returns-in_err-addr-clause-few c =
    let p = err_from_is_err_and c.from_residual.result c.from_residual.ensures.1 in rw p.1 tt

pub returns-in_err-addr-clause-end : goal.returns-in_err-addr-clause-end
returns-in_err-addr-clause-end c = c.take.ensures.end

pub returns-in_err-addr-clause-shrinks : goal.returns-in_err-addr-clause-shrinks
returns-in_err-addr-clause-shrinks c ok =
    let p = err_from_is_err_and c.from_residual.result c.from_residual.ensures.1 in cc (p.1, ok)

pub returns-then-number-ge16-clause-end : goal.returns-then-number-ge16-clause-end
returns-then-number-ge16-clause-end c = c.take.ensures.end

pub returns-then-number-ge16-clause-shrinks : goal.returns-then-number-ge16-clause-shrinks
returns-then-number-ge16-clause-shrinks c ok = cc ok

pub returns-clause-end : goal.returns-clause-end
returns-clause-end c = c.read_data.ensures.end ∙ c.take.ensures.end

pub returns-clause-shrinks : goal.returns-clause-shrinks
returns-clause-shrinks c ok =
    fewer (length (left c.args.words.now)) (length (left c.take.new.words)) (length (left c.read_data.new.words))
    (ap length c.in_ok-addr.ensures.takes) (c.read_data.ensures.shrinks ok)

pub have_part-requires-clause-few : goal.have_part-requires-clause-few
have_part-requires-clause-few c = omega (arith, c.if-number-ge16.false)

pub returns-then-number-ge16-clause-reads : goal.returns-then-number-ge16-clause-reads
returns-then-number-ge16-clause-reads c all stands =
    let front = take c.args.number c.args.parts.now.items in
    let ps : List PartData = map part_data front in
    let a = c.in_ok-addr.addr in
    let long : length front ≡ c.args.number = length-take-le c.args.number c.args.parts.now.items c.requires in
    full_word all (end c.args.words.now) (write_next ps) (write_code ps a.byte)
    (record { at = a.at; token = Some (Byte a.byte) }) (left c.args.words.now) (left c.take.new.words) _
    stands c.in_ok-addr.ensures.takes refl
    (λ (room : HasRoomForPart 16 ps []). absurd
    (omega (arith, room.few, length-map front part_data, long, c.if-number-ge16.true))) refl

pub returns-clause-reads : goal.returns-clause-reads
returns-clause-reads c all stands =
    let front = take c.args.number c.args.parts.now.items in
    let ps : List PartData = map part_data front in
    let a = c.in_ok-addr.addr.byte in
    let long : length front ≡ c.args.number = length-take-le c.args.number c.args.parts.now.items c.requires in
    let room : HasRoomForPart 16 ps [] = record {
      few = omega (arith, length-map front part_data, long, c.if-number-ge16.false);
      each =
          stands.room.each;
      few_bytes = omega arith;
    } in
    let at_code : LineStandsAt all (write_code ps a) (left c.take.new.words) =
    next_of all (write_next ps) (write_code ps a) _ _ _ stands c.in_ok-addr.ensures.takes refl room in
    let read : ReadsPart all (end c.args.words.now) (ps ++ part_data c.read_data.new.part ∷ []) c.read_data.result
    (left c.read_data.new.words) =
    subst (λ n. ReadsPart all n (ps ++ part_data c.read_data.new.part ∷ []) c.read_data.result
    (left c.read_data.new.words)) c.take.ensures.end (c.read_data.ensures.reads all ps at_code) in
    subst (λ qs. ReadsPart all (end c.args.words.now) qs c.read_data.result (left c.read_data.new.words))
    (sym (ap (map part_data) (put_at c.have_part.new.parts.items c.as_mut_slice.result.now c.args.number
    c.read_data.new.part c.as_mut_slice.ensures.value c.have_part.ensures.there)
    ∙ (map-append part_data (take c.args.number c.have_part.new.parts.items) (c.read_data.new.part ∷ [])
    ∙ ap (λ parts. map part_data parts ++ part_data c.read_data.new.part ∷ []) c.have_part.ensures.same)))
    read
