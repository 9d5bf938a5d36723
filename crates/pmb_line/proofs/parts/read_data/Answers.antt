use Rattle.std.proofs.Common.{◌≡◌, ℕ, suc, ◌<◌, ◌≤◌, Bool, true, false, List, [], length, refl, ap, sym, subst, ◌∙◌}
use Rattle.std.proofs.Common.{arith}
use Rattle.std.proofs.lemmas.Result.{err_from_is_err_and}
use Rattle.pmb_line.specs.declared.token.Token.{Token}
use Rattle.pmb_line.specs.declared.token.Token.TheVariants.{Pec}
use Rattle.pmb_line.specs.declared.words.Located.{Located}
use Rattle.pmb_line.specs.machine.Left.{left, end}
use Rattle.pmb_line.specs.machine.Pieces.{IsByteToken, TakesIf, TakesPlus}
use Rattle.pmb_line.specs.machine.Reading.{LineStandsAt, HasRoomForPart, write_code, write_data}
use Rattle.pmb_line.proofs.Standing.{bytes_on, misses_of, next_of, no_byte, too_many}
use Rattle.pmb_line.proofs.Endings.{part_end}
use Rattle.pmb_line.proofs.parts.read_data.Goals as goal

-- a word that may come leaves no more words
no_more : (token : Token) (before after : List Located) (taken : Bool) → TakesIf token before taken after
    → length after ≤ length before
no_more token before after true takes = omega (arith, ap length takes.1)
no_more token before after false takes = omega (arith, ap length takes.0)

-- a code, some bytes, perhaps a word and a `+` are taken
fewer : (before coded sent marked last : ℕ) → before ≡ suc coded → sent ≤ coded → marked ≤ sent → marked ≡ suc last
    → last < before
fewer before coded sent marked last code bytes mark plus = omega arith

pub returns-in_err-part-clause-reads : goal.returns-in_err-part-clause-reads
returns-in_err-part-clause-reads c all ps stands =
    let p = err_from_is_err_and c.from_residual.result c.from_residual.ensures.1 in
    rw (p.1, p.2) (misses_of all (end c.args.words.now) _ (write_code ps c.args.part.now.addr) IsByteToken _ _ refl
    stands (λ e. cc e) refl (λ word rest same not. no_byte _ word.token not) c.in_err-part.ensures.takes)

pub returns-in_err-part-clause-end : goal.returns-in_err-part-clause-end
returns-in_err-part-clause-end c = c.take.ensures.end

pub returns-in_err-part-clause-shrinks : goal.returns-in_err-part-clause-shrinks
returns-in_err-part-clause-shrinks c ok =
    let p = err_from_is_err_and c.from_residual.result c.from_residual.ensures.1 in cc (p.1, ok)

pub returns-in_err-take_bytes-clause-end : goal.returns-in_err-take_bytes-clause-end
returns-in_err-take_bytes-clause-end c = c.take_bytes.ensures.end ∙ c.take.ensures.end

pub returns-in_err-take_bytes-clause-shrinks : goal.returns-in_err-take_bytes-clause-shrinks
returns-in_err-take_bytes-clause-shrinks c ok =
    let p = err_from_is_err_and c.from_residual-in_err-take_bytes.result c.from_residual-in_err-take_bytes.ensures.1 in
    cc (p.1, ok)

pub returns-clause-end : goal.returns-clause-end
returns-clause-end c =
    c.take_plus.ensures.end ∙ c.take_pec-part.ensures.end ∙ c.take_bytes.ensures.end ∙ c.take.ensures.end

pub returns-clause-shrinks : goal.returns-clause-shrinks
returns-clause-shrinks c ok =
    let plus = subst (λ result. TakesPlus (left c.take_pec-part.new.words) result (left c.take_plus.new.words)) ok
    c.take_plus.ensures.takes in
    fewer (length (left c.args.words.now)) (length (left c.take.new.words)) (length (left c.take_bytes.new.words))
    (length (left c.take_pec-part.new.words)) (length (left c.take_plus.new.words))
    (ap length c.in_ok-part.ensures.takes) c.take_bytes.ensures.shrinks
    (no_more Pec (left c.take_bytes.new.words) (left c.take_pec-part.new.words) c.take_pec-part.result
    c.take_pec-part.ensures.takes) (ap length plus.1)

pub returns-in_err-take_bytes-clause-reads : goal.returns-in_err-take_bytes-clause-reads
returns-in_err-take_bytes-clause-reads c all ps stands =
    let a = c.args.part.now.addr in
    let d = c.in_ok-part.field-0.byte in
    let room : (bs : List ℕ) → length bs ≤ 255
    → HasRoomForPart 16 ps bs = λ bs le. record {
      few = stands.room.few;
      each = stands.room.each;
      few_bytes =
          le;
    } in
    let at_data : LineStandsAt all (write_data ps a d []) (left c.take.new.words) =
    next_of all (write_code ps a) (write_data ps a d []) _ _ _ stands c.in_ok-part.ensures.takes refl
    (room [] (omega arith)) in
    let at_new : LineStandsAt all (write_data ps a d c.clear.new.self.items) (left c.take.new.words) =
    subst (λ bs. LineStandsAt all (write_data ps a d bs) (left c.take.new.words)) (sym c.clear.ensures) at_data in
    let p = err_from_is_err_and c.from_residual-in_err-take_bytes.result c.from_residual-in_err-take_bytes.ensures.1 in
    rw (p.1, p.2) (too_many all (end c.args.words.now) (write_data ps a d)
    (λ bs b. refl) 255 _ _ _ _ at_new c.in_err-take_bytes.ensures.takes (room _)
    (λ bs (r : HasRoomForPart 16 ps bs). r.few_bytes))

pub returns-clause-reads : goal.returns-clause-reads
returns-clause-reads c all ps stands =
    let a = c.args.part.now.addr in
    let d = c.in_ok-part.field-0.byte in
    let room : (bs : List ℕ) → length bs ≤ 255
    → HasRoomForPart 16 ps bs = λ bs le. record {
      few = stands.room.few;
      each = stands.room.each;
      few_bytes =
          le;
    } in
    let at_data : LineStandsAt all (write_data ps a d []) (left c.take.new.words) =
    next_of all (write_code ps a) (write_data ps a d []) _ _ _ stands c.in_ok-part.ensures.takes refl
    (room [] (omega arith)) in
    let at_new : LineStandsAt all (write_data ps a d c.clear.new.self.items) (left c.take.new.words) =
    subst (λ bs. LineStandsAt all (write_data ps a d bs) (left c.take.new.words)) (sym c.clear.ensures) at_data in
    let bs = c.take_bytes.new.bytes.items in
    let at_end : LineStandsAt all (write_data ps a d bs) (left c.take_bytes.new.words) =
    bytes_on all (write_data ps a d) (λ bs b. refl) _ _ _ _ at_new c.in_ok-take_bytes.ensures.takes.0
    (room bs c.take_bytes.ensures.fits) in
    part_end all (end c.args.words.now) ps a d bs c.take_pec-part.result _ _ _ c.take_plus.result at_end
    c.in_ok-take_bytes.ensures.takes.1 c.take_pec-part.ensures.takes c.take_plus.ensures.takes
