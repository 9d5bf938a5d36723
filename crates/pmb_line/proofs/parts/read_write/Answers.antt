use Rattle.std.proofs.Common.{◌∙◌, ℕ, Bool, true, false, Ok, List, map, take, length, refl, sym, subst, arith}
use Rattle.std.proofs.lemmas.Result.{err_from_is_err_and}
use Rattle.pmb_transaction.specs.Transaction as says
use Rattle.pmb_transaction.specs.Transaction.{PartData, part_data}
use Rattle.pmb_line.specs.declared.words.Located.{Located}
use Rattle.pmb_line.specs.machine.Left.{left, end}
use Rattle.pmb_line.specs.machine.Pieces.{ReadsPart, WritesOn}
use Rattle.pmb_line.specs.machine.Reading.{LineStandsAt, IsWordFaultOf, SaysTransaction, write_next}
use Rattle.pmb_line.proofs.parts.read_write.Goals as goal

pub loop-goes_on-init : goal.loop-goes_on-init
loop-goes_on-init c = record { stands = λ all stands. stands; there = omega arith; few = omega arith; ends = refl }

pub returns-in_err-goes_on : goal.returns-in_err-goes_on
returns-in_err-goes_on c all stands =
    let so_far = c.loop-goes_on in
    let ps : List PartData = map part_data (take so_far.count so_far.parts.items) in
    let there : LineStandsAt all (write_next ps) (left so_far.words) =
    subst (λ goes_on. WritesOn all ps goes_on (left so_far.words)) c.loop-goes_on-test.true
    (so_far.invariant.stands all stands) in
    let p = err_from_is_err_and c.from_residual.result c.from_residual.ensures.1 in
    rw (p.1, p.2) (subst (λ n. IsWordFaultOf all n c.in_err-goes_on.field-0.0) so_far.invariant.ends
    (c.in_err-goes_on.ensures.reads all there))

-- a part was read, and another one comes or none
reads_on : (all : List Located) (length : ℕ) (ps : List PartData) (goes_on : Bool) (left : List Located)
    → ReadsPart all length ps (Ok goes_on) left → WritesOn all ps goes_on left
reads_on all length ps true left reads = reads
reads_on all length ps false left reads = reads

pub loop-goes_on-preserved : goal.loop-goes_on-preserved
loop-goes_on-preserved c =
    let so_far = c.loop-goes_on in
    let ps : List PartData = map part_data (take so_far.count so_far.parts.items) in record {
      stands = λ all stands.
          let there : LineStandsAt all (write_next ps) (left so_far.words) =
          subst (λ goes_on. WritesOn all ps goes_on (left so_far.words)) c.loop-goes_on-test.true
          (so_far.invariant.stands all stands) in
          reads_on all (end so_far.words) _ c.in_ok-goes_on.goes_on _ (c.in_ok-goes_on.ensures.reads all there);
      there = omega (arith, c.in_ok-goes_on.ensures.there);
      few = omega (arith, c.in_ok-goes_on.ensures.few);
      ends = c.in_ok-goes_on.ensures.end ∙ so_far.invariant.ends;
    }

pub returns : goal.returns
returns c all stands =
    let so_far = c.loop-goes_on in
    subst (λ parts. SaysTransaction all (says.Write (map part_data parts))) (sym c.truncate.ensures.items)
    (subst (λ goes_on. WritesOn all (map part_data (take so_far.count so_far.parts.items)) goes_on (left so_far.words))
    c.loop-goes_on-test.false (so_far.invariant.stands all stands))
