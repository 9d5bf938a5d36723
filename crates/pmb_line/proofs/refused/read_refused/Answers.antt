use Rattle.std.proofs.Common.{List, map, subst, ◌∙◌}
use Rattle.std.proofs.lemmas.Result.{err_from_is_err_and}
use Rattle.pmb_transaction.specs.Transaction.{PartData, TransactionData, part_data}
use Rattle.pmb_transaction.specs.Transaction as says
use Rattle.pmb_line.specs.machine.Left.{left, end}
use Rattle.pmb_line.specs.machine.Pieces.{RefusesOn}
use Rattle.pmb_line.specs.machine.Reading.{LineStandsAt, IsWordFaultOf, refused_next}
use Rattle.pmb_line.proofs.Legs.{leg_on}
use Rattle.pmb_line.proofs.refused.read_refused.Goals as goal

pub returns-in_err-goes_on : goal.returns-in_err-goes_on
returns-in_err-goes_on c all stands =
    let so_far = c.loop-goes_on in
    let ps : List PartData = map part_data so_far.parts.items in
    let t : TransactionData = says.Refused (record {
      parts = ps;
      addr = so_far.addr;
      sent = so_far.sent.items;
      at_read =
          so_far.at_read;
    }) in
    let there : LineStandsAt all (refused_next ps) (left so_far.words) =
    subst (λ goes_on. RefusesOn all t ps goes_on (left so_far.words)) c.loop-goes_on-test.true
    (so_far.invariant.stands all stands) in
    let p = err_from_is_err_and c.from_residual.result c.from_residual.ensures.1 in
    rw (p.1, p.2) (subst (λ n. IsWordFaultOf all n c.in_err-goes_on.field-0.0) so_far.invariant.ends
    (c.in_err-goes_on.ensures.reads all there))

pub returns : goal.returns
returns c all stands =
    let so_far = c.loop-goes_on in
    let ps : List PartData = map part_data so_far.parts.items in
    let t : TransactionData = says.Refused (record {
      parts = ps;
      addr = so_far.addr;
      sent = so_far.sent.items;
      at_read =
          so_far.at_read;
    }) in
    subst (λ goes_on. RefusesOn all t ps goes_on (left so_far.words)) c.loop-goes_on-test.false
    (so_far.invariant.stands all stands)

pub loop-goes_on-preserved : goal.loop-goes_on-preserved
loop-goes_on-preserved c =
    let so_far = c.loop-goes_on in
    let ps : List PartData = map part_data so_far.parts.items in
    let t : TransactionData = says.Refused (record {
      parts = ps;
      addr = so_far.addr;
      sent = so_far.sent.items;
      at_read =
          so_far.at_read;
    }) in
    record {
      stands = λ all stands.
          let there : LineStandsAt all (refused_next ps) (left so_far.words) =
          subst (λ goes_on. RefusesOn all t ps goes_on (left so_far.words)) c.loop-goes_on-test.true
          (so_far.invariant.stands all stands) in
          leg_on all (end so_far.words) (map part_data c.read_leg.new.parts.items) c.read_leg.new.addr
          c.read_leg.new.sent.items c.read_leg.new.at_read c.in_ok-goes_on.goes_on (left c.read_leg.new.words)
          (c.in_ok-goes_on.ensures.reads all there);
      ends = c.in_ok-goes_on.ensures.end ∙ so_far.invariant.ends;
    }
