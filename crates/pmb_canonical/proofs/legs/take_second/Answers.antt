use Rattle.std.proofs.Common.{◌≡◌, ℕ, Some, List, [], ◌∷◌, ◌++◌, length, drop, sym, ap, ◌∙◌, arith}
use Rattle.std.proofs.lemmas.Bool.{eqb-true}
use Rattle.std.proofs.lemmas.Option.{same_Some}
use Rattle.pmb_canonical.specs.declared.legs.PacketShape.TheVariants.{Both}
use Rattle.pmb_canonical.specs.Front.{acked_text, end_text}
use Rattle.pmb_canonical.proofs.Texts.{none_at_nack}
use Rattle.pmb_canonical.proofs.legs.take_second.Goals as goal

pub returns-clause-spelled : goal.returns-clause-spelled
returns-clause-spelled c =
    let taken = c.take_acked-end.ensures.taken in
    let written : c.len-written.result ≡ length c.args.bytes.now.items = c.len-written.ensures in
    record {
      back = taken.more;
      last = c.in_ok-last.last;
      rest = drop 7 c.take_acked-end.result.now;
      both = ap (λ (n : ℕ). Both n) written;
      added = c.push.ensures ∙ ap (λ (l : List ℕ). l ++ c.in_ok-last.last ∷ []) taken.added;
      split = taken.split ∙ ap (λ (l : List ℕ). acked_text taken.more ++ l) c.in_ok-last.ensures.spelled;
    }

pub returns-in_err-last-clause-found : goal.returns-in_err-last-clause-found
returns-in_err-last-clause-found c back last rest is split =
    let took = c.take_acked-end.ensures.all back (end_text last ++ rest) is.small (none_at_nack last rest)
    (omega (arith, is.few)) split in
    absurd (cc (c.in_err-last.ensures.only last rest is.small_last took.1))

pub returns-then-is_full-clause-found : goal.returns-then-is_full-clause-found
returns-then-is_full-clause-found c back last rest is split =
    let took = c.take_acked-end.ensures.all back (end_text last ++ rest) is.small (none_at_nack last rest)
    (omega (arith, is.few)) split in
    let filled = c.take_acked-end.new.bytes.items in
    let full : length filled ≡ 516 = eqb-true (length filled) 516 (sym c.is_full.ensures.value ∙ c.if-is_full.true) in
    absurd (omega (arith, full, ap length took.0, is.few))

pub returns-clause-found : goal.returns-clause-found
returns-clause-found c back last rest is split =
    let took = c.take_acked-end.ensures.all back (end_text last ++ rest) is.small (none_at_nack last rest)
    (omega (arith, is.few)) split in
    let written : c.len-written.result ≡ length c.args.bytes.now.items = c.len-written.ensures in
    let same : c.in_ok-last.last ≡ last = same_Some c.in_ok-last.last last
    (c.in_ok-last.ensures.only last rest is.small_last took.1) in (
      ap (λ (n : ℕ). Some (Both n)) written,
      c.push.ensures ∙ ap (λ (l : List ℕ). l ++ c.in_ok-last.last ∷ []) took.0
          ∙ ap (λ (n : ℕ). (c.args.bytes.now.items ++ back) ++ n ∷ []) same,
    )

pub push-requires : goal.push-requires
push-requires c = c.is_full.ensures.room c.if-is_full.false
