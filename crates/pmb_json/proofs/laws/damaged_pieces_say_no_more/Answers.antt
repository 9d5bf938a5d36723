-- What was on the bus is what the piece has, mended. After that both have the same, and lose the same at refusals.
use Rattle.std.proofs.Common.{◌≡◌, ◌+◌, List, [], ◌∷◌, ◌++◌, map, inr, ap, ◌∙◌, subst, sym, append_assoc}
use Rattle.std.proofs.Common.{append-nil, refl}
use Rattle.pmb_transaction.specs.Transaction.{TransactionData}
use Rattle.pmb_note.specs.Paging.{paging}
use Rattle.pmb_unknown_start.specs.declared.start.Start.TheVariants.{AllKnown}
use Rattle.pmb_unknown_start.specs.Past.{PastData, Said, Dropped}
use Rattle.pmb_unknown_start.specs.Taken.{taken}
use Rattle.pmb_fact_stream.specs.Lost.{lost_in}
use Rattle.pmb_json.specs.Pieces.{SameTimes}
use Rattle.pmb_json.proofs.Losses.{loses_one, same_lost}
use Rattle.pmb_json.proofs.Mended.{mode_mended, page_mended, phase_mended}
use Rattle.pmb_json.proofs.Pieces.{Agree, StandBeside, spans_said}
use Rattle.pmb_json.proofs.laws.damaged_pieces_say_no_more.Goals as goal

module _ (before ts : List TransactionData) (within : List PastData) where
  -- what was on the bus up to where the spans begin
  abbrev on_bus : List PastData
  on_bus = map Said (before ++ ts)

  -- what went before in the piece, beside what was on the bus
  abbrev HaveTheSame : List PastData → List PastData → Type 0
  HaveTheSame x y = (more : List PastData) × (x ≡ within ++ more) × (y ≡ on_bus ++ more)

  same_and : (x y : List PastData) (z : PastData) → HaveTheSame x y → HaveTheSame (x ++ z ∷ []) (y ++ z ∷ [])
  same_and x y z same = (
    same.0 ++ z ∷ [],
    ap (λ (l : List PastData). l ++ z ∷ []) same.1 ∙ append_assoc within same.0 (z ∷ []),
    ap (λ (l : List PastData). l ++ z ∷ []) same.2 ∙ append_assoc on_bus same.0 (z ∷ []),
  )

pub returns : goal.returns
returns c choice profile place there times theirs before ts within n m events spans told can =
    let start = choice.start in
    let Same = HaveTheSame before ts within in
    let stand : StandBeside profile start AllKnown Same = record {
      step = λ x y t same. same_and before ts within x y (Said t) same;
      drop = λ x y same. same_and before ts within x y Dropped same;
      agree = λ x y same.
          let more = same.0 in
          subst (λ (past : List PastData). Agree profile start AllKnown past y) (sym same.1)
          (subst (λ (past : List PastData). Agree profile start AllKnown (within ++ more) past) (sym same.2)
          (record {
            pages = λ addr number known. page_mended start before within ts more
                (λ device n begin reach none. c.what_may_be_reached_stays_known.ensures.page start device
                (paging device (map (taken device) before)) within more (before ++ ts) n begin reach none) profile can addr number known;
            phases = λ addr number known. phase_mended start before within ts more profile can addr number known;
            modes = λ addr. mode_mended start before within ts more
                (λ device begin reach none. c.what_may_be_reached_stays_known.ensures.mode start device
                (paging device (map (taken device) before)) within more (before ++ ts) begin reach none) profile can addr;
          }));
    } in
    spans_said c.objects_are_of_facts.ensures SameTimes choice profile start AllKnown Same stand place there
    times theirs (lost_in profile m events) (lost_in profile (n + m) events) (loses_one profile m events) n
    (same_lost profile n m (n + m) events refl) spans within (on_bus before ts within) (λ at. inr (told at))
    ([], sym (append-nil within), sym (append-nil (on_bus before ts within)))
