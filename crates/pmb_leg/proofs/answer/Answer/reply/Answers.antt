use Rattle.std.proofs.Common.{◌≡◌, ◌∙◌, List, ℕ, Bool, IsTrue, ap, subst, sym}
use Rattle.pmb_command.specs.Wire.{wire}
use Rattle.pmb_transaction.specs.Body.{checked}
use Rattle.pmb_leg.specs.machine.DataLeft.{SpellsData, has_code, is_whole}
use Rattle.pmb_leg.specs.Reply.{Answered, Expected, IsReply, SaysReply}
use Rattle.pmb_leg.proofs.Replies.{data_of, says_data, tells_whole}
use Rattle.pmb_leg.proofs.answer.Answer.reply.Goals as goal
use Rattle.pmb_leg.proofs.answer.Answer.reply.Goals.{After-as_slice}

is_done : (c : After-as_slice) → IsTrue (is_whole c.self.inside.left c.self.inside.mode)
is_done c =
    let P : Answered → Type 0 = λ (v : Answered). IsReply v.expected v.bytes in
    (tells_whole c.self.inside c.self.invariant).1
    (subst P (sym c.self.view_is) (c.is_whole.ensures.0 c.if-is_whole.true))

-- the data that are whole
whole_data : (c : After-as_slice) → (reply : List ℕ)
    × SpellsData c.self.inside.form c.self.inside.mode c.self.invariant.before reply
    (has_code c.self.inside.left c.self.inside.mode) c.self.inside.bytes.items
whole_data c = data_of c.self.inside c.self.invariant (is_done c)

-- they stand in the bytes
stand : (c : After-as_slice) → c.as_slice.result.now ≡ checked c.has_code-pec.result c.self.invariant.before
    (wire c.self.inside.form (whole_data c).0)
stand c =
    c.as_slice.ensures.value ∙ (whole_data c).1.spelled
    ∙ ap (λ (b : Bool). checked b c.self.invariant.before (wire c.self.inside.form (whole_data c).0))
    (sym c.has_code-pec.ensures)

pub data_within-bytes-requires : goal.data_within-bytes-requires
data_within-bytes-requires c = (c.self.invariant.before, (whole_data c).0, stand c)

pub returns-then-is_whole-clause-says : goal.returns-then-is_whole-clause-says
returns-then-is_whole-clause-says c =
    let k = (goal.at.returns-then-is_whole-clause-says c).After-as_slice in
    let found = c.data_within-bytes.ensures c.self.invariant.before (whole_data k).0 (stand k) in
    let expects : Expected = record {
      form = c.self.inside.form;
      mode = c.self.inside.mode;
      code =
          c.self.inside.code;
    } in
    let P : List ℕ → Bool → Type 0 = λ (r : List ℕ) (b : Bool). SaysReply expects r b c.self.inside.bytes.items in
    let says = says_data c.self.inside c.self.invariant (whole_data k).0 (whole_data k).1 in
    let with_code : P (whole_data k).0 c.has_code-pec.result =
    subst (P (whole_data k).0) (sym c.has_code-pec.ensures) says in
    let with_data : P c.data_within-bytes.result.now c.has_code-pec.result =
    subst (λ (r : List ℕ). P r c.has_code-pec.result) (sym found) with_code in
    rw (← c.self.view_is) with_data
