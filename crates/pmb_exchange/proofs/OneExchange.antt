-- A task comes to one transaction on the devices of an accepted bus: for the law
-- `an_exchange_is_one`. Two exchanges of a task end alike, by cases of both: a write is no read,
-- the first part that is refused is the same in both, and one device at one address gives one
-- answer to one body.
use Rattle.std.proofs.Common.{◌≡◌, ℕ, true, false, Some, None, Result, Ok, Err, List, [], ◌∷◌, ◌++◌, map, refl, sym, ap}
use Rattle.std.proofs.Common.{subst, ◌∙◌}
use Rattle.std.specs.List.{AllByRecursion}
use Rattle.std.proofs.lemmas.Option.{same_Some}
use Rattle.pmb_command.specs.declared.form.Form.{Form}
use Rattle.pmb_command.specs.Bus.{IsBus}
use Rattle.pmb_command.specs.Parts.{DeviceParts}
use Rattle.pmb_command.specs.Wire.{wire}
use Rattle.pmb_transaction.specs.Transaction.{PartData, TransactionData, Write, Read, Call, Refused, Alert, NoAlert}
use Rattle.pmb_registers.specs.declared.cml_bit.CmlBit.{CmlBit}
use Rattle.pmb_registers.specs.Answer.{answer}
use Rattle.pmb_registers.specs.State.{InState}
use Rattle.pmb_devices.proofs.ReplyGivers.{one_member}
use Rattle.pmb_host.specs.Task.{replied}
use Rattle.pmb_exchange.specs.Exchange.{AsksWith, Exchanges, IsAnswered, IsTaken, WritesNoPage, asked_address, answered}
use Rattle.pmb_exchange.specs.Exchange.{part_refused, read_refused, written}
use Rattle.pmb_exchange.proofs.Parts.{all_parts}

-- one body asks a device
one_body : (members : List InState) (device : DeviceParts) (task : TransactionData) (body other : List ℕ)
    → AsksWith members device task body
    → AsksWith members device task other → body ≡ other
one_body members device (Write parts) body other asks also = absurd asks
one_body members device (Read t) body other asks also = asks ∙ sym also
one_body members device (Call t) body other asks also =
    let form_is : asks.0 ≡ also.0 = same_Some asks.0 also.0 (sym asks.1.called ∙ also.1.called) in
    asks.1.spelled ∙ ap (λ (f : Form). t.code ∷ wire f t.bytes) form_is ∙ sym also.1.spelled
one_body members device (Refused t) body other asks also = absurd asks
one_body members device (Alert t) body other asks also = absurd asks
one_body members device NoAlert body other asks also = absurd asks

module _ (profile : List DeviceParts) (members : List InState) (bus : IsBus profile)
    (devices_are : map (λ m. m.device) members ≡ profile) (task : TransactionData) where
  -- a device gives one answer
  record SameAnswer (address other : ℕ) (body others : List ℕ) (result also : Result (List ℕ) CmlBit) : Type 0 where
    -- both ask at the same address,
    address_is : address ≡ other
    -- with the same body,
    body_is : body ≡ others
    -- and get the same answer
    result_is : result ≡ also

  same_answer : (address other : ℕ) (body others : List ℕ) (result also : Result (List ℕ) CmlBit)
      → IsAnswered members task address body result
      → IsAnswered members task other others also → SameAnswer address other body others result also
  same_answer address other body others result also a b =
      let address_is : address ≡ other = same_Some address other (sym a.asked ∙ b.asked) in
      let member_is : a.member ≡ b.member =
      one_member profile members a.member b.member bus devices_are a.is_at.one_of b.is_at.one_of
      (a.is_at.address_is ∙ address_is ∙ sym b.is_at.address_is) in
      let asks : AsksWith members b.member.device task body =
      subst (λ (m : InState). AsksWith members m.device task body) member_is a.asks in
      let body_is : body ≡ others = one_body members b.member.device task body others asks b.asks in
      record {
        address_is = address_is;
        body_is = body_is;
        result_is =
            sym a.answers ∙ ap (λ (m : InState). answer m.device m.state body) member_is
            ∙ ap (answer b.member.device b.member.state) body_is ∙ b.answers;
      }

  -- a write asks no device
  no_answer : (parts : List PartData) (address : ℕ) (body : List ℕ) (result : Result (List ℕ) CmlBit)
      → task ≡ Write parts
      → IsAnswered members task address body result → ⊥
  no_answer parts address body result is a =
      let none : None ≡ Some address = ap (asked_address members) (sym is) ∙ a.asked in
      cc none

  -- the first part that is refused is one
  record SamePart (before others : List PartData) (part other : PartData) : Type 0 where
    before_are : before ≡ others
    part_is : part ≡ other

  same_part : (before others : List PartData) (part other : PartData) (behind more : List PartData)
      → before ++ part ∷ behind ≡ others ++ other ∷ more
      → AllByRecursion (IsTaken members) before → AllByRecursion (IsTaken members) others → WritesNoPage members part
      → WritesNoPage members other
      → SamePart before others part other
  same_part [] [] part other behind more is taken also wrong nor = record { before_are = refl; part_is = cc is }
  same_part [] (x ∷ others) part other behind more is taken also wrong nor =
      let here : part ≡ x = cc is in
      absurd (also.0 (subst (WritesNoPage members) here wrong))
  same_part (x ∷ before) [] part other behind more is taken also wrong nor =
      let here : other ≡ x = cc is in
      absurd (taken.0 (subst (WritesNoPage members) here nor))
  same_part (x ∷ before) (y ∷ others) part other behind more is taken also wrong nor =
      let rest : before ++ part ∷ behind ≡ others ++ other ∷ more = cc is in
      let here : x ≡ y = cc is in
      let later = same_part before others part other behind more rest taken.1 also.1 wrong nor in
      let before_are : before ≡ others = later.before_are in
      record { before_are = cc; part_is = later.part_is }

  -- where all parts are taken none is refused
  taken_or_refused : (parts before : List PartData) (part : PartData) (behind : List PartData) → task ≡ Write parts
      → task ≡ Write (before ++ part ∷ behind)
      → AllByRecursion (IsTaken members) parts → WritesNoPage members part → ⊥
  taken_or_refused parts before part behind is also taken wrong =
      let both : Write parts ≡ Write (before ++ part ∷ behind) = sym is ∙ also in
      let parts_are : parts ≡ before ++ part ∷ behind = cc both in
      (all_parts (IsTaken members) before part behind (subst (AllByRecursion (IsTaken members)) parts_are taken)).1
      wrong

  -- An exchange is one.
  pub one_exchange : (a b : TransactionData) → Exchanges members task a → Exchanges members task b → a ≡ b
  -- a write with all parts taken, and the other one: the same, or no exchange of a write
  one_exchange a b (written parts is taken a_is) (written others also nor b_is) = a_is ∙ sym is ∙ also ∙ sym b_is
  one_exchange a b (written parts is taken a_is) (part_refused before part behind also nor wrong b_is) =
      absurd (taken_or_refused parts before part behind is also taken wrong)
  one_exchange a b (written parts is taken a_is) (answered address body reply x b_is) =
      absurd (no_answer parts address body (Ok reply) is x)
  one_exchange a b (written parts is taken a_is) (read_refused address body bit x b_is) =
      absurd (no_answer parts address body (Err bit) is x)
  -- a write refused at a part: the other has the same parts before it, and the same part
  one_exchange a b (part_refused before part behind is taken wrong a_is) (written parts also nor b_is) =
      absurd (taken_or_refused parts before part behind also is nor wrong)
  one_exchange a b (part_refused before part behind is taken wrong a_is)
      (part_refused others other more also nor no_page b_is) =
      let both : Write (before ++ part ∷ behind) ≡ Write (others ++ other ∷ more) = sym is ∙ also in
      let rows : before ++ part ∷ behind ≡ others ++ other ∷ more = cc both in
      let same = same_part before others part other behind more rows taken nor wrong no_page in
      a_is
      ∙ ap (λ (ps : List PartData). Refused (record {
        parts = ps;
        addr = part.addr;
        sent = part.code
            ∷ part.bytes;
        at_read = false;
      })) same.before_are
      ∙ ap (λ (p : PartData). Refused (record {
        parts = others;
        addr = p.addr;
        sent = p.code ∷ p.bytes;
        at_read =
            false;
      })) same.part_is
      ∙ sym b_is
  one_exchange a b (part_refused before part behind is taken wrong a_is) (answered address body reply x b_is) =
      absurd (no_answer (before ++ part ∷ behind) address body (Ok reply) is x)
  one_exchange a b (part_refused before part behind is taken wrong a_is) (read_refused address body bit x b_is) =
      absurd (no_answer (before ++ part ∷ behind) address body (Err bit) is x)
  -- a read or a call with a reply: the other has the same reply
  one_exchange a b (answered address body reply x a_is) (written parts also nor b_is) =
      absurd (no_answer parts address body (Ok reply) also x)
  one_exchange a b (answered address body reply x a_is) (part_refused before part behind also nor wrong b_is) =
      absurd (no_answer (before ++ part ∷ behind) address body (Ok reply) also x)
  one_exchange a b (answered address body reply x a_is) (answered other others told y b_is) =
      let same = same_answer address other body others (Ok reply) (Ok told) x y in
      let rows : Ok reply ≡ Ok told = same.result_is in
      let reply_is : reply ≡ told = cc rows in
      a_is ∙ ap (replied task) reply_is ∙ sym b_is
  one_exchange a b (answered address body reply x a_is) (read_refused other others bit y b_is) =
      absurd (cc ((same_answer address other body others (Ok reply) (Err bit) x y).result_is))
  -- a device that refuses to be read: it refuses the other too
  one_exchange a b (read_refused address body bit x a_is) (written parts also nor b_is) =
      absurd (no_answer parts address body (Err bit) also x)
  one_exchange a b (read_refused address body bit x a_is) (part_refused before part behind also nor wrong b_is) =
      absurd (no_answer (before ++ part ∷ behind) address body (Err bit) also x)
  one_exchange a b (read_refused address body bit x a_is) (answered other others told y b_is) =
      absurd (cc ((same_answer address other body others (Err bit) (Ok told) x y).result_is))
  one_exchange a b (read_refused address body bit x a_is) (read_refused other others also y b_is) =
      let same = same_answer address other body others (Err bit) (Err also) x y in
      a_is ∙ ap (λ (n : ℕ). Refused (record { parts = []; addr = n; sent = body; at_read = true })) same.address_is
      ∙ ap (λ (bs : List ℕ). Refused (record { parts = []; addr = other; sent = bs; at_read = true })) same.body_is
      ∙ sym b_is
