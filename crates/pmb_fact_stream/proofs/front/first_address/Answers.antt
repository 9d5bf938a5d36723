use Rattle.std.proofs.Common.{◌≡◌, ◌-◌, ℕ, List, [], ◌∷◌, ◌++◌, codes, length, take, drop, sym, ap, ◌∙◌}
use Rattle.std.proofs.lemmas.List.{take_rest}
use Rattle.pmb_bus.specs.declared.event.Event.{Event}
use Rattle.pmb_bus.specs.declared.event.Event.TheVariants.{Byte}
use Rattle.pmb_bus.specs.Event.{text_of}
use Rattle.pmb_fact_stream.specs.Others.{next_address}
use Rattle.pmb_fact_stream.proofs.front.first_address.Goals as goal

-- what stands after `S `
behind_start : (bytes rest : List ℕ) → bytes ≡ codes "S " ++ rest
    → take (length bytes - 2) (drop 2 bytes) ≡ rest
behind_start bytes rest is = take_rest bytes 2 ∙ ap (drop 2) is

pub returns-in-Some : goal.returns-in-Some
returns-in-Some c b rest small is =
    let found = c.front_event.ensures.found (Byte b) rest small
    (behind_start c.args.bytes.now (text_of (Byte b) ++ rest) is) in
    let one : c.in-Some.event ≡ Byte b = cc (sym c.in-Some.is ∙ found) in
    c.byte_address.ensures ∙ ap (λ (event : Event). next_address (event ∷ [])) one

pub returns-in-None : goal.returns-in-None
returns-in-None c b rest small is =
    let found = c.front_event.ensures.found (Byte b) rest small
    (behind_start c.args.bytes.now (text_of (Byte b) ++ rest) is) in
    absurd (cc (sym c.in-None.is ∙ found))
