use Rattle.std.proofs.Common.{◌≡◌, List, ℕ, ◌++◌, ◌/◌, ◌%◌, ◌∙◌, ap, append_assoc, codes, decimal}
use Rattle.pmb_wire_packets.specs.Time.{billion, nine_digits, with_point}
use Rattle.pmb_wire_packets.proofs.time.append_seconds.Goals as goal

-- whole seconds, the point, and nine digits
pub returns-clause-text : goal.returns-clause-text
returns-clause-text c =
    let front = c.args.text.now.items in
    let whole = decimal (c.args.billionths / billion) in
    let digits = nine_digits (c.args.billionths % billion) in
    let joined : ((front ++ whole) ++ codes ".") ++ digits ≡ front ++ with_point c.args.billionths = simp append_assoc in
    c.append_nine.ensures.text
    ∙ ap (λ (t : List ℕ). t ++ digits)
    (c.append-2.ensures.text
    ∙ ap (λ (t : List ℕ). t ++ codes ".")
    (c.append.ensures.text ∙ ap (λ (t : List ℕ). front ++ t) (c.as_bytes.ensures.value ∙ c.format.ensures.text)))
    ∙ joined
