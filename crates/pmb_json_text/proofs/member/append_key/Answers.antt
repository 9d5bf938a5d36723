-- A key stands in its string as it is.
use Rattle.std.proofs.Common.{◌++◌, List, ℕ, codes, ap, ◌∙◌, append_assoc}
use Rattle.pmb_json_text.proofs.Pieces.{key_appended}
use Rattle.pmb_json_text.proofs.member.append_key.Goals as goal

pub returns-clause-key : goal.returns-clause-key
returns-clause-key g c =
    key_appended c.args.place c.args.key.now c.args.out.now.items c.requires.key c.append_comma.ensures.text
    c.push.ensures.items
    (c.append.ensures ∙ ap (λ (t : List ℕ). c.push.new.self.items ++ t) c.as_bytes.ensures.value)
    (c.push-3.ensures.items ∙ ap (λ (t : List ℕ). t ++ codes ":") c.push-2.ensures.items
    ∙ append_assoc c.append.new.out.items (codes "\"") (codes ":"))
