use Rattle.std.proofs.Common.{◌≡◌, ◌∙◌, ℕ, List, ◌++◌, ◌∷◌, [], ap, append_assoc}
use Rattle.hex.specs.Hex.{encode_with}
use Rattle.pmb_writer.proofs.text.append_byte.Goals as goal

-- one more after some
pushed : (items before : List ℕ) (front : List ℕ) (byte : ℕ) (after : List ℕ) → before ≡ items ++ front
    → after ≡ before ++ byte ∷ [] → after ≡ items ++ (front ++ byte ∷ [])
pushed items before front byte after was is = is
    ∙ (ap (λ (l : List ℕ). l ++ byte ∷ []) was ∙ append_assoc items front (byte ∷ []))

-- The digits are those of the byte's halves.
pub returns-clause-text : goal.returns-clause-text
unfolding encode_with
returns-clause-text g c =
    let items = c.args.text.now.items in
    let high = c.push.ensures.items ∙ ap (λ (b : ℕ). items ++ b ∷ []) c.digit.ensures in
    let low = pushed items c.push.new.self.items _ _ c.push-2.new.self.items high
    (c.push-2.ensures.items ∙ ap (λ (b : ℕ). c.push.new.self.items ++ b ∷ []) c.digit-2.ensures) in
    pushed items c.push-2.new.self.items _ _ c.push-3.new.self.items low c.push-3.ensures.items
