use Rattle.std.proofs.Common.{◌≡◌, ◌<◌, ◌≤◌, ℕ, Option, Some, None, List, [], ◌∷◌, length, get_or, refl, ap, ◌∙◌, arith}
use Rattle.std.specs.Prelude.{IfSome}
use Rattle.pmb_bus.specs.Address.{write_address}
use Rattle.pmb_canonical.proofs.refused.refused_address.Goals as goal

one_byte : (bytes : List ℕ) → 1 ≤ length bytes → length bytes < 2 → bytes ≡ get_or bytes 0 0 ∷ []
one_byte [] some few = absurd (omega (arith, some))
one_byte (byte ∷ []) some few = refl
one_byte (byte ∷ next ∷ bytes) some few = absurd (omega (arith, few))

alone : (bytes : List ℕ) (result : Option ℕ) → bytes ≡ get_or bytes 0 0 ∷ [] → get_or bytes 0 0 < 256
    → IfSome result (λ address. get_or bytes 0 0 ≡ write_address address)
    → IfSome result (λ address. (address < 128) × (bytes ≡ write_address address ∷ []))
alone bytes None one small named = tt
alone bytes (Some address) one small named = (omega (arith, small, named), one ∙ ap (λ (b : ℕ). b ∷ []) named)

pub returns-clause-says : goal.returns-clause-says
returns-clause-says c =
    alone c.args.bytes.now c.written_to.result (one_byte c.args.bytes.now c.in-len1.len_at_least c.in-len1.len_below)
    (omega (arith, c.type_inv.bytes 0))
    c.written_to.ensures.named

pub returns-clause-found : goal.returns-clause-found
returns-clause-found c address is = c.written_to.ensures.found address (ap (λ (l : List ℕ). get_or l 0 0) is)
