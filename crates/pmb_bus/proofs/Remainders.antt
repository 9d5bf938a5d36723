-- The table of remainders, `REMAINDERS`, computed as a whole and read for each byte. For
-- `pec_next`. Each entry is the code of its byte alone, and the code of one byte more is that of
-- the old code xor the byte (`pec_step`).
use Rattle.std.proofs.Common.{◌≡◌, ℕ, ◌<◌, true, ◌==◌, get_or, List, [], ◌∷◌, ◌++◌, refl, sym, ap, ◌∙◌}
use Rattle.std.specs.Prelude.{bit_xor}
use Rattle.std.proofs.lemmas.Bool.{agree_below, agree_below_at, eqb-true}
use Rattle.pmb_bus.specs.declared.pec.TheConstants.{REMAINDERS}
use Rattle.pmb_bus.specs.Pec.{plus, divide_step, left_after, number, pec}
use Rattle.pmb_bus.proofs.Codes.{pec_step}

-- the whole table, computed
table_is_right : agree_below (λ b. get_or REMAINDERS b 0 == pec (b ∷ [])) (λ b. true) 256 ≡ true
unfolding plus divide_step left_after number pec
table_is_right = refl

-- each entry is the code of its byte
pub entry : (b : ℕ) → b < 256 → get_or REMAINDERS b 0 ≡ pec (b ∷ [])
entry b byte =
    eqb-true (get_or REMAINDERS b 0) (pec (b ∷ []))
    (agree_below_at (λ n. get_or REMAINDERS n 0 == pec (n ∷ [])) (λ n. true) 256 b table_is_right byte)

-- the entry of the old code xor the new byte is the code of one byte more
pub entry_goes_on : (bytes : List ℕ) (crc b : ℕ) → bit_xor crc b < 256 → pec bytes ≡ crc
    → get_or REMAINDERS (bit_xor crc b) 0 ≡ pec (bytes ++ b ∷ [])
entry_goes_on bytes crc b byte same =
    entry (bit_xor crc b) byte ∙ ap (λ c. pec (bit_xor c b ∷ [])) (sym same) ∙ sym (pec_step bytes b)
