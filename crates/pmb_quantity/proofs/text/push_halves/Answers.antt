use Rattle.std.proofs.Common.{◌≡◌, ℕ, ◌+◌, ◌-◌, ◌*◌, ◌/◌, ◌%◌, ◌^◌, ◌<◌, suc, [], ◌∷◌, ◌++◌, length, length-append}
use Rattle.std.proofs.Common.{append_assoc, bit_and, sym, ap, ◌∙◌, subst, arith}
use Rattle.std.proofs.lemmas.Nat.{one_shl, and_mask, mod_below, pow_pos}
use Rattle.pmb_quantity.specs.QuantityText.{padded}
use Rattle.pmb_quantity.proofs.Halves.{halves_digit}
use Rattle.pmb_quantity.proofs.text.push_halves.Goals as goal

pub loop-places-preserved : goal.loop-places-preserved
loop-places-preserved c =
    let p = c.loop-places.places - 1 in
    let n = c.loop-places.left in
    let more : c.loop-places.places ≡ suc p = omega arith in
    let below : n < 2 ^ suc p = subst (λ (k : ℕ). n < 2 ^ k) more c.loop-places.invariant.below in
    let mask : bit_and (5 * n) (1 * 2 ^ p % 2 ^ 64 - 1) ≡ 5 * n % 2 ^ p =
    ap (λ x. bit_and (5 * n) (x - 1)) (one_shl p 64 (omega (arith, c.loop-places.invariant.few)))
    ∙ and_mask (5 * n) p in
    let digits : padded c.loop-places.places (n * 5 ^ c.loop-places.places) ≡ (48 + 5 * n / 2 ^ p)
    ∷ padded p (5 * n % 2 ^ p * 5 ^ p) = ap (λ k. padded k (n * 5 ^ k)) more ∙ halves_digit p n below in
    let written = c.loop-places.text.bytes in
    let digit = 48 + 5 * n / 2 ^ p in
    let longer = simp length-append at (ap length c.push_ascii.ensures) in
    rw mask (record {
      is = ap (λ b. b ++ padded p (5 * n % 2 ^ p * 5 ^ p)) c.push_ascii.ensures
          ∙ append_assoc written (digit ∷ []) (padded p (5 * n % 2 ^ p * 5 ^ p)) ∙ ap (λ ds. written ++ ds) (sym digits)
          ∙ c.loop-places.invariant.is;
      below = mod_below (5 * n) (2 ^ p) (pow_pos p);
      few = omega (arith, c.loop-places.invariant.few);
      room = omega (arith, longer, c.loop-places.invariant.room);
    })
