-- Names one after the other with something between, in two lists, and the registers of status commands: for
-- `append_set_bits` and `append_status`.
use Rattle.std.proofs.Common.{◌≡◌, ℕ, ◌+◌, ◌*◌, List, [], ◌∷◌, ◌++◌, length, get_or, refl, sym, ap}
use Rattle.std.proofs.Common.{◌∙◌, append_assoc}
use Rattle.std.proofs.Common.{arith}
use Rattle.pmb_command.specs.Parts.{CommandParts}
use Rattle.pmb_json_fields.specs.Value.{set_bits}
use Rattle.pmb_json_text.specs.declared.item_order.ItemOrder.{ItemOrder}
use Rattle.pmb_json_text.specs.declared.item_order.ItemOrder.TheVariants.{Later}
use Rattle.pmb_json_text.specs.Member.{place_after}
use Rattle.pmb_log_data.specs.Data.{bits_says, status_says}
use Rattle.pmb_log_data.specs.Text.{between, joined}
use Rattle.pmb_log_data.specs.Appends.{Appends}
use Rattle.pmb_log_data.proofs.Texts.{called, then}

later_after : (xs : List (List ℕ)) → place_after Later xs ≡ Later
later_after [] = refl
later_after (x ∷ xs) = refl

-- the place after two lists
pub after_both : (place : ItemOrder) (xs ys : List (List ℕ)) → place_after (place_after place xs) ys
    ≡ place_after place (xs ++ ys)
after_both place [] ys = refl
after_both place (x ∷ xs) ys = later_after ys

-- two lists are joined as the first, and then the second in the place after it
joined_in_parts : (sep : List ℕ) (place : ItemOrder) (xs ys : List (List ℕ))
    → joined sep place (xs ++ ys) ≡ joined sep place xs ++ joined sep (place_after place xs) ys
joined_in_parts sep place [] ys = refl
joined_in_parts sep place (x ∷ xs) ys =
    let first : List ℕ = between sep place ++ x in
    ap (λ (t : List ℕ). first ++ t) (joined_in_parts sep Later xs ys
    ∙ ap (λ p. joined sep Later xs ++ joined sep p ys) (later_after xs))
    ∙ sym (append_assoc first (joined sep Later xs) (joined sep Later ys))

pub then_joined : (sep : List ℕ) (place : ItemOrder) (xs ys : List (List ℕ)) {next : ItemOrder} {m n : ℕ}
    {a b c : List ℕ} → next ≡ place_after place xs → Appends (joined sep place xs) m a b → Appends (joined sep next ys) n b c
    → Appends (joined sep place (xs ++ ys)) (m + n) a c
then_joined sep place xs ys {next} is first second =
    called (sym (joined_in_parts sep place xs ys)) (then first (called (ap (λ p. joined sep p ys) is) second))

-- two bytes are a register
pub two_bytes : (c : CommandParts) (word : ℕ) (bytes : List ℕ) → length bytes ≡ 2
    → word ≡ get_or bytes 0 0 + 256 * get_or bytes 1 0 → bits_says (set_bits c word 16) ≡ status_says c bytes
two_bytes c word [] two is = absurd (omega (arith, two))
two_bytes c word (a ∷ []) two is = absurd (omega (arith, two))
two_bytes c word (low ∷ high ∷ []) two is = ap (λ (value : ℕ). bits_says (set_bits c value 16)) is
two_bytes c word (a ∷ b ∷ d ∷ bytes) two is = absurd (omega (arith, two))
