-- PHASE, as it is told: what is told later takes the place of what was told before. For the law
-- `pieces_say_what_the_whole_says`, and for `Late`, which keeps what was told last (Keeping).
use Rattle.std.proofs.Common.{◌≡◌, ℕ, cond, Bool, true, false, Option, Some, None, List, [], ◌∷◌, ◌++◌, fold}
use Rattle.std.proofs.Common.{refl, sym, ap, ◌∙◌}
use Rattle.std.specs.Option.{is_some, option_and_then, option_or}
use Rattle.std.proofs.lemmas.List.{append_assoc, append-nil, map-append}
use Rattle.std.proofs.lemmas.List.Sums.{fold-append}
use Rattle.std.proofs.lemmas.Option.{none-some}
use Rattle.pmb_command.specs.Parts.{DeviceParts, device_with}
use Rattle.pmb_note.specs.Paging.{RegisterTold, told}
use Rattle.pmb_unknown_start.specs.Past.{PastData, Said, Dropped}
use Rattle.pmb_unknown_start.specs.Phase.{last_phase, phase, phase_of, told_phase, told_since, told_then}
use Rattle.pmb_unknown_start.specs.Taken.{as_taken, one_taken}

-- ---- what is told later

later_of_three : (a b c : Option ℕ) → option_or (option_or a b) c ≡ option_or a (option_or b c)
later_of_three None b c = refl
later_of_three (Some n) b c = refl

after_none : (a : Option ℕ) → a ≡ option_or a None
after_none None = refl
after_none (Some n) = refl

pub last_append : (addr : ℕ) (before after : List RegisterTold)
    → last_phase addr (before ++ after) ≡ option_or (last_phase addr after) (last_phase addr before)
last_append addr [] after = after_none (last_phase addr after)
last_append addr (t ∷ before) after =
    ap (λ (last : Option ℕ). option_or last (told_phase addr t)) (last_append addr before after)
    ∙ later_of_three (last_phase addr after) (last_phase addr before) (told_phase addr t)

-- ---- a piece of a capture

-- what is told last with nothing before, is so with something before
told_before : (addr number : ℕ) (before ts : List RegisterTold) (piece : List PastData)
    → last_phase addr (fold told_then ts piece) ≡ Some number
    → last_phase addr (fold told_then (before ++ ts) piece) ≡ Some number
told_before addr number before ts [] known =
    last_append addr before ts ∙ ap (λ (last : Option ℕ). option_or last (last_phase addr before)) known
told_before addr number before ts (Said t ∷ piece) known =
    ap (λ (us : List RegisterTold). last_phase addr (fold told_then us piece)) (append_assoc before ts (told t))
    ∙ told_before addr number before (ts ++ told t) piece known
told_before addr number before ts (Dropped ∷ piece) known = known

module _ (addr number : ℕ) (before piece : List PastData) where
  in_whole : (phases : Bool) → cond phases (last_phase addr (told_since piece)) None ≡ Some number
      → cond phases (last_phase addr (told_since (before ++ piece))) None ≡ Some number
  in_whole false known = absurd (none-some number known)
  in_whole true known =
      ap (last_phase addr) (fold-append told_then [] before piece
      ∙ ap (λ (ts : List RegisterTold). fold told_then ts piece) (sym (append-nil (told_since before))))
      ∙ told_before addr number (told_since before) [] piece known

of_found : (addr number : ℕ) (before piece : List PastData) (found : Option DeviceParts)
    → option_and_then (phase_of addr piece) found ≡ Some number
    → option_and_then (phase_of addr (before ++ piece)) found ≡ Some number
of_found addr number before piece None known = absurd (none-some number known)
of_found addr number before piece (Some device) known =
    ap (λ (all : List PastData). cond (is_some device.phases) (last_phase addr (told_since all)) None)
    (map-append (one_taken device) before piece)
    ∙ in_whole addr number (as_taken device before) (as_taken device piece) (is_some device.phases) known

pub phase_at : (profile : List DeviceParts) (before piece : List PastData) (addr number : ℕ)
    → phase profile piece addr ≡ Some number → phase profile (before ++ piece) addr ≡ Some number
phase_at profile before piece addr number = of_found addr number before piece (device_with addr profile)
