use Rattle.std.proofs.Common.{◌≡◌, ℕ, ◌+◌, ◌≤◌, ◌<◌, List, [], ◌∷◌, length, get_or, map, refl, ap, sym, subst, arith, Bool, true, false}
use Rattle.std.proofs.Common.{cond, ◌&&◌, ◌||◌, nat_lt}
use Rattle.pmb_command.specs.Parts.{DeviceParts}
use Rattle.pmb_transaction.specs.Transaction.{PartData, part_data}
use Rattle.pmb_transaction.specs.declared.part.Part.{Part}
use Rattle.pmb_unknown_start.specs.declared.start.Start.{Start}
use Rattle.pmb_unknown_start.specs.Taken.{takes, takes_other}
use Rattle.pmb_unknown_start.specs.machine.Keeping.{KeptData, kept_dropped, kept_parts, kept_write}
use Rattle.pmb_unknown_start.proofs.late.may_tell.Goals as goal

single : (parts : List Part) (part : Part) → 1 ≤ length parts → length parts < 2 → part ≡ get_or parts 0 part
    → parts ≡ part ∷ []
single [] part some few is = absurd (omega (arith, some))
single (first ∷ []) part some few is = ap (λ (p : Part). p ∷ []) (sym is)
single (first ∷ second ∷ parts) part some few is = absurd (omega (arith, few))

-- one part crosses with none, and a write that is not followed leaves what is kept
one_left : (start : Start) (device : DeviceParts) (part : PartData) (k : KeptData)
    → kept_write start device part.code part.bytes k ≡ k → kept_parts start device (part ∷ []) k ≡ k
one_left start device part k stays = by (takes_other device part) (takes device part)
  where
    by : (other own : Bool) → cond ((other || false) && nat_lt 1 (0 + cond own 1 0)) (kept_dropped start k)
        (cond own (kept_write start device part.code part.bytes k) k) ≡ k
    by true true = stays
    by true false = refl
    by false true = stays
    by false false = refl

pub returns-in-len1 : goal.returns-in-len1
returns-in-len1 c = λ none start device k.
    let only : Part = c.only-item.result in
    subst (λ (parts : List Part). kept_parts start device (map part_data parts) k ≡ k)
    (sym (single c.args.parts.now only (omega (arith, c.in-len1.len_at_least)) (omega (arith, c.in-len1.len_below)) c.only-item.is))
    (one_left start device (part_data only) k
    (subst (λ (bytes : List ℕ). kept_write start device only.code bytes k ≡ k) c.as_slice.ensures.value
    (c.is_followed.ensures none start device k)))
