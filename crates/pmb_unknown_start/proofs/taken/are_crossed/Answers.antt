use Rattle.std.proofs.Common.{◌≡◌, ℕ, List, [], ◌∷◌, map, refl, ap, ◌∙◌, Bool, ◌&&◌, ◌||◌, nat_lt, sym, ◌+◌, cond}
use Rattle.std.specs.List.{list_any}
use Rattle.std.specs.Prelude.{count_by}
use Rattle.std.proofs.lemmas.List.Folds.{fold-map}
use Rattle.pmb_transaction.specs.Transaction.{PartData, part_data}
use Rattle.pmb_transaction.specs.declared.part.Part.{Part}
use Rattle.pmb_command.specs.Parts.{DeviceParts}
use Rattle.pmb_unknown_start.specs.Taken.{are_crossed, takes, takes_other}
use Rattle.pmb_unknown_start.proofs.taken.are_crossed.Goals as goal

any_of : (p : PartData → Bool) (parts : List Part) → list_any p (map part_data parts) ≡ list_any (λ part. p (part_data part)) parts
any_of p [] = refl
any_of p (part ∷ parts) = ap (λ (b : Bool). p (part_data part) || b) (any_of p parts)

count_of : (p : PartData → Bool) (parts : List Part) → count_by p (map part_data parts) ≡ count_by (λ part. p (part_data part)) parts
count_of p parts = fold-map (λ (n : ℕ) (part : PartData). n + cond (p part) 1 0) part_data 0 parts

-- by whether some come to another address, and how many there are
both : (device : DeviceParts) (parts : List Part) → are_crossed device (map part_data parts)
    ≡ list_any (λ part. takes_other device (part_data part)) parts && nat_lt 1 (count_by (λ part. takes device (part_data part)) parts)
both device parts =
    ap (λ (b : Bool). b && nat_lt 1 (count_by (takes device) (map part_data parts))) (any_of (takes_other device) parts)
    ∙ ap (λ (n : ℕ). list_any (λ part. takes_other device (part_data part)) parts && nat_lt 1 n) (count_of (takes device) parts)

pub returns-then-takes_some_other : goal.returns-then-takes_some_other
returns-then-takes_some_other c =
    ap (λ (n : ℕ). nat_lt 1 n) c.count_taken.ensures
    ∙ sym (both c.args.device.now c.args.parts.now
    ∙ ap (λ (b : Bool). b && nat_lt 1 (count_by (λ part. takes c.args.device.now (part_data part)) c.args.parts.now))
    (sym c.takes_some_other.ensures ∙ c.if-takes_some_other.true))

pub returns-else-takes_some_other : goal.returns-else-takes_some_other
returns-else-takes_some_other c =
    c.if-takes_some_other.false
    ∙ sym (both c.args.device.now c.args.parts.now
    ∙ ap (λ (b : Bool). b && nat_lt 1 (count_by (λ part. takes c.args.device.now (part_data part)) c.args.parts.now))
    (sym c.takes_some_other.ensures ∙ c.if-takes_some_other.false))
