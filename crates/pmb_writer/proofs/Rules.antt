-- Rules one after the other: all are kept, or one is the first that is broken, and never both. For
-- `check_refused`, `check_parts`, `check` and the laws `one_first_fault` and
-- `no_packet_with_a_fault`. By induction over the rules; what is found of those that are left is
-- found of all, since those before them are kept.
use Rattle.std.proofs.Common.{◌≡◌, ℕ, List, [], ◌∷◌, ◌++◌, map, take, drop, sym, ◌∙◌, inl, inr}
use Rattle.pmb_command.specs.Parts.{DeviceParts}
use Rattle.pmb_transaction.specs.declared.part.Part.{Part}
use Rattle.pmb_transaction.specs.Transaction.{part_data}
use Rattle.pmb_transaction.specs.Packet.{addresses}
use Rattle.pmb_writer.specs.declared.invalid.Invalid.{Invalid}
use Rattle.pmb_writer.specs.Invalid.{Rule, AreKept, IsFirstBroken, parts_rules}

pub kept_all : (front back : List Rule) → AreKept front → AreKept back → AreKept (front ++ back)
kept_all [] back kept more = more
kept_all (rule ∷ front) back kept more = (kept.0, kept_all front back kept.1 more)

pub kept_parts : (front back : List Rule) → AreKept (front ++ back) → AreKept front × AreKept back
kept_parts [] back kept = (tt, kept)
kept_parts (rule ∷ front) back kept =
    let rest : AreKept front × AreKept back = kept_parts front back kept.1 in
    ((kept.0, rest.0), rest.1)

pub broken_in_front : (front back : List Rule) (fault : Invalid) → IsFirstBroken front fault
    → IsFirstBroken (front ++ back) fault
broken_in_front [] back fault broken = absurd broken
broken_in_front (rule ∷ front) back fault (inl here) = inl here
broken_in_front (rule ∷ front) back fault (inr later) = inr (later.0, broken_in_front front back fault later.1)

pub broken_behind : (front back : List Rule) (fault : Invalid) → AreKept front → IsFirstBroken back fault
    → IsFirstBroken (front ++ back) fault
broken_behind [] back fault kept broken = broken
broken_behind (rule ∷ front) back fault kept broken = inr (kept.0, broken_behind front back fault kept.1 broken)

pub not_both : (rules : List Rule) (fault : Invalid) → AreKept rules → IsFirstBroken rules fault → ⊥
not_both [] fault kept broken = broken
not_both (rule ∷ rules) fault kept (inl (broken, is)) = broken kept.0
not_both (rule ∷ rules) fault kept (inr later) = not_both rules fault kept.1 later.1

-- What is found of the rules that are left is found of all: those before them are kept.
pub record Lead (left : List Rule) (all : List Rule) : Type 0 where
  pub kept : AreKept left → AreKept all
  pub broken : (fault : Invalid) → IsFirstBroken left fault → IsFirstBroken all fault

-- the rules of the parts from one on
abbrev pub rules_from : List DeviceParts → List Part → ℕ → List Rule
rules_from profile parts n = parts_rules profile (addresses (map part_data (take n parts)))
    (map part_data (drop n parts))

-- the first rule that is broken is one
pub one_broken : (rules : List Rule) (a b : Invalid) → IsFirstBroken rules a → IsFirstBroken rules b → a ≡ b
one_broken [] a b first second = absurd first
one_broken (rule ∷ rules) a b (inl here) (inl there) = here.1 ∙ sym there.1
one_broken (rule ∷ rules) a b (inl here) (inr later) = absurd (here.0 later.0)
one_broken (rule ∷ rules) a b (inr later) (inl there) = absurd (there.0 later.0)
one_broken (rule ∷ rules) a b (inr later) (inr after) = one_broken rules a b later.1 after.1
