-- What is told of two pieces adds up to what is told of the whole, since what is told is what is counted, and
-- that adds up. For the laws `told_counts_of_pieces_add_up` and `tallies_of_pieces_add_up`.
use Rattle.std.proofs.Common.{◌≡◌, ℕ, ◌+◌, List, ap, sym, ◌∙◌, arith}
use Rattle.std.specs.List.{sum_by}
use Rattle.pmb_capture.specs.Cut.{sum_of as sum_of_tallies}
use Rattle.pmb_facts.specs.Fact.{FactData}
use Rattle.pmb_io.specs.Count.{capped}
use Rattle.pmb_io.specs.Tally.{IsTallyOf}
use Rattle.pmb_io.specs.declared.tally.Tally.{Tally}
use Rattle.pmb_json_objects.specs.Counts.{CountsData, DeviceData, sum_of}
use Rattle.pmb_stats_counts.specs.Counts.{count_in_all, count_of}
use Rattle.pmb_stats_counts.specs.declared.sort.Sort.TheVariants.{Writes, Reads, Calls, Nacks, Refusals, Others}
use Rattle.pmb_stats_laws.proofs.Sums.{sum_both, sum_same}
use Rattle.pmb_stats_laws.specs.Pieces.{CountsAddUp, sum_of_told}
use Rattle.pmb_stats_laws.specs.Told.{CountsAreTold, nack_places, reasons}

-- counts that are told, of two pieces and of the whole
told_adds : (a b c first second whole : ℕ) → a ≡ first → b ≡ second → c ≡ whole → c ≡ a + b → whole ≡ first + second
told_adds a b c first second whole one other all add =
    sym all ∙ add ∙ ap (λ (n : ℕ). n + b) one ∙ ap (λ (n : ℕ). first + n) other

same_device : (a b : DeviceData) → a.writes ≡ b.writes → a.reads ≡ b.reads → a.calls ≡ b.calls
    → a.refused ≡ b.refused → a.refusals ≡ b.refusals → a.others ≡ b.others → a ≡ b
same_device a b writes reads calls refused refusals others = λ i. record {
  writes = writes i;
  reads = reads i;
  calls = calls i;
  refused = refused i;
  refusals = refusals i;
  others = others i;
}

module _ (firsts others whole : List FactData) (add : CountsAddUp firsts others whole) where
  -- of some sorts together
  sorts_add : {X : Type 0} (count : List FactData → X → ℕ)
      → ((x : X) → count whole x ≡ count firsts x + count others x) → (xs : List X)
      → sum_by (count whole) xs ≡ sum_by (count firsts) xs + sum_by (count others) xs
  sorts_add {X} count each xs =
      sum_same (count whole) (λ (x : X). count firsts x + count others x) each xs
      ∙ sum_both (count firsts) (count others) xs

  module _ (a b c : CountsData) (first : CountsAreTold firsts a) (second : CountsAreTold others b)
      (both : CountsAreTold whole c) where
    device_adds : (addr : ℕ) → c.of_device addr ≡ sum_of (a.of_device addr) (b.of_device addr)
    device_adds addr =
        let one = first.of_device addr in
        let other = second.of_device addr in
        let all = both.of_device addr in
        same_device (c.of_device addr) (sum_of (a.of_device addr) (b.of_device addr))
        (told_adds _ _ _ _ _ _ one.writes other.writes all.writes (add.of_device addr Writes))
        (told_adds _ _ _ _ _ _ one.reads other.reads all.reads (add.of_device addr Reads))
        (told_adds _ _ _ _ _ _ one.calls other.calls all.calls (add.of_device addr Calls))
        (told_adds _ _ _ _ _ _ one.refused other.refused all.refused
        (sorts_add (λ facts at. count_of addr (Nacks at) facts) (λ at. add.of_device addr (Nacks at)) nack_places))
        (told_adds _ _ _ _ _ _ one.refusals other.refusals all.refusals
        (sorts_add (λ facts reason. count_of addr (Refusals reason) facts)
        (λ reason. add.of_device addr (Refusals reason)) reasons))
        (told_adds _ _ _ _ _ _ one.others other.others all.others (add.of_device addr Others))

    pub counts_add : c ≡ sum_of_told a b
    counts_add =
        let packets : c.packets ≡ a.packets + b.packets =
        told_adds _ _ _ _ _ _ first.of_packets second.of_packets both.of_packets add.of_packets in
        let refusals : c.refusals ≡ a.refusals + b.refusals =
        told_adds _ _ _ _ _ _ first.of_refusals second.of_refusals both.of_refusals
        (sorts_add (λ facts reason. count_in_all (Refusals reason) facts) (λ reason. add.in_all (Refusals reason))
        reasons) in
        let bad_tokens : c.bad_tokens ≡ a.bad_tokens + b.bad_tokens =
        told_adds _ _ _ _ _ _ first.of_bad_tokens second.of_bad_tokens both.of_bad_tokens add.of_bad_tokens in
        let other : c.others ≡ a.others + b.others =
        told_adds _ _ _ _ _ _ first.of_others second.of_others both.of_others (add.in_all Others) in
        λ i. record {
          of_device = λ addr. device_adds addr i;
          packets = packets i;
          refusals = refusals i;
          bad_tokens = bad_tokens i;
          others = other i;
        }

-- ---- tallies

-- a count of the whole, by those of two pieces that stay at the greatest u64
capped_adds : (first second whole a b : ℕ) → capped (a + b) ≡ capped (capped a + capped b) → first ≡ capped a
    → second ≡ capped b → whole ≡ capped (a + b) → whole ≡ capped (first + second)
capped_adds first second whole a b adds one other all =
    all ∙ adds ∙ ap (λ (n : ℕ). capped (n + capped b)) (sym one) ∙ ap (λ (n : ℕ). capped (first + n)) (sym other)

pub tally_adds : ((m n : ℕ) → capped (m + n) ≡ capped (capped m + capped n)) → (a b c : CountsData) (s t tally : Tally)
    → c ≡ sum_of_told a b → IsTallyOf a.packets (a.refusals + a.bad_tokens) s
    → IsTallyOf b.packets (b.refusals + b.bad_tokens) t → IsTallyOf c.packets (c.refusals + c.bad_tokens) tally
    → tally ≡ sum_of_tallies s t
tally_adds adds a b c s t tally is first second both =
    let refusals : c.refusals + c.bad_tokens ≡ (a.refusals + a.bad_tokens) + (b.refusals + b.bad_tokens) =
    omega (
      arith,
      ap (λ (counts : CountsData). counts.refusals) is,
      ap (λ (counts : CountsData). counts.bad_tokens) is,
    ) in
    let packets_are : tally.packets ≡ capped (s.packets + t.packets) =
    capped_adds s.packets t.packets tally.packets a.packets b.packets (adds a.packets b.packets)
    first.packets_counted second.packets_counted
    (both.packets_counted ∙ ap (λ (counts : CountsData). capped counts.packets) is) in
    let refusals_are : tally.refusals ≡ capped (s.refusals + t.refusals) =
    capped_adds s.refusals t.refusals tally.refusals (a.refusals + a.bad_tokens) (b.refusals + b.bad_tokens)
    (adds (a.refusals + a.bad_tokens) (b.refusals + b.bad_tokens)) first.refusals_counted second.refusals_counted
    (both.refusals_counted ∙ ap capped refusals) in
    λ i. record { packets = packets_are i; refusals = refusals_are i }
