-- What both texts write of counts is the same for facts that count alike.
use Rattle.std.proofs.Common.{◌≡◌, ℕ, ◌==◌, cond, List, [], ◌∷◌, ◌++◌, ap, codes, ◌∙◌}
use Rattle.std.specs.List.{flat_map, sum}
use Rattle.pmb_facts.specs.Fact.{FactData}
use Rattle.pmb_io.specs.Count.{capped}
use Rattle.pmb_json_text.specs.declared.item_order.ItemOrder.TheVariants.{First}
use Rattle.pmb_log_data.specs.Text.{joined}
use Rattle.pmb_stats_counts.specs.Alike.{CountAlike}
use Rattle.pmb_stats_counts.specs.declared.sort.NackPlace.TheVariants.{Address, Code, Byte, ReadAddress}
use Rattle.pmb_stats_counts.specs.declared.sort.Sort.{Sort}
use Rattle.pmb_stats_counts.specs.declared.sort.Sort.TheVariants.{Writes, Reads, Calls, Alerts, Nacks}
use Rattle.pmb_stats_counts.specs.declared.sort.Sort.TheVariants.{Refusals, Others}
use Rattle.pmb_stats_objects.specs.Counts as objects
use Rattle.pmb_stats_objects.specs.Members.{count_member, object_member}
use Rattle.pmb_stats_table.specs.Counts as table
use Rattle.pmb_stats_table.specs.Row.{after_gaps}
use Rattle.pmb_stats_texts.proofs.Lists.{both, everywhere, flat_alike, maps_alike}
use Rattle.pmb_transaction.specs.declared.reason.Reason.{Reason}
use Rattle.pmb_transaction.specs.Names.{reason_name}

module _ (facts others : List FactData) (alike : CountAlike facts others) where
  -- ---- as members

  sort_member : (key : List ℕ) (sort : Sort)
      → objects.sort_member facts key sort ≡ objects.sort_member others key sort
  sort_member key sort = ap (count_member key) (alike.each sort)

  nack_members : objects.nack_members facts ≡ objects.nack_members others
  nack_members =
      both (both (both (sort_member (codes "address") (Nacks Address)) (sort_member (codes "code") (Nacks Code)))
      (sort_member (codes "byte") (Nacks Byte))) (sort_member (codes "read address") (Nacks ReadAddress))

  reason_members : (some : List Reason) → objects.reason_members facts some ≡ objects.reason_members others some
  reason_members some =
      flat_alike (λ reason. objects.sort_member facts (reason_name reason) (Refusals reason))
      (λ reason. objects.sort_member others (reason_name reason) (Refusals reason)) some
      (everywhere (λ reason. objects.sort_member facts (reason_name reason) (Refusals reason)
      ≡ objects.sort_member others (reason_name reason) (Refusals reason)) some
      (λ reason. sort_member (reason_name reason) (Refusals reason)))

  pub counts_members : objects.counts_members facts ≡ objects.counts_members others
  counts_members =
      both (both (both (both (both (both (sort_member (codes "writes") Writes) (sort_member (codes "reads") Reads))
      (sort_member (codes "calls") Calls)) (sort_member (codes "alerts") Alerts))
      (ap (object_member (codes "nacks")) nack_members))
      (ap (object_member (codes "refusals")) (reason_members objects.reasons))) (sort_member (codes "others") Others)

  -- ---- as words

  sort_words : (sort : Sort) → table.sort_words facts sort ≡ table.sort_words others sort
  sort_words sort = ap (table.counted_if (table.sort_name sort)) (alike.each sort)

  total : (sorts : List Sort) → table.total facts sorts ≡ table.total others sorts
  total sorts =
      ap (λ counts. capped (sum counts)) (maps_alike (table.count facts) (table.count others) sorts alike.each)

  group_words : (name : List ℕ) (sorts : List Sort)
      → table.group_words facts name sorts ≡ table.group_words others name sorts
  group_words name sorts =
      ap (λ n. cond (n == 0) [] ((table.counted name n ++ codes " ("
      ++ joined (codes ", ") First (flat_map (table.sort_words facts) sorts) ++ codes ")") ∷ [])) (total sorts)
      ∙ ap (λ words. cond (table.total others sorts == 0) [] ((table.counted name (table.total others sorts)
      ++ codes " (" ++ joined (codes ", ") First words ++ codes ")") ∷ []))
      (flat_alike (table.sort_words facts) (table.sort_words others) sorts
      (everywhere (λ sort. table.sort_words facts sort ≡ table.sort_words others sort) sorts sort_words))

  -- each after two blanks
  sort_says : (sort : Sort) → after_gaps (table.sort_words facts sort) ≡ after_gaps (table.sort_words others sort)
  sort_says sort = ap after_gaps (sort_words sort)

  pub counts_say : table.counts_say facts ≡ table.counts_say others
  counts_say =
      both (both (both (both (both (both (sort_says Writes) (sort_says Reads)) (sort_says Calls)) (sort_says Alerts))
      (ap after_gaps (group_words (codes "nacks") table.nacks)))
      (ap after_gaps (group_words (codes "refusals") table.refusals))) (sort_says Others)
