-- How many facts of each sort there are, as members of an object.
use Rattle.std.specs.Prelude.{ℕ, List, [], ◌∷◌, ◌++◌, codes, flat_map}
use Rattle.pmb_facts.specs.Fact.{FactData}
use Rattle.pmb_io.specs.Count.{capped}
use Rattle.pmb_json_text.specs.Member.{Member}
use Rattle.pmb_stats_counts.specs.declared.sort.NackPlace.TheVariants.{Address, Code, Byte, ReadAddress}
use Rattle.pmb_stats_counts.specs.declared.sort.Sort.{Sort}
use Rattle.pmb_stats_counts.specs.declared.sort.Sort.TheVariants.{Writes, Reads, Calls, Alerts, Nacks}
use Rattle.pmb_stats_counts.specs.declared.sort.Sort.TheVariants.{Refusals, Others}
use Rattle.pmb_stats_counts.specs.Counts.{count_in_all}
use Rattle.pmb_transaction.specs.declared.reason.Reason.{Reason}
use Rattle.pmb_transaction.specs.declared.reason.Reason.TheVariants.{ReadFirst, BadRestart, BadPec, UnknownDevice}
use Rattle.pmb_transaction.specs.declared.reason.Reason.TheVariants.{UnknownCommand, TooLong, TooShort, WrongEvent}
use Rattle.pmb_transaction.specs.declared.reason.Reason.TheVariants.{Truncated}
use Rattle.pmb_transaction.specs.Names.{reason_name}
use Rattle.pmb_stats_objects.specs.Members.{count_member, object_member}

-- how many facts of a sort there are; this stays at the greatest u64
abbrev pub sort_member : List FactData → List ℕ → Sort → List Member
sort_member facts key sort = count_member key (capped (count_in_all sort facts))

-- refused packets, by the place of the NACK
abbrev pub nack_members : List FactData → List Member
nack_members facts =
    sort_member facts (codes "address") (Nacks Address) ++ sort_member facts (codes "code") (Nacks Code)
    ++ sort_member facts (codes "byte") (Nacks Byte) ++ sort_member facts (codes "read address") (Nacks ReadAddress)

-- all reasons, in the order in which they are told
abbrev pub reasons : List Reason
reasons =
    ReadFirst ∷ BadRestart ∷ BadPec ∷ UnknownDevice ∷ UnknownCommand ∷ TooLong ∷ TooShort ∷ WrongEvent ∷ Truncated
    ∷ []

-- refusals, by some reasons
abbrev pub reason_members : List FactData → List Reason → List Member
reason_members facts some = flat_map (λ reason. sort_member facts (reason_name reason) (Refusals reason)) some

-- what facts are counted as, all that is 0 left out
abbrev pub counts_members : List FactData → List Member
counts_members facts =
    sort_member facts (codes "writes") Writes ++ sort_member facts (codes "reads") Reads
    ++ sort_member facts (codes "calls") Calls ++ sort_member facts (codes "alerts") Alerts
    ++ object_member (codes "nacks") (nack_members facts)
    ++ object_member (codes "refusals") (reason_members facts reasons)
    ++ sort_member facts (codes "others") Others
