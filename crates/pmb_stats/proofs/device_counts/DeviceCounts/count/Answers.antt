use Rattle.std.proofs.Common.{◌≡◌, ◌<◌, ◌∙◌, List, Some, ap, length, rules, slice_get, subst, sym}
use Rattle.std.proofs.lemmas.Option.{slice_get-get_or}
use Rattle.pmb_facts.specs.Fact.{fact_device}
use Rattle.pmb_stats.proofs.Devices.{none_counted, one_counted}
use Rattle.pmb_stats.proofs.device_counts.DeviceCounts.count.Goals as goal
use Rattle.pmb_stats.specs.machine.DeviceCounts.{DevicesStandAt}
use Rattle.pmb_stats_counts.specs.declared.counts.SortCounts.{SortCounts}

pub returns-then-addr-lt-ADDRESSES-clause-counted : goal.returns-then-addr-lt-ADDRESSES-clause-counted
returns-then-addr-lt-ADDRESSES-clause-counted c facts fact stands said =
    let names_it : fact_device fact.what ≡ Some c.from-addr.result
    = sym (c.device.ensures fact.what said) ∙ (c.in-Some.is ∙ ap Some (sym c.from-addr.ensures)) in
    let devices = c.self.inside.counts.items in
    let before = c.index_mut.result.now in
    let within : c.from-addr.result < length devices = search rules in
    let found : slice_get devices c.from-addr.result ≡ Some before
    = slice_get-get_or devices c.from-addr.result before within ∙ ap Some (sym c.index_mut.ensures.value) in
    one_counted devices facts fact c.from-addr.result before _
    (subst (λ (ds : List SortCounts). DevicesStandAt ds facts) (sym c.self.view_is) stands) names_it found
    (λ counted. c.count.ensures _ fact counted said)

pub returns-else-addr-lt-ADDRESSES-clause-counted : goal.returns-else-addr-lt-ADDRESSES-clause-counted
returns-else-addr-lt-ADDRESSES-clause-counted c facts fact stands said =
    let names_it : fact_device fact.what ≡ Some c.from-addr.result
    = sym (c.device.ensures fact.what said) ∙ (c.in-Some.is ∙ ap Some (sym c.from-addr.ensures)) in
    let many : length c.args.self.now ≡ 128 = search rules in
    none_counted _ facts fact c.from-addr.result stands names_it many c.if-addr-lt-ADDRESSES.false
