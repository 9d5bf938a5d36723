use Rattle.pmb_json_objects.proofs.All.{all_last, all_of_packet}
use Rattle.pmb_json_objects.proofs.laws.all_objects_are_json.Goals as goal

pub returns-clause-packet : goal.returns-clause-packet
returns-clause-packet c seen place time n events t placed timed is =
    all_of_packet seen (record {
      write = c.objects_are_json.ensures.write seen;
      read = c.objects_are_json.ensures.read seen;
      call = c.objects_are_json.ensures.call seen;
      refused = c.objects_are_json.ensures.refused seen;
      alert = c.objects_are_json.ensures.alert seen.profile;
      no_alert = c.objects_are_json.ensures.no_alert;
    }) place placed time timed n events t is

pub returns-clause-last : goal.returns-clause-last
returns-clause-last c profile gives_others known bus =
    all_last profile gives_others
    (λ addr counts. c.objects_are_json.ensures.counts profile gives_others addr counts bus)
    (c.objects_are_json.ensures.end gives_others) known
