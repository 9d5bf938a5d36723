use Rattle.pmb_host.proofs.Exact.{new_exactly}
use Rattle.pmb_host.proofs.host.Host.new.Goals as goal

pub returns-in-Write-clause-exact : goal.returns-in-Write-clause-exact
returns-in-Write-clause-exact c = new_exactly c.args.profile.now c.args.request _ c.writer.result c.accepted_bus.ensures
    c.in-Write.is c.writer.ensures

pub returns-in-Read-clause-exact : goal.returns-in-Read-clause-exact
returns-in-Read-clause-exact c = new_exactly c.args.profile.now c.args.request _ c.reader.result c.accepted_bus.ensures
    c.in-Read.is c.reader.ensures

pub returns-in-Call-clause-exact : goal.returns-in-Call-clause-exact
returns-in-Call-clause-exact c = new_exactly c.args.profile.now c.args.request _ c.caller.result c.accepted_bus.ensures
    c.in-Call.is c.caller.ensures

pub returns-in-Set-clause-exact : goal.returns-in-Set-clause-exact
returns-in-Set-clause-exact c = new_exactly c.args.profile.now c.args.request _ c.setter.result c.accepted_bus.ensures
    c.in-Set.is c.setter.ensures

pub returns-in-Get-clause-exact : goal.returns-in-Get-clause-exact
returns-in-Get-clause-exact c = new_exactly c.args.profile.now c.args.request _ c.getter.result c.accepted_bus.ensures
    c.in-Get.is c.getter.ensures
