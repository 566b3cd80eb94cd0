use Rattle.resp.specs.Requests.{command, IsAdmitted}
use Rattle.resp.proofs.Outcomes.{begins_not_lacks, begins_not_spoilt, lacks_not_spoilt}
use Rattle.resp.proofs.laws.outcomes_exclude.Goals as goal

pub returns : goal.returns
returns c = λ limits bytes. record {
  begins_lacks = λ a len n begins lacks. begins_not_lacks command (IsAdmitted limits) bytes a begins.rest n begins.may begins.is lacks;
  begins_spoilt = λ a len at begins bad. begins_not_spoilt command (IsAdmitted limits) bytes a begins.rest at begins.may begins.is bad;
  lacks_spoilt = λ n at lacks bad. lacks_not_spoilt command (IsAdmitted limits) bytes n at lacks bad;
}
