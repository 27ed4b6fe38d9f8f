use Rattle.laws_server.proofs.several.CompanyLemmas.{company_is_unseen}
use Rattle.laws_server.proofs.several.laws.company_is_unseen.Goals as goal

pub returns : goal.returns
returns c = company_is_unseen
