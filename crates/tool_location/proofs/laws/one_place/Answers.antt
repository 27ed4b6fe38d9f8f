use Rattle.tool_location.proofs.LocationLemmas.{place-same}
use Rattle.tool_location.proofs.laws.one_place.Goals as goal

pub returns : goal.returns
returns c = λ text host path other_host other_path port other_port. place-same text host path other_host other_path port other_port
