use Rattle.std.proofs.Common.{◌∙◌}
use Rattle.ftp_repr.specs.Signs.{signs_of}
use Rattle.ftp_repr.proofs.ContentLemmas.{gives-receiving, content-signs_of}
use Rattle.ftp_repr.proofs.laws.round_trip.Goals as goal

pub returns : goal.returns
returns c = record {
  again = λ f b. gives-receiving f (signs_of f b) ∙ content-signs_of f b;
  content = gives-receiving;
}
