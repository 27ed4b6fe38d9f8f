use Rattle.ftp_repr.proofs.RecordLemmas.{cut, cut_is, one_cut, signs_are, content_ended, content_cut}
use Rattle.ftp_repr.proofs.laws.records.Goals as goal

pub returns : goal.returns
returns c = record {
  some = λ b. ((cut b).0, ((cut b).1, cut_is b));
  one = one_cut;
  sent = signs_are;
  ended = content_ended;
  cut = content_cut;
}
