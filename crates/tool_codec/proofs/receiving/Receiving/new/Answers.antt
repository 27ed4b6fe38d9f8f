use Rattle.std.proofs.Common.{◌∙◌, []}
use Rattle.ftp_repr.proofs.ContentLemmas.{gives-receiving}
use Rattle.ftp_settings.specs.Representation.{form_of}
use Rattle.tool_codec.proofs.receiving.Receiving.new.Goals as goal

pub returns-clause-stands : goal.returns-clause-stands
returns-clause-stands g c = record {
  going = tt;
  state = c.new.ensures.state;
  owes = c.new.ensures.owes;
  form = c.new-2.ensures.form;
  taken = c.new-2.ensures.fresh;
  settled = c.new-3.ensures.items ∙ gives-receiving (form_of c.args.form) [];
}
