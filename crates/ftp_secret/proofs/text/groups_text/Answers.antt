use Rattle.std.proofs.Common.{arith, rules}
use Rattle.ftp_secret.proofs.Letters.{groups_more, groups_none}
use Rattle.ftp_secret.proofs.text.groups_text.Goals as goal

pub groups-init : goal.groups-init
groups-init c = record {
  letters = groups_none c.args.method c.args.digest.now c.new-text.result.items (search rules);
  len = search rules;
}

pub groups-preserved : goal.groups-preserved
groups-preserved c = record {
  letters = groups_more c.args.method c.args.digest.now c.groups.text.items c.put_group.new.text.items
      c.groups.place c.put_group.ensures.letters c.groups.invariant.letters;
  len = omega arith;
}
