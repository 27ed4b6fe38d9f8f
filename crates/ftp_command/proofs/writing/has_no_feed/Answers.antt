use Rattle.std.proofs.Common.{rules, tests}
use Rattle.std.proofs.lemmas.Iterator.{YieldsList-from_slice}
use Rattle.std.proofs.lemmas.Iterator.Search.{all_from_yields_List}
use Rattle.ftp_command.specs.Line.{is_no_feed}
use Rattle.ftp_command.proofs.writing.has_no_feed.Goals as goal

pub returns : goal.returns
returns c =
    all_from_yields_List is_no_feed _ _ _ c.all.ensures.ran (YieldsList-from_slice c.args.words.now cc) (λ x b q k. search (rules, tests))
