use Rattle.std.proofs.Common.{ap}
use Rattle.std.specs.Option.{option_copied}
use Rattle.ftp_facts.proofs.entry.EntryKind.copy_of.Goals as goal

pub of_word-requires : goal.of_word-requires
of_word-requires g c = c.requires c.in-Some.word.now (ap option_copied c.in-Some.is)
