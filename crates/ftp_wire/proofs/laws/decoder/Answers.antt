use Rattle.ftp_wire.proofs.DecoderLemmas.{what_is_settled, front_gives, marked_front_gives}
use Rattle.ftp_wire.proofs.WireLemmas.{wire_gives_file, marked_wire_gives_file}
use Rattle.ftp_wire.proofs.laws.decoder.Goals as goal

pub returns-clause-settled : goal.returns-clause-settled
returns-clause-settled c = what_is_settled

pub returns-clause-whole : goal.returns-clause-whole
returns-clause-whole c = wire_gives_file

pub returns-clause-marked : goal.returns-clause-marked
returns-clause-marked c = marked_wire_gives_file

pub returns-clause-front : goal.returns-clause-front
returns-clause-front c = front_gives

pub returns-clause-marked_front : goal.returns-clause-marked_front
returns-clause-marked_front c = marked_front_gives
