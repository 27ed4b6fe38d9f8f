-- Lines are read in one way; and which of them may fail.
use Rattle.std.proofs.Common.{◌≡◌, ℕ, List, true, false, sym, ap, ◌∙◌}
use Rattle.ftp_command.specs.Line.{line_of}
use Rattle.ftp_command.proofs.LawLemmas.{not_refused, one_command, one_fault}
use Rattle.ftp_command.proofs.RoundTripLemmas.{round_trip}
use Rattle.ftp_server_model.specs.Failing.{NeverFailsWithoutLogin}
use Rattle.ftp_server_model.specs.Machine.{IsLineRead, OneReading, ReadsStated}
use Rattle.ftp_server_model.specs.declared.heard.HeardLine.{HeardLine}
use Rattle.ftp_server_model.specs.declared.heard.HeardLine.TheVariants.{TooLong, Bad, Asks}

one_read : (text : List ℕ) (a b : HeardLine (List ℕ)) → IsLineRead text a → IsLineRead text b → a ≡ b
one_read text (Asks v) (Asks w) p q = ap Asks (one_command text v w p q)
one_read text (Asks v) (Bad f) p q = absurd (not_refused text v f p q)
one_read text (Asks v) TooLong p q = absurd q
one_read text (Bad f) (Asks w) p q = absurd (not_refused text w f q p)
one_read text (Bad f) (Bad g) p q = ap Bad (one_fault text f g p q)
one_read text (Bad f) TooLong p q = absurd q
one_read text TooLong b p q = absurd p

pub one_reading : OneReading
one_reading read other text is also = one_read text (read text) (other text) (is text) (also text)

pub reads_stated : ReadsStated
reads_stated read command is typed stated =
    one_read (line_of command) (read (line_of command)) (Asks command) (is (line_of command)) (round_trip command typed stated)

pub never_fails : NeverFailsWithoutLogin
never_fails command v w out fails = absurd (let no : true ≡ false = sym fails.0 ∙ out in cc)
