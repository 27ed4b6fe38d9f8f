-- What of a listing is still to be given.
use Rattle.std.specs.Prelude.{ℕ, List, ◌++◌, drop}
use Rattle.ftp_wire.specs.Encoding.{still_to_give}
use Rattle.ftp_server_model.specs.Listing.{lines_file}
use Rattle.ftp_server_transfer.specs.Lines.{lines_from}
use Rattle.ftp_server_transfer.specs.declared.listing.Listing.{Listing}

-- the octets of its text, as a file: those of the lines that are being given, of the lines behind them, and of the lines that are not made yet
abbrev pub text_left : {A : Type 0} → Listing A → List ℕ
text_left l = drop l.given l.lines.items ++ (l.ahead.items ++ lines_file (lines_from l.what l.path l.entries l.place))

-- the octets of the data connection still to come
abbrev pub rest_of : {A : Type 0} → Listing A → List ℕ
rest_of l = still_to_give l.encoder (text_left l)
