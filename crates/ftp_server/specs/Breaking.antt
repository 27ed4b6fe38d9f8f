-- An upload that could not be installed at its break.
use Rattle.std.specs.Prelude.{◌≡◌}
use Rattle.ftp_server_model.specs.Failing.{install_lost}
use Rattle.ftp_server_model.specs.View.{Session, Transfer, View}
use Rattle.ftp_server_model.specs.declared.session.ServerLink.{ServerLink}
use Rattle.ftp_server_model.specs.declared.session.ServerLink.TheVariants as Data
use Rattle.ftp_server_model.specs.declared.session.Transfer.TheVariants as Transfers

-- it is answered 451 in this session, with the map as it was
abbrev pub InstallIsLost : ServerLink Transfer → Session → View → View → Type 0
InstallIsLost (Data.Transferring (Transfers.Upload path keep d)) s v w = w ≡ install_lost s v
InstallIsLost connection s v w = ⊥
