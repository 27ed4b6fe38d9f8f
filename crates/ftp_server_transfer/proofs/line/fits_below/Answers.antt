use Rattle.std.proofs.Common.{◌-◌, ◌∙◌, ap, length, nat_lt, sym}
use Rattle.ftp_server_transfer.proofs.ListingLemmas.{fits_child}
use Rattle.ftp_server_transfer.proofs.line.fits_below.Goals as goal
use Rattle.ftp_path.specs.Path.{text_limit}

pub returns : goal.returns
returns g c =
    ap (λ n. nat_lt (length c.octets.result.now) n) c.saturating_sub.ensures ∙ ap (λ l. nat_lt (length l) (text_limit - length c.key.result.now)) c.octets.ensures.octets
    ∙ sym (fits_child c.key.result.now c.args.path.now c.args.name.octets.now c.key.ensures.kept c.key.ensures.names c.args.name.named)
