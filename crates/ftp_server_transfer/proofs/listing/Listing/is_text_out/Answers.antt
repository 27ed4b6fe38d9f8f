use Rattle.std.proofs.Common.{◌≡◌, length, rules}
use Rattle.ftp_server_transfer.proofs.ListingLemmas.{text_none, text_used}
use Rattle.ftp_server_transfer.proofs.listing.Listing.is_text_out.Goals as goal

pub returns-then-is_used_up : goal.returns-then-is_used_up
returns-then-is_used_up g c =
    let l = c.args.self.now in (
      λ is. let none : length l.ahead.items ≡ 0 = search rules in text_none l (c.is_used_up.ensures.0 c.if-is_used_up.true) none,
      λ none. let used = text_used l none in let empty : length l.ahead.items ≡ 0 = used.1 in search rules,
    )

pub returns-else-is_used_up : goal.returns-else-is_used_up
returns-else-is_used_up g c = (λ is. absurd (cc), λ none. c.is_used_up.ensures.1 (text_used c.args.self.now none).0)
