use Rattle.laws_sessions.proofs.passive.Examples.{fetch_is_asked, peek_is_asked, put_is_asked}
use Rattle.laws_sessions.proofs.passive.laws.transfers_are_asked.Goals as goal

pub returns : goal.returns
returns c = record { fetched = fetch_is_asked; peeked = peek_is_asked; put = put_is_asked }
