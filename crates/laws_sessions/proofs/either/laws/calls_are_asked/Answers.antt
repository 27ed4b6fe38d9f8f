use Rattle.laws_sessions.proofs.either.Example.{call_is_asked, call_peek_is_asked}
use Rattle.laws_sessions.proofs.either.laws.calls_are_asked.Goals as goal

pub returns : goal.returns
returns c = record { fetched = call_is_asked; peeked = call_peek_is_asked }
