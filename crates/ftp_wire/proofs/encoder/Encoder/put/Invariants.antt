use Rattle.std.proofs.Common.{length, ◌-◌, ◌≡◌, ◌+◌, ◌*◌, ◌≤◌, ◌++◌, ℕ, List, [], take, drop, IsTrue}
use Rattle.ftp_wire.specs.Encoding.{still_to_give, left_to_do}
use Rattle.ftp_wire.proofs.encoder.Encoder.put.Given as goal

abbrev pub invariant-loop-made : goal.invariant-loop-made
invariant-loop-made l = record {
  taken : l.taken ≤ length l.piece;
  made : l.made ≤ length l.room;
  room : length l.room ≡ length l.fn.room;
  text : (more : List ℕ) → (IsTrue l.last → more ≡ []) → still_to_give l.fn.self (l.piece ++ more) ≡ take l.made l.room ++ still_to_give l.self (drop l.taken l.piece ++ more);
}

abbrev pub decreases-loop-made : goal.decreases-loop-made
decreases-loop-made l = 2 * (length l.piece - l.taken) + (length l.room - l.made) + left_to_do l.self
