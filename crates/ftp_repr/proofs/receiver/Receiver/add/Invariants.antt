use Rattle.std.proofs.Common.{◌≡◌, ◌≤◌, ℕ, List, ◌++◌, length, vec_capacity}
use Rattle.ftp_pieces.specs.Machine.{after}
use Rattle.ftp_repr.specs.Items.{signs}
use Rattle.ftp_repr.specs.Receiving.{receiving}
use Rattle.ftp_repr.specs.Received.{receiver_form, taking_at_stage, settled_by}
use Rattle.ftp_repr.proofs.receiver.Receiver.add.Given as goal

abbrev pub invariant-loop-rest : goal.invariant-loop-rest
invariant-loop-rest g l = record {
  form : receiver_form l.self ≡ receiver_form l.fn.self;
  room : vec_capacity l.fn.out ≤ vec_capacity l.out;
  state : after (receiving (receiver_form l.fn.self)) (taking_at_stage l.fn.self) (signs l.fn.item) ≡ after (receiving (receiver_form l.self)) (taking_at_stage l.self) (signs l.rest);
  so_far : (given : List ℕ) × (l.out.items ≡ l.fn.out.items ++ given);
  settled : l.fn.out.items ++ settled_by l.fn.self (signs l.fn.item) ≡ l.out.items ++ settled_by l.self (signs l.rest);
}

abbrev pub decreases-loop-rest : goal.decreases-loop-rest
decreases-loop-rest g l = length (signs l.rest)
