use Rattle.std.proofs.Common.{◌++◌, ◌<◌, ◌+◌, ℕ, length, vec_capacity, sym, ap, ◌∙◌, subst, append_assoc, arith}
use Rattle.std.proofs.lemmas.Result.{err_from_is_err_and}
use Rattle.ftp_repr.specs.Items.{signs}
use Rattle.ftp_repr.specs.Received.{SignsLackRoom, settled_by, lent_octets}
use Rattle.ftp_repr.proofs.LendLemmas.{lends_rest, no_room_part}
use Rattle.ftp_repr.proofs.receiver.Receiver.add.Goals as goal

pub returns-in_err-put-clause-full : goal.returns-in_err-put-clause-full
returns-in_err-put-clause-full g c =
    let p = err_from_is_err_and c.from_residual.result c.from_residual.ensures.1 in
    let out = c.loop-rest.out in
    let lent = lent_octets c.next-lent.result in
    let rest = lends_rest c.loop-rest.self c.next-lent.new.self (signs c.loop-rest.rest) c.next-lent.result c.next-lent.ensures in
    let T : ℕ → Type 0 = λ n. SignsLackRoom c.args.self.now (signs c.args.item) (vec_capacity c.args.out.now) n in
    let Q : ℕ → Type 0 = λ n. vec_capacity out < n + length lent in
    rw p.1 (subst T (sym c.args.out.now.ok.0)
    (no_room_part c.args.self.now (signs c.args.item) lent c.args.out.now.items out.items (settled_by c.next-lent.new.self (signs c.next-lent.result.rest)) (vec_capacity c.args.out.now) (vec_capacity out)
    (c.loop-rest.invariant.settled ∙ ap (λ l. out.items ++ l) rest.1) c.loop-rest.invariant.room
    (subst Q out.ok.0 c.in_err-put.ensures.full)))

pub loop-rest-preserved : goal.loop-rest-preserved
loop-rest-preserved g c =
    let rest = lends_rest c.loop-rest.self c.next-lent.new.self (signs c.loop-rest.rest) c.next-lent.result c.next-lent.ensures in
    let out = c.loop-rest.out.items in
    let lent = lent_octets c.next-lent.result in
    let later = settled_by c.next-lent.new.self (signs c.next-lent.result.rest) in
    let so_far = c.loop-rest.invariant.so_far in
    record {
      form = c.next-lent.ensures.form ∙ c.loop-rest.invariant.form;
      room = omega (arith, c.loop-rest.invariant.room, c.put.ensures.capacity);
      state = c.loop-rest.invariant.state ∙ rest.0;
      so_far = (so_far.0 ++ lent, c.in_ok-put.ensures.ok ∙ ap (λ l. l ++ lent) so_far.1 ∙ append_assoc c.args.out.now.items so_far.0 lent);
      settled = c.loop-rest.invariant.settled ∙ ap (λ l. out ++ l) rest.1 ∙ sym (append_assoc out lent later) ∙ ap (λ l. l ++ later) (sym c.in_ok-put.ensures.ok);
    }
