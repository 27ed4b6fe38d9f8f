use Rattle.std.proofs.Common.{◌≡◌, ◌++◌, ◌<◌, List, [], length, take, sym, ap, subst, ◌∙◌, append-nil, arith, inl}
use Rattle.std.proofs.lemmas.List.{length-take-le}
use Rattle.ftp_mode.specs.Said.{Said, octets_said}
use Rattle.ftp_mode.specs.Count.{count_on}
use Rattle.ftp_mode.specs.Deframing.{reading, owed, owed_said, last_marker, MovesReading}
use Rattle.ftp_mode.proofs.BiteLemmas.{outside_moves, going_by, run_last, outside_gives}
use Rattle.ftp_mode.proofs.deframer.Deframer.outside.Goals as goal

pub returns-then-run-gt0 : goal.returns-then-run-gt0
returns-then-run-gt0 c =
    let old = c.args.self.now in
    let new = c.moved.new.self in
    let piece = c.args.piece.now in
    let run = c.first_ff-run.ensures.run in
    let front = take c.first_ff-run.result piece in
    let len : length front ≡ c.first_ff-run.result = length-take-le c.first_ff-run.result piece run.within in
    let some : 0 < length front = omega (arith, c.if-run-gt0.true, len) in
    let place : new.place ≡ count_on old.place (length front) = c.moved.ensures.place ∙ ap (count_on old.place) (sym len) in
    let none : owed new ≡ [] = ap owed_said c.moved.ensures.owes ∙ c.requires.owes in
    let said : octets_said front ≡ octets_said front ++ owed new = sym (ap (λ l. octets_said front ++ l) none ∙ append-nil (octets_said front)) in
    let Q : List Said → Type 0 = λ l. MovesReading (reading old) (reading new) front l in
    record {
      fine = going_by old.state new.state new.place (last_marker new) (inl c.requires.place) c.moved.ensures.state;
      some = c.if-run-gt0.true;
      by_last = run_last (reading old) piece c.first_ff-run.result run.within (λ i less.
          outside_gives old.state old.place (last_marker old) piece c.first_ff-run.result i c.requires.place less run.others);
      alone = λ gave. absurd (cc);
      within = run.within;
      moves = subst Q said (outside_moves old.state new.state old.place new.place (last_marker old) (last_marker new) front some c.requires.place c.moved.ensures.state place run.others);
    }
