use Rattle.std.proofs.Common.{◌≡◌, ◌++◌, ◌<◌, List, [], length, take, sym, ap, subst, ◌∙◌, inl, inr, append-nil, arith}
use Rattle.std.proofs.lemmas.List.{length-take-le}
use Rattle.ftp_mode.specs.declared.deframer.Gave.{Gave}
use Rattle.ftp_mode.specs.declared.deframer.Gave.TheVariants.{Nothing, Octets}
use Rattle.ftp_mode.specs.Said.{Said, octets_said}
use Rattle.ftp_mode.specs.Count.{count_on}
use Rattle.ftp_mode.specs.Deframing.{reading, owed, owed_said, last_marker, gave_said, MovesReading, SaysLast, reading_of}
use Rattle.ftp_pieces.specs.Machine.{gives}
use Rattle.ftp_mode.specs.Reading.{reader, plain}
use Rattle.ftp_mode.proofs.ReaderRuns.{run_gives, plain_runs}
use Rattle.ftp_mode.proofs.BiteLemmas.{plain_moves, ended_moves, going_by, run_last, none_last}
use Rattle.ftp_mode.proofs.deframer.Deframer.all.Goals as goal

pub returns : goal.returns
returns c =
    let old = c.args.self.now in
    let new = c.moved.new.self in
    let piece = c.args.piece.now in
    let n = length piece in
    let front = take n piece in
    let len : length front ≡ n = length-take-le n piece (omega arith) in
    let some : 0 < length front = omega (arith, c.requires.some, len) in
    let place : new.place ≡ count_on old.place (length front) = c.moved.ensures.place ∙ ap (count_on old.place) (sym len) in
    let none : owed new ≡ [] = ap owed_said c.moved.ensures.owes ∙ c.requires.owes in
    let P : Gave → List Said → Type 0 = λ g l. MovesReading (reading old) (reading new) front (gave_said g front (last_marker new) ++ l) in
    let Q : List Said → Type 0 = λ l. MovesReading (reading old) (reading new) front l in
    record {
      fine = elim c.requires.place [
        | inl h ↦ going_by old.state new.state new.place (last_marker new) (inr (inl h.0)) c.moved.ensures.state
        | inr h ↦ going_by old.state new.state new.place (last_marker new) (inr (inr h.0)) c.moved.ensures.state
      ];
      some = c.requires.some;
      by_last = elim c.requires.place [
        | inl h ↦ (let G : Gave → Type 0 = λ g. SaysLast (reading old) piece n (gave_said g front (last_marker new)) in
            subst G (sym h.1) (run_last (reading old) piece n (omega arith) (λ i less.
            ap (λ s. gives reader (reading_of s old.place (last_marker old)) (take i piece)) h.0 ∙ run_gives plain old.place (take i piece) (plain_runs (take i piece)))))
        | inr h ↦ (let G : Gave → Type 0 = λ g. SaysLast (reading old) piece n (gave_said g front (last_marker new)) in
            subst G (sym h.1) (none_last (reading old) piece n))
      ];
      alone = λ gave. inr none;
      within = omega arith;
      moves = elim c.requires.place [
        | inl h ↦ (let R : List Said → Type 0 = λ l. P Octets l in
            let one : P Octets [] = subst Q (sym (append-nil (octets_said front))) (plain_moves old.state new.state old.place new.place (last_marker old) (last_marker new) front some h.0 c.moved.ensures.state place) in
            let G : Gave → Type 0 = λ g. P g (owed new) in
            subst G (sym h.1) (subst R (sym none) one))
        | inr h ↦ (let R : List Said → Type 0 = λ l. P Nothing l in
            let one : P Nothing [] = ended_moves old.state new.state old.place new.place (last_marker old) (last_marker new) front some h.0 c.moved.ensures.state place in
            let G : Gave → Type 0 = λ g. P g (owed new) in
            subst G (sym h.1) (subst R (sym none) one))
      ];
    }
