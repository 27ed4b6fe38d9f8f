use Rattle.std.proofs.Common.{◌≡◌, ◌++◌, ◌+◌, ◌-◌, ◌<◌, List, [], length, take, sym, ap, subst, ◌∙◌, append-nil, arith}
use Rattle.std.proofs.lemmas.List.{length-take-le}
use Rattle.ftp_mode.specs.Said.{Said, octets_said}
use Rattle.ftp_mode.specs.Block.{ends_of}
use Rattle.ftp_mode.specs.Count.{count_on}
use Rattle.ftp_mode.specs.Deframing.{reading, reading_of, owed, owed_said, last_marker, MovesReading}
use Rattle.ftp_mode.specs.declared.deframer.State.TheVariants.{Inside}
use Rattle.ftp_mode.proofs.BiteLemmas.{short_moves, full_moves, closed_going, run_last, inside_gives}
use Rattle.ftp_mode.proofs.deframer.Deframer.inside.Goals as goal

pub returns-then-piece-left : goal.returns-then-piece-left
returns-then-piece-left c =
    let old = c.args.self.now in
    let mid = c.moved.new.self in
    let piece = c.args.piece.now in
    let n = length piece in
    let front = take n piece in
    let rest = c.from-left.result + 1 - n - 1 in
    let more : c.from-left.result ≡ c.args.before_last = c.from-left.ensures in
    let less : n < c.from-left.result + 1 = c.if-piece-left.true in
    let len : length front ≡ n = length-take-le n piece (omega arith) in
    let place : mid.place ≡ count_on old.place (length front) = c.moved.ensures.place ∙ ap (count_on old.place) (sym len) in
    let none : owed_said mid.owed ≡ [] = ap owed_said c.moved.ensures.owes ∙ c.requires.owes in
    let said : octets_said front ≡ octets_said front ++ owed_said mid.owed = sym (ap (λ l. octets_said front ++ l) none ∙ append-nil (octets_said front)) in
    let Q : List Said → Type 0 = λ l. MovesReading (reading old) (reading_of (Inside c.args.descriptor rest) mid.place (last_marker mid)) front l in
    record {
      fine = tt;
      some = c.requires.some;
      by_last = run_last (reading old) piece n (omega arith) (λ i few.
          inside_gives old.state old.place c.args.descriptor c.args.before_last (last_marker old) piece i c.requires.place (omega (arith, few, more, less)));
      alone = λ gave. absurd (cc);
      within = omega arith;
      moves = subst Q said (short_moves old.state old.place mid.place c.args.descriptor c.args.before_last rest (last_marker old) (last_marker mid) front
          (omega (arith, c.requires.some, len)) c.requires.place (omega (arith, more, less, len)) (omega (arith, more, len)) place);
    }

pub returns : goal.returns
returns c =
    let old = c.args.self.now in
    let new = c.close.new.self in
    let piece = c.args.piece.now in
    let n = c.from-left.result + 1 in
    let front = take n piece in
    let more : c.from-left.result ≡ c.args.before_last = c.from-left.ensures in
    let len : length front ≡ n = length-take-le n piece c.if-piece-left.false in
    let place : c.moved-2.new.self.place ≡ count_on old.place (length front) = c.moved-2.ensures.place ∙ ap (count_on old.place) (sym len) in
    let said : octets_said front ++ ends_of c.args.descriptor ≡ octets_said front ++ owed new = ap (λ l. octets_said front ++ l) (sym c.close.ensures.owes) in
    let Q : List Said → Type 0 = λ l. MovesReading (reading old) (reading new) front l in
    record {
      fine = closed_going (reading new) _ _ c.close.ensures.state;
      some = omega arith;
      by_last = run_last (reading old) piece n c.if-piece-left.false (λ i few.
          inside_gives old.state old.place c.args.descriptor c.args.before_last (last_marker old) piece i c.requires.place (omega (arith, few, more)));
      alone = λ gave. absurd (cc);
      within = c.if-piece-left.false;
      moves = subst Q said (full_moves old.state (reading new) old.place c.moved-2.new.self.place c.args.descriptor c.args.before_last (last_marker old) front
          c.requires.place (omega (arith, more, len)) c.close.ensures.state place);
    }
