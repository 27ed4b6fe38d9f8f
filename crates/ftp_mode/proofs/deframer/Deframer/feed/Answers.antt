use Rattle.std.proofs.Common.{◌≡◌, ◌++◌, ◌+◌, ◌<◌, List, ℕ, [], length, take, drop, get_or, refl, sym, ap, subst, ◌∙◌, arith, inl, inr, append-nil}
use Rattle.std.proofs.lemmas.List.{length-take-le}
use Rattle.ftp_mode.specs.Said.{Said}
use Rattle.ftp_mode.specs.Deframing.{reading, owed, last_marker, part_said, gave_said, MovesReading, Refuses, SaysLast}
use Rattle.ftp_mode.proofs.BiteLemmas.{next_bite, next_within, next_last, last_more, one_last, heard, same_going, owes_some, refused_at}
use Rattle.ftp_mode.proofs.deframer.Deframer.feed.Goals as goal

pub returns-in-Err : goal.returns-in-Err
returns-in-Err c =
    let P : List ℕ → Type 0 = λ l. Refuses c.loop-at.self (get_or l 0 0) c.in-Err.fault c.bite.new.self in
    record {
      ok = tt;
      err = refused_at c.args.self.now c.loop-at.self c.bite.new.self c.args.piece.now c.loop-at.at c.in-Err.fault c.loop-at-test.true
          c.loop-at.invariant.owed_before c.loop-at.invariant.owes c.loop-at.invariant.quiet c.loop-at.invariant.fine (subst P c.split_at.ensures.back c.in-Err.ensures.err);
    }

pub returns-in-Some-part_of : goal.returns-in-Some-part_of
returns-in-Some-part_of c =
    let old = c.args.self.now in
    let new = c.bite.new.self in
    let rest = c.split_at.result.1.now in
    let bite = c.in-Ok.bite in
    let bites = c.in-Ok.ensures.ok in
    let part = c.in-Some-part_of.part in
    let front : c.split_at-in-loop-at.result.0.now ≡ take bite.taken rest = c.split_at-in-loop-at.ensures.front in
    let some : 0 < length c.split_at-in-loop-at.result.0.now = omega (arith, bites.some, length-take-le bite.taken rest bites.within, ap length front) in
    let gave : part_said part (last_marker new) ≡ gave_said bite.gave (take bite.taken rest) (last_marker new) =
    c.in-Some-part_of.ensures.some (last_marker new) ∙ ap (λ l. gave_said bite.gave l (last_marker new)) front in
    record {
      ok = heard old new c.args.piece.now (c.loop-at.at + bite.taken) part (gave_said bite.gave (take bite.taken rest) (last_marker new) ++ owed new)
          (next_within c.loop-at.self new c.args.piece.now rest c.loop-at.at bite c.split_at.ensures.back c.loop-at-test.true bites)
          c.loop-at.invariant.owed_before
          (next_bite old c.loop-at.self new c.args.piece.now rest c.loop-at.at bite c.split_at.ensures.back c.loop-at.invariant.quiet bites)
          (ap (λ l. l ++ owed new) gave)
          (c.in-Some-part_of.ensures.full some (last_marker new))
          (subst (λ l. SaysLast (reading old) c.args.piece.now (c.loop-at.at + bite.taken) l) (sym gave)
          (next_last old c.loop-at.self new c.args.piece.now rest c.loop-at.at bite c.split_at.ensures.back c.loop-at.invariant.quiet bites))
          bites.fine;
      err = tt;
    }

pub returns-in-Some-owed_part : goal.returns-in-Some-owed_part
returns-in-Some-owed_part c =
    let old = c.args.self.now in
    let mid = c.bite.new.self in
    let new = c.owed_part-in-loop-at.new.self in
    let rest = c.split_at.result.1.now in
    let bite = c.in-Ok.bite in
    let bites = c.in-Ok.ensures.ok in
    let part = c.in-Some-owed_part.part in
    let gave : gave_said bite.gave (take bite.taken rest) (last_marker mid) ++ owed mid ≡ owed mid = ap (λ g. gave_said g (take bite.taken rest) (last_marker mid) ++ owed mid) c.in_default-part_of.ensures.none in
    let P : List Said → Type 0 = λ l. MovesReading (reading old) (reading mid) (take (c.loop-at.at + bite.taken) c.args.piece.now) l in
    let one : length (part_said part (last_marker new)) ≡ 1 = c.in-Some-owed_part.ensures.one (last_marker new) in
    let alone : bite.taken ≡ 1 = elim (bites.alone c.in_default-part_of.ensures.none) [
      | inl e ↦ e
      | inr none ↦ absurd (owes_some (part_said part (last_marker new)) (owed new) (owed mid) (c.in-Some-owed_part.ensures.some (last_marker new)) (omega (arith, one)) none)
    ] in
    let moves : P (owed mid) = subst P gave (next_bite old c.loop-at.self mid c.args.piece.now rest c.loop-at.at bite c.split_at.ensures.back c.loop-at.invariant.quiet bites) in
    record {
      ok = heard old new c.args.piece.now (c.loop-at.at + bite.taken) part (owed mid)
          (next_within c.loop-at.self mid c.args.piece.now rest c.loop-at.at bite c.split_at.ensures.back c.loop-at-test.true bites)
          c.loop-at.invariant.owed_before
          (record { state = c.owed_part-in-loop-at.ensures.state ∙ moves.state; says = moves.says })
          (c.in-Some-owed_part.ensures.some (last_marker new))
          (omega (arith, one))
          (last_more (reading old) (reading c.loop-at.self) c.args.piece.now c.loop-at.at bite.taken (part_said part (last_marker new)) c.loop-at.invariant.quiet
          (one_last (reading c.loop-at.self) (drop c.loop-at.at c.args.piece.now) bite.taken (part_said part (last_marker new)) alone (omega (arith, one))))
          (same_going (reading mid) (reading new) c.owed_part-in-loop-at.ensures.state bites.fine);
      err = tt;
    }

pub loop-at-preserved : goal.loop-at-preserved
loop-at-preserved c =
    let old = c.args.self.now in
    let mid = c.bite.new.self in
    let rest = c.split_at.result.1.now in
    let bite = c.in-Ok.bite in
    let bites = c.in-Ok.ensures.ok in
    let none : owed mid ≡ [] = c.in_default-owed_part.ensures.none in
    let same : c.owed_part-in-loop-at.new.self ≡ mid = c.in_default-owed_part.ensures.owes in
    let gave : gave_said bite.gave (take bite.taken rest) (last_marker mid) ++ owed mid ≡ [] =
    ap (λ g. gave_said g (take bite.taken rest) (last_marker mid) ++ owed mid) c.in_default-part_of.ensures.none ∙ none in
    let P : List Said → Type 0 = λ l. MovesReading (reading old) (reading mid) (take (c.loop-at.at + bite.taken) c.args.piece.now) l in
    let moves : P [] = subst P gave (next_bite old c.loop-at.self mid c.args.piece.now rest c.loop-at.at bite c.split_at.ensures.back c.loop-at.invariant.quiet bites) in
    record {
      within = next_within c.loop-at.self mid c.args.piece.now rest c.loop-at.at bite c.split_at.ensures.back c.loop-at-test.true bites;
      quiet = record { state = c.owed_part-in-loop-at.ensures.state ∙ moves.state; says = moves.says };
      owes = ap owed same ∙ none;
      fine = same_going (reading mid) (reading c.owed_part-in-loop-at.new.self) c.owed_part-in-loop-at.ensures.state bites.fine;
      owed_before = c.loop-at.invariant.owed_before;
    }

pub returns-in-Some-clause-ok : goal.returns-in-Some-clause-ok
returns-in-Some-clause-ok c =
    let old = c.args.self.now in
    let new = c.owed_part.new.self in
    let said = c.in-Some.ensures.some (last_marker new) in
    let one = c.in-Some.ensures.one (last_marker new) in
    let full : 0 < length (part_said c.in-Some.part (last_marker new)) = omega (arith, one) in
    record {
      within = omega arith;
      state = c.owed_part.ensures.state;
      says = said ∙ sym (append-nil (owed old));
      some = inl full;
      by_last = inl refl;
      fine = λ none. absurd (owes_some (part_said c.in-Some.part (last_marker new)) (owed new) (owed old) said full none);
    }
