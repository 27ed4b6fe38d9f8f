use Rattle.std.proofs.Common.{◌≡◌, ◌≢◌, ℕ, ◌+◌, ◌-◌, ◌≤◌, ◌<◌, length, get_or, arith, rules}
use Rattle.std.proofs.lemmas.Bool.{eq-eqb, not_from_true}
use Rattle.std.proofs.lemmas.List.Sums.{suffix_len_is}
use Rattle.ftp_path.specs.Path.{is_slash}
use Rattle.ftp_path.specs.Kept.{is_no_slash}
use Rattle.ftp_path.proofs.PathLemmas.{slash_octet}
use Rattle.ftp_path.proofs.walk.parent_len.Goals as goal

pub returns-in-Some-clause-value : goal.returns-in-Some-clause-value
returns-in-Some-clause-value c =
    let text = c.args.octets.now in
    let at = c.in-Some.at in
    let inside : at < length text = search rules in
    let here : get_or text at 0 ≡ 47 = search rules in
    let behind : (k : ℕ) → at + 1 ≤ k → k < length text → get_or text k 0 ≢ 47 = search rules in
    let n : at + 1 - 1 ≡ at = omega arith in
    let found = suffix_len_is is_no_slash text (at + 1) 0 (omega arith) (λ k from below. slash_octet (get_or text k 0) (behind k from below)) (λ _. rw n (not_from_true (is_slash (get_or text at 0)) (eq-eqb (get_or text at 0) 47 here))) in
    omega arith

pub returns-in-None-clause-value : goal.returns-in-None-clause-value
returns-in-None-clause-value c =
    let text = c.args.octets.now in
    let none : (k : ℕ) → k < length text → get_or text k 0 ≢ 47 = search rules in
    let found = suffix_len_is is_no_slash text 0 0 (omega arith) (λ k from below. slash_octet (get_or text k 0) (none k below)) (λ h. absurd (omega arith)) in
    omega arith
