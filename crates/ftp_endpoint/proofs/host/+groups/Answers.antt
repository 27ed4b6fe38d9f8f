use Rattle.std.proofs.Common.{◌≡◌, ℕ, List, [], ◌∷◌, ◌++◌, ◌∙◌, append_assoc, ap, length, sym, subst, arith, Bor}
use Rattle.ftp_endpoint.specs.Host.{BeginsWithGroups, NoGroups, ReadsGroups, GroupsMayStop, behind_hex}
use Rattle.ftp_endpoint.proofs.HostLemmas.{first_group, goes_on, more_groups}
use Rattle.ftp_endpoint.proofs.OutcomeLemmas.{if_none, none_weaker, not_from, some_weaker}
use Rattle.ftp_endpoint.proofs.host.+groups.Goals as goal

pub returns-in_err-group-clause-none : goal.returns-in_err-group-clause-none
returns-in_err-group-clause-none t c =
    let none : NoGroups c.args.text.now (length c.args.out.now.items) = λ ns rest some room stops h.
    c.in_err-group.ensures.none (first_group c.args.text.now ns rest some h) in
    if_none _ _ none

pub returns-in_err-next-clause-none : goal.returns-in_err-next-clause-none
returns-in_err-next-clause-none t c =
    let is = c.in_ok-group.ensures.some in
    let not_here : GroupsMayStop (behind_hex c.args.text.now) → ⊥ = λ s. not_from _ _ c.stops.ensures c.if-stops.false (subst GroupsMayStop (sym is.2) s) in
    let none : NoGroups c.args.text.now (length c.args.out.now.items) = λ ns rest some room stops h.
    let on = goes_on c.args.text.now ns rest some stops h not_here in
    c.in_err-next.ensures.none on.next (is.2 ∙ on.behind) in
    if_none _ _ none

pub returns-clause-some : goal.returns-clause-some
returns-clause-some t c =
    let is = c.in_ok-group.ensures.some in
    let behind : behind_hex c.args.text.now ≡ 58 ∷ c.in_ok-next.next.now = sym is.2 ∙ c.in_ok-next.ensures.some in
    let more : (rest : Bor (List ℕ)) → ReadsGroups c.in_ok-next.next.now c.push.new.self.items c.groups.new.out.items rest.now → ReadsGroups c.args.text.now c.args.out.now.items c.groups.new.out.items rest.now = λ rest p. (
      c.in_ok-group.group ∷ p.0,
      p.1 ∙ (ap (λ xs. xs ++ p.0) c.push.ensures.items ∙ append_assoc c.args.out.now.items (c.in_ok-group.group ∷ []) p.0),
      omega arith,
      more_groups c.args.text.now c.in_ok-group.group p.0 c.in_ok-next.next.now rest.now is.0 is.1 behind p.2 p.3,
      p.4,
    ) in
    some_weaker _ _ _ c.groups.ensures.some more

pub returns-clause-none : goal.returns-clause-none
returns-clause-none t c =
    let is = c.in_ok-group.ensures.some in
    let not_here : GroupsMayStop (behind_hex c.args.text.now) → ⊥ = λ s. not_from _ _ c.stops.ensures c.if-stops.false (subst GroupsMayStop (sym is.2) s) in
    let none : NoGroups c.in_ok-next.next.now (length c.push.new.self.items) → NoGroups c.args.text.now (length c.args.out.now.items) = λ inner ns rest some room stops h.
    let on = goes_on c.args.text.now ns rest some stops h not_here in
    let behind = on.behind in
    let here = c.in_ok-next.ensures.some in
    let at = is.2 in
    let same : on.next ≡ c.in_ok-next.next.now = cc in
    let P : List ℕ → Type 0 = λ x. BeginsWithGroups x on.ms rest in
    inner on.ms rest on.some (omega (arith, c.push.ensures.len, ap length on.ns_are)) stops (subst P same on.groups) in
    none_weaker _ _ _ c.groups.ensures.none none
