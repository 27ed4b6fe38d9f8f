use Rattle.std.proofs.Common.{◌≡◌, List, [], ◌∷◌, ◌++◌, None, Bool, true, false, not, refl, sym, ap, ◌∙◌}
use Rattle.std.specs.Option.{is_some}
use Rattle.ftp_repr.specs.Signs.{Sign}
use Rattle.ftp_repr.specs.Items.{given_signs}
use Rattle.ftp_repr.specs.Sending.{has_sent_end, still_to_send}
use Rattle.rows_lines.proofs.witnesses.nothing_follows_the_end.Goals as goal

front_nil : (xs ys : List Sign) → xs ++ ys ≡ [] → xs ≡ []
front_nil [] ys e = refl
front_nil (x ∷ xs) ys e = absurd (cc)

is_true : (b : Bool) → false ≡ not b → b ≡ true
is_true true e = refl
is_true false e = absurd (cc)

pub returns : goal.returns
returns c =
    let ended : has_sent_end c.next.new.self ≡ true = c.next.ensures.ends refl refl in
    let gone : still_to_send c.next.new.self (c.args.piece.now ++ []) ≡ [] = rw ended refl in
    let signs : given_signs c.next-2.result.1 ≡ [] = front_nil _ _ (sym (c.next-2.ensures.gives [] (λ last. refl)) ∙ gone) in
    let nothing : c.next-2.result.1 ≡ None = c.next-2.ensures.full signs in
    is_true c.is_none.result (ap is_some (sym nothing) ∙ c.is_none.ensures)
