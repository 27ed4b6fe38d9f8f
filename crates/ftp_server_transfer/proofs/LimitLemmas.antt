-- Limits of octets behind those that are kept.
use Rattle.std.proofs.Common.{ℕ, ◌+◌, ◌-◌, ◌≤◌, ◌<◌, ◌≡◌, not, Bool, true, false, Option, Some, None, length, nat_le, is_some, is_none, SomeIff, refl, sym, ap, ◌∙◌, arith}
use Rattle.std.proofs.Math.Nat.{min-le_left}
use Rattle.std.proofs.lemmas.Bool.{leb-true, leb-false, le-leb, lt-leb, true≢false}
use Rattle.ftp_path.specs.Path.{Names}
use Rattle.ftp_tree.specs.Tree.{Table, octets_or_none, octets_refusal, octets_in, or_else, whenever, file_limit, total_limit, room_at}
use Rattle.ftp_tree.specs.declared.fault.TreeFault.TheVariants.{TooBig, Full}

-- where a limit holds that is none past the other, that one alone tells
one_limit : (limit n keep count room : ℕ) → n ≡ keep + count → room ≤ limit → keep ≤ room
    → is_some (or_else (whenever (not (nat_le n limit)) TooBig) (whenever (not (nat_le n room)) Full)) ≡ not (nat_le count (room - keep))
one_limit limit n keep count room is most kept = of (nat_le n room) refl
  where
    of : (fits : Bool) → nat_le n room ≡ fits
        → is_some (or_else (whenever (not (nat_le n limit)) TooBig) (whenever (not (nat_le n room)) Full)) ≡ not (nat_le count (room - keep))
    of true fits =
        let within : n ≤ room = leb-true n room fits in
        rw (le-leb n limit (omega arith)) (rw fits (rw (le-leb count (room - keep) (omega arith)) refl))
    of false past =
        let beyond : room < n = leb-false n room past in
        rw (lt-leb count (room - keep) (omega arith)) (either (nat_le n limit))
      where
        either : (b : Bool) → is_some (or_else (whenever (not b) TooBig) (whenever (not (nat_le n room)) Full)) ≡ true
        either true = rw past refl
        either false = refl

pub within_room : (part : Table) (path : Names) (keep count room : ℕ) → room ≡ room_at part path → keep ≤ room
    → is_some (octets_refusal part path (keep + count)) ≡ not (nat_le count (room - keep))
unfolding room_at
within_room part path keep count room is kept =
    let most : room ≤ file_limit part = rw is (min-le_left (file_limit part) (total_limit part - (octets_in part - length (octets_or_none part path)))) in
    ap (λ r. is_some (or_else (whenever (not (nat_le (keep + count) (file_limit part))) TooBig) (whenever (not (nat_le (keep + count) r)) Full))) (sym is)
    ∙ one_limit (file_limit part) (keep + count) keep count room refl most kept

-- where the octets that are kept pass the limit by themselves, so do any behind them
beyond : (limit n room : ℕ) → room < n → is_some (or_else (whenever (not (nat_le n limit)) TooBig) (whenever (not (nat_le n room)) Full)) ≡ true
beyond limit n room past = either (nat_le n limit)
  where
    either : (b : Bool) → is_some (or_else (whenever (not b) TooBig) (whenever (not (nat_le n room)) Full)) ≡ true
    either true = rw (lt-leb n room past) refl
    either false = refl

-- a file's limit is within 64 bits
pub room_is_short : (part : Table) (path : Names) (room : ℕ) → room ≡ room_at part path → room ≤ file_limit part
unfolding room_at
room_is_short part path room is = rw is (min-le_left (file_limit part) (total_limit part - (octets_in part - length (octets_or_none part path))))

-- the kept octets alone
pub kept_past : (part : Table) (path : Names) (keep room : ℕ) → room ≡ room_at part path → room < keep → is_some (octets_refusal part path keep) ≡ true
kept_past part path keep room is past =
    ap (λ r. is_some (or_else (whenever (not (nat_le keep (file_limit part))) TooBig) (whenever (not (nat_le keep r)) Full))) (sym is) ∙ beyond (file_limit part) keep room past

fits_both : (limit n room : ℕ) → n ≤ room → room ≤ limit → is_some (or_else (whenever (not (nat_le n limit)) TooBig) (whenever (not (nat_le n room)) Full)) ≡ false
fits_both limit n room fits most = rw (le-leb n limit (omega (arith, fits, most))) (rw (le-leb n room fits) refl)

pub kept_within : (part : Table) (path : Names) (keep room : ℕ) → room ≡ room_at part path → keep ≤ room → is_some (octets_refusal part path keep) ≡ false
kept_within part path keep room is kept =
    ap (λ r. is_some (or_else (whenever (not (nat_le keep (file_limit part))) TooBig) (whenever (not (nat_le keep r)) Full))) (sym is)
    ∙ fits_both (file_limit part) keep room kept (room_is_short part path room is)

-- octets are refused by the limits just where they are more than there is room for
pub limits_tell : (part : Table) (path : Names) (count room : ℕ) → room ≡ room_at part path → is_some (octets_refusal part path count) ≡ not (nat_le count room)
limits_tell part path count room is = of (nat_le count room) refl
  where
    of : (fits : Bool) → nat_le count room ≡ fits → is_some (octets_refusal part path count) ≡ not fits
    of true fits = kept_within part path count room is (leb-true count room fits)
    of false past = kept_past part path count room is (leb-false count room past)

-- what is refused of so many octets is refused of more
pub more_refused : (part : Table) (path : Names) (keep count : ℕ) → is_some (octets_refusal part path keep) ≡ true → is_some (octets_refusal part path (keep + count)) ≡ true
more_refused part path keep count refused = of (nat_le keep (room_at part path)) refl
  where
    of : (fits : Bool) → nat_le keep (room_at part path) ≡ fits → is_some (octets_refusal part path (keep + count)) ≡ true
    of true within = absurd (true≢false (sym refused ∙ kept_within part path keep (room_at part path) refl (leb-true keep (room_at part path) within)))
    of false past = kept_past part path (keep + count) (room_at part path) refl (omega (arith, leb-false keep (room_at part path) past))

-- a difference is had but where it would be below nothing
pub none_below : (o : Option ℕ) (most count : ℕ) → SomeIff o (count ≤ most) (most - count) → is_none o ≡ not (nat_le count most)
none_below None most count past = of (nat_le count most) refl
  where
    of : (fits : Bool) → nat_le count most ≡ fits → true ≡ not (nat_le count most)
    of true fits = absurd (past (leb-true count most fits))
    of false over = ap not (sym over)
none_below (Some left) most count had = ap not (sym (le-leb count most had.0))
