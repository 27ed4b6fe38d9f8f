-- What a script's orders asked and were answered, one more after those before.
use Rattle.std.proofs.Common.{◌≡◌, ℕ, List, [], ◌∷◌, ◌++◌, length, map, flat_map, Bool, true, false, Option, Some, None, refl, sym, ap, ◌∙◌, subst, append_assoc, append-nil, arith, true≢false, inl, inr, IsErr, Result, Ok, Err, Vec}
use Rattle.std.proofs.lemmas.List.{map-append}
use Rattle.std.specs.Iterator.{Yields}
use Rattle.std.specs.Vec.Iter.{into_iter_items, into_iter_steps}
use Rattle.std.specs.declared.vec.IntoIter.{IntoIter}
use Rattle.std.specs.Global.{Global}
use Rattle.std.specs.Io.KnownBytes.{Appends}
use Rattle.ftp_operation.specs.declared.answer.Answer.{Answer}
use Rattle.tool_script.specs.declared.order.Order.{Order}
use Rattle.tool_script.specs.Report.{report}
use Rattle.tool_script.specs.Status.{status_of, worst_after}
use Rattle.tool_session.specs.Talking.{Conversed, HasExchanged, SessionExchange}
use Rattle.tool_session.specs.declared.request.Request.{Request}
use Rattle.tool_terminal.specs.declared.status.Status.{Status}
use Rattle.tool_terminal.specs.Status.{worse}
use Rattle.tool_get_put.specs.Running.{DoesOrders, IsWorst, IsWorstOrFailed, Reported, replies_in, request_of, requests_in, result_by}

-- An exchange more leads on from where those before lead.
pub exchanged_more : {S : Type 0} (answers : Request → Answer Global → S → S → Type 0) (old : S) (heard : List SessionExchange) (mid : S)
    (one : SessionExchange) (new : S)
    → HasExchanged answers old heard mid → answers one.0 one.1 mid new → HasExchanged answers old (heard ++ one ∷ []) new
exchanged_more answers old [] mid one new same does = (new, subst (λ s. answers one.0 one.1 s new) same does, refl)
exchanged_more answers old (first ∷ heard) mid one new talks does = (talks.0, talks.1, exchanged_more answers talks.0 heard mid one new talks.2 does)

-- An exchange more has its request after those before.
pub requests_more : (heard : List SessionExchange) (one : SessionExchange) → requests_in (heard ++ one ∷ []) ≡ requests_in heard ++ one.0 ∷ []
requests_more [] one = refl
requests_more (first ∷ heard) one = ap (λ rest. first.0 ∷ rest) (requests_more heard one)

-- An exchange more has its report after those before.
pub reports_more : (heard : List SessionExchange) (one : SessionExchange)
    → flat_map report (replies_in (heard ++ one ∷ [])) ≡ flat_map report (replies_in heard) ++ report one.1
reports_more [] one = append-nil (report one.1)
reports_more (first ∷ heard) one =
    ap (λ rest. report first.1 ++ rest) (reports_more heard one) ∙ sym (append_assoc (report first.1) (flat_map report (replies_in heard)) (report one.1))

-- The worst status with an exchange more is the worse of that before and its own.
pub worst_more : (worst : Status) (heard : List SessionExchange) (one : SessionExchange)
    → worst_after worst (replies_in (heard ++ one ∷ [])) ≡ worse (worst_after worst (replies_in heard)) (status_of one.1)
worst_more worst [] one = refl
worst_more worst (first ∷ heard) one = worst_more (worse worst (status_of first.1)) heard one

-- What is appended twice is appended once, joined.
pub appends_then : (first mid last : Option (List ℕ)) (one other : List ℕ) → Appends first mid one → Appends mid last other → Appends first last (one ++ other)
appends_then None mid last one other before behind = tt
appends_then (Some xs) None last one other before behind = absurd before
appends_then (Some xs) (Some ys) None one other before behind = absurd behind
appends_then (Some xs) (Some ys) (Some zs) one other before behind = behind ∙ ap (λ all. all ++ other) before ∙ append_assoc xs one other

-- Nothing is appended where nothing changes.
pub appends_none : (known : Option (List ℕ)) → Appends known known []
appends_none None = tt
appends_none (Some xs) = sym (append-nil xs)

-- What the iterator of a vector has given is a front of its items.
pub taken_front : {X A : Type 0} (s : IntoIter X A) (xs : List X) (t : IntoIter X A) → Yields into_iter_steps s xs t
    → into_iter_items s ≡ xs ++ into_iter_items t
taken_front s [] t y = ap into_iter_items y
taken_front s (x ∷ xs) t y = y.1.0 ∙ ap (λ ys. x ∷ ys) (taken_front y.0 xs t y.2)

-- The next order is asked after those before.
pub asked_next : (front : List (Order (List ℕ))) (order : Order (List ℕ)) (heard : List SessionExchange) (one : SessionExchange)
    → requests_in heard ≡ map request_of front
    → one.0 ≡ request_of order → requests_in (heard ++ one ∷ []) ≡ map request_of (front ++ order ∷ [])
asked_next front order heard one asked is =
    requests_more heard one ∙ ap (λ before. before ++ one.0 ∷ []) asked ∙ ap (λ last. map request_of front ++ last ∷ []) is
    ∙ sym (map-append request_of front (order ∷ []))

-- What is asked up to the next order is a front of all.
pub front_asked : (all front rest more : List (Order (List ℕ))) (order : Order (List ℕ)) (heard : List SessionExchange) (one : SessionExchange)
    → all ≡ front ++ rest
    → rest ≡ order ∷ more → requests_in heard ≡ map request_of front → one.0 ≡ request_of order
    → (later : List Request) × (map request_of all ≡ requests_in (heard ++ one ∷ []) ++ later)
front_asked all front rest more order heard one is next asked same = (
  map request_of more,
  ap (map request_of) (is ∙ ap (λ r. front ++ r) next ∙ sym (append_assoc front (order ∷ []) more)) ∙ map-append request_of (front ++ order ∷ []) more
      ∙ ap (λ before. before ++ map request_of more) (sym (asked_next front order heard one asked same)),
)

-- A list of no length has no item.
none_left : {X : Type 0} (xs : List X) → length xs ≡ 0 → xs ≡ []
none_left [] none = refl
none_left (x ∷ xs) none = grind arith

-- Where no order is left, all were asked.
pub all_asked : (all front rest : List (Order (List ℕ))) (heard : List SessionExchange) → all ≡ front ++ rest → length rest ≡ 0
    → requests_in heard ≡ map request_of front
    → requests_in heard ≡ map request_of all
all_asked all front rest heard is none asked = asked ∙ ap (map request_of) (sym (is ∙ ap (λ r. front ++ r) (none_left rest none) ∙ append-nil front))

-- The worst status with the health of the control connection is the worst, or that of a failure.
reported_by : {E : Type 0} (orders : List (Order (List ℕ))) (old new : Option (List ℕ)) (heard : List SessionExchange) (done : Result Status E)
    (has_failed : Bool) → Reported IsWorst orders old new heard done → Reported IsWorstOrFailed orders old new heard (result_by done has_failed)
reported_by orders old new heard (Ok worst) false reported = (reported.0, (reported.1.0, reported.1.1, inl reported.1.2))
reported_by orders old new heard (Ok worst) true reported = (reported.0, (reported.1.0, reported.1.1, inr refl))
reported_by orders old new heard (Err fault) has_failed reported = (reported.0, tt)

-- An error stays one.
error_by : {E : Type 0} (done : Result Status E) (has_failed : Bool) → IsErr done → IsErr (result_by done has_failed)
error_by (Ok worst) has_failed fails = absurd (true≢false (sym fails))
error_by (Err fault) has_failed fails = fails

-- Orders that were played over a control connection, or over none, are done so.
pub orders_done : {P E : Type 0} (contents : P → Option (List ℕ)) (kept : P → Option (Vec (Order (List ℕ)) Global)) (hears : List SessionExchange → Type 0)
    (orders : Vec (Order (List ℕ)) Global) (done : Result Status E) (has_failed : Bool) (old new : P) → kept old ≡ Some orders
    → Conversed true hears (λ heard result before after. (all : Vec (Order (List ℕ)) Global) → kept before ≡ Some all
    → Reported IsWorst all.items (contents before) (contents after) heard result) old new done
    → DoesOrders hears orders.items (contents old) (contents new) (result_by done has_failed)
orders_done contents kept hears orders done has_failed old new has (inl played) =
    inl (played.0, played.1, reported_by orders.items (contents old) (contents new) played.0 done has_failed (played.2 orders has))
orders_done contents kept hears orders done has_failed old new has (inr unplayed) = inr (ap contents unplayed.0, error_by done has_failed unplayed.1)
