-- Octets of the data connection, one row behind another.
use Rattle.std.proofs.Common.{◌≡◌, inl, ℕ, ◌+◌, ◌<◌, min, zero, suc, take, drop, arith, true, false, List, [], ◌∷◌, ◌++◌, refl, sym, ap, subst, ◌∙◌}
use Rattle.std.proofs.Math.Nat.{sub-add-min_cancel}
use Rattle.std.proofs.Math.Seq.{take-add}
use Rattle.ftp_server_model.specs.Calls.{MayReceive, may_receive, receives, receives_octet}
use Rattle.ftp_server_model.specs.Failing.{AreReceived}
use Rattle.ftp_server_model.specs.View.{View}
use Rattle.ftp_server.specs.Data.{ReceivesTo}

receives_append : (v : View) (front back : List ℕ) → receives v (front ++ back) ≡ receives (receives v front) back
receives_append v [] back = refl
receives_append v (c ∷ cs) back = receives_append (receives_octet v c) cs back

may_append : (v : View) (front back : List ℕ) → MayReceive v front → MayReceive (receives v front) back → MayReceive v (front ++ back)
may_append v [] back may more = more
may_append v (c ∷ cs) back may more = (may.0, may_append (receives_octet v c) cs back may.1 more)

are_append : (v : View) (front back : List ℕ) (w : View) → MayReceive v front → AreReceived (receives v front) back w → AreReceived v (front ++ back) w
are_append v [] back w may more = more
are_append v (c ∷ cs) back w may more = (may.0, receives_octet v c, inl refl, are_append (receives_octet v c) cs back w may.1 more)

-- more octets of a piece
pub row_more : (piece : List ℕ) (i count : ℕ) (v x w : View) → ReceivesTo (take i piece) v x → ReceivesTo (take count (drop i piece)) x w → ReceivesTo (take (i + count) piece) v w
row_more piece i count v x w before now =
    let front = take i piece in let back = take count (drop i piece) in
    subst (λ (l : List ℕ). ReceivesTo l v w) (sym (take-add i count piece))
    (now.0 ∙ ap (λ y. receives y back) before.0 ∙ sym (receives_append v front back), may_append v front back before.1 (subst (λ y. MayReceive y back) before.0 now.1))

pub row_lost : (piece : List ℕ) (i count : ℕ) (v x w : View) → ReceivesTo (take i piece) v x → AreReceived x (take count (drop i piece)) w → AreReceived v (take (i + count) piece) w
row_lost piece i count v x w before now =
    let front = take i piece in let back = take count (drop i piece) in
    subst (λ (l : List ℕ). AreReceived v l w) (sym (take-add i count piece)) (are_append v front back w before.1 (subst (λ y. AreReceived y back w) before.0 now))

-- where no octet was taken, the view is as it was
pub some_taken : (count : ℕ) (v x : View) → (count ≡ 0 → x ≡ v) → may_receive x ≡ false → may_receive v ≡ true → 0 < count
some_taken zero v x first stops may = absurd (let wrong : true ≡ false = sym may ∙ ap may_receive (sym (first refl)) ∙ stops in cc)
some_taken (suc n) v x first stops may = omega arith

-- where there is room and something is left, something is given
pub some_given : (room rest count : ℕ) → count ≡ min room rest → 0 < room → 0 < rest → 0 < count
some_given room rest count is wide more = omega (arith, is, wide, more, sub-add-min_cancel room rest)
