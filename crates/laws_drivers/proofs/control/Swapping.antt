-- Actions of different ends change places, case by case.
use Rattle.std.proofs.Common.{◌≡◌, ℕ, List, [], ◌∷◌, ◌++◌, drop, refl, sym, ap, subst, ◌∙◌, append_assoc}
use Rattle.laws_drivers.specs.control.Between.{Between, Can, Far, Near, Who, peer, sent}
use Rattle.laws_drivers.specs.control.Swaps.{ActionsChangePlaces, ReadsWritten}
use Rattle.laws_drivers.specs.control.Touches.{None_of_it, Says, Reads}

-- what comes after the same first octets is the same
pub same_rest : (front one other : List ℕ) → front ++ one ≡ front ++ other → one ≡ other
same_rest [] one other e = e
same_rest (octet ∷ front) one other e = same_rest front one other (ap (drop 1) e)

-- octets are written, and the other end reads some that lay there
says_then_reads : (who : Who) (said read : List ℕ) (old mid new : Between) → Can who (Says said) old mid → Can (peer who) (Reads read) mid new
    → ReadsWritten (peer who) (Reads read) old → (other : Between) × Can (peer who) (Reads read) old other × Can who (Says said) other new
says_then_reads Near said read old mid new says reads written =
    let left : List ℕ = new.control.to_server in
    let all : read ++ left ≡ read ++ (written.0 ++ said) =
    sym reads.0 ∙ ap (λ (m : Between). m.control.to_server) says ∙ ap (λ l. l ++ said) written.1 ∙ append_assoc read written.0 said in
    let is : left ≡ written.0 ++ said = same_rest read left (written.0 ++ said) all in (
      record old { control = record old.control { to_server = written.0 } },
      (written.1, refl),
      reads.1 ∙ ap (λ (m : Between). record m { control = record m.control { to_server = left } }) says
          ∙ ap (λ l. record old { control = record old.control { to_server = l } }) is,
    )
says_then_reads Far said read old mid new says reads written =
    let left : List ℕ = new.control.to_client in
    let all : read ++ left ≡ read ++ (written.0 ++ said) =
    sym reads.0 ∙ ap (λ (m : Between). m.control.to_client) says ∙ ap (λ l. l ++ said) written.1 ∙ append_assoc read written.0 said in
    let is : left ≡ written.0 ++ said = same_rest read left (written.0 ++ said) all in (
      record old { control = record old.control { to_client = written.0 } },
      (written.1, refl),
      reads.1 ∙ ap (λ (m : Between). record m { control = record m.control { to_client = left } }) says
          ∙ ap (λ l. record old { control = record old.control { to_client = l } }) is,
    )

-- both write
says_then_says : (who : Who) (said more : List ℕ) (old mid new : Between) → Can who (Says said) old mid → Can (peer who) (Says more) mid new
    → (other : Between) × Can (peer who) (Says more) old other × Can who (Says said) other new
says_then_says Near said more old mid new one two =
    (record old { control = sent Far more old.control }, refl, two ∙ ap (λ (m : Between). record m { control = sent Far more m.control }) one)
says_then_says Far said more old mid new one two =
    (record old { control = sent Near more old.control }, refl, two ∙ ap (λ (m : Between). record m { control = sent Near more m.control }) one)

-- one reads, and the other writes behind
reads_then_says : (who : Who) (read said : List ℕ) (old mid new : Between) → Can who (Reads read) old mid → Can (peer who) (Says said) mid new
    → (other : Between) × Can (peer who) (Says said) old other × Can who (Reads read) other new
reads_then_says Near read said old mid new reads says =
    let left : new.control.to_client ≡ mid.control.to_client ++ said = ap (λ (m : Between). m.control.to_client) says in (
      record old { control = sent Far said old.control },
      refl,
      (
        ap (λ l. l ++ said) reads.0 ∙ append_assoc read mid.control.to_client said ∙ ap (λ l. read ++ l) (sym left),
        says ∙ ap (λ (m : Between). record m { control = record m.control { to_client = mid.control.to_client ++ said } }) reads.1
            ∙ ap (λ l. record old { control = record old.control { to_client = l } }) (sym left),
      ),
    )
reads_then_says Far read said old mid new reads says =
    let left : new.control.to_server ≡ mid.control.to_server ++ said = ap (λ (m : Between). m.control.to_server) says in (
      record old { control = sent Near said old.control },
      refl,
      (
        ap (λ l. l ++ said) reads.0 ∙ append_assoc read mid.control.to_server said ∙ ap (λ l. read ++ l) (sym left),
        says ∙ ap (λ (m : Between). record m { control = record m.control { to_server = mid.control.to_server ++ said } }) reads.1
            ∙ ap (λ l. record old { control = record old.control { to_server = l } }) (sym left),
      ),
    )

-- both read
reads_then_reads : (who : Who) (read more : List ℕ) (old mid new : Between) → Can who (Reads read) old mid → Can (peer who) (Reads more) mid new
    → (other : Between) × Can (peer who) (Reads more) old other × Can who (Reads read) other new
reads_then_reads Near read more old mid new one two =
    let kept : new.control.to_client ≡ mid.control.to_client = ap (λ (m : Between). m.control.to_client) two.1 in (
      record old { control = record old.control { to_server = new.control.to_server } },
      (sym (ap (λ (m : Between). m.control.to_server) one.1) ∙ two.0, refl),
      (
        one.0 ∙ ap (λ l. read ++ l) (sym kept),
        two.1 ∙ ap (λ (m : Between). record m {
          control = record m.control { to_server = new.control.to_server; to_client = mid.control.to_client };
        }) one.1
            ∙ ap (λ l. record old { control = record { to_server = new.control.to_server; to_client = l } }) (sym kept),
      ),
    )
reads_then_reads Far read more old mid new one two =
    let kept : new.control.to_server ≡ mid.control.to_server = ap (λ (m : Between). m.control.to_server) two.1 in (
      record old { control = record old.control { to_client = new.control.to_client } },
      (sym (ap (λ (m : Between). m.control.to_client) one.1) ∙ two.0, refl),
      (
        one.0 ∙ ap (λ l. read ++ l) (sym kept),
        two.1 ∙ ap (λ (m : Between). record m {
          control = record m.control { to_client = new.control.to_client; to_server = mid.control.to_server };
        }) one.1
            ∙ ap (λ l. record old { control = record { to_client = new.control.to_client; to_server = l } }) (sym kept),
      ),
    )

-- so it is of any two
pub actions_change_places : ActionsChangePlaces
actions_change_places who None_of_it second is also old mid new one two written =
    (new, subst (λ (m : Between). Can (peer who) second m new) one two, refl)
actions_change_places who (Says said) None_of_it is also old mid new one two written =
    (old, refl, subst (λ (m : Between). Can who (Says said) old m) (sym two) one)
actions_change_places who (Says said) (Says more) is also old mid new one two written = says_then_says who said more old mid new one two
actions_change_places who (Says said) (Reads read) is also old mid new one two written = says_then_reads who said read old mid new one two written
actions_change_places who (Reads read) None_of_it is also old mid new one two written =
    (old, refl, subst (λ (m : Between). Can who (Reads read) old m) (sym two) one)
actions_change_places who (Reads read) (Says said) is also old mid new one two written = reads_then_says who read said old mid new one two
actions_change_places who (Reads read) (Reads more) is also old mid new one two written = reads_then_reads who read more old mid new one two
actions_change_places who (Says said) second is also old mid new one two written = absurd also
actions_change_places who (Reads read) second is also old mid new one two written = absurd also
actions_change_places who first second is also old mid new one two written = absurd is
