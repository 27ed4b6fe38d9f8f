-- A server that may hear may hear once it was told the moment, however its device is: no line waits.
use Rattle.std.proofs.Common.{◌≡◌, ◌∙◌, ℕ, true, Option, Some, None, refl, ap}
use Rattle.std.specs.Prelude.{IsTrue, is_none}
use Rattle.std.proofs.lemmas.Bool.{and_parts}
use Rattle.ftp_server_model.specs.Calls.{clock_step}
use Rattle.ftp_server_model.specs.Far.{Server}
use Rattle.ftp_server_model.specs.Machine.{has_room, may_hear}
use Rattle.ftp_server_model.specs.View.{View}

-- what is not there is none
none_is : {X : Type 0} (option : Option X) → is_none option ≡ true → option ≡ None
none_is None is = refl
none_is (Some x) is = absurd (cc)

-- where an octet may be taken no line waits
pub none_waits : (v : View) → IsTrue (may_hear v) → v.waiting ≡ None
none_waits v may = none_is v.waiting (and_parts _ _ (and_parts _ (has_room v) may).0).1

-- the moment is no reason to hear or not
pub still_hears : (moment : ℕ) (old new : Server) → (old.view.waiting ≡ None → new ≡ record old { view = clock_step moment old.view })
    → IsTrue (may_hear old.view) → IsTrue (may_hear new.view)
still_hears moment old new alone may = ap (λ (server : Server). may_hear server.view) (alone (none_waits old.view may)) ∙ may
