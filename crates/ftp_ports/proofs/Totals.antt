-- What actions come to: what was read, heard and said in all.
use Rattle.std.proofs.Common.{◌≡◌, ◌∙◌, List, [], ◌∷◌, ◌++◌, refl, sym, ap, subst, append_assoc, append-nil}
use Rattle.std.proofs.KnownBytes.{Appends-nil, Appends-trans, Consumes-nil, Consumes-trans, Consumes-kept}
use Rattle.std.specs.Io.KnownBytes.{Appends, Consumes}
use Rattle.ftp_ports.proofs.Fronts.{Appends-then-front}
use Rattle.ftp_ports.specs.Side.{Side}
use Rattle.ftp_ports.specs.Actions.{Action, Heard, Said, Read, Ended, Other, Done, Led, Stand, heard_by, heard_in, read_by, read_in, said_by, said_in}
use Rattle.ftp_ports.specs.Driving.{Cuts, Fails, Sums}
use Rattle.ftp_ports.specs.declared.cause.Cause.{Cause}

module _ {side : Side} where
  -- what one action comes to
  record Adds (action : Action side) (old new : Stand side) : Type 0 where
    read : Consumes old.left.octets new.left.octets (read_by action)
    heard : old.unheard ++ read_by action ≡ heard_by action ++ new.unheard
    wrote : Appends old.written new.written (said_by action)

  -- nothing read and nothing written
  still : (old new : Stand side) (action : Action side) → new.left ≡ old.left → new.written ≡ old.written → read_by action ≡ [] → said_by action ≡ []
      → old.unheard ≡ heard_by action ++ new.unheard → Adds action old new
  still old new action left written none silent heard = record {
    read = subst (λ l. Consumes old.left.octets l.octets (read_by action)) (sym left)
        (subst (λ l. Consumes old.left.octets old.left.octets l) (sym none) (Consumes-nil old.left.octets));
    heard = ap (λ l. old.unheard ++ l) none ∙ append-nil old.unheard ∙ heard;
    wrote = subst (λ w. Appends old.written w (said_by action)) (sym written) (subst (λ l. Appends old.written old.written l) (sym silent) (Appends-nil old.written));
  }

  adds : (action : Action side) (old new : Stand side) → Done action old new → Adds action old new
  adds (Heard octets) old new done = still old new (Heard octets) done.left done.written refl refl done.next
  adds (Said octets) old new done = record {
    read = subst (λ l. Consumes old.left.octets l.octets []) (sym done.left) (Consumes-nil old.left.octets);
    heard = append-nil old.unheard ∙ sym done.unheard;
    wrote = done.wrote;
  }
  adds (Read octets) old new done = record {
    read = done.read;
    heard = ap (λ l. l ++ octets) done.heard ∙ sym done.unheard;
    wrote = subst (λ w. Appends old.written w []) (sym done.written) (Appends-nil old.written);
  }
  adds Ended old new done = record {
    read = done.read;
    heard = ap (λ l. l ++ []) done.heard ∙ sym done.unheard;
    wrote = subst (λ w. Appends old.written w []) (sym done.written) (Appends-nil old.written);
  }
  adds (Other call) old new done =
      still old new (Other call) (ap (λ s. s.left) done.1) (ap (λ s. s.written) done.1) refl refl (sym (ap (λ s. s.unheard) done.1))

  pub sums : (actions : List (Action side)) (start now : Stand side) → Led actions start now → Sums actions start now
  sums [] start now led = subst (λ s. Sums [] start s) (sym led)
      (record { led = refl; read = Consumes-nil start.left.octets; heard = append-nil start.unheard; wrote = Appends-nil start.written })
  sums (action ∷ before) start now led =
      let mid = led.0 in
      let all = sums before start mid led.1 in
      let one = adds action mid now led.2 in
      record {
        led = led;
        read = Consumes-trans start.left.octets mid.left.octets now.left.octets (read_in before) (read_by action) all.read one.read;
        heard = sym (append_assoc start.unheard (read_in before) (read_by action)) ∙ ap (λ l. l ++ read_by action) all.heard
            ∙ append_assoc (heard_in before) mid.unheard (read_by action) ∙ ap (λ l. heard_in before ++ l) one.heard
            ∙ sym (append_assoc (heard_in before) (heard_by action) now.unheard);
        wrote = Appends-trans start.written mid.written now.written (said_in before) (said_by action) all.wrote one.wrote;
      }

  -- a drive that broke off
  pub cuts : (cause : Cause) (start now : Stand side) → (fails : Fails cause start now) → Cuts fails.leads.actions fails.octets start now
  cuts cause start now fails =
      let actions = fails.leads.actions in
      let all = sums actions start fails.mid fails.leads.led in
      let breaks = fails.breaks in
      record {
        mid = fails.mid;
        led = fails.leads.led;
        breaks = breaks;
        read = Consumes-kept start.left.octets fails.mid.left.octets now.left.octets (read_in actions) all.read breaks.left;
        heard = all.heard ∙ ap (λ l. heard_in actions ++ l) (sym breaks.unheard);
        wrote = Appends-then-front start.written fails.mid.written now.written (said_in actions) fails.octets all.wrote breaks.wrote;
      }
