-- Calls of a server, and of one of whose map the same stands at and below a root.
use Rattle.std.proofs.Common.{◌≡◌, ◌≤◌, ℕ, suc, List, [], ◌∷◌, length, None, refl, sym, ap, subst, ◌∙◌, arith}
use Rattle.ftp_path.specs.Path.{Names}
use Rattle.laws_server.proofs.one.HeardLemmas.{hears_at}
use Rattle.laws_server.proofs.one.PartLemmas.{StepAt, ViewAt, clock_at, known_by}
use Rattle.laws_server.proofs.one.TurnLemmas.{IsHeld}
use Rattle.ftp_server_model.specs.Calls.{clock_step}
use Rattle.ftp_server_model.specs.Counting.{CountsOn}
use Rattle.ftp_server_model.specs.Failing.{Counts}
use Rattle.ftp_server_model.specs.Far.{Acts, Hears, Server, Steps}
use Rattle.ftp_server_model.specs.Machine.{IsReading, Reading, hears, hears_octet, waited}
use Rattle.ftp_server_model.specs.Play.{IsAt, at_root, only_at}
use Rattle.ftp_server_model.specs.View.{View}
use Rattle.ftp_server_model.proofs.LinesDecided.{reading_exists}
use Rattle.ftp_server_model.proofs.ReadingLemmas.{one_reading}
use Rattle.laws_server.specs.several.Company.{IsInSlot}
use Rattle.laws_server.specs.several.Several.{exchanged}
use Rattle.ftp_tree.specs.Tree.{Table}
use Rattle.laws_sessions.specs.served.Rooted.{server_but}

-- a count that stays
pub stays_counted : (counts : Counts) → CountsOn counts counts
stays_counted counts = ((0, omega arith, refl), ((0, omega arith, refl), omega arith))

-- with another map that has the same at the root, a view is the same at the root
pub same_at : (root : Names) (v : View) (table : Table) → only_at root table ≡ only_at root v.session.table → at_root root (exchanged table v) ≡ at_root root v
same_at root v table same = ap (λ (t : Table). exchanged t v) same

-- a view that is the same at the root is the same but for its map
pub but_map : (root : Names) (u w : View) → at_root root u ≡ at_root root w → u ≡ exchanged u.session.table w
but_map root u w eq = ap (exchanged u.session.table) eq

module _ (root : Names) (counts : Counts) where
  -- of both of the same call: with this map the other one stands so after it
  pub record Both (Calls : (old new : Server) → Type 0) (table : Table) (old new : Server) : Type 0 where
    pub map : Table
    pub calls : Calls (server_but table counts old) (server_but map counts new)
    pub same : only_at root map ≡ only_at root new.view.session.table
    pub in_slot : IsInSlot root new.view

  -- a step of which no line waits
  pub steps_but : (Fails : View → View → Type 0) (step : View → View) → ((v : View) → IsHeld root v.session → StepAt root v (step v) (step (at_root root v)))
      → ((v : View) → (step v).waiting ≡ v.waiting) → (table : Table) (old new : Server) → only_at root table ≡ only_at root old.view.session.table
      → IsInSlot root old.view → old.view.waiting ≡ None → new.counts ≡ old.counts → Steps Fails step old new → Both (Steps Fails step) table old new
  steps_but Fails step at waits table old new same in_slot none calm steps =
      let v : View = old.view in
      let w : View = exchanged table v in
      let one = at v in_slot.held in
      let its = at w in_slot.held in
      let eq : at_root root (step w) ≡ at_root root (step v) = sym its.is.same ∙ ap step (same_at root v table same) ∙ one.is.same in
      let new_is : new.view ≡ step v = steps.done calm ∙ ap (λ waits. waited waits (step v)) (waits v ∙ none) in
      let its_is : step w ≡ waited (step w).waiting (step w) = ap (λ waits. waited waits (step w)) (sym (waits w ∙ none)) in
      let map : Table = (step w).session.table in
      record {
        map = map;
        calls = record {
          done = λ still. ap (exchanged map) new_is ∙ sym (but_map root (step w) (step v) eq) ∙ its_is;
          failed = λ on moved. absurd (moved refl);
          counted = stays_counted counts;
        };
        same = ap (λ (u : View). u.session.table) eq ∙ ap (λ (u : View). only_at root u.session.table) (sym new_is);
        in_slot = subst (IsInSlot root) (sym new_is) (record { known = known_by root v (step v) one.access one.top in_slot.known; held = one.is.held });
      }

  -- the clock is asked
  pub clock_but : (moment : ℕ) (table : Table) (old new : Server) → only_at root table ≡ only_at root old.view.session.table → IsInSlot root old.view
      → old.view.waiting ≡ None → new.counts ≡ old.counts → Acts (clock_step moment) old new → Both (Acts (clock_step moment)) table old new
  clock_but moment table old new same in_slot none calm acts =
      steps_but (λ v w. ⊥) (clock_step moment) (clock_at moment root) (λ v. refl) table old new same in_slot none calm acts

  -- ---- a control octet, or none

  -- there is one reading
  same_reading : (read : Reading) → IsReading read → read ≡ reading_exists.0
  same_reading read reads = λ i. λ text. one_reading read reading_exists.0 text reads reading_exists.1 i

  module _ (table : Table) (old new : Server) (same : only_at root table ≡ only_at root old.view.session.table) (in_slot : IsInSlot root old.view)
      (calm : new.counts ≡ old.counts) where
    hears_none : Hears [] old new → Both (Hears []) table old new
    hears_none heard =
        let is : new.view ≡ old.view = (heard reading_exists.0 reading_exists.1).done calm in
        record {
          map = table;
          calls = λ read reads. record {
            done = λ still. ap (exchanged table) is;
            may = λ still. tt;
            failed = λ on moved. absurd (moved refl);
            counted = stays_counted counts;
          };
          same = same ∙ ap (λ (u : View). only_at root u.session.table) (sym is);
          in_slot = subst (IsInSlot root) (sym is) in_slot;
        }

    hears_one : (octet : ℕ) → Hears (octet ∷ []) old new
        → ((read : Reading) → IsReading read → (t : Table) → IsAt root (hears_octet read (exchanged t old.view) octet))
        → Both (Hears (octet ∷ [])) table old new
    hears_one octet heard known =
        let read : Reading = reading_exists.0 in
        let v : View = old.view in
        let w : View = exchanged table v in
        let x : View = hears_octet read v octet in
        let y : View = hears_octet read w octet in
        let at_v : IsAt root x = known read reading_exists.1 v.session.table in
        let one : ViewAt root v x (hears_octet read (at_root root v) octet) = hears_at read octet root v in_slot.known in_slot.held at_v in
        let its : ViewAt root w y (hears_octet read (at_root root w) octet) =
        hears_at read octet root w in_slot.known in_slot.held (known read reading_exists.1 table) in
        let eq : at_root root y ≡ at_root root x = sym its.same ∙ ap (λ (u : View). hears_octet read u octet) (same_at root v table same) ∙ one.same in
        let is : new.view ≡ x = (heard read reading_exists.1).done calm in
        record {
          map = y.session.table;
          calls = λ other reads. record {
            done = λ still. ap (exchanged y.session.table) is ∙ sym (but_map root y x eq)
                ∙ ap (λ (r : Reading). hears_octet r w octet) (sym (same_reading other reads));
            may = λ still. (((heard other reads).may calm).0, tt);
            failed = λ on moved. absurd (moved refl);
            counted = stays_counted counts;
          };
          same = ap (λ (u : View). u.session.table) eq ∙ ap (λ (u : View). only_at root u.session.table) (sym is);
          in_slot = subst (IsInSlot root) (sym is) (record { known = at_v; held = one.held });
        }

    pub hears_but : (octets : List ℕ) → length octets ≤ 1 → Hears octets old new
        → ((read : Reading) → IsReading read → (t : Table) → IsAt root (hears read (exchanged t old.view) octets)) → Both (Hears octets) table old new
    hears_but [] few heard known = hears_none heard
    hears_but (octet ∷ []) few heard known = hears_one octet heard known
    hears_but (octet ∷ next ∷ octets) few heard known = absurd (too_many octets few)
      where
        too_many : (octets : List ℕ) → suc (suc (length octets)) ≤ 1 → ⊥
        too_many octets few = omega (arith, few)
