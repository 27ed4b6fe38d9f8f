-- Each of several sessions stays small.
use Rattle.std.proofs.Common.{◌≡◌, ◌≢◌, ◌⊎◌, inl, inr, ℕ, true, false, eqb, Option, Some, None, refl, sym, ap, subst, ◌∙◌, slice_get, slice_set}
use Rattle.std.specs.Option.{unwrap_or}
use Rattle.std.proofs.lemmas.Bool.Decides.{eqb_tells}
use Rattle.ftp_tree.specs.Tree.{Table}
use Rattle.ftp_server_model.specs.Held.{HasShortFiles}
use Rattle.ftp_server_model.specs.Play.{call}
use Rattle.ftp_server_model.specs.View.{View}
use Rattle.laws_server.specs.one.Small.{IsSmall}
use Rattle.laws_server.proofs.one.Theorems.{calls_stay_small}
use Rattle.laws_server.specs.several.Several.{Slot, Several, called_as, exchanged, lent_to, in_slot_again}
use Rattle.laws_server.specs.several.Small.{AllStaySmall, AreSmallSessions}
use Rattle.laws_server.proofs.several.LentLemmas.{lent_small}
use Rattle.laws_server.proofs.several.SlotLemmas.{get-set_same, get-set_other}

-- a small session is small with any map whose files are within the limit
exchanged_small : (table : Table) (v : View) → HasShortFiles table → IsSmall v → IsSmall (exchanged table v)
exchanged_small table v files k = record {
  keeps = record {
    accounts = k.keeps.accounts;
    host = k.keeps.host;
    session = record { access = k.keeps.session.access; root = k.keeps.session.root; cwd = k.keeps.session.cwd; pending = k.keeps.session.pending; connection = k.keeps.session.connection };
    waiting = k.keeps.waiting;
    owed = k.keeps.owed;
  };
  short = record { session = record { files = files; connection = k.short.session.connection }; reading = k.short.reading; waiting = k.short.waiting };
}

pub all_stay_small : AllStaySmall
all_stay_small read turn s reading typed k = by (slice_get s.slots turn.slot) refl
  where
    by : (found : Option Slot) → slice_get s.slots turn.slot ≡ found → AreSmallSessions (called_as read turn.slot turn.cue found s).1
    by None is = k
    by (Some v) is = record { files = after.short.session.files; slots = λ slot w sits. one slot w sits (eqb_tells turn.slot slot) }
      where
        before : IsSmall v.view
        before = k.slots turn.slot v is

        after : IsSmall (call read turn.cue (lent_to s.table v)).1
        after =
            calls_stay_small read turn.cue (lent_to s.table v) reading typed
            (lent_small v.stood (exchanged s.table v.view) (exchanged_small s.table v.view k.files before))

        left : Slot
        left = in_slot_again v.view.session.table (call read turn.cue (lent_to s.table v)).1

        small : IsSmall left.view
        small = exchanged_small v.view.session.table (call read turn.cue (lent_to s.table v)).1 before.short.session.files after

        one : (slot : ℕ) (w : Slot) → slice_get (slice_set s.slots turn.slot left) slot ≡ Some w
            → ((eqb turn.slot slot ≡ true) × (turn.slot ≡ slot)) ⊎ ((eqb turn.slot slot ≡ false) × (turn.slot ≢ slot)) → IsSmall w.view
        one slot w sits (inl same) =
            subst (λ (who : Slot). IsSmall who.view)
            (ap (λ (found : Option Slot). unwrap_or found left) (sym (get-set_same s.slots turn.slot v left is) ∙ ap (slice_get (slice_set s.slots turn.slot left)) same.1 ∙ sits)) small
        one slot w sits (inr other) = k.slots slot w (sym (get-set_other s.slots turn.slot slot left other.1) ∙ sits)
