-- A server that takes octets of an upload, and one of whose map the same stands at and below a root; no line waits behind them that did not.
use Rattle.std.proofs.Common.{◌≡◌, ◌∙◌, ℕ, List, [], ◌∷◌, Option, Some, None, refl, sym, ap, subst}
use Rattle.ftp_mode.specs.Said.{Said, says, marker}
use Rattle.ftp_mode.specs.declared.fault.FrameFault.{FrameFault}
use Rattle.ftp_path.specs.Path.{Names}
use Rattle.ftp_wire.specs.Decoder.{Decoder, fault_of, octet_says, read_on}
use Rattle.laws_server.proofs.one.PartLemmas.{known_by, receives_at}
use Rattle.ftp_server_model.specs.Calls.{MayReceive, connection_of, receives, receives_octet, takes_all, takes_data, takes_octet, takes_said, with_connection}
use Rattle.ftp_server_model.specs.Failing.{Counts}
use Rattle.ftp_server_model.specs.Far.{Receives, Server}
use Rattle.ftp_server_model.specs.Machine.{waited}
use Rattle.ftp_server_model.specs.Play.{at_root, only_at}
use Rattle.ftp_server_model.specs.View.{Transfer, View}
use Rattle.ftp_server_model.specs.declared.session.Keep.{Keep}
use Rattle.ftp_server_model.specs.declared.session.ServerLink.{ServerLink}
use Rattle.ftp_server_model.specs.declared.session.ServerLink.TheVariants as Data
use Rattle.ftp_server_model.specs.declared.session.Transfer.TheVariants as Transfers
use Rattle.laws_server.specs.several.Company.{IsInSlot}
use Rattle.laws_server.specs.several.Several.{exchanged}
use Rattle.ftp_tree.specs.Tree.{Table}
use Rattle.laws_sessions.proofs.served.Calling.{Both, but_map, same_at, stays_counted}

-- ---- no line waits

said_waits : (connection : ServerLink Transfer) (said : Said) (v : View) → (takes_said connection said v).waiting ≡ v.waiting
said_waits (Data.Transferring (Transfers.Upload path keep d)) (says sign) v = refl
said_waits (Data.Transferring (Transfers.Upload path keep d)) (marker text) v = refl
said_waits (Data.Transferring Transfers.OverLimit) said v = refl
said_waits (Data.Transferring (Transfers.Download rest)) said v = refl
said_waits (Data.Transferring (Transfers.Listing rest)) said v = refl
said_waits connection said v = refl

all_waits : (said : List Said) (v : View) → (takes_all said v).waiting ≡ v.waiting
all_waits [] v = refl
all_waits (said ∷ more) v = all_waits more (takes_said v.session.connection said v) ∙ said_waits v.session.connection said v

octet_waits : (fault : Option FrameFault) (path : Names) (keep : Keep) (d : Decoder) (said : List Said) (v : View)
    → (takes_octet fault path keep d said v).waiting ≡ v.waiting
octet_waits None path keep d said v = all_waits said (with_connection (Data.Transferring (Transfers.Upload path keep d)) v)
octet_waits (Some fault) path keep d said v = refl

data_waits : (connection : ServerLink Transfer) (octet : ℕ) (v : View) → (takes_data connection octet v).waiting ≡ v.waiting
data_waits (Data.Transferring (Transfers.Upload path keep d)) octet v = octet_waits (fault_of (read_on d octet)) path keep (read_on d octet) (octet_says d octet) v
data_waits (Data.Transferring Transfers.OverLimit) octet v = refl
data_waits (Data.Transferring (Transfers.Download rest)) octet v = refl
data_waits (Data.Transferring (Transfers.Listing rest)) octet v = refl
data_waits connection octet v = refl

-- so it is taken alone
abbrev taken : ℕ → View → View
taken octet v = takes_data (connection_of v.session) octet v

taken_is : (octet : ℕ) (v : View) → v.waiting ≡ None → receives_octet v octet ≡ taken octet v
unfolding receives_octet
taken_is octet v none = ap (λ q. waited q (taken octet v)) (data_waits (connection_of v.session) octet v ∙ none)

-- ---- both take them

module _ (root : Names) where
  -- one
  record OneTaken (octet : ℕ) (table : Table) (v : View) : Type 0 where
    map : Table
    is : receives_octet (exchanged table v) octet ≡ exchanged map (receives_octet v octet)
    same : only_at root map ≡ only_at root (receives_octet v octet).session.table
    in_slot : IsInSlot root (receives_octet v octet)
    none : (receives_octet v octet).waiting ≡ None

  one_taken : (octet : ℕ) (table : Table) (v : View) → only_at root table ≡ only_at root v.session.table → IsInSlot root v → v.waiting ≡ None
      → OneTaken octet table v
  one_taken octet table v alike slot none =
      let w : View = exchanged table v in
      let one = receives_at octet root v slot.held in
      let its = receives_at octet root w slot.held in
      let eq : at_root root (taken octet w) ≡ at_root root (taken octet v) = sym its.is.same ∙ ap (taken octet) (same_at root v table alike) ∙ one.is.same in
      let is : receives_octet v octet ≡ taken octet v = taken_is octet v none in
      let map : Table = (taken octet w).session.table in
      record {
        map = map;
        is = taken_is octet w none ∙ but_map root (taken octet w) (taken octet v) eq ∙ ap (exchanged map) (sym is);
        same = ap (λ (u : View). u.session.table) eq ∙ ap (λ (u : View). only_at root u.session.table) (sym is);
        in_slot = subst (IsInSlot root) (sym is) (record { known = known_by root v (taken octet v) one.access one.top slot.known; held = one.is.held });
        none = ap (λ (u : View). u.waiting) is ∙ data_waits (connection_of v.session) octet v ∙ none;
      }

  -- all of them
  record AllTaken (octets : List ℕ) (table : Table) (v : View) : Type 0 where
    map : Table
    is : receives (exchanged table v) octets ≡ exchanged map (receives v octets)
    may : MayReceive v octets → MayReceive (exchanged table v) octets
    same : only_at root map ≡ only_at root (receives v octets).session.table
    in_slot : IsInSlot root (receives v octets)

  all_taken : (octets : List ℕ) (table : Table) (v : View) → only_at root table ≡ only_at root v.session.table → IsInSlot root v → v.waiting ≡ None
      → AllTaken octets table v
  all_taken [] table v alike slot none = record { map = table; is = refl; may = λ may. tt; same = alike; in_slot = slot }
  all_taken (octet ∷ octets) table v alike slot none =
      let first = one_taken octet table v alike slot none in
      let rest = all_taken octets first.map (receives_octet v octet) first.same first.in_slot first.none in
      record {
        map = rest.map;
        is = ap (λ (u : View). receives u octets) first.is ∙ rest.is;
        may = λ may. (may.0, subst (λ (u : View). MayReceive u octets) (sym first.is) (rest.may may.1));
        same = rest.same;
        in_slot = rest.in_slot;
      }

  pub receives_but : (counts : Counts) (octets : List ℕ) (table : Table) (old new : Server) → only_at root table ≡ only_at root old.view.session.table
      → IsInSlot root old.view → old.view.waiting ≡ None → new.counts ≡ old.counts → Receives octets old new
      → Both root counts (Receives octets) table old new
  receives_but counts octets table old new alike slot none calm takes =
      let all = all_taken octets table old.view alike slot none in
      let is : new.view ≡ receives old.view octets = takes.done calm in
      record {
        map = all.map;
        calls = record {
          done = λ still. ap (exchanged all.map) is ∙ sym all.is;
          may = λ still. all.may (takes.may calm);
          failed = λ on moved. absurd (moved refl);
          counted = stays_counted counts;
        };
        same = all.same ∙ ap (λ (u : View). only_at root u.session.table) (sym is);
        in_slot = subst (IsInSlot root) (sym is) all.in_slot;
      }
