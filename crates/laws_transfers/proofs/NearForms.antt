-- What a client is that has octets to give, and what it makes of giving some.
use Rattle.std.proofs.Common.{◌≡◌, ℕ, Bool, true, false, true≢false, List, [], ◌∷◌, drop, Option, Some, None, refl, ap₂, ◌∙◌}
use Rattle.std.specs.Prelude.{if◌then◌else◌}
use Rattle.ftp_ends.specs.declared.link.Wants.{Wants}
use Rattle.ftp_ends.specs.declared.link.Wants.TheVariants as Want
use Rattle.ftp_operation.specs.declared.op.Op.{Op}
use Rattle.ftp_client_model.specs.Calls as near
use Rattle.ftp_client_model.specs.Calls.{data_wants, is_sound, link_wants, transfer_under_way}
use Rattle.ftp_client_model.specs.Plan.{count_of}
use Rattle.ftp_client_model.specs.View.{Transfer, View as Near}
use Rattle.ftp_client_model.specs.declared.client.ClientLink.{ClientLink}
use Rattle.ftp_client_model.specs.declared.client.ClientLink.TheVariants as Data
use Rattle.ftp_client_model.specs.declared.client.Ending.TheVariants as Endings
use Rattle.ftp_client_model.specs.declared.client.Replied.TheVariants as Replies
use Rattle.laws_dialogues.specs.Fetches.{busy}
use Rattle.laws_dialogues.proofs.Sending.{gives_all, gives_some}
use Rattle.laws_agreement.specs.Rising.{sending}
use Rattle.laws_drivers.proofs.events.Stands.{has_port, wants_port}

-- ---- what it wants

abbrev pub is_accept : Wants → Bool
is_accept Want.Accept = true
is_accept other = false

-- one that has no port of its own accepts nobody
pub never_accepts : (n : Near) → is_sound n.standing ≡ true → has_port n.connection ≡ false → n.closing ≡ false → is_accept (near.wants n) ≡ false
unfolding near.wants
never_accepts n sound dials unclosed =
    ap₂ (λ c s. is_accept (if c then Want.CloseData else (if s then link_wants n.connection n else Want.CloseAll))) unclosed sound ∙ by_link n.connection dials
  where
    by_flow : (down begun : Bool) → is_accept (if down then Want.Receive else (if begun then Want.Send else Want.Nothing)) ≡ false
    by_flow true begun = refl
    by_flow false true = refl
    by_flow false false = refl

    by_transfer : (transfer : Option Transfer) → is_accept (data_wants transfer) ≡ false
    by_transfer None = refl
    by_transfer (Some transfer) = by_flow _ _

    by_link : (link : ClientLink) → has_port link ≡ false → is_accept (link_wants link n) ≡ false
    by_link Data.Free e = refl
    by_link Data.ListenWanted e = absurd (true≢false e)
    by_link (Data.Listening port) e = absurd (true≢false e)
    by_link (Data.Connecting endpoint) e = refl
    by_link (Data.Accepting port) e = absurd (true≢false e)
    by_link Data.Open e = by_transfer (transfer_under_way n)
    by_link (Data.Over ending) e = refl

-- ---- octets that it gives

-- with these to give, over an open link
abbrev pub lifting : Op (List ℕ) → List ℕ → Option ℕ → Near → Near
lifting op left mark n = busy (sending op Replies.Begun left mark) Data.Open n

-- with these left: it gives on, or has closed the link
abbrev pub lifted : Op (List ℕ) → List ℕ → Option ℕ → Near → Near
lifted op (octet ∷ left) mark n = lifting op (octet ∷ left) mark n
lifted op [] mark n = record (busy (sending op Replies.Begun [] mark) (Data.Over Endings.Ours) n) { closing = true }

-- it gives so many
pub lifts : (op : Op (List ℕ)) → count_of op ≡ None → (count octet : ℕ) (more : List ℕ) (mark : Option ℕ) (n : Near)
    → near.gives_data count (lifting op (octet ∷ more) mark n) ≡ lifted op (drop count (octet ∷ more)) mark n
lifts op all count octet more mark n = by (drop count (octet ∷ more)) refl
  where
    by : (left : List ℕ) → drop count (octet ∷ more) ≡ left → near.gives_data count (lifting op (octet ∷ more) mark n) ≡ lifted op left mark n
    by [] is = gives_all op all n count octet more mark is n.ear n.gathered n.owed
    by (next ∷ left) is = gives_some op all n count octet more next left mark is n.ear n.gathered n.owed

-- it wants no port then, it has not failed, and it has no report
pub record Sound (n : Near) : Type 0 where
  pub sound : is_sound n.standing ≡ true
  pub port : wants_port n.connection ≡ false
  pub none : near.report_of n ≡ None

pub lifted_sound : (op : Op (List ℕ)) (left : List ℕ) (mark : Option ℕ) (n : Near) → Sound (lifted op left mark n)
lifted_sound op [] mark n = record { sound = refl; port = refl; none = refl }
lifted_sound op (octet ∷ left) mark n = record { sound = refl; port = refl; none = refl }
