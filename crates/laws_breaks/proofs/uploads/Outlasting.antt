-- A client of an upload whose server was told of the break, and said some of the reply to that: what it heard of that reply is known, and so is what it does
-- then, since one that heard none of it does the same.
use Rattle.std.proofs.Common.{◌≡◌, ◌⊎◌, inl, inr, ℕ, ◌<◌, Bool, true, false, true≢false, List, [], ◌∷◌, ◌++◌, length, take, Option, None, refl, sym, ap, ap₂, subst, ◌∙◌, append_assoc, arith}
use Rattle.std.specs.Prelude.{if◌then◌else◌}
use Rattle.ftp_ports.specs.Asking.{Asked}
use Rattle.ftp_ports.specs.Actions.{Calls, Action, Stand}
use Rattle.ftp_ports.specs.Machine.{Left, MayLeave, leaves}
use Rattle.ftp_ports.specs.declared.whole.Fate.{Fate}
use Rattle.ftp_ports.specs.declared.whole.Fate.TheVariants as Fates
use Rattle.ftp_client_driver.specs.Side.{client_side, is_operation_under_way}
use Rattle.ftp_client_model.specs.Calls as near
use Rattle.ftp_client_model.specs.Calls.{hears, is_busy, is_sound, may_hear, report_of}
use Rattle.ftp_client_model.specs.Dialogue.{has_begun}
use Rattle.ftp_client_model.specs.InFlight.{IsAtRest}
use Rattle.ftp_client_model.specs.View.{View as Near}
use Rattle.ftp_client_model.specs.declared.client.ClientLink.TheVariants as NearData
use Rattle.ftp_client_model.specs.declared.client.Ending.{Ending}
use Rattle.ftp_client_model.specs.declared.client.Replied.{Replied}
use Rattle.ftp_client_model.specs.declared.client.Replied.TheVariants as Replies
use Rattle.ftp_ends.specs.Octets.{has_octets}
use Rattle.ftp_ends.specs.Reply.{Reply, reply_octets}
use Rattle.ftp_ends.specs.declared.link.Wants.{Wants}
use Rattle.ftp_ends.specs.declared.link.Wants.TheVariants as Want
use Rattle.ftp_operation.specs.declared.op.Op.{Op}
use Rattle.ftp_server_driver.specs.alone.Side.{server_side}
use Rattle.ftp_server_model.specs.Machine.{IsReading, Reading}
use Rattle.ftp_server_model.specs.Replies.{fixed_reply}
use Rattle.ftp_server_model.specs.declared.reply.FixedReply.TheVariants as Texts
use Rattle.laws_world.specs.Claims.{Beginning, IsFair}
use Rattle.laws_world.specs.World.{World}
use Rattle.laws_dialogues.specs.Fetches.{busy}
use Rattle.laws_dialogues.specs.Stage.{calm}
use Rattle.laws_agreement.specs.Cut.{FlowsRow}
use Rattle.laws_agreement.specs.Rising.{replied_by, sending}
use Rattle.laws_drivers.specs.control.Between.{Between}
use Rattle.laws_drivers.proofs.events.Holding.{both, is_sound as is_whole}
use Rattle.laws_drivers.specs.events.Moments.{AreMoments, begun_at}
use Rattle.laws_transfers.proofs.Known.{is_near_held}
use Rattle.laws_breaks.proofs.downloads.Lagging.{OfMarks}
use Rattle.laws_breaks.proofs.downloads.Unsent.{AskAll}
use Rattle.laws_breaks.specs.uploads.Late.{uploading}
use Rattle.laws_breaks.proofs.uploads.Leaving.{is_send}
use Rattle.laws_breaks.proofs.uploads.Offering.{Offers, rows}
use Rattle.laws_breaks.proofs.uploads.Outliving.{Outlives, Taker, heard_last, link_now, near_is, offers_now, owes_now}
use Rattle.laws_breaks.proofs.uploads.Rows.{GivesStill, hears_last, last_may, none_held}

-- ---- what a client of an upload wants

-- octets are to be given, or nothing is wanted
abbrev pub is_still : Wants → Bool
is_still Want.Send = true
is_still Want.Nothing = true
is_still wants = false

-- one that is at its upload, over a link that is open
pub up_wants : (op : Op (List ℕ)) (replied : Replied) (left : List ℕ) (mark : Option ℕ) (n : Near)
    → near.wants (uploading op replied left mark n) ≡ (if has_begun replied then Want.Send else Want.Nothing)
unfolding near.wants
up_wants op Replies.Nothing left mark n = refl
up_wants op Replies.Begun left mark n = refl
up_wants op (Replies.Final code) left mark n = refl

-- these are all
up_still : (replied : Replied) → is_still (if has_begun replied then Want.Send else Want.Nothing) ≡ true
up_still Replies.Nothing = refl
up_still replied = refl

-- it leaves none then
up_leaves : (replied : Replied) → leaves (if has_begun replied then Want.Send else Want.Nothing) ≡ false
up_leaves Replies.Nothing = refl
up_leaves replied = refl

-- one whose link is over gives none
pub over_gives : (v : Near) (ending : Ending) → v.connection ≡ NearData.Over ending → is_send (near.wants v) ≡ false
unfolding near.wants
over_gives v ending over =
    ap (λ c. is_send (near.wants (record v { connection = c }))) over ∙ by v.closing (is_sound v.standing)
  where
    by : (closing sound : Bool)
        → is_send (if closing then Want.CloseData
        else (if sound then near.link_wants (NearData.Over ending) (record v { connection = NearData.Over ending }) else Want.CloseAll)) ≡ false
    by true sound = refl
    by false true = refl
    by false false = refl

-- nothing comes where nothing is on its way
row_some : (reply : Reply) (held : List ℕ) → FlowsRow (reply ∷ []) held [] → ⊥
row_some reply held row = true≢false (sym (ap has_octets row.is))

-- each of none may be heard
pub none_less : (v : Near) (heard : List ℕ) → heard ≡ [] → (k : ℕ) → k < length heard → may_hear (hears v (take k heard)) ≡ true
none_less v heard none k less = absurd (by (subst (λ h. k < length h) none less))
  where
    by : k < 0 → ⊥
    by less = omega (arith, less)

module _ (read : Reading) (reads : IsReading read) (moments : ℕ → ℕ) (timed : AreMoments moments) (b : Beginning) (fair : IsFair b) {Are : OfMarks}
    (actions : List (Action client_side)) (puts : AskAll (begun_at moments actions)) (p : Between) (count : ℕ) (server : Stand server_side)
    (old : Stand client_side) (l : Outlives read reads moments timed b fair Are actions p count server old) where
  abbrev t : Taker read reads moments timed b fair actions p server
  t = l.taker

  abbrev w : World
  w = l.at.world

  abbrev n : Near
  n = l.near

  abbrev c : Near
  c = old.owner.end.view

  -- one that heard nothing of the reply has octets to give, or has not heard its 150
  pub o : Offers w
  o = offers_now read reads moments timed b fair actions puts p count server old l

  -- so it stands
  pub form : n ≡ busy (sending o.op (replied_by o.begun) o.left o.mark) NearData.Open n
  form =
      subst (λ (v : Near). v ≡ busy (sending o.op (replied_by o.begun) o.left o.mark) NearData.Open v)
      (near_is read reads moments timed b fair actions puts p count server old l) o.near

  -- ---- where some of the reply may be heard

  module _ (empty : l.queue ≡ []) (owed : t.were.owed ≡ []) where
    -- nothing is on its way in the world
    coming : w.control_to_client ++ w.far.owed ≡ []
    coming =
        ap₂ (λ q f. q ++ f) (l.at.together.beside.to_client ∙ ap (λ q. q ++ []) empty)
        (owes_now read reads moments timed b fair actions puts p count server old l ∙ owed)

    -- so the client heard its 150, and is between two replies
    began : (o.begun ≡ true) × (n ≡ uploading o.op Replies.Begun o.left o.mark (calm o.base))
    began =
        by o.begun refl (sym (near_is read reads moments timed b fair actions puts p count server old l) ∙ o.heard)
        (subst (λ q. FlowsRow (rows o.begun o.notes) o.held q) coming o.row)
      where
        by : (begun : Bool) → o.begun ≡ begun → n ≡ hears (busy (sending o.op (replied_by begun) o.left o.mark) NearData.Open (calm o.base)) o.held
            → FlowsRow (rows begun o.notes) o.held [] → (o.begun ≡ true) × (n ≡ uploading o.op Replies.Begun o.left o.mark (calm o.base))
        by true is heard row =
            (is, heard ∙ ap (hears (uploading o.op Replies.Begun o.left o.mark (calm o.base))) (none_held (rows true o.notes) o.held row))
        by false is heard row = absurd (row_some (fixed_reply Texts.Opens) o.held row)

    -- so it is between two replies
    pub at_rest : IsAtRest n
    at_rest = record { ear = ap (λ (v : Near). v.ear) began.1; gathered = ap (λ (v : Near). v.gathered) began.1 }

    -- and may hear
    pub may_rest : may_hear n ≡ true
    may_rest = ap may_hear began.1

    -- what it heard, and is to hear, is of the reply
    pub of_reply : (heard rest : List ℕ) → l.queue ++ t.said ≡ heard ++ rest → heard ++ (rest ++ t.left) ≡ reply_octets (fixed_reply t.ends.text)
    of_reply heard rest split =
        sym (append_assoc heard rest t.left) ∙ ap (λ q. q ++ t.left) (sym split) ∙ ap (λ q. (q ++ t.said) ++ t.left) empty ∙ sym t.whole
        ∙ ap (λ q. q ++ reply_octets (fixed_reply t.ends.text)) owed

    -- so it gives still
    pub climbs : GivesStill o.op o.left o.mark c
    climbs = subst (GivesStill o.op o.left o.mark) (sym (l.view ∙ ap (λ v. hears v l.heard) began.1)) (by o.left (o.some began.0))
      where
        by : (left : List ℕ) → has_octets left ≡ true → GivesStill o.op left o.mark (hears (uploading o.op Replies.Begun left o.mark (calm o.base)) l.heard)
        by [] some = absurd (true≢false (sym some))
        by (octet ∷ more) some =
            hears_last t.were.session t.ends.text o.op o.all octet more o.mark o.base t.ends.refuses l.heard
            ((old.unheard ++ p.control.to_client) ++ t.left) (of_reply l.heard (old.unheard ++ p.control.to_client) l.split)

  -- ---- what the drive's client holds

  -- none of the reply is heard, or all was that came before it
  pub heard_is : (l.heard ≡ []) ⊎ ((l.queue ≡ []) × (t.were.owed ≡ []))
  heard_is = heard_last read reads moments timed b fair actions puts p count server old l

  -- where it heard none of the reply
  pub as_near : l.heard ≡ [] → c ≡ n
  as_near none = l.view ∙ ap (hears n) none

  -- it is at its upload, over a link that is open
  pub record Ups (v : Near) : Type 0 where
    pub replied : Replied
    pub last : Near
    pub is : v ≡ uploading o.op replied o.left o.mark last

  -- so is the drive's
  pub ups : Ups c
  ups = elim heard_is [
    | inl none ↦ record { replied = replied_by o.begun; last = n; is = as_near none ∙ form }
    | inr last ↦ let k = climbs last.0 last.1 in record { replied = k.replied; last = k.last; is = k.is }
  ]

  -- what it wants
  c_wants : near.wants c ≡ (if has_begun ups.replied then Want.Send else Want.Nothing)
  c_wants = ap near.wants ups.is ∙ up_wants o.op ups.replied o.left o.mark ups.last

  -- one that gives octets has replies
  pub ups_begun : near.wants c ≡ Want.Send → has_begun ups.replied ≡ true
  ups_begun sends = by (has_begun ups.replied) refl
    where
      by : (begun : Bool) → has_begun ups.replied ≡ begun → has_begun ups.replied ≡ true
      by true is = is
      by false is =
          absurd (true≢false (sym (ap is_send sends) ∙ ap is_send c_wants ∙ ap (λ s. is_send (if s then Want.Send else Want.Nothing)) is))

  -- it wants nothing else
  pub wants_not : (q : Wants) → is_still q ≡ false → near.wants c ≡ q → ⊥
  wants_not q not e = true≢false (sym (up_still ups.replied) ∙ ap is_still (sym c_wants ∙ e) ∙ not)

  -- it has no report
  pub none_reported : report_of c ≡ None
  none_reported = ap report_of ups.is

  -- none is taken
  pub reports_same : near.reports c ≡ c
  reports_same = ap near.reports ups.is ∙ sym ups.is

  -- it is busy
  pub busy_now : is_busy c ≡ true
  busy_now = ap is_busy ups.is

  -- its operation is under way
  pub under_way : is_operation_under_way c.job ≡ true
  under_way = ap (λ (v : Near). is_operation_under_way v.job) ups.is

  -- it has not failed
  pub sound_now : is_sound c.standing ≡ true
  sound_now = ap (λ (v : Near). is_sound v.standing) ups.is

  -- nothing is to be closed
  pub open_now : c.closing ≡ false
  open_now = ap (λ (v : Near). v.closing) ups.is

  -- one that gives octets heard its 150
  pub began_sending : near.wants c ≡ Want.Send → o.begun ≡ true
  began_sending sends = elim heard_is [
    | inl none ↦ by o.begun refl
    | inr last ↦ (began last.0 last.1).0
  ]
    where
      by : (begun : Bool) → o.begun ≡ begun → o.begun ≡ true
      by true is = is
      by false is = absurd (elim heard_is [
        | inl none ↦
            true≢false (sym (ap is_send (sym (ap near.wants (as_near none ∙ form) ∙ up_wants o.op (replied_by o.begun) o.left o.mark n) ∙ sends))
            ∙ ap (λ s. is_send (if has_begun (replied_by s) then Want.Send else Want.Nothing)) is)
        | inr last ↦ true≢false (sym (began last.0 last.1).0 ∙ is)
      ])

  -- one that heard none of the reply wants the same
  pub same_wants : near.wants c ≡ near.wants n
  same_wants = elim heard_is [
    | inl none ↦ ap near.wants (as_near none)
    | inr last ↦
        let k = climbs last.0 last.1 in
        ap near.wants k.is ∙ up_wants o.op k.replied o.left o.mark k.last ∙ ap (λ s. if s then Want.Send else Want.Nothing) k.begun
        ∙ sym (ap near.wants (began last.0 last.1).1 ∙ up_wants o.op Replies.Begun o.left o.mark (calm o.base))
  ]

  -- each octet of what it heard may be heard
  pub may_now : (k : ℕ) → k < length l.heard → may_hear (hears n (take k l.heard)) ≡ true
  may_now = elim heard_is [
    | inl none ↦ none_less n l.heard none
    | inr last ↦
        last_may t.were.session t.ends.text n (at_rest last.0 last.1) (may_rest last.0 last.1) l.heard ((old.unheard ++ p.control.to_client) ++ t.left)
        (of_reply last.0 last.1 l.heard (old.unheard ++ p.control.to_client) l.split)
  ]

  -- it leaves nothing
  pub leaves_not : (asked : Asked) (new : Stand client_side) → Calls {side = client_side} (Left asked) old new → ⊥
  leaves_not asked new did = by old.owner.channel.fate refl did.0.2.0
    where
      whole : is_whole old.owner.channel.fate ≡ true
      whole = by_whole (is_whole old.owner.channel.fate) refl
        where
          by_whole : (whole : Bool) → is_whole old.owner.channel.fate ≡ whole → is_whole old.owner.channel.fate ≡ true
          by_whole true is = is
          by_whole false is =
              absurd (both (ap is_near_held (link_now read reads moments timed b fair actions puts p count server old l)) (l.at.together.keeping.over is))

      by : (fate : Fate) → old.owner.channel.fate ≡ fate → MayLeave (is_operation_under_way c.job ≡ false) (near.wants c) fate → ⊥
      by Fates.Sound is may = elim may [
        | inl leaving ↦ true≢false (sym leaving ∙ ap leaves c_wants ∙ up_leaves ups.replied)
        | inr done ↦ both under_way done
      ]
      by Fates.Failed is may = both under_way may
      by Fates.Broken is may = both whole (ap is_whole is)
      by Fates.Over is may = both whole (ap is_whole is)
