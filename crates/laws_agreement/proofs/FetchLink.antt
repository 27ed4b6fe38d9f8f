-- The link of what is asked for: it opens, is refused, ends or breaks, whatever is on its way over the control connection.
use Rattle.std.proofs.Common.{◌≡◌, ℕ, Bool, true, false, List, [], ◌∷◌, ◌++◌, Some, None, refl, sym, ap, subst, ◌∙◌, append-nil, append_assoc}
use Rattle.ftp_wire.specs.Decoder.{decoder_of, no_octets}
use Rattle.ftp_ends.specs.Ear.{Ear, quiet, ear}
use Rattle.ftp_ends.specs.Reply.{IsWritten, Reply, reply_octets}
use Rattle.ftp_pieces.specs.Machine.{after}
use Rattle.ftp_operation.specs.Answer.{Said}
use Rattle.ftp_operation.specs.declared.op.Op.{Op}
use Rattle.ftp_path.specs.Path.{Names}
use Rattle.ftp_reply.specs.Reader.{Between, Gathered}
use Rattle.ftp_settings.specs.declared.representation.Representation.{Representation}
use Rattle.ftp_client_model.specs.Calls as near
use Rattle.ftp_client_model.specs.Dialogue.{finishes_read, judged}
use Rattle.ftp_client_model.specs.View.{View as Near, Flow, Doing, Receiving}
use Rattle.ftp_client_model.specs.declared.client.Abort.TheVariants as Aborts
use Rattle.ftp_client_model.specs.declared.client.ClientLink.TheVariants as NearData
use Rattle.ftp_client_model.specs.declared.client.Ending.TheVariants as Endings
use Rattle.ftp_client_model.specs.declared.client.Replied.TheVariants as Replies
use Rattle.ftp_client_model.specs.declared.client.Step.TheVariants as Steps
use Rattle.ftp_client_model.proofs.RepliesInFlight.{fronts_are_alike}
use Rattle.ftp_server_model.specs.Calls as far
use Rattle.ftp_server_model.specs.Replies.{fixed_reply}
use Rattle.ftp_server_model.specs.View.{View as Far, Session, line_limit}
use Rattle.ftp_server_model.specs.declared.reply.FixedReply.TheVariants as Texts
use Rattle.ftp_server_model.specs.declared.session.ServerLink.TheVariants as FarData
use Rattle.ftp_server_model.specs.declared.session.Pending.{Pending}
use Rattle.laws_world.specs.Outcome.{mark_in}
use Rattle.laws_world.specs.World.{World}
use Rattle.laws_dialogues.specs.Fetches.{busy, fetching, giving_of, leaving, linked}
use Rattle.laws_dialogues.specs.Stage.{calm, Way, Asking, Answering, row_octets, AreWritten}
use Rattle.laws_dialogues.proofs.Offering.{with_flow}
use Rattle.laws_agreement.specs.Cut.{Cut, FlowsRow, Fits, coming, world_at}
use Rattle.laws_agreement.specs.Stages.{heard_by, replied_of}
use Rattle.laws_agreement.proofs.Keeps.{row_anew}

-- ---- a call of an end, whatever it has heard and whatever it owes

abbrev pub hearing : Ear → Gathered → List ℕ → Near → Near
hearing ear gathered owed n = record n { ear = ear; gathered = gathered; owed = owed }

abbrev pub listening : Ear → List ℕ → Far → Far
listening ear owed f = record f { ear = ear; waiting = None; owed = owed }

-- a call of the client leads from this to that
abbrev pub Leads : (Near → Near) → Near → Near → Type 0
Leads call n next = (ear : Ear) (gathered : Gathered) (owed : List ℕ) → call (hearing ear gathered owed n) ≡ hearing ear gathered owed next

-- a call of the server does, and owes nothing more
abbrev pub FarLeads : (Far → Far) → Far → Far → Type 0
FarLeads call f next = (ear : Ear) (owed : List ℕ) → call (listening ear owed f) ≡ listening ear owed next

-- what is heard of a row of replies is of no matter to a call
row_acts : (call : Near → Near) (n next : Near) (rows : List Reply) (held incoming : List ℕ) → AreWritten rows → FlowsRow rows held incoming → Leads call n next
    → call (near.hears (calm n) held) ≡ near.hears (calm next) held
row_acts call n next [] held incoming fine flow leads =
    subst (λ k. call (near.hears (calm n) k) ≡ near.hears (calm next) k) (sym flow.0) (leads quiet Between [])
row_acts call n next (reply ∷ more) held incoming fine flow leads =
    let front = fronts_are_alike reply.code reply.lines held flow.more flow.octet fine.0 flow.whole in
    ap call (front.is (calm n) (record { ear = refl; gathered = refl })) ∙ leads front.ear front.gathered [] ∙ sym (front.is (calm next) (record { ear = refl; gathered = refl }))

-- a call that leads the client of a base to that of another does so in the worlds at any way and cut that fits
pub near_acts : (call : Near → Near) (b to : World) (way : Way) (c : Cut) → Fits way c → Leads call b.near to.near → call (world_at b way c).near ≡ (world_at to way c).near
near_acts call b to (Asking text) c fits leads = leads quiet Between c.owed
near_acts call b to (Answering rows) c fits leads = row_acts call b.near to.near rows c.held (coming c) fits.0 fits.1 leads

-- a call that leads the server of a base to that of another does so in the worlds at any way and cut
pub far_acts : (call : Far → Far) (b to : World) (way : Way) (c : Cut) → FarLeads call b.far to.far → call (world_at b way c).far ≡ (world_at to way c).far
far_acts call b to (Asking text) c leads = leads (after (ear line_limit) quiet c.held) []
far_acts call b to (Answering rows) c leads = leads quiet c.owed

-- a world whose ends have changed
pub both_act : (b to : World) (way : Way) (c : Cut) (n : Near) (f : Far) → n ≡ (world_at to way c).near → f ≡ (world_at to way c).far
    → record to { near = n; far = f; control_to_server = (world_at b way c).control_to_server; control_to_client = (world_at b way c).control_to_client } ≡ world_at to way c
both_act b to (Asking text) c n f one other = λ i. record to { near = one i; far = other i; control_to_server = c.moving; control_to_client = [] }
both_act b to (Answering rows) c n f one other = λ i. record to { near = one i; far = other i; control_to_server = []; control_to_client = c.moving }

-- ---- one reply more is owed

-- the octets of a row and one reply more are those of the row, and then those of the reply
row_octets-more : (rows : List Reply) (reply : Reply) → row_octets (rows ++ reply ∷ []) ≡ row_octets rows ++ reply_octets reply
row_octets-more [] reply = append-nil (reply_octets reply)
row_octets-more (one ∷ rows) reply = ap (λ l. reply_octets one ++ l) (row_octets-more rows reply) ∙ sym (append_assoc (reply_octets one) (row_octets rows) (reply_octets reply))

-- a row that flows does so with one reply more, whose octets come behind the others
pub row_more : (rows : List Reply) (reply : Reply) (held incoming : List ℕ) → IsWritten reply.code reply.lines → FlowsRow rows held incoming
    → FlowsRow (rows ++ reply ∷ []) held (incoming ++ reply_octets reply)
row_more [] reply held incoming fine flow =
    let T : List ℕ → List ℕ → Type 0 = λ held incoming. FlowsRow (reply ∷ []) held (incoming ++ reply_octets reply) in
    subst (λ held. T held incoming) (sym flow.0) (subst (T []) (sym flow.1)
    (subst (FlowsRow (reply ∷ []) []) (append-nil (reply_octets reply)) (row_anew (reply ∷ []) (fine, tt))))
row_more (one ∷ rows) reply held incoming fine flow = record {
  octet = flow.octet;
  more = flow.more;
  whole = flow.whole;
  is = ap (λ l. l ++ reply_octets reply) flow.is ∙ append_assoc (flow.octet ∷ flow.more) (row_octets rows) (reply_octets reply)
      ∙ ap (λ l. (flow.octet ∷ flow.more) ++ l) (sym (row_octets-more rows reply));
}

-- a row of written replies is so with one written reply more
pub written_more : (rows : List Reply) (reply : Reply) → AreWritten rows → IsWritten reply.code reply.lines → AreWritten (rows ++ reply ∷ [])
written_more [] reply fine one = (one, tt)
written_more (first ∷ rows) reply fine one = (fine.0, written_more rows reply fine.1 one)

-- a cut that fits a row of replies fits it with one reply more, whose octets are owed
pub fits_more : (rows : List Reply) (reply : Reply) (c : Cut) → IsWritten reply.code reply.lines → Fits (Answering rows) c
    → Fits (Answering (rows ++ reply ∷ [])) (record c { owed = c.owed ++ reply_octets reply })
fits_more rows reply c fine fits = (
  written_more rows reply fits.0 fine,
  subst (FlowsRow (rows ++ reply ∷ []) c.held) (append_assoc c.moving c.owed (reply_octets reply)) (row_more rows reply c.held (coming c) fine fits.1),
)

-- so it does with a row of written replies more
pub fits_rows : (rows more : List Reply) (c : Cut) → AreWritten more → Fits (Answering rows) c → Fits (Answering (rows ++ more)) (record c { owed = c.owed ++ row_octets more })
fits_rows rows [] c fine fits =
    subst (λ rows. Fits (Answering rows) (record c { owed = c.owed ++ [] })) (sym (append-nil rows)) (subst (λ owed. Fits (Answering rows) (record c { owed = owed })) (sym (append-nil c.owed)) fits)
fits_rows rows (reply ∷ more) c fine fits =
    let all = fits_rows (rows ++ reply ∷ []) more (record c { owed = c.owed ++ reply_octets reply }) fine.1 (fits_more rows reply c fine.0 fits) in
    subst (λ rows. Fits (Answering rows) (record c { owed = c.owed ++ row_octets (reply ∷ more) })) (append_assoc rows (reply ∷ []) more)
    (subst (λ owed. Fits (Answering ((rows ++ reply ∷ []) ++ more)) (record c { owed = owed })) (append_assoc c.owed (reply_octets reply) (row_octets more)) all)

-- ---- the client's calls

-- the link breaks at a client that has sent REST: it is over, and broken
pub rest_breaks : (op : Op (List ℕ)) (n : Near)
    → Leads near.data_fault (busy (Doing op Steps.Restart) NearData.Open n) (busy (Doing op Steps.Restart) (NearData.Over Endings.Broken) n)
unfolding near.data_fault
rest_breaks op n ear gathered owed = refl

-- the link breaks at a client whose own command was sent, whichever way its octets go
pub offer_breaks : (op : Op (List ℕ)) (flow : Flow) (n : Near)
    → Leads near.data_fault (busy (with_flow op Replies.Nothing flow) NearData.Open n) (busy (with_flow op Replies.Nothing flow) (NearData.Over Endings.Broken) n)
unfolding near.data_fault
offer_breaks op flow n ear gathered owed = refl

module _ (op : Op (List ℕ)) (settings : Representation) (came : List ℕ) (n : Near) where
  abbrev open_at : Bool → Near
  open_at begun = busy (fetching op (replied_of (heard_by begun)) settings came) NearData.Open n

  -- the link ends at a client that has not heard the last reply: it is over, and clean
  pub near_ends : (begun : Bool) → Leads near.data_end (open_at begun) (busy (fetching op (replied_of (heard_by begun)) settings came) (NearData.Over Endings.Clean) n)
  unfolding near.data_end
  near_ends true ear gathered owed = refl
  near_ends false ear gathered owed = refl

  -- the link breaks at a client that has not heard the last reply: it is over, and broken
  pub near_breaks : (begun : Bool) → Leads near.data_fault (open_at begun) (busy (fetching op (replied_of (heard_by begun)) settings came) (NearData.Over Endings.Broken) n)
  unfolding near.data_fault
  near_breaks true ear gathered owed = refl
  near_breaks false ear gathered owed = refl

  -- where the last reply was heard, the answer is told
  pub near_ends_all : (said : Said)
      → judged Endings.Clean Aborts.Unsent 226 op (Receiving (decoder_of settings came) (mark_in (no_octets settings) None came)) ≡ Some said
      → Leads near.data_end (busy (fetching op (Replies.Final 226) settings came) NearData.Open n) (leaving said false n)
  unfolding near.data_end
  near_ends_all said is ear gathered owed =
      ap (λ o. finishes_read o (hearing ear gathered owed (busy (fetching op (Replies.Final 226) settings came) (NearData.Over Endings.Clean) n))) is

  -- where the last reply was heard and the link breaks, the answer is told
  pub near_breaks_all : (said : Said)
      → judged Endings.Broken Aborts.Unsent 226 op (Receiving (decoder_of settings came) (mark_in (no_octets settings) None came)) ≡ Some said
      → Leads near.data_fault (busy (fetching op (Replies.Final 226) settings came) NearData.Open n) (leaving said false n)
  unfolding near.data_fault
  near_breaks_all said is ear gathered owed =
      ap (λ o. finishes_read o (hearing ear gathered owed (busy (fetching op (Replies.Final 226) settings came) (NearData.Over Endings.Broken) n))) is

-- ---- the server's calls

-- the server with another data connection
abbrev pub far_linked : Session → Far → Far
far_linked s f = record f { session = s }

-- an open link that is not in use breaks at the server: it is free, and nothing more is owed
pub ready_breaks : (f : Far) (pending : Pending Names) → f.session ≡ linked FarData.Ready false pending f.session
    → FarLeads far.data_fault f (far_linked (linked FarData.Free false pending f.session) f)
unfolding far.data_fault
ready_breaks f pending is ear owed = ap (λ s. far.data_fault (listening ear owed (far_linked s f))) is

-- the link breaks at a server that is giving octets: it is free, and the reply that it broke is owed
pub giving_breaks : (listed : Bool) (f : Far) (pending : Pending Names) (octet : ℕ) (more : List ℕ)
    → f.session ≡ linked (FarData.Transferring (giving_of listed (octet ∷ more))) false pending f.session
    → (ear : Ear) (owed : List ℕ)
    → far.data_fault (listening ear owed f) ≡ listening ear (owed ++ reply_octets (fixed_reply Texts.Broken)) (far_linked (linked FarData.Free false pending f.session) f)
unfolding far.data_fault
giving_breaks false f pending octet more is ear owed = ap (λ s. far.data_fault (listening ear owed (far_linked s f))) is
giving_breaks true f pending octet more is ear owed = ap (λ s. far.data_fault (listening ear owed (far_linked s f))) is
