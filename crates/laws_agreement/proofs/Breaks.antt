-- Ends and breaks of the link, as worlds of other ends.
use Rattle.std.proofs.Common.{◌≡◌, List, [], ◌++◌, refl, ap, ◌∙◌}
use Rattle.ftp_ends.specs.Reply.{Reply, reply_octets}
use Rattle.ftp_client_model.specs.Calls as near
use Rattle.ftp_client_model.specs.View.{View as Near}
use Rattle.ftp_server_model.specs.Calls as far
use Rattle.ftp_server_model.specs.Replies.{fixed_reply}
use Rattle.ftp_server_model.specs.View.{View as Far}
use Rattle.ftp_server_model.specs.declared.reply.FixedReply.{FixedReply}
use Rattle.laws_world.specs.Events.{DataToClient, link_breaks, broken_by, told}
use Rattle.laws_world.specs.World.{World, Gone, Opened, ClosedByFar, ClosedByNear, Broken, marked_last, with_mark, gone}
use Rattle.laws_dialogues.specs.Stage.{still, Way, Asking, Answering}
use Rattle.laws_agreement.specs.Cut.{Cut, Fits, world_at}
use Rattle.laws_agreement.proofs.FetchLink.{Leads, FarLeads, near_acts, far_acts, both_act}

-- ---- a world of a stage as its base with other ends

-- the base with the ends and the control queues of the world at a way and a cut
pub with_ends : (b : World) (way : Way) (c : Cut) → World
with_ends b way c = record b {
  near = (world_at b way c).near;
  far = (world_at b way c).far;
  control_to_server = (world_at b way c).control_to_server;
  control_to_client = (world_at b way c).control_to_client;
}

-- the world at a way and a cut differs from its base only by its ends and its control queues
pub as_ends : (b : World) (way : Way) (c : Cut) → world_at b way c ≡ with_ends b way c
unfolding with_ends
as_ends b (Asking text) c = refl
as_ends b (Answering rows) c = refl

-- the base behind a break
abbrev pub behind_break : Near → Far → World → World
behind_break n f b =
    record b { near = n; far = f; link = Gone; data_to_server = []; data_to_client = []; marks = marked_last (Broken b.came) b.marks }

-- ---- a break

-- a break of the open link leads the world to the base behind the break, of the same way and cut
pub opened_breaks : (b : World) (way : Way) (c : Cut) (n : Near) (f : Far) → Fits way c → b.link ≡ Opened → Leads near.data_fault b.near n → FarLeads far.data_fault b.far f
    → link_breaks (world_at b way c) ≡ world_at (behind_break n f b) way c
unfolding with_ends
opened_breaks b way c n f fits is leads serves =
    ap link_breaks (as_ends b way c)
    ∙ ap (λ link. with_mark (Broken b.came) (gone (broken_by link (with_ends b way c)))) is
    ∙ both_act b (behind_break n f b) way c (near.data_fault (world_at b way c).near) (far.data_fault (world_at b way c).far)
    (near_acts near.data_fault b (behind_break n f b) way c fits leads) (far_acts far.data_fault b (behind_break n f b) way c serves)

-- a break of the link that the server has closed leads to the base behind the break, with the server as it was
pub left_breaks : (b : World) (way : Way) (c : Cut) (n : Near) → Fits way c → b.link ≡ ClosedByFar → Leads near.data_fault b.near n
    → link_breaks (world_at b way c) ≡ world_at (behind_break n b.far b) way c
unfolding with_ends
left_breaks b way c n fits is leads =
    ap link_breaks (as_ends b way c)
    ∙ ap (λ link. with_mark (Broken b.came) (gone (broken_by link (with_ends b way c)))) is
    ∙ both_act b (behind_break n b.far b) way c (near.data_fault (world_at b way c).near) (world_at b way c).far
    (near_acts near.data_fault b (behind_break n b.far b) way c fits leads) (far_acts (λ f. f) b (behind_break n b.far b) way c (λ ear owed. refl))

-- the server owes one reply more behind it, where the link is open at both ends
pub giving_break : (text : FixedReply) (b : World) (rows more : List Reply) (c : Cut) (n : Near) (f : Far) → Fits (Answering rows) c → b.link ≡ Opened → Leads near.data_fault b.near n
    → far.data_fault (record (still b.far) { owed = c.owed }) ≡ record (still f) { owed = c.owed ++ reply_octets (fixed_reply text) }
    → link_breaks (world_at b (Answering rows) c) ≡ world_at (behind_break n f b) (Answering more) (record c { owed = c.owed ++ reply_octets (fixed_reply text) })
giving_break text b rows more c n f fits is leads serves =
    ap (λ link. with_mark (Broken b.came) (gone (broken_by link (world_at b (Answering rows) c)))) is
    ∙ (λ i. record (behind_break n f b) { near = near_acts near.data_fault b (behind_break n f b) (Answering rows) c fits leads i; far = serves i; control_to_server = []; control_to_client = c.moving })

-- and where the client has closed it, and is as it was
pub closed_break : (text : FixedReply) (b : World) (rows more : List Reply) (c : Cut) (f : Far) → b.link ≡ ClosedByNear
    → far.data_fault (record (still b.far) { owed = c.owed }) ≡ record (still f) { owed = c.owed ++ reply_octets (fixed_reply text) }
    → link_breaks (world_at b (Answering rows) c) ≡ world_at (behind_break b.near f b) (Answering more) (record c { owed = c.owed ++ reply_octets (fixed_reply text) })
closed_break text b rows more c f is serves =
    ap (λ link. with_mark (Broken b.came) (gone (broken_by link (world_at b (Answering rows) c)))) is
    ∙ (λ i. record (behind_break b.near f b) { near = (world_at b (Answering rows) c).near; far = serves i; control_to_server = []; control_to_client = c.moving })

-- ---- the end

-- a client that is told the end leads the world to a base without a link, of the same way and cut
pub left_ends : (b : World) (way : Way) (c : Cut) (n : Near) → Fits way c → Leads near.data_end b.near n
    → told DataToClient (world_at b way c) ≡ world_at (record b { near = n; link = Gone; data_to_server = []; data_to_client = [] }) way c
unfolding with_ends
left_ends b way c n fits leads =
    let to : World = record b { near = n; link = Gone; data_to_server = []; data_to_client = [] } in
    ap (told DataToClient) (as_ends b way c)
    ∙ both_act b to way c (near.data_end (world_at b way c).near) (world_at b way c).far
    (near_acts near.data_end b to way c fits leads) (far_acts (λ f. f) b to way c (λ ear owed. refl))
