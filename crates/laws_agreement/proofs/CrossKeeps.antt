-- Octets of ABOR and of replies that cross it move, and are heard.
use Rattle.std.proofs.Common.{◌≡◌, ◌⊎◌, inl, inr, ℕ, ◌≤◌, Bool, true, false, List, [], ◌∷◌, ◌++◌, length, take, drop, refl, sym, ap, subst, ◌∙◌, append-nil, append_assoc, arith, length-append}
use Rattle.std.proofs.Math.Seq.{take-nil, drop-nil}
use Rattle.std.proofs.lemmas.List.{take-append-drop}
use Rattle.ftp_nvt.specs.Lines.{written_line}
use Rattle.ftp_command.specs.Line.{IsLine}
use Rattle.ftp_command.specs.declared.command.Command.TheVariants as Commands
use Rattle.ftp_command.proofs.CarriedLemmas.{carried}
use Rattle.ftp_ends.specs.Ear.{Ear, quiet}
use Rattle.ftp_ends.specs.Reply.{Reply, reply_octets}
use Rattle.ftp_reply.specs.Reader.{Between, Gathered}
use Rattle.ftp_direct.specs.Direct.{State}
use Rattle.ftp_client_model.specs.Calls as near
use Rattle.ftp_client_model.specs.Dialogue.{answered}
use Rattle.ftp_client_model.specs.View.{View as Near}
use Rattle.ftp_client_model.proofs.RepliesInFlight as replies
use Rattle.ftp_server_model.specs.Calls.{gives_control}
use Rattle.ftp_server_model.specs.InFlight.{ServerHearsLine, only_heard}
use Rattle.ftp_server_model.specs.Machine.{Reading, heard_line, hears}
use Rattle.ftp_server_model.specs.View.{View as Far}
use Rattle.ftp_server_model.proofs.CommandsInFlight as commands
use Rattle.laws_world.specs.Events.{ControlToServer, ControlToClient, pulled, pushed}
use Rattle.laws_world.specs.World.{World, Mark}
use Rattle.laws_dialogues.specs.Fetches.{Ask}
use Rattle.laws_dialogues.specs.Peeks.{abort_line}
use Rattle.laws_dialogues.specs.Stage.{calm, still, AreWritten, rest, row_octets}
use Rattle.laws_agreement.specs.Crossing.{AreCut, AreHeardBetween, Cuts, FlowsAbort, crossing_at}
use Rattle.laws_agreement.specs.Cut.{Cut, Flows, FlowsRow, coming, world_at}
use Rattle.laws_agreement.specs.PeekStages.{AtHalt, IsHaltCross}
use Rattle.laws_agreement.proofs.Chunks.{IsAll, both_empty, hears_some}
use Rattle.laws_agreement.proofs.Keeps.{anew, line_is_some, moved_coming, moves, row_anew}
use Rattle.laws_agreement.proofs.Still.{no_octets}

-- ---- what the client has heard of a row of replies

-- it is one ear and one row of lines that were gathered, of whatever client
pub record HeardAs (held : List ℕ) : Type 0 where
  pub ear : Ear
  pub gathered : Gathered
  pub heard : AreHeardBetween held ear gathered

-- where nothing is held, the client is between two replies
pub none_heard : AreHeardBetween [] quiet Between
none_heard n rest lines = λ i. record n { ear = rest i; gathered = lines i }

-- so it is of each front of a row
pub rows_heard : (rows : List Reply) (held incoming : List ℕ) → AreWritten rows → FlowsRow rows held incoming → HeardAs held
rows_heard [] held incoming fine flow =
    record { ear = quiet; gathered = Between; heard = subst (λ l. AreHeardBetween l quiet Between) (sym flow.0) none_heard }
rows_heard (reply ∷ more) held incoming fine flow =
    let front = replies.fronts_are_alike reply.code reply.lines held flow.more flow.octet fine.0 flow.whole in
    record { ear = front.ear; gathered = front.gathered; heard = λ n rest lines. front.is n (record { ear = rest; gathered = lines }) }

-- ABOR can be carried
pub abort_is_line : IsLine abort_line
abort_is_line = carried Commands.Abor tt tt

-- of a unit that is on its way no more is owed than it has octets
pub owed_within : (unit : List ℕ) (c : Cut) → Flows unit c.held (coming c) [] → length c.owed ≤ length unit
owed_within unit c flow =
    let one : length (c.held ++ flow.octet ∷ flow.more) ≡ length unit = ap length flow.whole in
    let two = length-append c.held (flow.octet ∷ flow.more) in
    let three : length (coming c) ≡ length ((flow.octet ∷ flow.more) ++ []) = ap length flow.is in
    let four = length-append (flow.octet ∷ flow.more) [] in
    let five = length-append c.moving c.owed in
    omega (arith, one, two, three, four, five)

-- all of ABOR is to come
pub abort_anew : Flows (written_line abort_line) [] (written_line abort_line) []
abort_anew =
    subst (λ l. Flows (written_line abort_line) [] l []) (append-nil (written_line abort_line)) (anew (written_line abort_line) [] (line_is_some abort_line))

-- where nothing is on its way it is at rest
pub as_rest : (b : World) (c : Cuts) → AreCut false [] c → crossing_at b c ≡ world_at b rest no_octets
as_rest b c fits =
    let none = both_empty c.down.moving c.down.owed fits.down.1 in
    let near : record b.near { ear = c.ear; gathered = c.gathered; owed = c.up.owed } ≡ calm b.near =
    (λ i. record b.near { ear = c.ear; gathered = c.gathered; owed = fits.up.2 i }) ∙ sym (fits.heard (calm b.near) refl refl) ∙ ap
    (near.hears (calm b.near)) fits.down.0 in
    λ i. record b {
      near = near i;
      far = record (only_heard (still b.far) (fits.up.0 i)) { owed = none.1 i };
      control_to_server = fits.up.1 i;
      control_to_client = none.0 i;
    }

-- the client sends ABOR while replies are on their way
pub abort_crosses : (state : State) (ask : Ask) (own : List Mark) (rows : List Reply) (b w : World) (c : Cut) (h : HeardAs c.held) → AreWritten rows
    → FlowsRow rows c.held (coming c)
    → w ≡ crossing_at b (record { up = record { held = []; moving = []; owed = written_line abort_line }; down = c; ear = h.ear; gathered = h.gathered })
    → IsHaltCross state ask own abort_line rows b → AtHalt state ask own w
abort_crosses state ask own rows b w c h written flow is x = record {
  halt = x.halt;
  said = x.said;
  came = x.came;
  queue = x.queue;
  base = b;
  cuts = record { up = record { held = []; moving = []; owed = written_line abort_line }; down = c; ear = h.ear; gathered = h.gathered };
  is = is;
  fits = record {
    up = subst (λ asked. FlowsAbort asked (record { held = []; moving = []; owed = written_line abort_line })) (sym x.asked) abort_anew;
    written = subst AreWritten x.rows_are written;
    down = subst (λ rows. FlowsRow rows c.held (coming c)) x.rows_are flow;
    heard = h.heard;
  };
  here = x.here;
}

-- ---- octets move

-- owed octets of ABOR move on
pub pulls_up : (n : ℕ) (asked : Bool) (rows : List Reply) (c : Cuts) → AreCut asked rows c → AreCut asked rows (record c { up = moves n c.up })
pulls_up n asked rows c fits = record { up = by_asked asked fits.up; written = fits.written; down = fits.down; heard = fits.heard }
  where
    by_asked : (asked : Bool) → FlowsAbort asked c.up → FlowsAbort asked (moves n c.up)
    by_asked true flow = subst (λ l. Flows (written_line abort_line) c.up.held l []) (sym (moved_coming n c.up)) flow
    by_asked false none = (none.0, (λ i. none.1 i ++ take n (none.2 i)) ∙ take-nil n, ap (drop n) none.2 ∙ drop-nil n)

-- and so do those of replies
pub pulls_down : (n : ℕ) (asked : Bool) (rows : List Reply) (c : Cuts) → AreCut asked rows c → AreCut asked rows (record c { down = moves n c.down })
pulls_down n asked rows c fits =
    record { up = fits.up; written = fits.written; down = subst (FlowsRow rows c.down.held) (sym (moved_coming n c.down)) fits.down; heard = fits.heard }

-- the world behind that
pub pulled_up : (n : ℕ) (b : World) (c : Cuts) → pulled ControlToServer (crossing_at b c) n ≡ crossing_at b (record c { up = moves n c.up })
pulled_up n b c = refl

pub pulled_down : (n : ℕ) (b : World) (c : Cuts) → pulled ControlToClient (crossing_at b c) n ≡ crossing_at b (record c { down = moves n c.down })
unfolding gives_control
pulled_down n b c = refl

-- ---- the server hears ABOR

-- some of it, and more is to come
pub record HearsPart (read : Reading) (n : ℕ) (b : World) (c : Cuts) : Type 0 where
  pub up : Cut
  pub flows : Flows (written_line abort_line) up.held (coming up) []
  pub is : pushed read ControlToServer n (crossing_at b c) ≡ crossing_at b (record c { up = up })

-- or all of it
abbrev pub HearsAbort : Reading → ℕ → World → Cuts → Type 0
HearsAbort read n b c =
    pushed read ControlToServer n (crossing_at b c) ≡ record b {
      near = record b.near { ear = c.ear; gathered = c.gathered; owed = [] };
      far = heard_line (read abort_line) (record (still b.far) { owed = c.down.owed });
      control_to_server = [];
      control_to_client = c.down.moving;
    }

-- the server that owes replies
abbrev owing_far : World → Cuts → Far
owing_far b c = record (still b.far) { owed = c.down.owed }

-- octets of ABOR are heard
pub pushes_up : (read : Reading) (n : ℕ) (b : World) (c : Cuts) → Flows (written_line abort_line) c.up.held (coming c.up) []
    → HearsPart read n b c ⊎ HearsAbort read n b c
pushes_up read n b c flow =
    elim (hears_some (written_line abort_line) c.up.held (take n c.up.moving) (drop n c.up.moving ++ c.up.owed) []
    (subst (λ l. Flows (written_line abort_line) c.up.held l []) parts flow)) [
      | inl more ↦ inl (record {
        up = record c.up { held = c.up.held ++ take n c.up.moving; moving = drop n c.up.moving };
        flows = more;
        is = ap (λ v. record (crossing_at b c) { far = v; control_to_server = drop n c.up.moving })
            (ap (λ v. hears read v (take n c.up.moving)) (sym (line.cut c.up.held flow.more flow.octet flow.whole)) ∙ sym
            (commands.in_pieces read (owing_far b c) c.up.held (take n c.up.moving))
            ∙ line.cut (c.up.held ++ take n c.up.moving) more.more more.octet more.whole);
      })
      | inr all ↦ inr (all_heard all)
    ]
  where
    parts : coming c.up ≡ take n c.up.moving ++ (drop n c.up.moving ++ c.up.owed)
    parts = ap (λ l. l ++ c.up.owed) (sym (take-append-drop n c.up.moving)) ∙ append_assoc (take n c.up.moving) (drop n c.up.moving) c.up.owed

    line : ServerHearsLine read abort_line (owing_far b c)
    line = commands.line_is_heard read abort_line (owing_far b c) abort_is_line refl

    all_heard : IsAll (written_line abort_line) c.up.held (take n c.up.moving) (drop n c.up.moving ++ c.up.owed) [] → HearsAbort read n b c
    all_heard all =
        let empty = both_empty all.more (drop n c.up.moving ++ c.up.owed) all.left in
        let none = both_empty (drop n c.up.moving) c.up.owed empty.1 in
        let last : take n c.up.moving ≡ all.last = all.heard ∙ ap (λ l. all.last ++ l) empty.0 ∙ append-nil all.last in
        let far : hears read (only_heard (owing_far b c) c.up.held) (take n c.up.moving) ≡ heard_line (read abort_line) (owing_far b c) =
        ap (λ v. hears read v (take n c.up.moving)) (sym (line.cut c.up.held flow.more flow.octet flow.whole)) ∙ sym
        (commands.in_pieces read (owing_far b c) c.up.held (take n c.up.moving))
        ∙ ap (λ l. hears read (owing_far b c) (c.up.held ++ l)) last ∙ ap (hears read (owing_far b c)) all.whole ∙ line.whole in
        λ i. record b {
          near = record b.near { ear = c.ear; gathered = c.gathered; owed = none.1 i };
          far = far i;
          control_to_server = none.0 i;
          control_to_client = c.down.moving;
        }

-- ---- the client hears replies

-- a world whose client has heard these octets more
abbrev pub heard_at : World → (up : Cut) → Ear → Gathered → (xs ys owed : List ℕ) → World
heard_at b up ear gathered xs ys owed = record b {
  near = near.hears (record b.near { ear = ear; gathered = gathered; owed = up.owed }) xs;
  far = record (only_heard (still b.far) up.held) { owed = owed };
  control_to_server = up.moving;
  control_to_client = ys;
}

-- octets of the queue are heard
pub pushed_down : (read : Reading) (n : ℕ) (b : World) (c : Cuts)
    → pushed read ControlToClient n (crossing_at b c) ≡ heard_at b c.up c.ear c.gathered (take n c.down.moving) (drop n c.down.moving) c.down.owed
pushed_down read n b c = refl

-- what is to be heard, by what is heard first
pub pushed_coming : (n : ℕ) (c : Cut) → coming c ≡ take n c.moving ++ (drop n c.moving ++ c.owed)
pushed_coming n c = ap (λ l. l ++ c.owed) (sym (take-append-drop n c.moving)) ∙ append_assoc (take n c.moving) (drop n c.moving) c.owed

-- no reply ends: the row stays
pub record RowStays (asked : Bool) (rows : List Reply) (b : World) (up : Cut) (w : World) : Type 0 where
  pub cuts : Cuts
  pub is : w ≡ crossing_at b cuts
  pub fits : AreCut asked rows cuts

-- the first reply ends, and these octets are heard behind it
pub record RowGoes (reply : Reply) (more : List Reply) (b : World) (up : Cut) (xs ys owed : List ℕ) (ear : Ear) (gathered : Gathered) : Type 0 where
  pub heard : List ℕ
  pub is : near.hears (record b.near { ear = ear; gathered = gathered; owed = up.owed }) xs
      ≡ near.hears (answered reply.code reply.lines (record (calm b.near) { owed = up.owed })) heard
  pub flows : FlowsRow more [] (heard ++ (ys ++ owed))

module _ (asked : Bool) (b : World) (up : Cut) (above : FlowsAbort asked up) (held xs ys owed : List ℕ) (ear : Ear) (gathered : Gathered)
    (heard : AreHeardBetween held ear gathered) where
  abbrev there : World
  there = heard_at b up ear gathered xs ys owed

  abbrev first : Near
  first = record (calm b.near) { owed = up.owed }

  -- what was heard so far, and these octets
  all_so_far : near.hears (record b.near { ear = ear; gathered = gathered; owed = up.owed }) xs ≡ near.hears first (held ++ xs)
  all_so_far = ap (λ v. near.hears v xs) (sym (heard first refl refl)) ∙ sym (replies.in_pieces first held xs)

  -- where no reply is on its way, nothing is heard
  pub row_none : FlowsRow [] held (xs ++ (ys ++ owed)) → RowStays asked [] b up there
  row_none flow =
      let none = both_empty xs (ys ++ owed) flow.1 in
      let empty = both_empty ys owed none.1 in
      record {
        cuts = record { up = up; down = record { held = held; moving = []; owed = [] }; ear = ear; gathered = gathered };
        is = λ i. heard_at b up ear gathered (none.0 i) (empty.0 i) (empty.1 i);
        fits = record { up = above; written = tt; down = (flow.0, refl); heard = heard };
      }

  -- a row of replies is heard
  pub row_step : (reply : Reply) (more : List Reply) → AreWritten (reply ∷ more) → FlowsRow (reply ∷ more) held (xs ++ (ys ++ owed))
      → RowStays asked (reply ∷ more) b up there ⊎ RowGoes reply more b up xs ys owed ear gathered
  row_step reply more fine flow = elim (hears_some (reply_octets reply) held xs (ys ++ owed) (row_octets more) flow) [
    | inl front ↦ inl (front_heard front (rows_heard (reply ∷ more) (held ++ xs) (ys ++ owed) fine front))
    | inr all ↦ inr (record {
      heard = all.more;
      is = all_so_far ∙ ap (λ l. near.hears first (held ++ l)) all.heard ∙ ap (near.hears first) (sym (append_assoc held all.last all.more))
          ∙ replies.in_pieces first (held ++ all.last) all.more
          ∙ ap (λ l. near.hears (near.hears first l) all.more) all.whole
          ∙ ap (λ v. near.hears v all.more) (replies.reply_is_heard reply.code reply.lines first fine.0 (record { ear = refl; gathered = refl })).whole;
      flows = subst (FlowsRow more []) (sym all.left) (row_anew more fine.1);
    })
  ]
    where
      front_heard : FlowsRow (reply ∷ more) (held ++ xs) (ys ++ owed) → HeardAs (held ++ xs) → RowStays asked (reply ∷ more) b up there
      front_heard front h = record {
        cuts = record { up = up; down = record { held = held ++ xs; moving = ys; owed = owed }; ear = h.ear; gathered = h.gathered };
        is = ap (λ v. record there { near = v }) (all_so_far ∙ h.heard first refl refl);
        fits = record { up = above; written = fine; down = front; heard = h.heard };
      }
