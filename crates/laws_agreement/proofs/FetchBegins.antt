-- A download, a listing or an upload begins.
use Rattle.std.proofs.Common.{◌≡◌, ℕ, List, [], ◌∷◌, ◌++◌, refl, sym, ap, subst, ◌∙◌}
use Rattle.ftp_operation.specs.declared.op.Op.{Op}
use Rattle.ftp_direct.specs.Direct.{State}
use Rattle.ftp_server_model.specs.Calls as far
use Rattle.ftp_server_model.specs.Machine.{Reading, IsReading}
use Rattle.laws_world.specs.Agreement.{Order, Single}
use Rattle.laws_world.specs.Events.{operation_begins}
use Rattle.laws_world.specs.Serving.{after_event}
use Rattle.laws_world.specs.World.{World}
use Rattle.laws_dialogues.specs.Dialogue.{Passes}
use Rattle.laws_dialogues.specs.Fetches.{Ask, IsAsk, IsTimely, Opens}
use Rattle.laws_dialogues.specs.Stage.{Way, Asking, Answering}
use Rattle.laws_dialogues.proofs.Context.{waited_context}
use Rattle.laws_dialogues.proofs.Refusing.{ask_leads}
use Rattle.laws_agreement.specs.Cut.{Cut, world_at}
use Rattle.laws_agreement.specs.Follows.{IsFree, IsLinked, IsUnlinked}
use Rattle.laws_agreement.specs.Runs.{Runs}
use Rattle.laws_agreement.proofs.Begins.{begins_stands}
use Rattle.laws_agreement.proofs.FetchRuns.{fetch_after}
use Rattle.laws_agreement.proofs.FetchTurns.{arrives}

-- the server's clock is set, and so it is in the base of what is placed
placed_moment : (moment : ℕ) (w new b : World) (way : Way) (c : Cut) → new.far ≡ far.clocked moment w.far → new ≡ world_at b way c → b.far.context.moment ≡ moment
unfolding far.clocked
placed_moment moment w new b (Asking line) c clocked is =
    ap (λ u. u.far.context.moment) (sym is) ∙ ap (λ v. v.context.moment) clocked ∙ ap (λ g. g.moment) (waited_context w.far.waiting (far.clock_step moment w.far))
placed_moment moment w new b (Answering rows) c clocked is =
    ap (λ u. u.far.context.moment) (sym is) ∙ ap (λ v. v.context.moment) clocked ∙ ap (λ g. g.moment) (waited_context w.far.waiting (far.clock_step moment w.far))

-- a download, a listing or an upload begins in a free world without a data link, and the list runs on with it
pub begins_fetch : (read : Reading) (reads : IsReading read) (from : State) (begun : List Order) (ask : Ask) (moment : ℕ) → IsAsk ask → IsTimely ask.sends moment
    → (w : World) → IsUnlinked w → IsLinked w → IsFree from begun w → Runs read from (begun ++ Single ask.op moment ∷ []) (after_event (operation_begins ask.op moment w))
begins_fetch read reads from begun ask moment good timely w unlinked linked f =
    let op : Op (List ℕ) = ask.op in
    let new : World = operation_begins op moment w in
    let s = begins_stands read reads from begun op moment f.now (Passes f.now.table f.now.table) (Opens f.now ask) w
    (λ n g stands. ask_leads read f.now ask reads good.plan n g stands) good.refuses.can f.stands f.stands.here in
    let same = fields s.base s.way s.cut in
    fetch_after read reads from (begun ++ Single op moment ∷ []) new (record {
      done = begun;
      marks = w.marks;
      own = [];
      ask = ask;
      moment = moment;
      begun_is = refl;
      marks_are = refl;
      now = f.now;
      sound = f.sound;
      is_ask = good;
      told = f.told;
      timely = timely;
      linked = record { control = linked.control; cutoff = linked.cutoff };
      stands = record {
        base = s.base;
        way = s.way;
        cut = s.cut;
        is = s.is;
        fits = s.fits;
        here = (arrives read reads f.now ask good f.sound [] s.way s.base (sym same.0 ∙ sym (ap (λ u. u.link) s.is) ∙ unlinked.link)
            (sym same.1 ∙ sym (ap (λ u. u.data_to_server) s.is) ∙ unlinked.to_server) (sym same.2 ∙ sym (ap (λ u. u.data_to_client) s.is) ∙ unlinked.to_client) refl
            (subst (IsTimely ask.sends) (sym (placed_moment moment w new s.base s.way s.cut refl s.is)) timely) s.here).0;
      };
    })
  where
    fields : (b : World) (way : Way) (c : Cut)
        → ((world_at b way c).link ≡ b.link) × ((world_at b way c).data_to_server ≡ b.data_to_server) × ((world_at b way c).data_to_client ≡ b.data_to_client)
    fields b (Asking line) c = (refl, refl, refl)
    fields b (Answering rows) c = (refl, refl, refl)
