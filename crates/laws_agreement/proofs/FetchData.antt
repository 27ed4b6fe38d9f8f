-- Octets of the link that are given and taken lead what is asked for from a stage to a stage.
use Rattle.std.proofs.Common.{◌≡◌, ◌⊎◌, inl, inr, ℕ, ◌+◌, ◌≤◌, Bool, true, false, List, [], ◌∷◌, ◌++◌, length, take, drop, refl, sym, ap, subst, ◌∙◌, append-nil, append_assoc}
use Rattle.std.proofs.Math.Seq.{take-nil}
use Rattle.ftp_pieces.specs.Machine.{IsFront}
use Rattle.ftp_ends.specs.Ear.{Ear, quiet}
use Rattle.ftp_ends.specs.Reply.{Reply, reply_octets}
use Rattle.ftp_direct.specs.Direct.{State}
use Rattle.ftp_client_model.specs.Calls as near
use Rattle.ftp_client_model.specs.declared.client.Abort.TheVariants as Aborts
use Rattle.ftp_client_model.specs.declared.client.ClientLink.TheVariants as NearData
use Rattle.ftp_server_model.specs.Calls as far
use Rattle.ftp_server_model.specs.Machine.{Reading, given_out, later}
use Rattle.ftp_server_model.specs.Replies.{fixed_reply}
use Rattle.ftp_server_model.specs.View.{View as Far}
use Rattle.ftp_server_model.specs.declared.reply.ReplyKind.TheVariants as Kinds
use Rattle.ftp_server_model.specs.declared.reply.FixedReply.TheVariants as Texts
use Rattle.ftp_server_model.specs.declared.session.ServerLink.TheVariants as FarData
use Rattle.ftp_server_model.specs.declared.session.Pending.TheVariants as Pendings
use Rattle.ftp_server_model.proofs.RepliesWritten.{replies_are_written}
use Rattle.laws_world.specs.Events.{DataToClient, pulled, pushed}
use Rattle.laws_world.specs.World.{World, Mark, counted}
use Rattle.laws_dialogues.specs.Dialogue.{IsSound}
use Rattle.laws_dialogues.specs.Fetches.{Ask, IsAsk, fetching, busy, giving_of, is_filled, linked}
use Rattle.laws_dialogues.specs.Peeks.{abort_line, halting}
use Rattle.laws_dialogues.specs.Stage.{calm, still, Way, Asking, Answering}
use Rattle.laws_dialogues.proofs.Fetching.{giving_on, given_all}
use Rattle.laws_agreement.specs.Cut.{Cut, Fits, coming, world_at, PlacedAt}
use Rattle.laws_agreement.specs.PeekStages.{AtHalt, Gives, Gave, IsHaltCross, final_heard, final_rows}
use Rattle.laws_agreement.specs.Stages.{Heard, NoReply, OneReply, BothReplies, Unclosed, Closed, IsShortAt, heard_by, left_tie, near_link, replied_of, tie_marks, Course, Giving, Given, Ended, Severed, Refusing, Unopened, replies_in, Stage, Carries, Holds, AtFetch}
use Rattle.laws_agreement.proofs.Counts.{comes_all, comes_on, counts_on, goes_on}
use Rattle.laws_agreement.proofs.CrossKeeps.{abort_crosses, rows_heard}
use Rattle.laws_agreement.proofs.FetchLink.{Leads, hearing, listening, near_acts, fits_more, far_linked}
use Rattle.laws_agreement.proofs.PeekBegins.{halts_at}
use Rattle.laws_agreement.proofs.PeekTakes.{HasBegun, TakesAll, TakesEnough, halted, octets_come, receiving}
use Rattle.laws_agreement.proofs.Placing.{at_stage}

-- ---- where octets are given or taken

abbrev pub flows : Course → Bool
flows (Giving begun octet more) = true
flows (Given heard left) = true
flows other = false

-- ---- what the server gives

-- what a transfer of octets is to give is these octets, listed or not
pub given_of : (listed : Bool) (octets : List ℕ) → far.given_by (FarData.Transferring (giving_of listed octets)) ≡ octets
given_of false octets = refl
given_of true octets = refl

module _ (listed : Bool) (n : ℕ) (octet : ℕ) (more : List ℕ) (f : Far) (ear : Ear) (owed : List ℕ)
    (is : f.session ≡ linked (FarData.Transferring (giving_of listed (octet ∷ more))) false Pendings.Nothing f.session) where
  abbrev giving_far : Far
  giving_far = listening ear owed f

  -- the server has all the octets of the transfer to give
  pub to_give_is : far.to_give giving_far ≡ octet ∷ more
  to_give_is = ap (λ s. far.to_give (listening ear owed (far_linked s f))) is ∙ given_of listed (octet ∷ more)

  -- a server that gives octets goes on as its transfer does with what is left of them
  gives_by : (l : List ℕ) → drop n (octet ∷ more) ≡ l
      → far.gives_data n giving_far
      ≡ later (given_out (FarData.Transferring (giving_of listed l)) (listening ear owed (far_linked (linked (FarData.Transferring (giving_of listed l)) false Pendings.Nothing f.session) f)))
  unfolding far.gives_data
  gives_by l left =
      ap (λ s. far.gives_data n (listening ear owed (far_linked s f))) is ∙ by_kind listed
      ∙ ap (λ l. later (given_out (FarData.Transferring (giving_of listed l)) (listening ear owed (far_linked (linked (FarData.Transferring (giving_of listed l)) false Pendings.Nothing f.session) f)))) left
    where
      by_kind : (listed : Bool)
          → far.gives_data n (listening ear owed (far_linked (linked (FarData.Transferring (giving_of listed (octet ∷ more))) false Pendings.Nothing f.session) f))
          ≡ later (given_out (FarData.Transferring (giving_of listed (drop n (octet ∷ more))))
          (listening ear owed (far_linked (linked (FarData.Transferring (giving_of listed (drop n (octet ∷ more)))) false Pendings.Nothing f.session) f)))
      by_kind false = refl
      by_kind true = refl

  -- where octets are left, the server goes on with the transfer of these and owes no reply more
  pub gives_some : (next : ℕ) (later_on : List ℕ) → drop n (octet ∷ more) ≡ next ∷ later_on
      → far.gives_data n giving_far ≡ listening ear owed (far_linked (linked (FarData.Transferring (giving_of listed (next ∷ later_on))) false Pendings.Nothing f.session) f)
  gives_some next later_on left = gives_by (next ∷ later_on) left ∙ ap later (giving_on listed next later_on _)

  -- where no octets are left, the server is to close its side of the link and owes the reply that the transfer is complete
  pub gives_all : drop n (octet ∷ more) ≡ []
      → far.gives_data n giving_far ≡ listening ear (owed ++ reply_octets (fixed_reply Texts.Complete)) (far_linked (linked FarData.Free true Pendings.Nothing f.session) f)
  gives_all left = gives_by [] left ∙ ap later (given_all listed _)

-- nothing is given
pub no_pull : (n : ℕ) (w : World) → far.to_give w.far ≡ [] → far.gives_data n w.far ≡ w.far → pulled DataToClient w n ≡ w
no_pull n w none same =
    let queue : w.data_to_client ++ take n (far.to_give w.far) ≡ w.data_to_client = ap (λ l. w.data_to_client ++ take n l) none ∙ ap (λ l. w.data_to_client ++ l) (take-nil n) ∙ append-nil w.data_to_client in
    λ i. record w { data_to_client = queue i; far = same i }

-- a server whose link is free gives no octets and stays as it is
pub free_gives : (closing : Bool) (n : ℕ) (f : Far) (ear : Ear) (owed : List ℕ) → f.session ≡ linked FarData.Free closing Pendings.Nothing f.session
    → far.gives_data n (listening ear owed f) ≡ listening ear owed f
unfolding far.gives_data
free_gives true n f ear owed is = ap (λ s. far.gives_data n (listening ear owed (far_linked s f))) is ∙ ap (λ s. listening ear owed (far_linked s f)) (sym is)
free_gives false n f ear owed is = ap (λ s. far.gives_data n (listening ear owed (far_linked s f))) is ∙ ap (λ s. listening ear owed (far_linked s f)) (sym is)

-- a server whose link is free has no octets to give
pub free_owes : (closing : Bool) (f : Far) (ear : Ear) (owed : List ℕ) → f.session ≡ linked FarData.Free closing Pendings.Nothing f.session → far.to_give (listening ear owed f) ≡ []
free_owes true f ear owed is = ap (λ s. far.to_give (listening ear owed (far_linked s f))) is
free_owes false f ear owed is = ap (λ s. far.to_give (listening ear owed (far_linked s f))) is

-- octets are given or taken
pub record AtFlow (state : State) (ask : Ask) (own : List Mark) (way : Way) (b : World) : Type 0 where
  pub course : Course
  pub came : List ℕ
  pub queue : List ℕ
  pub flows : flows course ≡ true
  pub holds : Holds state ask own (Carries (record { course = course; came = came; queue = queue })) way b

module _ (read : Reading) (state : State) (ask : Ask) (good : IsAsk ask) (sound : IsSound state) (own : List Mark) where
  abbrev Stands : Stage → Way → World → Type 0
  Stands stage way b = Holds state ask own stage way b

  abbrev carry : Course → (came queue : List ℕ) → Stage
  carry course came queue = Carries (record { course = course; came = came; queue = queue })

  -- a world on this base, with this way and cut, where the stage holds and octets flow, is one where octets are given or taken
  placed : (w b : World) (way : Way) (c : Cut) (course : Course) (came queue : List ℕ) → flows course ≡ true → w ≡ world_at b way c → Fits way c → Stands (carry course came queue) way b
      → PlacedAt (AtFlow state ask own) w
  placed w b way c course came queue flowing is fits h =
      record { base = b; way = way; cut = c; is = is; fits = fits; here = record { course = course; came = came; queue = queue; flows = flowing; holds = h } }

  -- ---- octets are given

  abbrev Pulls : ℕ → List Reply → World → Cut → Type 0
  Pulls n rows b c = PlacedAt (AtFlow state ask own) (pulled DataToClient (world_at b (Answering rows) c) n)

  -- a server that is giving gives octets, and goes on giving or has given all
  giving_pulls : (n : ℕ) (begun : Bool) (octet : ℕ) (more came queue : List ℕ) (b : World) (c : Cut) → Fits (Answering (replies_in (Giving begun octet more))) c
      → Stands (carry (Giving begun octet more) came queue) (Answering (replies_in (Giving begun octet more))) b → Pulls n (replies_in (Giving begun octet more)) b c
  giving_pulls n begun octet more came queue b c fits h = by_left (drop n (octet ∷ more)) refl
    where
      moves : b.data_to_client ++ take n (far.to_give (record (still b.far) { owed = c.owed })) ≡ queue ++ take n (octet ∷ more)
      moves = λ i. h.to_client i ++ take n (to_give_is ask.listed n octet more b.far quiet c.owed h.session i)

      by_begun : (begun : Bool) → Fits (Answering (replies_in (Giving begun octet more))) c
          → Fits (Answering (replies_in (Given (heard_by begun) false))) (record c { owed = c.owed ++ reply_octets (fixed_reply Texts.Complete) })
      by_begun false fits = fits_more (fixed_reply Texts.Opens ∷ []) (fixed_reply Texts.Complete) c (replies_are_written b.far.session (Kinds.Fixed Texts.Complete) (fixed_reply Texts.Complete) tt refl) fits
      by_begun true fits = fits_more [] (fixed_reply Texts.Complete) c (replies_are_written b.far.session (Kinds.Fixed Texts.Complete) (fixed_reply Texts.Complete) tt refl) fits

      by_left : (left : List ℕ) → drop n (octet ∷ more) ≡ left → Pulls n (replies_in (Giving begun octet more)) b c
      by_left (next ∷ later_on) left =
          let f : Far = far_linked (linked (FarData.Transferring (giving_of ask.listed (next ∷ later_on))) false Pendings.Nothing b.far.session) b.far in
          let given : List ℕ = queue ++ take n (octet ∷ more) in
          placed _ (record b { far = f; data_to_client = given }) (Answering (replies_in (Giving begun next later_on))) c (Giving begun next later_on) came given refl
          (λ i. record (world_at b (Answering (replies_in (Giving begun octet more))) c) { far = gives_some ask.listed n octet more b.far quiet c.owed h.session next later_on left i; data_to_client = moves i }) fits
          (at_stage h.near refl h.steady h.timed h.ready h.link h.to_server refl h.came h.marked refl
          (h.fine.0, goes_on n came queue (octet ∷ more) (next ∷ later_on) _ left h.fine.1, h.fine.2))
      by_left [] left =
          let f : Far = far_linked (linked FarData.Free true Pendings.Nothing b.far.session) b.far in
          let given : List ℕ = queue ++ take n (octet ∷ more) in
          placed _ (record b { far = f; data_to_client = given }) (Answering (replies_in (Given (heard_by begun) false))) (record c { owed = c.owed ++ reply_octets (fixed_reply Texts.Complete) })
          (Given (heard_by begun) false) came given refl
          (λ i. record (world_at b (Answering (replies_in (Giving begun octet more))) c) { far = gives_all ask.listed n octet more b.far quiet c.owed h.session left i; data_to_client = moves i }) (by_begun begun fits)
          (at_stage h.near refl h.steady h.timed h.ready h.link h.to_server refl h.came h.marked refl
          (h.fine.0, ap (λ l. came ++ l) (sym (append-nil given)) ∙ goes_on n came queue (octet ∷ more) [] _ left h.fine.1, h.fine.2))

  -- where the server has given all octets, no more are given and the stage stays
  given_pulls : (n : ℕ) (heard : Heard) (left : Bool) (came queue : List ℕ) (b : World) (c : Cut) → Fits (Answering (replies_in (Given heard left))) c
      → Stands (carry (Given heard left) came queue) (Answering (replies_in (Given heard left))) b → Pulls n (replies_in (Given heard left)) b c
  given_pulls n heard true came queue b c fits h =
      placed _ b (Answering (replies_in (Given heard true))) c (Given heard true) came queue refl
      (no_pull n (world_at b (Answering (replies_in (Given heard true))) c) (free_owes false b.far quiet c.owed h.session) (free_gives false n b.far quiet c.owed h.session)) fits h
  given_pulls n heard false came queue b c fits h =
      placed _ b (Answering (replies_in (Given heard false))) c (Given heard false) came queue refl
      (no_pull n (world_at b (Answering (replies_in (Given heard false))) c) (free_owes true b.far quiet c.owed h.session) (free_gives true n b.far quiet c.owed h.session)) fits h

  -- ---- octets are taken

  -- octets are given or taken, or ABOR was sent
  abbrev pub OnOrHalts : World → Type 0
  OnOrHalts w = PlacedAt (AtFlow state ask own) w ⊎ AtHalt state ask own w

  abbrev Pushes : ℕ → List Reply → World → Cut → Type 0
  Pushes n rows b c = OnOrHalts (pushed read DataToClient n (world_at b (Answering rows) c))

  -- both ends where octets came, or where ABOR was sent behind the first of them
  abbrev came_base : World → Heard → (came queue : List ℕ) → ℕ → World
  came_base b heard came queue n = record b { near = receiving state ask b.near heard came; data_to_client = queue; came = counted (b.came + n) }

  abbrev halt_base : World → Heard → (came queue : List ℕ) → ℕ → World
  halt_base b heard came queue n = record b { near = halted state ask b.near heard came; data_to_client = queue; came = counted (b.came + n) }

  -- by what the client holds of a course while octets come: it takes them all, or ABOR is sent
  comes : (n : ℕ) (course : Course) (heard : Heard) (came queue : List ℕ) (b : World) (c : Cut) → flows course ≡ true → Fits (Answering (replies_in course)) c
      → b.near ≡ receiving state ask b.near heard came → b.data_to_client ≡ queue → IsShortAt state ask heard came
      → (IsShortAt state ask heard (came ++ take n queue)
      → Stands (carry course (came ++ take n queue) (drop n queue)) (Answering (replies_in course)) (came_base b heard (came ++ take n queue) (drop n queue) n))
      → (HasBegun state ask b.near heard → (first rest : List ℕ) → take n queue ≡ first ++ rest → is_filled ask.op ask.settings (came ++ first) ≡ true
      → IsHaltCross state ask own abort_line (replies_in course) (halt_base b heard (came ++ first) (drop n queue) n))
      → Pushes n (replies_in course) b c
  comes n course heard came queue b c flowing fits near_is queue_is short holds halts = by_takes (octets_come state ask b.near heard came (take n queue) short)
    where
      by_takes : TakesAll state ask b.near heard came (take n queue) ⊎ TakesEnough state ask b.near heard came (take n queue) → Pushes n (replies_in course) b c
      by_takes (inl all) =
          let to : World = came_base b heard (came ++ take n queue) (drop n queue) n in
          let near : near.receives (world_at b (Answering (replies_in course)) c).near (take n b.data_to_client) ≡ (world_at to (Answering (replies_in course)) c).near =
          ap (λ l. near.receives (world_at b (Answering (replies_in course)) c).near (take n l)) queue_is
          ∙ near_acts (λ v. near.receives v (take n queue)) b to (Answering (replies_in course)) c fits
          (subst (λ v. Leads (λ v. near.receives v (take n queue)) v (receiving state ask b.near heard (came ++ take n queue))) (sym near_is) all.leads) in
          inl (placed _ to (Answering (replies_in course)) c course (came ++ take n queue) (drop n queue) flowing
          (λ i. record to {
            near = near i;
            far = record (still b.far) { owed = c.owed };
            control_to_server = [];
            control_to_client = c.moving;
            data_to_client = drop n (queue_is i);
          }) fits (holds all.short))
      by_takes (inr some) =
          let alike = rows_heard (replies_in course) c.held (coming c) fits.0 fits.1 in
          let near =
          ap (λ v. near.receives v (take n b.data_to_client)) (alike.heard (calm b.near) refl refl)
          ∙ ap (λ l. near.receives (hearing alike.ear alike.gathered [] b.near) (take n l)) queue_is
          ∙ ap (λ v. near.receives (hearing alike.ear alike.gathered [] v) (take n queue)) near_is ∙ some.leads alike.ear alike.gathered [] in
          inr (abort_crosses state ask own (replies_in course) (halt_base b heard (came ++ some.first) (drop n queue) n) _ c alike fits.0 fits.1
          (λ i. record (halt_base b heard (came ++ some.first) (drop n queue) n) {
            near = near i;
            far = record (still b.far) { owed = c.owed };
            control_to_server = [];
            control_to_client = c.moving;
            data_to_client = drop n (queue_is i);
          }) (halts some.begun some.first some.rest some.parts some.enough))

  -- what came in part and is on its way in part is a front of the text
  front_of : (n : ℕ) (came queue rest first more wire : List ℕ) → came ++ (queue ++ rest) ≡ wire → take n queue ≡ first ++ more → IsFront (came ++ first) wire
  front_of n came queue rest first more wire is parts = (
    more ++ (drop n queue ++ rest),
    append_assoc came first (more ++ (drop n queue ++ rest)) ∙ ap (λ l. came ++ l) (sym (append_assoc first more (drop n queue ++ rest)) ∙ ap (λ l. l ++ (drop n queue ++ rest)) (sym parts))
        ∙ sym (append_assoc came (take n queue) (drop n queue ++ rest)) ∙ comes_on n came queue rest wire is,
  )

  -- while the server is giving, octets of the queue that come to the client lead the course on, or ABOR is sent
  giving_pushes : (n : ℕ) (begun : Bool) (octet : ℕ) (more came queue : List ℕ) (b : World) (c : Cut) → n ≤ length queue → Fits (Answering (replies_in (Giving begun octet more))) c
      → Stands (carry (Giving begun octet more) came queue) (Answering (replies_in (Giving begun octet more))) b → Pushes n (replies_in (Giving begun octet more)) b c
  giving_pushes n begun octet more came queue b c few fits h =
      comes n (Giving begun octet more) (heard_by begun) came queue b c refl fits h.near h.to_client h.fine.2
      (λ short. at_stage refl h.session h.steady h.timed h.ready h.link h.to_server refl (counts_on n b.came came queue few h.came) h.marked refl
      (h.fine.0, comes_on n came queue (octet ∷ more) _ h.fine.1, short)) (by_begun begun h)
    where
      by_begun : (begun : Bool) → Stands (carry (Giving begun octet more) came queue) (Answering (replies_in (Giving begun octet more))) b
          → HasBegun state ask b.near (heard_by begun) → (first rest : List ℕ) → take n queue ≡ first ++ rest → is_filled ask.op ask.settings (came ++ first) ≡ true
          → IsHaltCross state ask own abort_line (replies_in (Giving begun octet more)) (halt_base b (heard_by begun) (came ++ first) (drop n queue) n)
      by_begun false h begins first rest parts enough = absurd (cc)
      by_begun true h begins first rest parts enough = record {
        halt = Gives octet more;
        said = ask.said state;
        came = came ++ first;
        queue = drop n queue;
        text_is = refl;
        asked = refl;
        rows_are = refl;
        here = halts_at state ask good sound own (Gives octet more) (came ++ first) (drop n queue) (halt_base b OneReply (came ++ first) (drop n queue) n) refl h.session h.steady
            h.timed h.ready.1 h.link h.to_server refl tt h.marked h.fine.0 (front_of n came queue (octet ∷ more) first rest _ h.fine.1 parts) enough;
      }

  -- where all was given, the octets that are enough lead to where ABOR crosses the final reply, or is alone
  given_enough : (n : ℕ) (heard : Heard) (final left : Bool) (came queue first rest : List ℕ) (b : World)
      → Stands (carry (Given heard left) came queue) (Answering (replies_in (Given heard left))) b → replied_of heard ≡ final_heard true final
      → replies_in (Given heard left) ≡ final_rows true final [] → take n queue ≡ first ++ rest → is_filled ask.op ask.settings (came ++ first) ≡ true
      → IsHaltCross state ask own abort_line (replies_in (Given heard left)) (halt_base b heard (came ++ first) (drop n queue) n)
  given_enough n heard final left came queue first rest b h replied rows parts enough = by_left left h rows
    where
      near_is : halted state ask b.near heard (came ++ first) ≡ busy (halting ask.op (final_heard true final) Aborts.Sent ask.settings (came ++ first)) NearData.Open b.near
      near_is = ap (λ r. busy (halting ask.op r Aborts.Sent ask.settings (came ++ first)) NearData.Open b.near) replied

      by_left : (left : Bool) → Stands (carry (Given heard left) came queue) (Answering (replies_in (Given heard left))) b → replies_in (Given heard left) ≡ final_rows true final []
          → IsHaltCross state ask own abort_line (replies_in (Given heard left)) (halt_base b heard (came ++ first) (drop n queue) n)
      by_left true h rows = record {
        halt = Gave true final true Closed;
        said = ask.said state;
        came = came ++ first;
        queue = drop n queue;
        text_is = refl;
        asked = refl;
        rows_are = rows;
        here = halts_at state ask good sound own (Gave true final true Closed) (came ++ first) (drop n queue) (halt_base b heard (came ++ first) (drop n queue) n) near_is h.session h.steady
            h.timed h.ready.1 h.link h.to_server refl tt h.marked h.fine.0 (front_of n came queue [] first rest _ (ap (λ l. came ++ l) (append-nil queue) ∙ h.fine.1) parts) enough;
      }
      by_left false h rows = record {
        halt = Gave true final true Unclosed;
        said = ask.said state;
        came = came ++ first;
        queue = drop n queue;
        text_is = refl;
        asked = refl;
        rows_are = rows;
        here = halts_at state ask good sound own (Gave true final true Unclosed) (came ++ first) (drop n queue) (halt_base b heard (came ++ first) (drop n queue) n) near_is h.session
            h.steady h.timed h.ready.1 h.link h.to_server refl tt h.marked h.fine.0 (front_of n came queue [] first rest _ (ap (λ l. came ++ l) (append-nil queue) ∙ h.fine.1) parts) enough;
      }

  -- where the server has given all octets, those of the queue that come to the client lead the course on, or ABOR is sent
  given_pushes : (n : ℕ) (heard : Heard) (left : Bool) (came queue : List ℕ) (b : World) (c : Cut) → n ≤ length queue → Fits (Answering (replies_in (Given heard left))) c
      → Stands (carry (Given heard left) came queue) (Answering (replies_in (Given heard left))) b → Pushes n (replies_in (Given heard left)) b c
  given_pushes n heard left came queue b c few fits h =
      comes n (Given heard left) heard came queue b c refl fits (h.near ∙ opened left came) h.to_client h.fine.2
      (λ short. at_stage (sym (opened left (came ++ take n queue))) h.session h.steady h.timed h.ready h.link h.to_server refl
      (counts_on n b.came came queue few h.came)
      (h.marked ∙ unmarked left (counted (length came)) ∙ sym (unmarked left (counted (length (came ++ take n queue))))) refl
      (h.fine.0, comes_all n came queue _ h.fine.1, short)) (by_heard heard h)
    where
      -- the client holds an open link
      opened : (left : Bool) (came : List ℕ) → busy (fetching ask.op (replied_of heard) ask.settings came) (near_link (left_tie left)) b.near ≡ receiving state ask b.near heard came
      opened true came = refl
      opened false came = refl

      -- and no mark is made yet
      unmarked : (left : Bool) (count : ℕ) → tie_marks (left_tie left) count ≡ []
      unmarked true count = refl
      unmarked false count = refl

      by_heard : (heard : Heard) → Stands (carry (Given heard left) came queue) (Answering (replies_in (Given heard left))) b
          → HasBegun state ask b.near heard → (first rest : List ℕ) → take n queue ≡ first ++ rest → is_filled ask.op ask.settings (came ++ first) ≡ true
          → IsHaltCross state ask own abort_line (replies_in (Given heard left)) (halt_base b heard (came ++ first) (drop n queue) n)
      by_heard NoReply h begins first rest parts enough = absurd (cc)
      by_heard OneReply h begins first rest parts enough = given_enough n OneReply false left came queue first rest b h refl refl parts enough
      by_heard BothReplies h begins first rest parts enough = given_enough n BothReplies true left came queue first rest b h refl refl parts enough

  -- ---- in a world

  -- where octets are given or taken, that is still so when the server gives more
  pub flow_pulls : (n : ℕ) (w : World) → PlacedAt (AtFlow state ask own) w → PlacedAt (AtFlow state ask own) (pulled DataToClient w n)
  flow_pulls n w s = subst (λ u. PlacedAt (AtFlow state ask own) (pulled DataToClient u n)) (sym s.is) (by_course s.here.course s.here.came s.here.queue s.here.flows s.here.holds)
    where
      T : Way → Type 0
      T way = Fits way s.cut → PlacedAt (AtFlow state ask own) (pulled DataToClient (world_at s.base way s.cut) n)

      by_course : (course : Course) (came queue : List ℕ) → flows course ≡ true → Stands (carry course came queue) s.way s.base
          → PlacedAt (AtFlow state ask own) (pulled DataToClient (world_at s.base s.way s.cut) n)
      by_course (Giving begun octet more) came queue flowing h =
          subst T (sym h.way_is) (λ fits. giving_pulls n begun octet more came queue s.base s.cut fits (subst (λ way. Stands (carry (Giving begun octet more) came queue) way s.base) h.way_is h)) s.fits
      by_course (Given heard left) came queue flowing h =
          subst T (sym h.way_is) (λ fits. given_pulls n heard left came queue s.base s.cut fits (subst (λ way. Stands (carry (Given heard left) came queue) way s.base) h.way_is h)) s.fits
      by_course (Ended begun clean) came queue flowing h = absurd (cc)
      by_course (Severed begun) came queue flowing h = absurd (cc)
      by_course (Refusing why gap) came queue flowing h = absurd (cc)
      by_course Unopened came queue flowing h = absurd (cc)

  -- the octets on their way to the client are those of the queue
  queue_of : (w : World) → (s : PlacedAt (AtFlow state ask own) w) → w.data_to_client ≡ s.here.queue
  queue_of w s = ap (λ u. u.data_to_client) s.is ∙ by_way s.way s.cut ∙ s.here.holds.to_client
    where
      by_way : (way : Way) (c : Cut) → (world_at s.base way c).data_to_client ≡ s.base.data_to_client
      by_way (Asking line) c = refl
      by_way (Answering rows) c = refl

  -- where octets are given or taken, that is still so when the client takes some of those on their way, or ABOR is sent
  pub flow_pushes : (n : ℕ) (w : World) → n ≤ length w.data_to_client → PlacedAt (AtFlow state ask own) w → OnOrHalts (pushed read DataToClient n w)
  flow_pushes n w few s =
      subst (λ u. OnOrHalts (pushed read DataToClient n u)) (sym s.is)
      (by_course s.here.course s.here.came s.here.queue s.here.flows s.here.holds (subst (λ l. n ≤ length l) (queue_of w s) few))
    where
      T : Way → Type 0
      T way = Fits way s.cut → OnOrHalts (pushed read DataToClient n (world_at s.base way s.cut))

      by_course : (course : Course) (came queue : List ℕ) → flows course ≡ true → Stands (carry course came queue) s.way s.base → n ≤ length queue
          → OnOrHalts (pushed read DataToClient n (world_at s.base s.way s.cut))
      by_course (Giving begun octet more) came queue flowing h few =
          subst T (sym h.way_is) (λ fits. giving_pushes n begun octet more came queue s.base s.cut few fits (subst (λ way. Stands (carry (Giving begun octet more) came queue) way s.base) h.way_is h)) s.fits
      by_course (Given heard left) came queue flowing h few =
          subst T (sym h.way_is) (λ fits. given_pushes n heard left came queue s.base s.cut few fits (subst (λ way. Stands (carry (Given heard left) came queue) way s.base) h.way_is h)) s.fits
      by_course (Ended begun clean) came queue flowing h few = absurd (cc)
      by_course (Severed begun) came queue flowing h few = absurd (cc)
      by_course (Refusing why gap) came queue flowing h few = absurd (cc)
      by_course Unopened came queue flowing h few = absurd (cc)

  -- a world where octets are given or taken is at a stage of what is asked for
  pub flow_is : (w : World) → PlacedAt (AtFlow state ask own) w → PlacedAt (λ way b. AtFetch state ask read own way b) w
  flow_is w s = record {
    base = s.base;
    way = s.way;
    cut = s.cut;
    is = s.is;
    fits = s.fits;
    here = inr (carry s.here.course s.here.came s.here.queue, s.here.holds);
  }
