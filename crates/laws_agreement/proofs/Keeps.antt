-- Octets that move, and octets that are heard, keep a world at a stage: they change the cut alone, but where the last octet of a unit is
-- heard, which is a turn.
use Rattle.std.proofs.Common.{◌≡◌, ◌⊎◌, ◌<◌, inl, inr, ℕ, List, [], ◌∷◌, ◌++◌, take, drop, length, Option, Some, None, refl, sym, ap, subst, ◌∙◌, append-nil, append_assoc, arith}
use Rattle.std.proofs.Math.Seq.{take-nil, drop-nil}
use Rattle.std.proofs.lemmas.List.{take-append-drop}
use Rattle.std.specs.List.{flat_map}
use Rattle.ftp_nvt.specs.Lines.{written_line, written_octet}
use Rattle.ftp_command.specs.Line.{IsLine}
use Rattle.ftp_ends.specs.Reply.{Reply, IsWritten, reply_octets}
use Rattle.ftp_reply.specs.Reply.{last_line, opening_line, written_after}
use Rattle.ftp_client_model.specs.Calls as near
use Rattle.ftp_client_model.specs.Dialogue.{answered}
use Rattle.ftp_client_model.specs.View.{View as Near}
use Rattle.ftp_client_model.proofs.RepliesInFlight as replies
use Rattle.ftp_server_model.specs.Calls.{gives_control}
use Rattle.ftp_server_model.specs.InFlight.{only_heard}
use Rattle.ftp_server_model.specs.Machine.{Reading, hears, waited}
use Rattle.ftp_server_model.specs.View.{View as Far}
use Rattle.ftp_server_model.proofs.CommandsInFlight as commands
use Rattle.laws_world.specs.Events.{ControlToServer, ControlToClient, pulled, pushed}
use Rattle.laws_world.specs.World.{World}
use Rattle.laws_dialogues.specs.Stage.{calm, still, Way, Asking, Answering, row_octets, AreWritten, line_octets, IsAlone, behind, FarTurn, NearTurn}
use Rattle.laws_agreement.specs.Cut.{Crosses, Crossed, Cut, Flows, FlowsRow, Fits, coming, world_at, PlacedAt, Goes}
use Rattle.laws_agreement.proofs.Chunks.{both_empty, IsAll, hears_some}

-- ---- a unit has an octet, and is owed whole

abbrev pub IsSome : List ℕ → Type 0
IsSome l = (octet : ℕ) × (more : List ℕ) × (l ≡ octet ∷ more)

-- a line as it is sent has an octet
pub line_is_some : (text : List ℕ) → IsSome (written_line text)
line_is_some text = ended (flat_map written_octet text)
  where
    ended : (l : List ℕ) → IsSome (l ++ 13 ∷ 10 ∷ [])
    ended [] = (13, 10 ∷ [], refl)
    ended (x ∷ l) = (x, l ++ 13 ∷ 10 ∷ [], refl)

-- octets with others behind them are some if the first are
more_is_some : (l more : List ℕ) → IsSome l → IsSome (l ++ more)
more_is_some l more some = (some.0, some.1 ++ more, ap (λ k. k ++ more) some.2)

-- a reply that can be written has an octet
reply_is_some : (reply : Reply) → IsWritten reply.code reply.lines → IsSome (reply_octets reply)
reply_is_some reply is = by_lines reply.code reply.lines is.some
  where
    by_lines : (code : ℕ) (lines : List (List ℕ)) → 0 < length lines → IsSome (reply_octets (record { code = code; lines = lines }))
    by_lines code [] some = absurd (omega (arith, some))
    by_lines code (text ∷ []) some = more_is_some _ [] (line_is_some (last_line code text))
    by_lines code (first ∷ next ∷ more) some = more_is_some _ (flat_map written_line (written_after code (next ∷ more))) (line_is_some (opening_line code first))

-- nothing of a unit is held, and all of it is to come
pub anew : (unit others : List ℕ) → IsSome unit → Flows unit [] (unit ++ others) others
anew unit others some = record { octet = some.0; more = some.1; whole = sym some.2; is = ap (λ l. l ++ others) some.2 }

-- of a row of replies that can be written nothing is held, and all of it is to come
pub row_anew : (rows : List Reply) → AreWritten rows → FlowsRow rows [] (row_octets rows)
row_anew [] fine = (refl, refl)
row_anew (reply ∷ more) fine = anew (reply_octets reply) (row_octets more) (reply_is_some reply fine.0)

-- ---- octets that move

-- what is to come stays the same where owed octets move into the queue
pub moved_coming : (n : ℕ) (c : Cut) → (c.moving ++ take n c.owed) ++ drop n c.owed ≡ coming c
moved_coming n c = append_assoc c.moving (take n c.owed) (drop n c.owed) ∙ ap (λ l. c.moving ++ l) (take-append-drop n c.owed)

abbrev pub moves : ℕ → Cut → Cut
moves n c = record c { moving = c.moving ++ take n c.owed; owed = drop n c.owed }

-- a cut that fits a way still fits it when owed octets have moved
moves_fit : (n : ℕ) (way : Way) (c : Cut) → Fits way c → Fits way (moves n c)
moves_fit n (Asking text) c fits = (fits.0, subst (λ l. Flows (written_line text) c.held l []) (sym (moved_coming n c)) fits.1)
moves_fit n (Answering rows) c fits = (fits.0, subst (FlowsRow rows c.held) (sym (moved_coming n c)) fits.1)

-- ---- where nothing is owed nothing moves, and out of an empty queue nothing is heard

-- where the client owes nothing, nothing moves to the server
pub no_pull_to_server : (n : ℕ) (w : World) → w.near.owed ≡ [] → pulled ControlToServer w n ≡ w
no_pull_to_server n w e =
    let first : w.control_to_server ++ take n w.near.owed ≡ w.control_to_server = ap (λ l. w.control_to_server ++ take n l) e ∙ ap (λ l. w.control_to_server ++ l) (take-nil n) ∙ append-nil w.control_to_server in
    let second : drop n w.near.owed ≡ w.near.owed = ap (drop n) e ∙ drop-nil n ∙ sym e in
    λ i. record w { control_to_server = first i; near = record w.near { owed = second i } }

-- where the server owes nothing and no command waits, nothing moves to the client
pub no_pull_to_client : (n : ℕ) (w : World) → w.far.owed ≡ [] → w.far.waiting ≡ None → pulled ControlToClient w n ≡ w
unfolding gives_control
no_pull_to_client n w e none =
    let first : w.control_to_client ++ take n w.far.owed ≡ w.control_to_client = ap (λ l. w.control_to_client ++ take n l) e ∙ ap (λ l. w.control_to_client ++ l) (take-nil n) ∙ append-nil w.control_to_client in
    let second : drop n w.far.owed ≡ w.far.owed = ap (drop n) e ∙ drop-nil n ∙ sym e in
    let idle : waited w.far.waiting (record w.far { owed = drop n w.far.owed }) ≡ record w.far { owed = drop n w.far.owed } =
    ap (λ q. waited q (record w.far { owed = drop n w.far.owed })) none in
    let far : gives_control n w.far ≡ w.far = idle ∙ ap (λ l. record w.far { owed = l }) second in
    λ i. record w { control_to_client = first i; far = far i }

-- where no octet is on its way to the server, it hears nothing
pub no_push_to_server : (read : Reading) (n : ℕ) (w : World) → w.control_to_server ≡ [] → pushed read ControlToServer n w ≡ w
no_push_to_server read n w e =
    let taken : take n w.control_to_server ≡ [] = ap (take n) e ∙ take-nil n in
    let left : drop n w.control_to_server ≡ w.control_to_server = ap (drop n) e ∙ drop-nil n ∙ sym e in
    let far : hears read w.far (take n w.control_to_server) ≡ w.far = ap (hears read w.far) taken in
    λ i. record w { far = far i; control_to_server = left i }

-- where no octet is on its way to the client, it hears nothing
pub no_push_to_client : (read : Reading) (n : ℕ) (w : World) → w.control_to_client ≡ [] → pushed read ControlToClient n w ≡ w
no_push_to_client read n w e =
    let taken : take n w.control_to_client ≡ [] = ap (take n) e ∙ take-nil n in
    let left : drop n w.control_to_client ≡ w.control_to_client = ap (drop n) e ∙ drop-nil n ∙ sym e in
    let near : near.hears w.near (take n w.control_to_client) ≡ w.near = ap (near.hears w.near) taken in
    λ i. record w { near = near i; control_to_client = left i }

-- ---- what an end has heard of a unit

-- a front of a reply leaves nothing owed
pub near_owes : (n : Near) (rows : List Reply) (c : Cut) → AreWritten rows → FlowsRow rows c.held (coming c) → (near.hears (calm n) c.held).owed ≡ []
near_owes n [] c fine flow = ap (λ held. (near.hears (calm n) held).owed) flow.0
near_owes n (reply ∷ more) c fine flow =
    ap (λ v. v.owed) ((replies.reply_is_heard reply.code reply.lines (calm n) fine.0 (record { ear = refl; gathered = refl })).cut c.held flow.more flow.octet flow.whole).is

-- a server that has heard a line but for some of its end does nothing of it yet
far_held : (read : Reading) (f : Far) (text held more : List ℕ) (octet : ℕ) → IsLine text → held ++ octet ∷ more ≡ written_line text
    → hears read (still f) held ≡ only_heard (still f) held
far_held read f text held more octet is whole = (commands.line_is_heard read text (still f) is refl).cut held more octet whole

module _ (read : Reading) (At After : Way → World → Type 0) (Cross : List ℕ → List Reply → World → Type 0) (goes : Goes read At After Cross) where
  abbrev pub Keeps : World → Type 0
  Keeps w = PlacedAt At w

  -- behind a turn of the server
  abbrev pub Leaves : World → Type 0
  Leaves w = PlacedAt After w

  -- behind turns of the client, where a line may cross replies
  abbrev pub Hears : World → Type 0
  Hears w = Keeps w ⊎ Crossed Cross w

  -- ---- octets that move

  -- a world of a way and a cut that fit stays placed where octets move from the client to the queue to the server
  pulls_to_server_at : (n : ℕ) (b : World) (way : Way) (c : Cut) → Fits way c → At way b → Keeps (pulled ControlToServer (world_at b way c) n)
  pulls_to_server_at n b (Asking text) c fits here =
      record { base = b; way = Asking text; cut = moves n c; is = refl; fits = moves_fit n (Asking text) c fits; here = here }
  pulls_to_server_at n b (Answering rows) c fits here = record {
    base = b;
    way = Answering rows;
    cut = c;
    is = no_pull_to_server n (world_at b (Answering rows) c) (near_owes b.near rows c fits.0 fits.1);
    fits = fits;
    here = here;
  }

  -- so does every placed world
  pub pulls_to_server : (n : ℕ) (w : World) → Keeps w → Keeps (pulled ControlToServer w n)
  pulls_to_server n w s = subst (λ u. Keeps (pulled ControlToServer u n)) (sym s.is) (pulls_to_server_at n s.base s.way s.cut s.fits s.here)

  -- a world of a way and a cut that fit stays placed where octets move from the server to the queue to the client
  pulls_to_client_at : (n : ℕ) (b : World) (way : Way) (c : Cut) → Fits way c → At way b → Keeps (pulled ControlToClient (world_at b way c) n)
  unfolding gives_control
  pulls_to_client_at n b (Asking text) c fits here =
      record { base = b; way = Asking text; cut = c; is = no_pull_to_client n (world_at b (Asking text) c) refl refl; fits = fits; here = here }
  pulls_to_client_at n b (Answering rows) c fits here =
      record { base = b; way = Answering rows; cut = moves n c; is = refl; fits = moves_fit n (Answering rows) c fits; here = here }

  -- so does every placed world
  pub pulls_to_client : (n : ℕ) (w : World) → Keeps w → Keeps (pulled ControlToClient w n)
  pulls_to_client n w s = subst (λ u. Keeps (pulled ControlToClient u n)) (sym s.is) (pulls_to_client_at n s.base s.way s.cut s.fits s.here)

  -- ---- a line is heard

  -- the last octet of a line
  line_heard : (n : ℕ) (b : World) (text : List ℕ) (c : Cut) → IsLine text → Flows (written_line text) c.held (coming c) []
      → IsAll (written_line text) c.held (take n c.moving) (drop n c.moving ++ c.owed) [] → At (Asking text) b
      → Leaves (pushed read ControlToServer n (world_at b (Asking text) c))
  line_heard n b text c is flow all here =
      let t : FarTurn read b.far text = (goes.asked text b here).0 in
      let empty = both_empty all.more (drop n c.moving ++ c.owed) all.left in
      let none = both_empty (drop n c.moving) c.owed empty.1 in
      let last : take n c.moving ≡ all.last = all.heard ∙ ap (λ l. all.last ++ l) empty.0 ∙ append-nil all.last in
      let far : hears read (only_heard (still b.far) c.held) (take n c.moving) ≡ record (still t.far) { owed = row_octets t.replies } =
      ap (λ v. hears read v (take n c.moving)) (sym (far_held read b.far text c.held flow.more flow.octet is flow.whole))
      ∙ sym (commands.in_pieces read (still b.far) c.held (take n c.moving))
      ∙ ap (λ l. hears read (still b.far) (c.held ++ l)) last ∙ ap (hears read (still b.far)) all.whole
      ∙ (commands.line_is_heard read text (still b.far) is refl).whole ∙ t.is in
      record {
        base = record b { far = t.far };
        way = Answering t.replies;
        cut = record { held = []; moving = []; owed = row_octets t.replies };
        is = λ i. record b { near = record (calm b.near) { owed = none.1 i }; far = far i; control_to_server = none.0 i; control_to_client = [] };
        fits = (t.fine, row_anew t.replies t.fine);
        here = (goes.asked text b here).1;
      }

  -- the octets that were heard, and those that are left
  pushed_coming : (n : ℕ) (c : Cut) → coming c ≡ take n c.moving ++ (drop n c.moving ++ c.owed)
  pushed_coming n c = ap (λ l. l ++ c.owed) (sym (take-append-drop n c.moving)) ∙ append_assoc (take n c.moving) (drop n c.moving) c.owed

  -- a world of a way and a cut that fit is placed as behind a turn of the server when the server has heard octets
  pushes_to_server_at : (n : ℕ) (b : World) (way : Way) (c : Cut) → Fits way c → At way b → Leaves (pushed read ControlToServer n (world_at b way c))
  pushes_to_server_at n b (Asking text) c fits here =
      elim (hears_some (written_line text) c.held (take n c.moving) (drop n c.moving ++ c.owed) [] (subst (λ l. Flows (written_line text) c.held l []) (pushed_coming n c) fits.1)) [
        | inl more ↦ record {
          base = b;
          way = Asking text;
          cut = record c { held = c.held ++ take n c.moving; moving = drop n c.moving };
          is = ap (λ v. record (world_at b (Asking text) c) { far = v; control_to_server = drop n c.moving })
              (ap (λ v. hears read v (take n c.moving)) (sym (far_held read b.far text c.held fits.1.more fits.1.octet fits.0 fits.1.whole))
              ∙ sym (commands.in_pieces read (still b.far) c.held (take n c.moving))
              ∙ far_held read b.far text (c.held ++ take n c.moving) more.more more.octet fits.0 more.whole);
          fits = (fits.0, more);
          here = goes.held (Asking text) b here;
        }
        | inr all ↦ line_heard n b text c fits.0 fits.1 all here
      ]
  pushes_to_server_at n b (Answering rows) c fits here =
      record { base = b; way = Answering rows; cut = c; is = no_push_to_server read n (world_at b (Answering rows) c) refl; fits = fits; here = goes.held (Answering rows) b here }

  -- so is every placed world when the server has heard octets
  pub pushes_to_server : (n : ℕ) (w : World) → Keeps w → Leaves (pushed read ControlToServer n w)
  pushes_to_server n w s = subst (λ u. Leaves (pushed read ControlToServer n u)) (sym s.is) (pushes_to_server_at n s.base s.way s.cut s.fits s.here)

  -- ---- replies are heard

  -- a world whose client has heard these octets behind a front
  abbrev hearing : World → (held xs ys owed : List ℕ) → World
  hearing b held xs ys owed = record b {
    near = near.hears (near.hears (calm b.near) held) xs;
    far = record (still b.far) { owed = owed };
    control_to_server = [];
    control_to_client = ys;
  }

  -- a world whose client has heard octets of a row of replies stays placed, or a line crosses the rest of the row
  row_heard : (rows : List Reply) (b : World) (held xs ys owed : List ℕ) → AreWritten rows → FlowsRow rows held (xs ++ (ys ++ owed)) → At (Answering rows) b
      → Hears (hearing b held xs ys owed)
  row_heard [] b held xs ys owed fine flow here =
      let none = both_empty xs (ys ++ owed) flow.1 in
      let empty = both_empty ys owed none.1 in
      inl (record {
        base = b;
        way = Answering [];
        cut = record { held = []; moving = []; owed = [] };
        is = λ i. record b {
          near = near.hears (near.hears (calm b.near) (flow.0 i)) (none.0 i);
          far = record (still b.far) { owed = empty.1 i };
          control_to_server = [];
          control_to_client = empty.0 i;
        };
        fits = (tt, (refl, refl));
        here = here;
      })
  row_heard (reply ∷ more) b held xs ys owed fine flow here = elim (hears_some (reply_octets reply) held xs (ys ++ owed) (row_octets more) flow) [
    | inl front ↦ inl (record {
      base = b;
      way = Answering (reply ∷ more);
      cut = record { held = held ++ xs; moving = ys; owed = owed };
      is = ap (λ v. record (hearing b held xs ys owed) { near = v }) (sym (replies.in_pieces (calm b.near) held xs));
      fits = (fine, front);
      here = here;
    })
    | inr all ↦ by_line (λ u more_xs flows at. row_heard more u [] more_xs ys owed fine.1 flows at) all (goes.told reply more b here)
  ]
    where
      -- the rest of a row is to come, of which nothing is held
      again : (rows : List Reply) (all : IsAll (reply_octets reply) held xs (ys ++ owed) (row_octets rows)) → AreWritten rows → FlowsRow rows [] (all.more ++ (ys ++ owed))
      again rows all fine = subst (FlowsRow rows []) (sym all.left) (row_anew rows fine)

      -- the reply is heard, and then what is more
      heard : (all : IsAll (reply_octets reply) held xs (ys ++ owed) (row_octets more)) (next : Near) → answered reply.code reply.lines (calm b.near) ≡ next
          → near.hears (near.hears (calm b.near) held) xs ≡ near.hears next all.more
      heard all next is =
          ap (near.hears (near.hears (calm b.near) held)) all.heard
          ∙ replies.in_pieces (near.hears (calm b.near) held) all.last all.more
          ∙ ap (λ v. near.hears v all.more)
          (sym (replies.in_pieces (calm b.near) held all.last) ∙ ap (near.hears (calm b.near)) all.whole
          ∙ (replies.reply_is_heard reply.code reply.lines (calm b.near) fine.0 (record { ear = refl; gathered = refl })).whole ∙ is)

      by_line : ((u : World) (more_xs : List ℕ) → FlowsRow more [] (more_xs ++ (ys ++ owed)) → At (Answering more) u → Hears (hearing u [] more_xs ys owed))
          → (all : IsAll (reply_octets reply) held xs (ys ++ owed) (row_octets more))
          → ((t : NearTurn b.near reply more) × At (behind t.line more) (record b { near = t.near })) ⊎ Crosses Cross b reply more
          → Hears (hearing b held xs ys owed)
      by_line others all (inr c) = inr (record {
        base = record b { near = c.near };
        text = c.text;
        replies = more;
        heard = all.more;
        moving = ys;
        owed = owed;
        is = ap (λ v. record (hearing b held xs ys owed) { near = v }) (heard all (record (calm c.near) { owed = written_line c.text }) c.is);
        fine = c.fine;
        written = fine.1;
        flows = again more all fine.1;
        here = c.here;
      })
      by_line others all (inl next) = by_turn next.0.line refl
        where
          t : NearTurn b.near reply more
          t = next.0

          by_turn : (line : Option (List ℕ)) → t.line ≡ line → Hears (hearing b held xs ys owed)
          by_turn None none =
              let is : hearing b held xs ys owed ≡ hearing (record b { near = t.near }) [] all.more ys owed =
              ap (λ v. record (hearing b held xs ys owed) { near = v })
              (heard all (record (calm t.near) { owed = line_octets t.line }) t.is ∙ ap (λ l. near.hears (record (calm t.near) { owed = line_octets l }) all.more) none) in
              subst Hears (sym is)
              (others (record b { near = t.near }) all.more (again more all fine.1)
              (subst (λ l. At (behind l more) (record b { near = t.near })) none next.1))
          by_turn (Some text) some =
              let alone : IsLine text × (more ≡ []) = subst (λ l. IsAlone l more) some t.fine in
              let none = both_empty all.more (ys ++ owed) (all.left ∙ ap row_octets alone.1) in
              let empty = both_empty ys owed none.1 in
              let near : near.hears (near.hears (calm b.near) held) xs ≡ record (calm t.near) { owed = written_line text } =
              heard all (record (calm t.near) { owed = line_octets t.line }) t.is ∙ (λ i. near.hears (record (calm t.near) { owed = line_octets (some i) }) (none.0 i)) in
              inl (record {
                base = record b { near = t.near };
                way = Asking text;
                cut = record { held = []; moving = []; owed = written_line text };
                is = λ i. record b { near = near i; far = record (still b.far) { owed = empty.1 i }; control_to_server = []; control_to_client = empty.0 i };
                fits = (alone.0, subst (λ l. Flows (written_line text) [] l []) (append-nil (written_line text)) (anew (written_line text) [] (line_is_some text)));
                here = subst (λ l. At (behind l more) (record b { near = t.near })) some next.1;
              })

  -- a world of a way and a cut that fit stays placed when the client has heard octets, or a line crosses replies
  pushes_to_client_at : (n : ℕ) (b : World) (way : Way) (c : Cut) → Fits way c → At way b → Hears (pushed read ControlToClient n (world_at b way c))
  pushes_to_client_at n b (Asking text) c fits here =
      inl (record { base = b; way = Asking text; cut = c; is = no_push_to_client read n (world_at b (Asking text) c) refl; fits = fits; here = here })
  pushes_to_client_at n b (Answering rows) c fits here =
      row_heard rows b c.held (take n c.moving) (drop n c.moving) c.owed fits.0 (subst (FlowsRow rows c.held) (pushed_coming n c) fits.1) here

  -- so does every placed world when the client has heard octets
  pub pushes_to_client : (n : ℕ) (w : World) → Keeps w → Hears (pushed read ControlToClient n w)
  pushes_to_client n w s = subst (λ u. Hears (pushed read ControlToClient n u)) (sym s.is) (pushes_to_client_at n s.base s.way s.cut s.fits s.here)
