-- Octets that an upload gives and takes, and the client's close that the server is told, lead it from a stage to a stage.
use Rattle.std.proofs.Common.{◌≡◌, ◌⊎◌, inl, inr, ℕ, ◌+◌, ◌<◌, ◌≤◌, ◌^◌, Bool, true, false, not, List, [], ◌∷◌, ◌++◌, length, take, drop, Option, None, refl, sym, ap, subst, ◌∙◌, append-nil, arith}
use Rattle.std.proofs.Math.Seq.{take-nil}
use Rattle.std.proofs.lemmas.List.{take-append-drop}
use Rattle.std.specs.Option.{is_some}
use Rattle.ftp_wire.specs.Decoder.{Decoder, GivesFile, decoded, decoder_of, ended, is_whole, no_octets}
use Rattle.ftp_ends.specs.Reply.{reply_octets}
use Rattle.ftp_direct.specs.Direct.{State}
use Rattle.ftp_client_model.specs.Calls as near
use Rattle.ftp_client_model.specs.View.{View as Near, Job}
use Rattle.ftp_client_model.specs.declared.client.ClientLink.{ClientLink as NearConnection}
use Rattle.ftp_client_model.specs.declared.client.ClientLink.TheVariants as NearData
use Rattle.ftp_client_model.specs.declared.client.Ending.TheVariants as Endings
use Rattle.ftp_client_model.specs.declared.client.Replied.TheVariants as Replies
use Rattle.ftp_server_model.specs.Calls as far
use Rattle.ftp_server_model.specs.Keep.{kept_count}
use Rattle.ftp_server_model.specs.Machine.{Reading}
use Rattle.ftp_server_model.specs.Replies.{fixed_reply}
use Rattle.ftp_server_model.specs.View.{View as Far}
use Rattle.ftp_server_model.specs.declared.reply.FixedReply.TheVariants as Texts
use Rattle.ftp_server_model.specs.declared.session.ServerLink.TheVariants as FarData
use Rattle.ftp_server_model.specs.declared.session.Pending.TheVariants as Pendings
use Rattle.laws_world.specs.Events.{DataToServer, pulled, pushed, told}
use Rattle.laws_world.specs.Outcome.{mmmm_in}
use Rattle.laws_world.specs.World.{World, Gone, Mark, counted}
use Rattle.laws_dialogues.specs.Dialogue.{IsSound}
use Rattle.laws_dialogues.specs.Fetches.{Ask, HasUpload, IsAsk, IsSteadySession, IsTimely, Rise, busy, kept, linked, excess_of, stored}
use Rattle.laws_dialogues.specs.Stage.{calm, still, Way, Answering, row_octets}
use Rattle.laws_dialogues.specs.Uploads.{Note, last_held, note_replies}
use Rattle.laws_dialogues.proofs.Notes.{last_held-append, notes_both, notes_written, replies-append}
use Rattle.laws_dialogues.proofs.Sending.{gave_at, gives_all, gives_none, gives_some, giving_at}
use Rattle.laws_dialogues.proofs.Sound.{by_bool}
use Rattle.laws_dialogues.proofs.Texts.{ReadsFar, far_both, text_gives, text_reads}
use Rattle.laws_dialogues.proofs.Wires.{decoded-append, mmmm-append}
use Rattle.laws_agreement.specs.Cut.{Cut, Fits, world_at, PlacedAt}
use Rattle.laws_agreement.specs.Rising.{Fate, Installed, Overfilled, IsNoted, fate_rows, fate_text, Lift, Offered, Rising, Risen, Settled, Declined, Unjoined, Climbs, held, lifts, sending}
use Rattle.laws_agreement.specs.Stages.{Rises, Holds, AtFetch}
use Rattle.laws_agreement.proofs.Counts.{comes_all, comes_on, counts_on, goes_on}
use Rattle.laws_agreement.proofs.FetchLink.{Leads, far_linked, fits_more, fits_rows, near_acts}
use Rattle.laws_agreement.proofs.FetchReplies.{none_more}
use Rattle.laws_agreement.proofs.Placing.{at_stage}
use Rattle.laws_agreement.proofs.Sessions.{fixed}
use Rattle.laws_agreement.proofs.Rests.{near_form}
use Rattle.laws_agreement.proofs.Still.{IsSeen, seen_at, seen_placed}
use Rattle.laws_agreement.proofs.UploadFates.{installed_fares, overfull_fares, whole_over, within_limit}
use Rattle.laws_agreement.proofs.UploadServer.{Taken, far_by, octets_taken, stored_far, stored_steady, text_by, upload_ends, upload_far}

-- a client that has given all has none to give
gave_owes : (ask : Ask) (closed : Bool) (mark : Option ℕ) (n : Near) → near.to_give (record (busy (sending ask.op Replies.Begun [] mark) (NearData.Over Endings.Ours) n) { closing = not closed }) ≡ []
gave_owes ask true mark n = refl
gave_owes ask false mark n = refl

-- in a world it is as in its base
gave_form : (b w : World) (job : Job) (connection : NearConnection) (closing : Bool) → IsSeen b w → b.near ≡ record (busy job connection b.near) { closing = closing }
    → w.near ≡ record (busy job connection w.near) { closing = closing }
gave_form b w job connection closing seen is = λ i. record w.near {
  standing = (seen.standing ∙ ap (λ v. v.standing) is) i;
  job = (seen.job ∙ ap (λ v. v.job) is) i;
  run = (seen.run ∙ ap (λ v. v.run) is) i;
  connection = (seen.connection ∙ ap (λ v. v.connection) is) i;
  closing = (seen.closing ∙ ap (λ v. v.closing) is) i;
}

-- a client that does not change, and has nothing to give, gives nothing
no_pull : (n : ℕ) (w : World) → near.to_give w.near ≡ [] → near.gives_data n w.near ≡ w.near → pulled DataToServer w n ≡ w
no_pull n w none same =
    let queue : w.data_to_server ++ take n (near.to_give w.near) ≡ w.data_to_server = ap (λ l. w.data_to_server ++ take n l) none ∙ ap (λ l. w.data_to_server ++ l) (take-nil n) ∙ append-nil w.data_to_server in
    λ i. record w { data_to_server = queue i; near = same i }

module _ (read : Reading) (state : State) (ask : Ask) (own : List Mark) where
  abbrev At : Way → World → Type 0
  At way b = AtFetch state ask read own way b

  abbrev Stands : Rise → Lift → Way → World → Type 0
  Stands rise lift way b = Holds state ask own (Rises rise lift) way b

  -- octets are given or taken
  pub record AtRise (way : Way) (b : World) : Type 0 where
    pub rise : Rise
    pub lift : Lift
    pub rises : lifts lift ≡ true
    pub holds : Stands rise lift way b

  -- a world on this base, where such a lift holds
  placed : (w b : World) (way : Way) (c : Cut) (rise : Rise) (lift : Lift) → lifts lift ≡ true → w ≡ world_at b way c → Fits way c → Stands rise lift way b → PlacedAt AtRise w
  placed w b way c rise lift rises is fits h = record { base = b; way = way; cut = c; is = is; fits = fits; here = record { rise = rise; lift = lift; rises = rises; holds = h } }

  -- answers to markers on their way
  abbrev answers : List Note → Way
  answers notes = Answering (note_replies notes)

  -- ---- octets are given

  -- the client gives
  rising_pulls : (n : ℕ) (rise : Rise) (past : Bool) (octet : ℕ) (more came queue : List ℕ) (mark : Option ℕ) (notes : List Note) (b : World) (c : Cut) → Fits (answers notes) c
      → Stands rise (Rising past octet more came queue mark notes) (answers notes) b → PlacedAt AtRise (pulled DataToServer (world_at b (answers notes) c) n)
  rising_pulls n rise past octet more came queue mark notes b c fits h = by_left (drop n (octet ∷ more)) refl
    where
      w : World
      w = world_at b (answers notes) c

      due : near.to_give w.near ≡ octet ∷ more
      due = ap near.to_give (near_form b w (seen_at b (answers notes) c fits) _ _ h.near)

      moves : w.data_to_server ++ take n (near.to_give w.near) ≡ queue ++ take n (octet ∷ more)
      moves = λ i. h.to_server i ++ take n (due i)

      goes : (m : Near) → Leads (near.gives_data n) b.near m → pulled DataToServer w n ≡ world_at (record b { near = m; data_to_server = queue ++ take n (octet ∷ more) }) (answers notes) c
      goes m leads =
          let to : World = record b { near = m; data_to_server = queue ++ take n (octet ∷ more) } in
          λ i. record w { near = near_acts (near.gives_data n) b to (answers notes) c fits leads i; data_to_server = moves i }

      by_left : (left : List ℕ) → drop n (octet ∷ more) ≡ left → PlacedAt AtRise (pulled DataToServer w n)
      by_left (next ∷ later_on) left =
          let m : Near = giving_at ask.op h.ready.2.all b.near Replies.Begun (next ∷ later_on) mark in
          placed _ (record b { near = m; data_to_server = queue ++ take n (octet ∷ more) }) (answers notes) c rise (Rising past next later_on came (queue ++ take n (octet ∷ more)) mark notes) refl
          (goes m (subst (λ v. Leads (near.gives_data n) v m) (sym h.near) (gives_some ask.op h.ready.2.all b.near n octet more next later_on mark left))) fits
          (at_stage refl h.session h.steady h.timed h.ready h.link refl h.to_client h.came h.marked refl
          (h.fine.0, goes_on n came queue (octet ∷ more) (next ∷ later_on) _ left h.fine.1, h.fine.2, h.fine.3))
      by_left [] left =
          let m : Near = gave_at ask.op h.ready.2.all b.near mark in
          placed _ (record b { near = m; data_to_server = queue ++ take n (octet ∷ more) }) (answers notes) c rise (Risen past false came (queue ++ take n (octet ∷ more)) mark notes) refl
          (goes m (subst (λ v. Leads (near.gives_data n) v m) (sym h.near) (gives_all ask.op h.ready.2.all b.near n octet more mark left))) fits
          (at_stage refl h.session h.steady h.timed h.ready h.link refl h.to_client h.came h.marked refl
          (h.fine.0, ap (λ l. came ++ l) (sym (append-nil (queue ++ take n (octet ∷ more)))) ∙ goes_on n came queue (octet ∷ more) [] _ left h.fine.1, h.fine.2, h.fine.3))

  -- octets are given, or there are none
  pub rise_pulls : (n : ℕ) (w : World) → PlacedAt AtRise w → PlacedAt AtRise (pulled DataToServer w n)
  rise_pulls n w s = by_lift s.here.lift s.here.rises s.here.holds
    where
      by_lift : (lift : Lift) → lifts lift ≡ true → Stands s.here.rise lift s.way s.base → PlacedAt AtRise (pulled DataToServer w n)
      by_lift (Rising past octet more came queue mark notes) rises h =
          let T : Way → Type 0 = λ way. Fits way s.cut → Stands s.here.rise (Rising past octet more came queue mark notes) way s.base → PlacedAt AtRise (pulled DataToServer (world_at s.base way s.cut) n) in
          subst (λ u. PlacedAt AtRise (pulled DataToServer u n)) (sym s.is)
          (subst T (sym h.way_is) (rising_pulls n s.here.rise past octet more came queue mark notes s.base s.cut) s.fits h)
      by_lift (Risen past closed came queue mark notes) rises h =
          let form = gave_form s.base w _ _ (not closed) (seen_placed AtRise w s) h.near in
          subst (PlacedAt AtRise)
          (sym (no_pull n w (ap near.to_give form ∙ gave_owes ask closed mark w.near) (gives_none ask.op h.ready.2.all w.near n (not closed) mark w.near form))) s
      by_lift Offered rises h = absurd (cc)
      by_lift (Settled begun mark notes fate left after) rises h = absurd (cc)
      by_lift (Declined why door) rises h = absurd (cc)
      by_lift Unjoined rises h = absurd (cc)

  -- ---- octets are taken

  -- what is to come is read well, where no limit was passed
  reads_to_come : (rise : Rise) → HasUpload ask rise → (n : ℕ) (came queue others : List ℕ) → kept_count (rise.keep state) + length (decoder_of ask.settings came).content < 10 ^ 18
      → came ++ (queue ++ others) ≡ rise.text → ReadsFar (decoder_of ask.settings came) (take n queue)
  reads_to_come rise upload n came queue others few is =
      let all : ReadsFar (no_octets ask.settings) (came ++ (queue ++ others)) = subst (ReadsFar (no_octets ask.settings)) (sym is) (text_reads ask.settings rise.octets rise.text upload.text_is) in
      let coming : ReadsFar (decoder_of ask.settings came) (queue ++ others) = (far_both (no_octets ask.settings) came (queue ++ others) all).1 (omega (arith, few)) in
      let ahead : ReadsFar (decoder_of ask.settings came) queue = (far_both (decoder_of ask.settings came) queue others coming).0 in
      (far_both (decoder_of ask.settings came) (take n queue) (drop n queue) (subst (ReadsFar (decoder_of ask.settings came)) (sym (take-append-drop n queue)) ahead)).0

  -- the server behind it
  module _ (n : ℕ) (rise : Rise) (past : Bool) (came queue others : List ℕ) (mark : Option ℕ) (notes : List Note) (b : World) (c : Cut) (fits : Fits (answers notes) c) (upload : HasUpload ask rise)
      (known : state.known ≡ true) (steady : IsSteadySession state (kept b.near b.far)) (climbs : Climbs state ask rise past came (queue ++ others) mark notes)
      (session : b.far.session ≡ linked (held past (rise.path state) (rise.keep state) (decoder_of ask.settings came)) false Pendings.Nothing b.far.session)
      (to_server : b.data_to_server ≡ queue) where
    -- it has taken them
    taken : Taken state rise b.near b.far steady known past (far.receives (record (still (upload_far (held past (rise.path state) (rise.keep state) (decoder_of ask.settings came)) b.far)) { owed = c.owed }) (take n queue))
        c.owed (decoded (decoder_of ask.settings came) (take n queue)) (λ mark. mmmm_in (kept_count (rise.keep state)) (decoder_of ask.settings came) mark (take n queue))
    taken = octets_taken state rise b.near b.far steady known c.owed past (decoder_of ask.settings came) (take n queue) climbs.2 (λ e. (climbs.3.1 e).0)
        (λ e. reads_to_come rise upload n came queue others (climbs.3.1 e).0 climbs.1)

    -- what it has made of them
    same : decoded (decoder_of ask.settings came) (take n queue) ≡ decoder_of ask.settings (came ++ take n queue)
    same = sym (decoded-append (no_octets ask.settings) came (take n queue))

    -- both ends behind it
    abbrev taken_base : World
    taken_base = record b {
      far = upload_far (held taken.past (rise.path state) (rise.keep state) (decoder_of ask.settings (came ++ take n queue))) b.far;
      data_to_server = drop n queue;
      came = counted (b.came + n);
    }

    -- the answers on their way behind it
    abbrev taken_notes : List Note
    taken_notes = notes ++ taken.notes

    abbrev taken_cut : Cut
    taken_cut = record c { owed = c.owed ++ row_octets (note_replies taken.notes) }

    -- the world behind it
    takes : pushed read DataToServer n (world_at b (answers notes) c) ≡ world_at taken_base (answers taken_notes) taken_cut
    takes =
        (λ i. record (world_at b (answers notes) c) {
          far = far.receives (record (still (far_linked (session i) b.far)) { owed = c.owed }) (take n (to_server i));
          data_to_server = drop n (to_server i);
          came = counted (b.came + n);
        })
        ∙ (λ i. record taken_base {
          near = near.hears (calm b.near) c.held;
          far = (taken.is ∙ ap (λ d. record (still (upload_far (held taken.past (rise.path state) (rise.keep state) d) b.far)) { owed = c.owed ++ row_octets (note_replies taken.notes) }) same) i;
          control_to_server = [];
          control_to_client = c.moving;
        })

    -- they fit
    taken_fits : Fits (answers taken_notes) taken_cut
    taken_fits =
        subst (λ rows. Fits (Answering rows) taken_cut) (sym (replies-append notes taken.notes)) (fits_rows (note_replies notes) (note_replies taken.notes) c (notes_written taken.notes taken.fine) fits)

    -- a limit is passed where it was passed by those
    past_on : taken.past ≡ true → is_some (excess_of rise state (length (decoder_of ask.settings (came ++ take n queue)).content)) ≡ true
    past_on e = ap (λ d. is_some (excess_of rise state (length d.content))) (sym same) ∙ taken.over e

    -- the last answer is of the last marker that came
    noted_on : IsNoted state ask rise taken.past (came ++ take n queue) mark taken_notes
    noted_on = (
      notes_both notes taken.notes climbs.3.0 taken.fine,
      λ e. (
        subst (λ d. kept_count (rise.keep state) + length d.content < 10 ^ 18) same (taken.few e),
        last_held-append mark notes taken.notes
            ∙ ap (λ m. last_held m taken.notes) (climbs.3.1 (taken.since e)).1
            ∙ taken.last (mmmm_in (kept_count (rise.keep state)) (no_octets ask.settings) None came) e
            ∙ sym (mmmm-append (kept_count (rise.keep state)) (no_octets ask.settings) None came (take n queue)),
      ),
    )

  -- the server takes octets while the client gives
  rising_pushes : (n : ℕ) (rise : Rise) (past : Bool) (octet : ℕ) (more came queue : List ℕ) (mark : Option ℕ) (notes : List Note) (b : World) (c : Cut) → n ≤ length queue → Fits (answers notes) c
      → Stands rise (Rising past octet more came queue mark notes) (answers notes) b → PlacedAt AtRise (pushed read DataToServer n (world_at b (answers notes) c))
  rising_pushes n rise past octet more came queue mark notes b c few fits h =
      let t = taken n rise past came queue (octet ∷ more) mark notes b c fits h.ready.2 h.ready.1 h.steady h.fine h.session h.to_server in
      placed _ (taken_base n rise past came queue (octet ∷ more) mark notes b c fits h.ready.2 h.ready.1 h.steady h.fine h.session h.to_server)
      (answers (notes ++ t.notes)) (taken_cut n rise past came queue (octet ∷ more) mark notes b c fits h.ready.2 h.ready.1 h.steady h.fine h.session h.to_server) rise
      (Rising t.past octet more (came ++ take n queue) (drop n queue) mark (notes ++ t.notes)) refl
      (takes n rise past came queue (octet ∷ more) mark notes b c fits h.ready.2 h.ready.1 h.steady h.fine h.session h.to_server)
      (taken_fits n rise past came queue (octet ∷ more) mark notes b c fits h.ready.2 h.ready.1 h.steady h.fine h.session h.to_server)
      (at_stage h.near refl h.steady h.timed h.ready h.link refl h.to_client (counts_on n b.came came queue few h.came) h.marked refl
      (h.fine.0, comes_on n came queue (octet ∷ more) _ h.fine.1, past_on n rise past came queue (octet ∷ more) mark notes b c fits h.ready.2 h.ready.1 h.steady h.fine h.session h.to_server, noted_on n rise past came queue (octet ∷ more) mark notes b c fits h.ready.2 h.ready.1 h.steady h.fine h.session h.to_server))

  -- the server takes octets behind the last that the client gave
  risen_pushes : (n : ℕ) (rise : Rise) (past closed : Bool) (came queue : List ℕ) (mark : Option ℕ) (notes : List Note) (b : World) (c : Cut) → n ≤ length queue → Fits (answers notes) c
      → Stands rise (Risen past closed came queue mark notes) (answers notes) b → PlacedAt AtRise (pushed read DataToServer n (world_at b (answers notes) c))
  risen_pushes n rise past closed came queue mark notes b c few fits h =
      let climbs : Climbs state ask rise past came (queue ++ []) mark notes = (h.fine.0, ap (λ l. came ++ l) (append-nil queue) ∙ h.fine.1, h.fine.2, h.fine.3) in
      let t = taken n rise past came queue [] mark notes b c fits h.ready.2 h.ready.1 h.steady climbs h.session h.to_server in
      placed _ (taken_base n rise past came queue [] mark notes b c fits h.ready.2 h.ready.1 h.steady climbs h.session h.to_server)
      (answers (notes ++ t.notes)) (taken_cut n rise past came queue [] mark notes b c fits h.ready.2 h.ready.1 h.steady climbs h.session h.to_server) rise
      (Risen t.past closed (came ++ take n queue) (drop n queue) mark (notes ++ t.notes)) refl
      (takes n rise past came queue [] mark notes b c fits h.ready.2 h.ready.1 h.steady climbs h.session h.to_server)
      (taken_fits n rise past came queue [] mark notes b c fits h.ready.2 h.ready.1 h.steady climbs h.session h.to_server)
      (at_stage h.near refl h.steady h.timed h.ready h.link refl h.to_client (counts_on n b.came came queue few h.came) h.marked refl
      (h.fine.0, comes_all n came queue _ h.fine.1, past_on n rise past came queue [] mark notes b c fits h.ready.2 h.ready.1 h.steady climbs h.session h.to_server, noted_on n rise past came queue [] mark notes b c fits h.ready.2 h.ready.1 h.steady climbs h.session h.to_server))

  -- the octets on their way are those of the base
  queue_of : (b : World) (notes : List Note) (c : Cut) (queue : List ℕ) (n : ℕ) → b.data_to_server ≡ queue → n ≤ length (world_at b (answers notes) c).data_to_server → n ≤ length queue
  queue_of b notes c queue n is few = subst (λ l. n ≤ length l) is few

  -- octets are taken
  pub rise_pushes : (n : ℕ) (w : World) → n ≤ length w.data_to_server → PlacedAt AtRise w → PlacedAt AtRise (pushed read DataToServer n w)
  rise_pushes n w few s = subst (λ u. PlacedAt AtRise (pushed read DataToServer n u)) (sym s.is) (by_lift s.here.lift s.here.rises s.here.holds (subst (λ u. n ≤ length u.data_to_server) s.is few))
    where
      by_lift : (lift : Lift) → lifts lift ≡ true → Stands s.here.rise lift s.way s.base → n ≤ length (world_at s.base s.way s.cut).data_to_server
          → PlacedAt AtRise (pushed read DataToServer n (world_at s.base s.way s.cut))
      by_lift (Rising past octet more came queue mark notes) rises h few =
          let T : Way → Type 0 = λ way. Fits way s.cut → Stands s.here.rise (Rising past octet more came queue mark notes) way s.base
          → n ≤ length (world_at s.base way s.cut).data_to_server → PlacedAt AtRise (pushed read DataToServer n (world_at s.base way s.cut)) in
          subst T (sym h.way_is) (λ fits h few. rising_pushes n s.here.rise past octet more came queue mark notes s.base s.cut (queue_of s.base notes s.cut queue n h.to_server few) fits h) s.fits h few
      by_lift (Risen past closed came queue mark notes) rises h few =
          let T : Way → Type 0 = λ way. Fits way s.cut → Stands s.here.rise (Risen past closed came queue mark notes) way s.base
          → n ≤ length (world_at s.base way s.cut).data_to_server → PlacedAt AtRise (pushed read DataToServer n (world_at s.base way s.cut)) in
          subst T (sym h.way_is) (λ fits h few. risen_pushes n s.here.rise past closed came queue mark notes s.base s.cut (queue_of s.base notes s.cut queue n h.to_server few) fits h) s.fits h few
      by_lift Offered rises h few = absurd (cc)
      by_lift (Settled begun mark notes fate left after) rises h few = absurd (cc)
      by_lift (Declined why door) rises h few = absurd (cc)
      by_lift Unjoined rises h few = absurd (cc)

  -- such a world is at a stage of what is asked for
  pub rise_is : (w : World) → PlacedAt AtRise w → PlacedAt At w
  rise_is w s = record { base = s.base; way = s.way; cut = s.cut; is = s.is; fits = s.fits; here = inr (Rises s.here.rise s.here.lift, s.here.holds) }

-- ---- the server is told that the client has closed the link

module _ (read : Reading) (state : State) (ask : Ask) (good : IsAsk ask) (sound : IsSound state) (own : List Mark) (rise : Rise) (past : Bool) (came : List ℕ) (mark : Option ℕ)
    (notes : List Note) (b : World) (c : Cut) (fits : Fits (Answering (note_replies notes)) c) (h : Holds state ask own (Rises rise (Risen past true came [] mark notes)) (Answering (note_replies notes)) b) where
  -- all octets came
  all_came : came ≡ rise.text
  all_came = sym (append-nil came) ∙ h.fine.1

  abbrev d : Decoder
  d = decoder_of ask.settings came

  -- the file is whole, where no limit was passed
  whole_file : past ≡ false → (is_whole d ≡ true) × ((ended d).content ≡ rise.octets)
  whole_file e = by_text (text_gives ask.settings rise.octets rise.text h.ready.2.text_is)
    where
      by_text : GivesFile ask.settings rise.text rise.octets ⊎ (10 ^ 18 ≤ length (decoder_of ask.settings rise.text).content) → (is_whole d ≡ true) × ((ended d).content ≡ rise.octets)
      by_text (inl gives) =
          (ap (λ l. is_whole (decoder_of ask.settings l)) all_came ∙ gives.whole, ap (λ l. (ended (decoder_of ask.settings l)).content) all_came ∙ gives.content)
      by_text (inr many) = absurd (omega (arith, (h.fine.3.1 e).0, ap (λ l. length (decoder_of ask.settings l).content) all_came, many))

  -- the moment in force is that of the upload
  moment_of : rise.moment ≡ b.far.context.moment
  moment_of = subst (λ way. IsTimely way b.far.context.moment) h.ready.2.sends_is h.timed

  -- past a limit with what came, past it with the whole
  past_all : past ≡ true → is_some (excess_of rise state (length rise.octets)) ≡ true
  past_all e = whole_over state ask good rise h.ready.2 h.ready.1 h.fine.0 came ([], h.fine.1) (h.fine.2 e)

  -- what the server makes of it
  serves : (b' : Bool) → is_some (excess_of rise state (length rise.octets)) ≡ b'
      → far.data_end (record (still b.far) { owed = c.owed })
      ≡ record (still (far_by state rise b.near b.far h.steady h.ready.1 b' rise.octets)) { owed = c.owed ++ reply_octets (fixed_reply (text_by state rise b.near b.far h.steady h.ready.1 b' Texts.Complete)) }
  serves b' e =
      ap (λ s. far.data_end (record (still (far_linked s b.far)) { owed = c.owed })) h.session
      ∙ upload_ends state rise b.near b.far h.steady h.ready.1 (λ content. h.ready.2.ends_so state content h.fine.0.0)
      past b' d rise.octets c.owed moment_of whole_file (λ yes. sym e ∙ past_all yes) e

  -- a world placed behind it
  ends_at : (fate : Fate) (after : State) (f : Far) → far.data_end (record (still b.far) { owed = c.owed }) ≡ record (still f) { owed = c.owed ++ reply_octets (fixed_reply (fate_text fate)) }
      → Holds state ask own (Rises rise (Settled true mark notes fate [] after)) (Answering (fate_rows true notes fate)) (record b { far = f; link = Gone; data_to_server = []; data_to_client = [] })
      → PlacedAt (λ way b. AtFetch state ask read own way b) (told DataToServer (world_at b (Answering (note_replies notes)) c))
  ends_at fate after f serves holds = record {
    base = record b { far = f; link = Gone; data_to_server = []; data_to_client = [] };
    way = Answering (fate_rows true notes fate);
    cut = record c { owed = c.owed ++ reply_octets (fixed_reply (fate_text fate)) };
    is = λ i. record (world_at b (Answering (note_replies notes)) c) { far = serves i; link = Gone; data_to_server = []; data_to_client = [] };
    fits = fits_more (note_replies notes) (fixed_reply (fate_text fate)) c (fixed b.far.session (fate_text fate)) fits;
    here = inr (Rises rise (Settled true mark notes fate [] after), holds);
  }

  -- the end leads to where the server is done with the upload
  pub rise_ends : PlacedAt (λ way b. AtFetch state ask read own way b) (told DataToServer (world_at b (Answering (note_replies notes)) c))
  rise_ends = by_bool (is_some (excess_of rise state (length rise.octets))) big small
    where
      big : is_some (excess_of rise state (length rise.octets)) ≡ true → PlacedAt (λ way b. AtFetch state ask read own way b) (told DataToServer (world_at b (Answering (note_replies notes)) c))
      big e =
          ends_at (Overfilled true) state (upload_far FarData.Free b.far) (serves true e)
          (at_stage h.near refl h.steady h.timed h.ready refl refl refl tt (none_more own h.marked) refl
          (overfull_fares state ask good rise h.ready.2 h.ready.1 h.fine.0 own e, sound, h.fine.3.0, tt))

      small : is_some (excess_of rise state (length rise.octets)) ≡ false → PlacedAt (λ way b. AtFetch state ask read own way b) (told DataToServer (world_at b (Answering (note_replies notes)) c))
      small e =
          ends_at Installed (stored rise state rise.octets) (stored_far (stored rise state rise.octets).table b.far) (serves false e)
          (at_stage h.near refl (stored_steady state rise b.near b.far h.steady h.ready.1 rise.octets) h.timed h.ready refl refl refl tt
          (none_more own h.marked) refl
          (installed_fares state ask good rise h.ready.2 h.ready.1 h.fine.0 own e, h.ready.2.sound state rise.octets sound h.ready.1 h.fine.0.0 (within_limit state ask good rise h.ready.2 h.ready.1 h.fine.0 (length rise.octets) e), h.fine.3.0, tt))
