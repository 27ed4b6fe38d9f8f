-- Breaks of the link, and the end that the client is told, lead an upload from a stage to a stage.
use Rattle.std.proofs.Common.{◌≡◌, inr, ℕ, ◌≤◌, Bool, true, false, List, [], ◌∷◌, ◌++◌, length, Option, None, refl, sym, ap, subst, ◌∙◌, arith}
use Rattle.std.specs.Option.{is_some}
use Rattle.ftp_pieces.specs.Machine.{IsFront}
use Rattle.ftp_wire.specs.Decoder.{decoder_of}
use Rattle.ftp_ends.specs.Reply.{Reply, reply_octets}
use Rattle.ftp_operation.specs.declared.op.Op.{Op}
use Rattle.ftp_direct.specs.declared.refusal.Refusal.{Refusal}
use Rattle.ftp_direct.specs.Direct.{State, part}
use Rattle.ftp_client_model.specs.Calls as near
use Rattle.ftp_client_model.specs.View.{View as Near, Sending}
use Rattle.ftp_client_model.specs.declared.client.ClientLink.TheVariants as NearData
use Rattle.ftp_client_model.specs.declared.client.Ending.TheVariants as Endings
use Rattle.ftp_client_model.specs.declared.client.Replied.TheVariants as Replies
use Rattle.ftp_server_model.specs.Calls as far
use Rattle.ftp_server_model.specs.Machine.{Reading}
use Rattle.ftp_server_model.specs.Replies.{fixed_reply}
use Rattle.ftp_server_model.specs.View.{View as Far}
use Rattle.ftp_server_model.specs.declared.reply.FixedReply.{FixedReply}
use Rattle.ftp_server_model.specs.declared.reply.FixedReply.TheVariants as Texts
use Rattle.ftp_server_model.specs.declared.session.Pending.TheVariants as Pendings
use Rattle.ftp_server_model.specs.declared.session.ServerLink.TheVariants as FarData
use Rattle.laws_world.specs.Events.{DataToClient, is_gone, is_closed_by_far, link_breaks, told}
use Rattle.laws_world.specs.World.{World, Link, Gone, Mark, Broken, counted}
use Rattle.laws_dialogues.specs.Dialogue.{IsSound}
use Rattle.laws_dialogues.specs.Fetches.{Ask, HasUpload, IsAsk, IsSteadySession, IsTimely, Rise, busy, kept, linked, excess_of, stored}
use Rattle.laws_dialogues.specs.Stage.{still, Way, Answering}
use Rattle.laws_dialogues.specs.Uploads.{Note, last_held, note_replies}
use Rattle.laws_dialogues.proofs.Offering.{with_flow}
use Rattle.laws_dialogues.proofs.Sending.{over_at}
use Rattle.laws_dialogues.proofs.Sound.{by_bool}
use Rattle.laws_agreement.specs.Cut.{Cut, Fits, world_at, PlacedAt}
use Rattle.laws_agreement.specs.Rising.{Fate, Overfilled, CutOff, Lift, Offered, Rising, Risen, Settled, Declined, Unjoined, Closing, Shut, Vanished, Climbs, fate_rows, fate_text, held, lift_passes, lift_way, ours_or_broken, replied_by}
use Rattle.laws_agreement.specs.Stages.{Stage, Rises, Holds, AtFetch}
use Rattle.laws_agreement.proofs.Breaks.{behind_break, closed_break, giving_break, left_breaks, left_ends}
use Rattle.laws_agreement.proofs.FetchLink.{Leads, far_linked, fits_more, offer_breaks}
use Rattle.laws_agreement.proofs.Placing.{at_stage}
use Rattle.laws_agreement.proofs.Sessions.{fixed}
use Rattle.laws_agreement.proofs.UploadFates.{cut_off_fares, keep_few, overfull_fares, whole_over, within_limit}
use Rattle.laws_agreement.proofs.UploadServer.{far_by, stored_far, stored_steady, text_by, upload_breaks, upload_far}
use Rattle.ftp_tree.specs.Tree.{octets_or_none}
use Rattle.laws_dialogues.proofs.Uploads.{kept_own}

-- a link that broke breaks no more
no_link_stands : (link : Link) → link ≡ Gone → is_gone link ≡ false → ⊥
no_link_stands link is some = let e : true ≡ false = sym (ap is_gone is) ∙ some in cc

-- a link that the server has not closed is not closed by it
not_left : (link : Link) (other : Link) → link ≡ other → is_closed_by_far other ≡ false → is_closed_by_far link ≡ true → ⊥
not_left link other is none some = let e : true ≡ false = sym some ∙ ap is_closed_by_far is ∙ none in cc

-- behind no marks one more is the only one
one_mark : (own : List Mark) (mark : Mark) → own ≡ [] → own ++ mark ∷ [] ≡ mark ∷ []
one_mark own mark is = ap (λ l. l ++ mark ∷ []) is

-- the client's link breaks while it gives
pub sending_breaks : (op : Op (List ℕ)) (left : List ℕ) (mark : Option ℕ) (n : Near)
    → Leads near.data_fault (busy (with_flow op Replies.Begun (Sending left mark)) NearData.Open n) (busy (with_flow op Replies.Begun (Sending left mark)) (NearData.Over Endings.Broken) n)
unfolding near.data_fault
sending_breaks op [] mark n ear gathered owed = refl
sending_breaks op (octet ∷ left) mark n ear gathered owed = refl

-- an upload waits for the 150, or is under way: the end is a break to it
refused_ends : (op : Op (List ℕ)) (left : List ℕ) (n : Near)
    → Leads near.data_end (busy (with_flow op Replies.Nothing (Sending left None)) NearData.Open n) (busy (with_flow op Replies.Nothing (Sending left None)) (NearData.Over Endings.Broken) n)
unfolding near.data_end
refused_ends op left n ear gathered owed = refl

module _ (read : Reading) (state : State) (ask : Ask) (good : IsAsk ask) (sound : IsSound state) (own : List Mark) (rise : Rise) where
  abbrev At : List Mark → Way → World → Type 0
  At own way b = AtFetch state ask read own way b

  abbrev Stands : Stage → Way → World → Type 0
  Stands stage way b = Holds state ask own stage way b

  abbrev Breaks : Way → World → Cut → Type 0
  Breaks way b c = PlacedAt (At (own ++ Broken b.came ∷ [])) (link_breaks (world_at b way c))

  -- what the server is told of a break, and what is owed then
  abbrev BreakIs : World → List Reply → Cut → Near → Type 0
  BreakIs b rows c n =
      (f : Far) (text : FixedReply) → far.data_fault (record (still b.far) { owed = c.owed }) ≡ record (still f) { owed = c.owed ++ reply_octets (fixed_reply text) }
      → link_breaks (world_at b (Answering rows) c)
      ≡ world_at (behind_break n f b) (Answering (rows ++ fixed_reply text ∷ [])) (record c { owed = c.owed ++ reply_octets (fixed_reply text) })

  -- of an upload
  timely : (m : ℕ) → HasUpload ask rise → IsTimely ask.sends m → rise.moment ≡ m
  timely m upload timed = subst (λ d. IsTimely d m) upload.sends_is timed

  -- an upload is under way, so many octets came, and these are still to come
  pub record Going (b : World) (past : Bool) (came coming : List ℕ) (mark : Option ℕ) (notes : List Note) : Type 0 where
    pub upload : HasUpload ask rise
    pub set : b.near.settings ≡ ask.settings
    pub known : state.known ≡ true
    pub steady : IsSteadySession state (kept b.near b.far)
    pub timed : IsTimely ask.sends b.far.context.moment
    pub climbs : Climbs state ask rise past came coming mark notes
    pub none : own ≡ []
    pub count : b.came ≡ counted (length came)
    pub session : b.far.session ≡ linked (held past (rise.path state) (rise.keep state) (decoder_of ask.settings came)) false Pendings.Nothing b.far.session
    pub to_client : b.data_to_client ≡ []

  module _ (b : World) (past : Bool) (came coming : List ℕ) (mark : Option ℕ) (notes : List Note) (g : Going b past came coming mark notes) where
    -- what came is a front of the text
    pub came_front : IsFront came rise.text
    came_front = (coming, g.climbs.1)

    -- the moment in force is that of the upload
    pub moment_is : rise.moment ≡ b.far.context.moment
    moment_is = timely b.far.context.moment g.upload g.timed

    -- the limits of octets, with what came
    pub came_over : Bool
    came_over = is_some (excess_of rise state (length (decoder_of ask.settings came).content))

  -- a break where so many octets came leads to where the server is done with the upload
  broken_to : (begun ours past : Bool) (left came coming : List ℕ) (mark : Option ℕ) (notes : List Note) (b : World) (rows : List Reply) (c : Cut) → (g : Going b past came coming mark notes)
      → ((fate : Fate) → rows ++ fixed_reply (fate_text fate) ∷ [] ≡ fate_rows begun notes fate) → Fits (Answering rows) c
      → BreakIs b rows c (over_at ask.op g.upload.all b.near (ours_or_broken ours) (replied_by begun) left mark) → Breaks (Answering rows) b c
  unfolding came_over
  broken_to begun ours past left came coming mark notes b rows c g owes fits breaks =
      by_bool (came_over b past came coming mark notes g) big small
    where
      marked : own ++ Broken b.came ∷ [] ≡ Broken (counted (length came)) ∷ []
      marked = one_mark own (Broken b.came) g.none ∙ ap (λ n. Broken n ∷ []) g.count

      few : length (own ++ Broken b.came ∷ []) ≤ 1
      few = subst (λ l. length l ≤ 1) (sym marked) (omega arith)

      -- the server behind it
      serves : (b' : Bool) → came_over b past came coming mark notes g ≡ b'
          → far.data_fault (record (still b.far) { owed = c.owed })
          ≡ record (still (far_by state rise b.near b.far g.steady g.known b' (decoder_of ask.settings came).content)) { owed = c.owed ++ reply_octets (fixed_reply (text_by state rise b.near b.far g.steady g.known b' Texts.Broken)) }
      serves b' is =
          ap (λ s. far.data_fault (record (still (far_linked s b.far)) { owed = c.owed })) g.session
          ∙ upload_breaks state rise b.near b.far g.steady g.known (λ content. g.upload.ends_so state content g.climbs.0.0)
          (kept_own (rise.keep state) (octets_or_none (part state) (rise.path state)) (g.upload.within state)) past b' (decoder_of ask.settings came) c.owed (moment_is b past came coming mark notes g)
          (λ e. sym is ∙ g.climbs.2 e) is

      -- a world placed behind it
      placed : (fate : Fate) (after : State) (f : Far) → far.data_fault (record (still b.far) { owed = c.owed }) ≡ record (still f) { owed = c.owed ++ reply_octets (fixed_reply (fate_text fate)) }
          → Holds state ask (own ++ Broken b.came ∷ []) (Rises rise (Settled begun mark notes fate left after)) (Answering (fate_rows begun notes fate))
          (behind_break (over_at ask.op g.upload.all b.near (ours_or_broken ours) (replied_by begun) left mark) f b) → Breaks (Answering rows) b c
      placed fate after f serves holds = record {
        base = behind_break (over_at ask.op g.upload.all b.near (ours_or_broken ours) (replied_by begun) left mark) f b;
        way = Answering (rows ++ fixed_reply (fate_text fate) ∷ []);
        cut = record c { owed = c.owed ++ reply_octets (fixed_reply (fate_text fate)) };
        is = breaks f (fate_text fate) serves;
        fits = fits_more rows (fixed_reply (fate_text fate)) c (fixed b.far.session (fate_text fate)) fits;
        here = inr (
          Rises rise (Settled begun mark notes fate left after),
          subst (λ l. Holds state ask (own ++ Broken b.came ∷ []) (Rises rise (Settled begun mark notes fate left after)) (Answering l)
              (behind_break (over_at ask.op g.upload.all b.near (ours_or_broken ours) (replied_by begun) left mark) f b)) (sym (owes fate)) holds,
        );
      }

      big : came_over b past came coming mark notes g ≡ true → Breaks (Answering rows) b c
      big e =
          placed (Overfilled ours) state (upload_far FarData.Free b.far) (serves true e)
          (at_stage refl refl g.steady g.timed (g.set, g.known, g.upload) refl refl refl tt few refl
          (overfull_fares state ask good rise g.upload g.known g.climbs.0 (own ++ Broken b.came ∷ []) (whole_over state ask good rise g.upload g.known g.climbs.0 came (came_front b past came coming mark notes g) e), sound, g.climbs.3.0, tt))

      -- no limit was passed where none is by what came
      within : came_over b past came coming mark notes g ≡ false → past ≡ false
      within e = by_bool past (λ yes. absurd (let f : false ≡ true = sym e ∙ g.climbs.2 yes in cc)) (λ none. none)

      small : came_over b past came coming mark notes g ≡ false → Breaks (Answering rows) b c
      small e =
          let content : List ℕ = (decoder_of ask.settings came).content in
          let after : State = stored rise state content in
          placed (CutOff ours (last_held mark notes)) after (stored_far after.table b.far) (serves false e) (at_stage refl refl
          (stored_steady state rise b.near b.far g.steady g.known content) g.timed (g.set, g.known, g.upload) refl refl refl tt few refl
          (cut_off_fares state ask good rise g.upload g.known g.climbs.0 (own ++ Broken b.came ∷ []) came (last_held mark notes) (came_front b past came coming mark notes g) e marked (g.climbs.3.1 (within e)).1, g.upload.sound state content sound g.known g.climbs.0.0 (within_limit state ask good rise g.upload g.known g.climbs.0 (length content) e), g.climbs.3.0, refl))

  -- before the 150 is heard
  offered_breaks : (b : World) (c : Cut) → Fits (lift_way Offered) c → Stands (Rises rise Offered) (lift_way Offered) b → Breaks (lift_way Offered) b c
  offered_breaks b c fits h =
      let n : Near = over_at ask.op h.ready.2.all b.near Endings.Broken Replies.Nothing rise.text None in
      broken_to false false false rise.text [] rise.text None [] b (fixed_reply Texts.Opens ∷ []) c (record {
        upload = h.ready.2;
        set = h.ready.0;
        known = h.ready.1;
        steady = h.steady;
        timed = h.timed;
        climbs = (h.fine, refl, λ e. absurd (cc), (tt, λ e. (omega (arith, keep_few state ask good rise h.ready.2 h.ready.1 h.fine sound), refl)));
        none = h.marked;
        count = h.came;
        session = h.session;
        to_client = h.to_client;
      }) (λ fate. refl) fits
      (λ f text. giving_break text b (fixed_reply Texts.Opens ∷ []) (fixed_reply Texts.Opens ∷ fixed_reply text ∷ []) c n f fits h.link
      (subst (λ v. Leads near.data_fault v n) (sym h.near) (offer_breaks ask.op (Sending rise.text None) b.near)))

  -- while octets are given
  rising_breaks : (past : Bool) (octet : ℕ) (more came queue : List ℕ) (mark : Option ℕ) (notes : List Note) (b : World) (c : Cut) → Fits (Answering (note_replies notes)) c
      → Stands (Rises rise (Rising past octet more came queue mark notes)) (Answering (note_replies notes)) b → Breaks (Answering (note_replies notes)) b c
  rising_breaks past octet more came queue mark notes b c fits h =
      let n : Near = over_at ask.op h.ready.2.all b.near Endings.Broken Replies.Begun (octet ∷ more) mark in
      broken_to true false past (octet ∷ more) came (queue ++ octet ∷ more) mark notes b (note_replies notes) c (record {
        upload = h.ready.2;
        set = h.ready.0;
        known = h.ready.1;
        steady = h.steady;
        timed = h.timed;
        climbs = h.fine;
        none = h.marked;
        count = h.came;
        session = h.session;
        to_client = h.to_client;
      }) (λ fate. refl) fits
      (λ f text. giving_break text b (note_replies notes) (note_replies notes ++ fixed_reply text ∷ []) c n f fits h.link
      (subst (λ v. Leads near.data_fault v n) (sym h.near) (sending_breaks ask.op (octet ∷ more) mark b.near)))

  -- behind the client's close
  risen_breaks : (past : Bool) (came queue : List ℕ) (mark : Option ℕ) (notes : List Note) (b : World) (c : Cut) → Fits (Answering (note_replies notes)) c
      → Stands (Rises rise (Risen past true came queue mark notes)) (Answering (note_replies notes)) b → Breaks (Answering (note_replies notes)) b c
  risen_breaks past came queue mark notes b c fits h =
      let n : Near = over_at ask.op h.ready.2.all b.near Endings.Ours Replies.Begun [] mark in
      broken_to true true past [] came queue mark notes b (note_replies notes) c (record {
        upload = h.ready.2;
        set = h.ready.0;
        known = h.ready.1;
        steady = h.steady;
        timed = h.timed;
        climbs = h.fine;
        none = h.marked;
        count = h.came;
        session = h.session;
        to_client = h.to_client;
      }) (λ fate. refl) fits
      (λ f text serves. closed_break text b (note_replies notes) (note_replies notes ++ fixed_reply text ∷ []) c f h.link serves
      ∙ ap (λ v. world_at (behind_break v f b) (Answering (note_replies notes ++ fixed_reply text ∷ [])) (record c { owed = c.owed ++ reply_octets (fixed_reply text) })) h.near)

  -- a refused upload whose link the server has closed
  declined_breaks : (why : Refusal) (way : Way) (b : World) (c : Cut) → Fits way c → Stands (Rises rise (Declined why Shut)) way b → Breaks way b c
  declined_breaks why way b c fits h =
      let n : Near = over_at ask.op h.ready.2.all b.near Endings.Broken Replies.Nothing rise.text None in
      record {
        base = behind_break n b.far b;
        way = way;
        cut = c;
        is = left_breaks b way c n fits h.link (subst (λ v. Leads near.data_fault v n) (sym h.near) (offer_breaks ask.op (Sending rise.text None) b.near));
        fits = fits;
        here = inr (
          Rises rise (Declined why (Vanished true)),
          at_stage refl h.session h.steady h.timed h.ready refl refl refl tt
              (subst (λ l. length l ≤ 1) (sym (one_mark own (Broken b.came) h.marked)) (omega arith)) h.way_is h.fine,
        );
      }

  -- a break leads each lift that does not pass to one with its mark, where a link stands
  pub lift_breaks : (lift : Lift) (way : Way) (b : World) (c : Cut) → Fits way c → Stands (Rises rise lift) way b → lift_passes lift ≡ false → is_gone b.link ≡ false → Breaks way b c
  lift_breaks Offered way b c fits h stays some =
      let T : Way → Type 0 = λ way. Fits way c → Stands (Rises rise Offered) way b → Breaks way b c in subst T (sym h.way_is) (offered_breaks b c) fits h
  lift_breaks (Rising past octet more came queue mark notes) way b c fits h stays some =
      let T : Way → Type 0 = λ way. Fits way c → Stands (Rises rise (Rising past octet more came queue mark notes)) way b → Breaks way b c in
      subst T (sym h.way_is) (rising_breaks past octet more came queue mark notes b c) fits h
  lift_breaks (Risen past false came queue mark notes) way b c fits h stays some = absurd (cc)
  lift_breaks (Risen past true came queue mark notes) way b c fits h stays some =
      let T : Way → Type 0 = λ way. Fits way c → Stands (Rises rise (Risen past true came queue mark notes)) way b → Breaks way b c in
      subst T (sym h.way_is) (risen_breaks past came queue mark notes b c) fits h
  lift_breaks (Settled begun mark notes fate left after) way b c fits h stays some = absurd (no_link_stands b.link h.link some)
  lift_breaks (Declined why Closing) way b c fits h stays some = absurd (cc)
  lift_breaks (Declined why Shut) way b c fits h stays some = declined_breaks why way b c fits h
  lift_breaks (Declined why (Vanished broken)) way b c fits h stays some = absurd (no_link_stands b.link h.link some)
  lift_breaks Unjoined way b c fits h stays some = absurd (no_link_stands b.link h.link some)

  -- ---- the client is told that the server has closed the link

  abbrev EndsAt : Way → World → Cut → Type 0
  EndsAt way b c = PlacedAt (At own) (told DataToClient (world_at b way c))

  -- the end of the link of a refused upload
  declined_ends : (why : Refusal) (way : Way) (b : World) (c : Cut) → Fits way c → Stands (Rises rise (Declined why Shut)) way b → EndsAt way b c
  declined_ends why way b c fits h =
      let n : Near = over_at ask.op h.ready.2.all b.near Endings.Broken Replies.Nothing rise.text None in
      record {
        base = record b { near = n; link = Gone; data_to_server = []; data_to_client = [] };
        way = way;
        cut = c;
        is = left_ends b way c n fits (subst (λ v. Leads near.data_end v n) (sym h.near) (refused_ends ask.op rise.text b.near));
        fits = fits;
        here = inr (
          Rises rise (Declined why (Vanished false)),
          at_stage refl h.session h.steady h.timed h.ready refl refl refl tt (subst (λ l. length l ≤ 1) (sym h.marked) (omega arith)) h.way_is h.fine,
        );
      }

  -- the end of the link that the server has closed leads each lift that does not pass to a lift
  pub lift_ends : (lift : Lift) (way : Way) (b : World) (c : Cut) → Fits way c → Stands (Rises rise lift) way b → is_closed_by_far b.link ≡ true → lift_passes lift ≡ false → EndsAt way b c
  lift_ends Offered way b c fits h left stays = absurd (not_left b.link _ h.link refl left)
  lift_ends (Rising past octet more came queue mark notes) way b c fits h left stays = absurd (not_left b.link _ h.link refl left)
  lift_ends (Risen past false came queue mark notes) way b c fits h left stays = absurd (cc)
  lift_ends (Risen past true came queue mark notes) way b c fits h left stays = absurd (not_left b.link _ h.link refl left)
  lift_ends (Settled begun mark notes fate remains after) way b c fits h left stays = absurd (not_left b.link _ h.link refl left)
  lift_ends (Declined why Closing) way b c fits h left stays = absurd (cc)
  lift_ends (Declined why Shut) way b c fits h left stays = declined_ends why way b c fits h
  lift_ends (Declined why (Vanished broken)) way b c fits h left stays = absurd (not_left b.link _ h.link refl left)
  lift_ends Unjoined way b c fits h left stays = absurd (not_left b.link _ h.link refl left)
