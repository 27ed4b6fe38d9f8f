-- Reports that are written after a text, and the reports of a world.
use Rattle.std.proofs.Common.{◌≡◌, ◌∙◌, ◌+◌, ◌++◌, ℕ, Bool, true, false, List, [], Option, Result, Ok, Err, OnOk, IfOk, length, map, flat_map, inl, inr, sym, ap, subst, arith}
use Rattle.std.specs.Prelude.{if◌then◌else◌}
use Rattle.std.specs.Io.KnownBytes.{Appends}
use Rattle.std.proofs.KnownBytes.{Appends-trans}
use Rattle.ftp_operation.specs.Answer.{said_of}
use Rattle.ftp_operation.specs.declared.answer.Answer.{Answer}
use Rattle.ftp_pair.specs.Session.{Seen}
use Rattle.laws_world.specs.Claims.{Beginning, IsFair, world_of}
use Rattle.tool_script.specs.Report.{report}
use Rattle.tool_script.specs.declared.order.Order.{Order}
use Rattle.tool_script.specs.declared.script.Script.{Script}
use Rattle.tool_script.specs.Reading.{ReadsScript}
use Rattle.tool_script.specs.Status.{status_without, worst_of}
use Rattle.tool_script.specs.declared.reading.NoScript.{NoScript}
use Rattle.tool_script.specs.declared.reading.NoScript.TheVariants as Nones
use Rattle.tool_terminal.specs.declared.status.Status.{Status}
use Rattle.tool_terminal.specs.declared.status.Status.TheVariants.{Refused}
use Rattle.tool_pair.specs.Leading.{LeadsTaking, LeadsTo, Led, Rests, first_second, script_orders_at}
use Rattle.tool_pair.specs.Making.{own_beginning}
use Rattle.tool_pair.specs.Played.{Plays, PlaysIn, Tells}
use Rattle.tool_pair.specs.Telling.{HasTold, LeadsTelling, is_transcript_wanted, text_of}
use Rattle.tool_pair.specs.Transcript.{Delivery, transcript}
use Rattle.tool_pair.specs.declared.transcript.Transcript.{Transcript}

-- the text of a transcript and then reports, where orders led from one world to another
pub reported : {A : Type 0} (B : Type 0) (wanted : Bool) (orders : List (Order (List ℕ))) (first last : Seen) (notes later : Transcript A) (old mid new : Option (List ℕ)) (text : List ℕ)
    (answers : List (Answer B)) (status : Status) → LeadsTelling (script_orders_at first_second orders) first last notes later → is_transcript_wanted notes ≡ wanted → HasTold notes []
    → text ≡ text_of later → Appends old mid text → Appends mid new (flat_map report answers) → map said_of answers ≡ last.world.reports
    → length last.world.reports ≡ length first.world.reports + length orders → status ≡ (if last.calm then worst_of answers else Refused) → PlaysIn B wanted orders first last old new status
reported B wanted orders first last notes later old mid new text answers status leads is none same one other said each worst =
    let front : text ≡ transcript wanted leads.0 =
    same ∙ (leads.2.told [] none).lines ∙ ap (λ b. transcript b leads.0) (leads.2.wanted ∙ is) in
    record {
      took = leads.0;
      leads = leads.1;
      each = each;
      reports = record {
        answers = answers;
        same = said;
        wrote = subst (λ l. Appends old new (l ++ flat_map report answers)) front (Appends-trans old mid new text (flat_map report answers) one other);
        worst = worst;
      };
    }

-- where an end was refused memory the status is 1
pub short_status : (calm : Bool) (worst : Status) → calm ≡ false → Refused ≡ (if calm then worst else Refused)
short_status calm worst short = ap (λ b. if b then worst else Refused) (sym short)

-- where none was it is the worst
pub calm_status : (calm : Bool) (status worst : Status) → calm ≡ true → status ≡ worst → status ≡ (if calm then worst else Refused)
calm_status calm status worst is same = same ∙ ap (λ b. if b then worst else Refused) (sym is)

-- what holds anyhow
pub anyhow_ok : {T E : Type 0} (r : Result T E) (P : Type 0) → P → OnOk r P
anyhow_ok (Ok x) P p = p
anyhow_ok (Err e) P p = tt

-- and what follows where it did
pub on_ok : {T E P Q : Type 0} (r : Result T E) → (P → Q) → OnOk r P → OnOk r Q
on_ok (Ok x) f p = f p
on_ok (Err e) f p = tt

-- what orders lead to, from two ends that begin fairly
led : (from : Beginning) (orders : List (Order (List ℕ))) (took : List Delivery) (old new : Seen) → IsFair from → old.world ≡ world_of from
    → LeadsTo (script_orders_at first_second orders) took old new → Rests (script_orders_at first_second orders) old new → new.calm ≡ true → Led from orders took new.world
led from orders took old new fair is leads rests calm = record {
  fair = fair;
  leads = λ read reads. let so = (leads calm).1 read reads in
      (so.0, so.1, so.2, subst (λ w. LeadsTaking read w so.0 (script_orders_at first_second orders) took new.world) is so.3);
  rests = rests calm from fair is;
}

-- none and so many
none_more : (none more : ℕ) → none ≡ 0 → none + more ≡ more
none_more none more is = omega (arith, is)

-- the reports of a world that was reached so
pub played : {E : Type 0} (A : Type 0) (wanted : Bool) (from : Beginning) (orders : List (Order (List ℕ))) (first w : Seen) (old new : Option (List ℕ)) (r : Result Status E)
    → IsFair from → first.world ≡ world_of from → IfOk r (λ status. PlaysIn A wanted orders first w old new status) → OnOk r (Rests (script_orders_at first_second orders) first w)
    → IfOk r (λ status. Plays A wanted from orders old new status)
played A wanted from orders first w old new (Ok status) fair is plays rests = record {
  took = plays.took;
  last = w;
  led = led from orders plays.took first w fair is plays.leads rests;
  each = plays.each ∙ none_more (length first.world.reports) (length orders) (ap (λ w. length w.reports) is);
  reports = plays.reports;
}
played A wanted from orders first w old new (Err error) fair is plays rests = tt

-- the same from an equal beginning
pub plays_from : {E : Type 0} (A : Type 0) (wanted : Bool) (from own : Beginning) (orders : List (Order (List ℕ))) (old new : Option (List ℕ)) (r : Result Status E) → from ≡ own
    → IfOk r (λ status. Plays A wanted from orders old new status) → IfOk r (λ status. Plays A wanted own orders old new status)
plays_from A wanted from own orders old new r is plays = subst (λ b. IfOk r (λ status. Plays A wanted b orders old new status)) is plays

-- there is no script
pub tells_none : {A : Type 0} (wanted roots : Bool) (known left old new earlier later : Option (List ℕ)) (fault : NoScript) (status : Status) → ReadsScript {A = A} known left (Err fault)
    → status ≡ status_without fault → new ≡ old → Tells A wanted roots known left old new earlier later status
tells_none wanted roots known left old new earlier later (Nones.Line number) status reads is same =
    inr (inl (record { text = reads.0; gave = reads.1; line = number; fault = reads.2; same = same; told = is }))
tells_none wanted roots known left old new earlier later (Nones.Failed error) status reads is same = inr (inr is)

-- there is one
pub tells_script : {A : Type 0} (wanted roots : Bool) (known left old new earlier later : Option (List ℕ)) (script : Script A) (status : Status) → ReadsScript known left (Ok script)
    → Plays A wanted (own_beginning roots (script.login.user, script.login.pass)) script.orders.items old new status → later ≡ earlier
    → Tells A wanted roots known left old new earlier later status
tells_script wanted roots known left old new earlier later script status reads plays silent =
    inl (record { text = reads.0; gave = reads.1; login = (script.login.user, script.login.pass); orders = script.orders.items; said = reads.2; plays = plays }, silent)
