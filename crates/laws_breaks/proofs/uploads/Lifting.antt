-- A client of an upload that was told of the break of its link before its final reply: it is as one that was not told, but for that link; so it stays, as both
-- hear numbers of octets that are held. One that has closed its link is told nothing by a break.
use Rattle.std.proofs.Common.{◌≡◌, ◌⊎◌, inl, inr, ℕ, Bool, true, false, List, [], ◌∷◌, ◌++◌, take, drop, Option, None, refl, sym, ap, ap₂, subst, ◌∙◌, take-append-drop}
use Rattle.std.specs.Prelude.{if◌then◌else◌}
use Rattle.ftp_ends.specs.Octets.{has_octets}
use Rattle.ftp_ends.specs.declared.link.Wants.{Wants}
use Rattle.ftp_ends.specs.declared.link.Wants.TheVariants as Want
use Rattle.ftp_operation.specs.declared.op.Op.{Op}
use Rattle.ftp_client_model.specs.Calls as near
use Rattle.ftp_client_model.specs.Calls.{data_closed, data_fault, hears, is_busy, may_hear, report_of}
use Rattle.ftp_client_model.specs.Plan.{count_of}
use Rattle.ftp_client_model.specs.View.{Transfer, View as Near}
use Rattle.ftp_client_model.specs.declared.client.ClientLink.{ClientLink}
use Rattle.ftp_client_model.specs.declared.client.ClientLink.TheVariants as Data
use Rattle.ftp_client_model.specs.declared.client.Ending.{Ending}
use Rattle.ftp_client_model.specs.declared.client.Ending.TheVariants as Endings
use Rattle.laws_drivers.proofs.world.Served.{rests}
use Rattle.laws_drivers.proofs.control.Taken.{taken}
use Rattle.laws_drivers.proofs.events.Plain.{IsPlainBy, IsPlainJob}
use Rattle.laws_drivers.proofs.events.Stands.{has_port}
use Rattle.laws_breaks.specs.downloads.Claims.{ReportAlike}
use Rattle.laws_breaks.proofs.uploads.Notes.{Past, begun, hears_past, hears_turns}

-- it has octets to give, over a link that is open, and the other was told
abbrev pub StillGives : Near → List ℕ → (link : ClientLink) → (closed : Bool) → Type 0
StillGives n left link closed =
    (n.connection ≡ Data.Open) × (n.closing ≡ false) × (has_octets left ≡ true) × (link ≡ Data.Over Endings.Broken) × (closed ≡ false)

-- or it gave all and is to close the link, and so is the other, or has done that
abbrev pub IsClosing : Near → List ℕ → (link : ClientLink) → Type 0
IsClosing n left link = (n.connection ≡ Data.Over Endings.Ours) × (n.closing ≡ true) × (left ≡ []) × (link ≡ Data.Over Endings.Ours)

-- a client of an upload that heard its 150 and was not told, and one that was
pub record Lifts (n u : Near) : Type 0 where
  pub op : Op (List ℕ)
  pub all : count_of op ≡ None
  pub left : List ℕ
  pub mark : Option ℕ
  pub near : n ≡ begun op all left n.connection n.closing mark n
  pub link : ClientLink
  pub closed : Bool
  pub told : u ≡ begun op all left link closed mark n
  pub kind : StillGives n left link closed ⊎ IsClosing n left link

-- ---- what it wants

-- it wants nothing, or a close
abbrev pub is_idle : Wants → Bool
is_idle Want.Nothing = true
is_idle Want.CloseData = true
is_idle other = false

-- how it stands is of no matter to its form
pub form : (op : Op (List ℕ)) (all : count_of op ≡ None) (left : List ℕ) (link : ClientLink) (closing : Bool) (mark : Option ℕ) (last n : Near)
    → n ≡ begun op all left link closing mark last → n ≡ begun op all left n.connection n.closing mark n
form op all left link closing mark last n is = subst (λ (v : Near). v ≡ begun op all left v.connection v.closing mark v) (sym is) refl

-- a break of an open link
pub fault_begun : (op : Op (List ℕ)) (all : count_of op ≡ None) (left : List ℕ) (mark : Option ℕ) (n : Near)
    → data_fault (begun op all left Data.Open false mark n) ≡ begun op all left (Data.Over Endings.Broken) false mark n
unfolding data_fault
fault_begun op all [] mark n = refl
fault_begun op all (octet ∷ more) mark n = refl

-- octets after octets
hears_both : (front given : List ℕ) (n : Near) → hears n (front ++ given) ≡ hears (hears n front) given
hears_both [] given n = refl
hears_both (octet ∷ front) given n = hears_both front given (near.hears_octet n octet)

module _ (n u : Near) (l : Lifts n u) where
  abbrev at : ClientLink → Bool → Near
  at link closed = begun l.op l.all l.left link closed l.mark n

  -- its link is over
  over : (P : ClientLink → Type 0) → ((ending : Ending) → P (Data.Over ending)) → P l.link
  over P each = elim l.kind [
    | inl gives ↦ subst P (sym gives.3) (each Endings.Broken)
    | inr closes ↦ subst P (sym closes.3) (each Endings.Ours)
  ]

  pub lifts_idle : is_idle (near.wants u) ≡ true
  unfolding near.wants
  lifts_idle =
      ap (λ v. is_idle (near.wants v)) l.told
      ∙ over (λ link. is_idle (near.wants (at link l.closed)) ≡ true) (λ ending. by ending l.closed)
    where
      by : (ending : Ending) (closed : Bool)
          → is_idle (if closed then Want.CloseData else near.link_wants (Data.Over ending) (at (Data.Over ending) closed)) ≡ true
      by ending true = refl
      by ending false = refl

  pub lifts_rest : rests (near.wants (data_closed u)) ≡ true
  unfolding near.wants
  lifts_rest =
      ap (λ v. rests (near.wants (data_closed v))) l.told ∙ over (λ link. rests (near.wants (at link false)) ≡ true) (λ ending. refl)

  pub lifts_busy : is_busy u ≡ true
  lifts_busy = ap is_busy l.told

  pub lifts_none : report_of u ≡ None
  lifts_none = ap report_of l.told

  pub was_none : report_of n ≡ None
  was_none = ap report_of l.near

  pub lifts_reports : near.reports u ≡ u
  lifts_reports = ap near.reports l.told ∙ sym l.told

  pub was_taken : taken n ≡ n
  was_taken = ap taken l.near ∙ sym l.near

  pub lifts_taken : taken u ≡ u
  lifts_taken = ap taken l.told ∙ sym l.told

  pub lifts_sound : near.is_sound u.standing ≡ true
  lifts_sound = ap (λ (v : Near). near.is_sound v.standing) l.told

  -- it has no report, and it is lost where the control connection ends, as one that was not told
  pub lifts_alike : ReportAlike u n
  unfolding near.control_end
  lifts_alike = (
    ap report_of l.told ∙ sym (ap report_of l.near),
    ap (λ v. report_of (near.control_end v)) l.told ∙ sym (ap (λ v. report_of (near.control_end v)) l.near),
  )

  -- it is plain, whatever is kept of its transfer
  pub lifts_plain : (Kept : Op (List ℕ) → Transfer → Type 0) → IsPlainBy Kept n → IsPlainBy Kept u
  lifts_plain Kept p =
      subst (IsPlainBy Kept) (sym l.told) (record {
        job = subst (λ (v : Near). IsPlainJob Kept v.job) l.near p.job;
        port = over (λ link. has_port link ≡ false) (λ ending. refl);
        run = refl;
      })

  -- where it still gives a break tells it just that
  pub gives_fault : StillGives n l.left l.link l.closed → data_fault n ≡ u
  gives_fault gives =
      let is : n ≡ at Data.Open false = l.near ∙ ap₂ at gives.0 gives.1 in
      ap data_fault is ∙ fault_begun l.op l.all l.left l.mark n ∙ sym (ap₂ at gives.3 gives.4) ∙ sym l.told

  -- where it is to close the link both are the same, once that is done
  pub closes_alike : IsClosing n l.left l.link → data_closed n ≡ data_closed u
  closes_alike closes =
      ap data_closed l.near ∙ ap (λ c. at c false) (closes.0 ∙ sym closes.3) ∙ sym (ap data_closed l.told)

  -- once octets were said
  pub lifts_says : (count : ℕ) → Lifts (near.gives_control count n) (near.gives_control count u)
  lifts_says count = record {
    op = l.op;
    all = l.all;
    left = l.left;
    mark = l.mark;
    near = ap (near.gives_control count) l.near;
    link = l.link;
    closed = l.closed;
    told = ap (near.gives_control count) l.told;
    kind = l.kind;
  }

  -- once a close is done
  pub lifts_closes : Lifts n (data_closed u)
  lifts_closes = record {
    op = l.op;
    all = l.all;
    left = l.left;
    mark = l.mark;
    near = l.near;
    link = l.link;
    closed = false;
    told = ap data_closed l.told;
    kind = elim l.kind [
      | inl gives ↦ inl (gives.0, gives.1, gives.2, gives.3, refl)
      | inr closes ↦ inr closes
    ];
  }

  -- ---- what both hear, where the final reply is not in then

  module _ (octets : List ℕ) (unfinal : Past (hears (data_closed n) octets) → ⊥) where
    pub hears_lifts : Lifts (hears n octets) (hears u octets)
    hears_lifts =
        elim (hears_turns l.op l.all l.left octets l.mark n) [
          | inl past ↦ absurd (unfinal (subst (λ v. Past (hears v octets)) (sym (ap data_closed l.near)) (past n.connection false)))
          | inr g ↦
              let is : hears n octets ≡ begun l.op l.all l.left n.connection n.closing g.after g.last =
              ap (λ v. hears v octets) l.near ∙ g.stays n.connection n.closing in
              record {
                op = l.op;
                all = l.all;
                left = l.left;
                mark = g.after;
                near = form l.op l.all l.left n.connection n.closing g.after g.last (hears n octets) is;
                link = l.link;
                closed = l.closed;
                told = ap (λ v. hears v octets) l.told ∙ g.stays l.link l.closed
                    ∙ sym (ap (λ v. begun l.op l.all l.left l.link l.closed g.after v) is);
                kind = elim l.kind [
                  | inl gives ↦
                      inl (ap (λ (v : Near). v.connection) is ∙ gives.0, ap (λ (v : Near). v.closing) is ∙ gives.1, gives.2, gives.3, gives.4)
                  | inr closes ↦
                      inr (ap (λ (v : Near). v.connection) is ∙ closes.0, ap (λ (v : Near). v.closing) is ∙ closes.1, closes.2, closes.3)
                ];
              }
        ]

    -- whether it is to close stays
    pub hears_closing : (hears n octets).closing ≡ n.closing
    hears_closing =
        elim (hears_turns l.op l.all l.left octets l.mark n) [
          | inl past ↦ absurd (unfinal (subst (λ v. Past (hears v octets)) (sym (ap data_closed l.near)) (past n.connection false)))
          | inr g ↦ ap (λ v. (hears v octets).closing) l.near ∙ ap (λ (v : Near). v.closing) (g.stays n.connection n.closing)
        ]

    -- each octet may be heard by both alike
    pub hears_may : (k : ℕ) → may_hear (hears n (take k octets)) ≡ may_hear (hears u (take k octets))
    hears_may k =
        elim (hears_turns l.op l.all l.left front l.mark n) [
          | inl past ↦
              absurd (unfinal (subst Past (sym whole) (hears_past (drop k octets) (hears (data_closed n) front)
              (subst (λ v. Past (hears v front)) (sym (ap data_closed l.near)) (past n.connection false)))))
          | inr g ↦
              ap (λ v. may_hear (hears v front)) l.near ∙ ap may_hear (g.stays n.connection n.closing) ∙ sym (ap may_hear (g.stays l.link l.closed))
              ∙ sym (ap (λ v. may_hear (hears v front)) l.told)
        ]
      where
        front : List ℕ
        front = take k octets

        whole : hears (data_closed n) octets ≡ hears (hears (data_closed n) front) (drop k octets)
        whole = ap (hears (data_closed n)) (sym (take-append-drop k octets)) ∙ hears_both front (drop k octets) (data_closed n)
