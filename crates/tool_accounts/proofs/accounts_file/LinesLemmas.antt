-- The accounts that lines say, one after another.
use Rattle.std.proofs.Common.{◌≡◌, ◌≢◌, ◌==◌, ◌<◌, ◌+◌, suc, ℕ, Bool, true, false, List, [], ◌∷◌, ◌++◌, not, cond, map, length, Result, Ok, Err, IfOk, IfErr}
use Rattle.std.proofs.Common.{refl, sym, ap, subst, ◌∙◌, append_assoc, append-nil, inl, inr, length-append, arith}
use Rattle.std.specs.List.{All}
use Rattle.std.specs.Prelude.{IsTrue, Some, None, nat_le, nat_lt, if◌then◌else◌}
use Rattle.std.proofs.lemmas.List.{map-append, length-map}
use Rattle.std.proofs.lemmas.List.Elements.{All-nil, All-cons, All-head, All-tail}
use Rattle.std.proofs.lemmas.List.Splits.{slice_split_at, slice_split_none}
use Rattle.ftp_facts.specs.Fact.{Lacks}
use Rattle.ftp_facts.specs.Listing.{line_feed}
use Rattle.ftp_operation.specs.Account.{Account, accounts_refusal}
use Rattle.ftp_operation.specs.declared.account.AccountsFault.{AccountsFault}
use Rattle.tool_accounts.specs.accounts_file.Blame.{HoldsUp, IsBarred, IsBlamed, IsHeld, IsOff, account_limit}
use Rattle.tool_accounts.specs.accounts_file.Line.{Says, is_silent, of_accounts}
use Rattle.tool_accounts.specs.accounts_file.Lines.{AddsLine, Line, Lists, SayEach, SaysAll, Stands, lines_of, numbered, speakers, speaking, without_cr}
use Rattle.tool_accounts.specs.declared.accounts_file.fault.AccountFault.{AccountFault}
use Rattle.tool_accounts.specs.declared.accounts_file.fault.TextFault.{TextFault}
use Rattle.tool_accounts.specs.declared.accounts_file.fault.TextFault.TheVariants as Texts

-- ---- a line

-- an octet in front of either of two lines
before : (b : Bool) (octet : ℕ) (one other : List ℕ) → octet ∷ (if b then one else other) ≡ (if b then octet ∷ one else octet ∷ other)
before true octet one other = refl
before false octet one other = refl

-- the last octet goes where it is a CR
cr_last : (front : List ℕ) (last : ℕ) → without_cr (front ++ last ∷ []) ≡ (if last == 13 then front else front ++ last ∷ [])
cr_last [] last = refl
cr_last (octet ∷ []) last = ap (λ line. octet ∷ line) (cr_last [] last) ∙ before (last == 13) octet [] (last ∷ [])
cr_last (octet ∷ next ∷ front) last =
    ap (λ line. octet ∷ line) (cr_last (next ∷ front) last) ∙ before (last == 13) octet (next ∷ front) (next ∷ front ++ last ∷ [])

-- a line whose last octet is a CR
pub cr_gone : (line front : List ℕ) (last : ℕ) → line ≡ front ++ last ∷ [] → last ≡ 13 → front ≡ without_cr line
cr_gone line front last is cr =
    let test : (last == 13) ≡ true = grind arith in
    sym (ap without_cr is ∙ cr_last front last ∙ ap (λ b. if b then front else front ++ last ∷ []) test)

-- a line whose last octet is none
pub cr_none : (line front : List ℕ) (last : ℕ) → line ≡ front ++ last ∷ [] → last ≢ 13 → line ≡ without_cr line
cr_none line front last is other =
    let test : (last == 13) ≡ false = grind arith in
    is ∙ sym (ap without_cr is ∙ cr_last front last ∙ ap (λ b. if b then front else front ++ last ∷ []) test)

-- ---- lines

-- an octet that is no LF
no_feed : (octet : ℕ) → octet ≢ line_feed → (octet == line_feed) ≡ false
no_feed octet other = grind arith

all_other : (octets : List ℕ) → Lacks octets line_feed → All (λ octet. (octet == line_feed) ≡ false) octets
all_other [] lacks = All-nil (λ octet. (octet == line_feed) ≡ false)
all_other (octet ∷ octets) lacks =
    All-cons (λ each. (each == line_feed) ≡ false) octet octets (no_feed octet (All-head (λ each. each ≢ line_feed) octet octets lacks))
    (all_other octets (All-tail (λ each. each ≢ line_feed) octet octets lacks))

-- the first line, and those behind its LF
line_first : (text front more : List ℕ) → text ≡ front ++ line_feed ∷ more → Lacks front line_feed → lines_of text ≡ without_cr front ∷ lines_of more
line_first text front more is lacks =
    ap lines_of is ∙ ap (map without_cr) (slice_split_at (λ octet. octet == line_feed) front line_feed more (all_other front lacks) refl)

-- the last line
line_last : (text : List ℕ) → Lacks text line_feed → lines_of text ≡ without_cr text ∷ []
line_last text lacks = ap (map without_cr) (slice_split_none (λ octet. octet == line_feed) text (all_other text lacks))

-- what is left is shorter
pub shorter : (text front more : List ℕ) → text ≡ front ++ line_feed ∷ more → length more < length text
shorter text front more is =
    let e : length text ≡ length front + suc (length more) = ap length is ∙ length-append front (line_feed ∷ more) in
    omega (arith, e)

-- ---- accounts

-- lines and then others say what both say
say_both : (lines later : List Line) (one other : List Account) → SayEach lines one → SayEach later other → SayEach (lines ++ later) (one ++ other)
say_both [] later [] other says after = after
say_both [] later (account ∷ one) other says after = absurd says
say_both (line ∷ lines) later [] other says after = absurd says
say_both (line ∷ lines) later (account ∷ one) other says after = (says.0, say_both lines later one other says.1 after)

-- as many lines say as many accounts
say_length : (lines : List Line) (accounts : List Account) → SayEach lines accounts → length accounts ≡ length lines
say_length [] [] says = refl
say_length [] (account ∷ accounts) says = absurd says
say_length (line ∷ lines) [] says = absurd says
say_length (line ∷ lines) (account ∷ accounts) says = ap suc (say_length lines accounts says.1)

-- one line and then others
speaking_both : (line : Line) (lines : List Line) → speaking (line ∷ []) ++ speaking lines ≡ speaking (line ∷ lines)
speaking_both line lines = by (not (is_silent line.1))
  where
    by : (b : Bool) → cond b (line ∷ []) [] ++ speaking lines ≡ cond b (line ∷ speaking lines) (speaking lines)
    by true = refl
    by false = refl

-- a line that is not silent, and then others
speaking_first : (line : Line) (lines : List Line) → is_silent line.1 ≡ false → speaking (line ∷ lines) ≡ line ∷ speaking lines
speaking_first line lines speaks = ap (λ b. cond (not b) (line ∷ speaking lines) (speaking lines)) speaks

-- before the first line
pub first_stands : (text : List ℕ) (now : Lists) → now.0 ≡ [] → now.1 ≡ [] → Stands (speakers text) (numbered 1 (lines_of text)) now
first_stands text now accounts numbers = record { above = []; whole = refl; say = subst (SayEach []) (sym accounts) tt; numbers = numbers }

-- lists put together twice
both_mapped : {X Y : Type 0} (f : X → Y) (one other : List X) (old new : List Y) → old ≡ map f one → new ≡ old ++ map f other → new ≡ map f (one ++ other)
both_mapped f one other old new is after = after ∙ ap (λ l. l ++ map f other) is ∙ sym (map-append f one other)

-- one line is read
line_stands : (all : List Line) (line : Line) (left : List Line) (old new : Lists) → Stands all (line ∷ left) old → AddsLine line old new → Stands all left new
line_stands all line left old new stands adds =
    record {
      above = stands.above ++ speaking (line ∷ []);
      whole = stands.whole ∙ ap (λ l. stands.above ++ l) (sym (speaking_both line left))
          ∙ sym (append_assoc stands.above (speaking (line ∷ [])) (speaking left));
      say = subst (SayEach (stands.above ++ speaking (line ∷ []))) (sym adds.adds)
          (say_both stands.above (speaking (line ∷ [])) old.0 adds.accounts stands.say adds.say);
      numbers = both_mapped (λ line. line.0) stands.above (speaking (line ∷ [])) old.1 new.1 stands.numbers adds.numbers;
    }

-- a line that ends with LF is read
pub next_line : (all : List Line) (number : ℕ) (rest front more line : List ℕ) (old new : Lists) → rest ≡ front ++ line_feed ∷ more → Lacks front line_feed
    → line ≡ without_cr front → Stands all (numbered number (lines_of rest)) old → AddsLine (number, line) old new
    → Stands all (numbered (number + 1) (lines_of more)) new
next_line all number rest front more line old new is lacks cut stands adds =
    let e = line_first rest front more is lacks in
    line_stands all (number, without_cr front) (numbered (number + 1) (lines_of more)) old new
    (subst (λ lines. Stands all (numbered number lines) old) e stands) (subst (λ l. AddsLine (number, l) old new) cut adds)

-- the last line is read
pub last_line : (text : List ℕ) (number : ℕ) (rest line : List ℕ) (old new : Lists) → Lacks rest line_feed → line ≡ without_cr rest
    → Stands (speakers text) (numbered number (lines_of rest)) old → AddsLine (number, line) old new → Stands (speakers text) [] new
last_line text number rest line old new lacks cut stands adds =
    let e = line_last rest lacks in
    line_stands (speakers text) (number, without_cr rest) [] old new (subst (λ lines. Stands (speakers text) (numbered number lines) old) e stands)
    (subst (λ l. AddsLine (number, l) old new) cut adds)

-- once all lines were read, they say the accounts so far
pub all_said : (text : List ℕ) (now : Lists) → Stands (speakers text) [] now → SaysAll text now.0
all_said text now stands =
    subst (λ lines. SayEach lines now.0) (sym (stands.whole ∙ append-nil stands.above)) stands.say

-- ---- which line is to blame

-- as many numbers as accounts
pub as_many : (all left : List Line) (now : Lists) → Stands all left now → length now.1 ≡ length now.0
as_many all left now stands = ap length stands.numbers ∙ length-map stands.above (λ line. line.0) ∙ sym (say_length stands.above now.0 stands.say)

-- one more than so many
one_more : (above : List Line) (line : Line) (below : List Line) (n : ℕ) → IsTrue (nat_le n (length above)) → IsTrue (nat_lt n (length (above ++ line ∷ below)))
one_more above line below n most =
    let e : length (above ++ line ∷ below) ≡ length above + suc (length below) = length-append above (line ∷ below) in
    grind arith

-- a line is to blame behind those that stand so far
line_off : (text : List ℕ) (number : ℕ) (line : List ℕ) (left : List Line) (now : Lists) (fault : TextFault)
    → Stands (speakers text) ((number, line) ∷ left) now → IsOff number line now.0 fault → IsBlamed text fault
line_off text number line left now (Texts.Line place fault) stands off =
    inl (record {
      above = stands.above;
      line = line;
      below = speaking left;
      accounts = now.0;
      whole = stands.whole ∙ ap (λ l. stands.above ++ l) (speaking_first (number, line) left off.1)
          ∙ ap (λ n. stands.above ++ (n, line) ∷ speaking left) (sym off.0);
      say = stands.say;
      faulty = off.2;
    })
line_off text number line left now Texts.Mark stands off = absurd off
line_off text number line left now Texts.TooMany stands off =
    let whole : speakers text ≡ stands.above ++ (number, line) ∷ speaking left =
    stands.whole ∙ ap (λ l. stands.above ++ l) (speaking_first (number, line) left off.0) in
    subst (λ lines. IsTrue (nat_lt account_limit (length lines))) (sym whole)
    (one_more stands.above (number, line) (speaking left) account_limit
    (subst (λ n. IsTrue (nat_le account_limit n)) (say_length stands.above now.0 stands.say) off.1))
line_off text number line left now Texts.Memory stands off = tt

-- the next line is to blame
pub next_off : (text : List ℕ) (number : ℕ) (rest front more line : List ℕ) (now : Lists) (fault : TextFault) → rest ≡ front ++ line_feed ∷ more
    → Lacks front line_feed → line ≡ without_cr front → Stands (speakers text) (numbered number (lines_of rest)) now → IsOff number line now.0 fault
    → IsBlamed text fault
next_off text number rest front more line now fault is lacks cut stands off =
    let e = line_first rest front more is lacks in
    line_off text number (without_cr front) (numbered (number + 1) (lines_of more)) now fault
    (subst (λ lines. Stands (speakers text) (numbered number lines) now) e stands) (subst (λ l. IsOff number l now.0 fault) cut off)

-- the last line is to blame
pub last_off : (text : List ℕ) (number : ℕ) (rest line : List ℕ) (now : Lists) (fault : TextFault) → Lacks rest line_feed → line ≡ without_cr rest
    → Stands (speakers text) (numbered number (lines_of rest)) now → IsOff number line now.0 fault → IsBlamed text fault
last_off text number rest line now fault lacks cut stands off =
    let e = line_last rest lacks in
    line_off text number (without_cr rest) [] now fault (subst (λ lines. Stands (speakers text) (numbered number lines) now) e stands)
    (subst (λ l. IsOff number l now.0 fault) cut off)

-- a list whose map is parts has these parts
record Parts {X Y : Type 0} (f : X → Y) (all : List X) (before : List Y) (it : Y) : Type 0 where
  pub front : List X
  pub at : X
  pub back : List X
  pub whole : all ≡ front ++ at ∷ back
  pub long : length front ≡ length before
  pub is : f at ≡ it

parts : {X Y : Type 0} (f : X → Y) (all : List X) (before : List Y) (it : Y) (behind : List Y) → map f all ≡ before ++ it ∷ behind → Parts f all before it
parts f [] [] it behind is = absurd (cc)
parts f [] (one ∷ before) it behind is = absurd (cc)
parts f (x ∷ all) [] it behind is = record { front = []; at = x; back = all; whole = refl; long = refl; is = cc }
parts f (x ∷ all) (one ∷ before) it behind is =
    let rest = parts f all before it behind cc in
    record { front = x ∷ rest.front; at = rest.at; back = rest.back; whole = ap (λ l. x ∷ l) rest.whole; long = ap suc rest.long; is = rest.is }

-- the line whose account those before it do not allow
barred : (text : List ℕ) (now : Lists) (number : ℕ) (fault : AccountFault) → Stands (speakers text) [] now → HoldsUp now.0 now.1 number fault
    → IsBarred text number fault
barred text now number fault stands holds =
    let e : speakers text ≡ stands.above = stands.whole ∙ append-nil stands.above in
    let cut = parts (λ line. line.0) stands.above holds.early number holds.late (sym stands.numbers ∙ holds.numbers_are) in
    record {
      above = cut.front;
      line = cut.at.1;
      below = cut.back;
      before = holds.before;
      account = holds.account;
      behind = holds.behind;
      whole = e ∙ cut.whole ∙ ap (λ n. cut.front ++ (n, cut.at.1) ∷ cut.back) cut.is;
      say = subst (SayEach (speakers text)) holds.accounts_are (all_said text now stands);
      place = holds.place ∙ sym cut.long;
      bars = holds.bars;
    }

-- accounts that can be no server's: which line is to blame
pub held_off : (text : List ℕ) (now : Lists) (fault : TextFault) → Stands (speakers text) [] now → IsHeld now.0 now.1 fault → IsBlamed text fault
held_off text now (Texts.Line number fault) stands held = inr (barred text now number fault stands held)
held_off text now Texts.Mark stands held = absurd held
held_off text now Texts.TooMany stands held = absurd held
held_off text now Texts.Memory stands held = tt

-- ---- the last account that has to go

-- accounts and their numbers that are left of all, which can be no server's for this
pub record IsLeft (all : List Account) (numbers : List ℕ) (accounts : List Account) (left : List ℕ) (fault : AccountsFault) : Type 0 where
  pub gone : List Account
  pub lost : List ℕ
  pub whole : all ≡ accounts ++ gone
  pub numbers_are : numbers ≡ left ++ lost
  pub each : length left ≡ length accounts
  pub refused : accounts_refusal accounts ≡ Some fault

-- all of them are left at first
pub left_first : (all : List Account) (numbers : List ℕ) (fault : AccountsFault) → length numbers ≡ length all → accounts_refusal all ≡ Some fault
    → IsLeft all numbers all numbers fault
left_first all numbers fault each refused =
    record { gone = []; lost = []; whole = sym (append-nil all); numbers_are = sym (append-nil numbers); each = each; refused = refused }

-- the last one in front of those that are gone
next_gone : {X : Type 0} (all left gone fewer : List X) (last : X) → all ≡ left ++ gone → left ≡ fewer ++ last ∷ [] → all ≡ fewer ++ last ∷ gone
next_gone all left gone fewer last whole is = whole ∙ ap (λ l. l ++ gone) is ∙ append_assoc fewer (last ∷ []) gone

-- without their last ones they are as many as each other
same_count : {X Y : Type 0} (left fewer : List X) (one : X) (list less : List Y) (other : Y) → length left ≡ length list → left ≡ fewer ++ one ∷ [] → list ≡ less ++ other ∷ []
    → length fewer ≡ length less
same_count left fewer one list less other each is also =
    let a : length left ≡ length fewer + 1 = ap length is ∙ length-append fewer (one ∷ []) in
    let b : length list ≡ length less + 1 = ap length also ∙ length-append less (other ∷ []) in
    omega (arith, a, b, each)

-- one is gone, and the others can be no server's either
pub left_on : (all : List Account) (numbers : List ℕ) (list : List Account) (left : List ℕ) (fault : AccountsFault) (less : List Account) (last : Account) (fewer : List ℕ)
    (number : ℕ) (still : AccountsFault) → IsLeft all numbers list left fault → left ≡ fewer ++ number ∷ [] → list ≡ less ++ last ∷ []
    → accounts_refusal less ≡ Some still → IsLeft all numbers less fewer still
left_on all numbers list left fault less last fewer number still it is also refused =
    record {
      gone = last ∷ it.gone;
      lost = number ∷ it.lost;
      whole = next_gone all list it.gone less last it.whole also;
      numbers_are = next_gone numbers left it.lost fewer number it.numbers_are is;
      each = same_count left fewer number list less last it.each is also;
      refused = refused;
    }

-- one is gone, and the others can be a server's
pub holds_up : (all : List Account) (numbers : List ℕ) (list : List Account) (left : List ℕ) (fault : AccountsFault) (less : List Account) (last : Account) (fewer : List ℕ)
    (number : ℕ) → IsLeft all numbers list left fault → left ≡ fewer ++ number ∷ [] → list ≡ less ++ last ∷ []
    → accounts_refusal less ≡ None → HoldsUp all numbers number (of_accounts fault)
holds_up all numbers list left fault less last fewer number it is also allowed =
    record {
      before = less;
      account = last;
      behind = it.gone;
      early = fewer;
      late = it.lost;
      accounts_are = next_gone all list it.gone less last it.whole also;
      numbers_are = next_gone numbers left it.lost fewer number it.numbers_are is;
      place = sym (same_count left fewer number list less last it.each is also);
      bars = record { why = fault; allowed = allowed; barred = sym (ap accounts_refusal also) ∙ it.refused; told = refl };
    }

-- ---- what a call gives

-- a line that is not silent adds what it says
pub adds_line : {X E : Type 0} (result : Result X E) (number : ℕ) (line : List ℕ) (old new : Lists) (account : Account) → is_silent line ≡ false
    → Says line account → IfOk result (λ _. new.0 ≡ old.0 ++ account ∷ []) → IfOk result (λ _. new.1 ≡ old.1 ++ number ∷ [])
    → IfOk result (λ _. AddsLine (number, line) old new)
adds_line (Ok x) number line old new account speaks says accounts numbers =
    let e : speaking ((number, line) ∷ []) ≡ (number, line) ∷ [] = speaking_first (number, line) [] speaks in
    record {
      accounts = account ∷ [];
      say = subst (λ lines. SayEach lines (account ∷ [])) (sym e) (says, tt);
      adds = accounts;
      numbers = numbers ∙ ap (λ lines. old.1 ++ map (λ line. line.0) lines) (sym e);
    }
adds_line (Err fault) number line old new account speaks says accounts numbers = tt

-- of what is given something is known, from which more follows
pub ok_more : {X E : Type 0} (P Q : X → Type 0) (result : Result X E) → ((x : X) → P x → Q x) → IfOk result P → IfOk result Q
ok_more P Q (Ok x) follows known = follows x known
ok_more P Q (Err fault) follows known = tt

-- of a fault something is known, from which more follows
pub err_more : {X E : Type 0} (P Q : E → Type 0) (result : Result X E) → ((fault : E) → P fault → Q fault) → IfErr result P → IfErr result Q
err_more P Q (Ok x) follows known = tt
err_more P Q (Err fault) follows known = follows fault known
