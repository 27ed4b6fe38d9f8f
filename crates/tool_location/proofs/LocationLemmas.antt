-- A text is cut at its first such octet in one way, so it names one place.
use Rattle.std.proofs.Common.{◌≡◌, ◌≢◌, inl, inr, ℕ, List, [], ◌∷◌, ◌++◌, append-nil, refl, sym, ap, subst, ◌∙◌}
use Rattle.std.proofs.lemmas.List.Elements.{All-head, All-tail}
use Rattle.ftp_endpoint.specs.Number.{IsPort, colon}
use Rattle.ftp_facts.specs.Fact.{Lacks}
use Rattle.tool_location.specs.Location.{BeginsInBrackets, IsBareHost, IsBracketed, IsHostAndPort, Names, SaysPortBehind, SaysServer, left_bracket, right_bracket, slash}

-- no octet stands where it lacks
pub Lacks-middle : (c : ℕ) (xs ys : List ℕ) → ¬ (Lacks (xs ++ c ∷ ys) c)
Lacks-middle c [] ys lacks = All-head (λ each. each ≢ c) c ys lacks refl
Lacks-middle c (x ∷ xs) ys lacks = Lacks-middle c xs ys (All-tail (λ each. each ≢ c) x (xs ++ c ∷ ys) lacks)

-- two cuts at the first such octet are one
pub cut-same : (c : ℕ) (xs ys us vs : List ℕ) → Lacks xs c → Lacks ys c → xs ++ c ∷ us ≡ ys ++ c ∷ vs → (xs ≡ ys) × (us ≡ vs)
cut-same c [] [] us vs in_x in_y e = let rest : us ≡ vs = cc in (refl, rest)
cut-same c [] (y ∷ ys) us vs in_x in_y e = let same : y ≡ c = cc in absurd (All-head (λ each. each ≢ c) y ys in_y same)
cut-same c (x ∷ xs) [] us vs in_x in_y e = let same : x ≡ c = cc in absurd (All-head (λ each. each ≢ c) x xs in_x same)
cut-same c (x ∷ xs) (y ∷ ys) us vs in_x in_y e =
    let head : x ≡ y = cc in
    let tail : xs ++ c ∷ us ≡ ys ++ c ∷ vs = cc in
    let more = cut-same c xs ys us vs (All-tail (λ each. each ≢ c) x xs in_x) (All-tail (λ each. each ≢ c) y ys in_y) tail in
    let front : xs ≡ ys = more.0 in
    let all : x ∷ xs ≡ y ∷ ys = cc in
    (all, more.1)

-- what stands behind a host says one port
port-same : (text : List ℕ) (p q : ℕ) → SaysPortBehind text p → SaysPortBehind text q → p ≡ q
port-same [] p q a b = a ∙ sym b
port-same (c ∷ digits) p q a b = a.1.1 ∙ sym b.1.1

port-along : (b d : List ℕ) (p q : ℕ) → b ≡ d → SaysPortBehind b p → SaysPortBehind d q → p ≡ q
port-along b d p q e a o = port-same d p q (subst (λ t. SaysPortBehind t p) e a) o

-- what stands behind a host is nothing or begins with a colon
abbrev IsBehind : List ℕ → Type 0
IsBehind [] = Unit {0}
IsBehind (octet ∷ rest) = octet ≡ colon

behind : (text : List ℕ) (port : ℕ) → SaysPortBehind text port → IsBehind text
behind [] port says = tt
behind (octet ∷ digits) port says = says.0

-- two hosts without a colon that end there are one
bare-ends : (h k b d : List ℕ) → h ++ b ≡ k ++ d → Lacks h colon → Lacks k colon → IsBehind b → IsBehind d → (h ≡ k) × (b ≡ d)
bare-ends h k [] [] e in_h in_k at on = (sym (append-nil h) ∙ e ∙ append-nil k, refl)
bare-ends h k [] (y ∷ ys) e in_h in_k at on =
    let whole : h ≡ k ++ colon ∷ ys = sym (append-nil h) ∙ e ∙ ap (λ c. k ++ c ∷ ys) on in
    absurd (Lacks-middle colon k ys (subst (λ t. Lacks t colon) whole in_h))
bare-ends h k (x ∷ xs) [] e in_h in_k at on =
    let whole : k ≡ h ++ colon ∷ xs = sym (append-nil k) ∙ sym e ∙ ap (λ c. h ++ c ∷ xs) at in
    absurd (Lacks-middle colon h xs (subst (λ t. Lacks t colon) whole in_k))
bare-ends h k (x ∷ xs) (y ∷ ys) e in_h in_k at on =
    let same = cut-same colon h k xs ys in_h in_k (ap (λ c. h ++ c ∷ xs) (sym at) ∙ e ∙ ap (λ c. k ++ c ∷ ys) on) in
    let octet : x ≡ y = at ∙ sym on in
    let rest : xs ≡ ys = same.1 in
    let all : x ∷ xs ≡ y ∷ ys = cc in
    (same.0, all)

inside-is : (xs ys : List ℕ) → left_bracket ∷ xs ≡ left_bracket ∷ ys → xs ≡ ys
inside-is xs ys e = cc

-- a host in brackets is one, and its port
bracketed-same : (text h k : List ℕ) (p q : ℕ) → IsBracketed text h p → IsBracketed text k q → (h ≡ k) × (p ≡ q)
bracketed-same text h k p q a b =
    let same = cut-same right_bracket h k a.0 b.0 a.2 b.2 (inside-is _ _ (sym a.1 ∙ b.1)) in
    (same.0, port-along a.0 b.0 p q same.1 a.3 b.3)

-- and one without
bare-same : (text h k : List ℕ) (p q : ℕ) → IsBareHost text h p → IsBareHost text k q → (h ≡ k) × (p ≡ q)
bare-same text h k p q a b =
    let same = bare-ends h k a.0 b.0 (sym a.1 ∙ b.1) a.2 b.2 (behind a.0 p a.3) (behind b.0 q b.3) in
    (same.0, port-along a.0 b.0 p q same.1 a.3 b.3)

begins : (text h : List ℕ) (p : ℕ) → IsBracketed text h p → BeginsInBrackets text
begins text h p a = (h ++ right_bracket ∷ a.0, a.1)

-- a server's text says one host and one port
server-same : (text h k : List ℕ) (p q : ℕ) → IsHostAndPort text h p → IsHostAndPort text k q → (h ≡ k) × (p ≡ q)
server-same text h k p q (inl a) (inl b) = bracketed-same text h k p q a b
server-same text h k p q (inl a) (inr b) = absurd (b.0 (begins text h p a))
server-same text h k p q (inr a) (inl b) = absurd (a.0 (begins text k q b))
server-same text h k p q (inr a) (inr b) = bare-same text h k p q a.1 b.1

-- a text is cut at its first slash in one way
server-cut : (text server path host other : List ℕ) (port : ℕ) → text ≡ server ++ slash ∷ path → Lacks server slash → Names text host port other
    → SaysServer server host port × (other ≡ path)
server-cut text server path host other port is lacks a =
    let cut = cut-same slash a.0 server other path a.2 lacks (sym a.1 ∙ is) in
    (subst (λ t. SaysServer t host port) cut.0 a.3, cut.1)

-- a text names one place
pub place-same : (text h path k other : List ℕ) (p q : ℕ) → Names text h p path → Names text k q other → (h ≡ k) × (p ≡ q) × (path ≡ other)
place-same text h path k other p q a b =
    let cut = server-cut text b.0 other h path p b.1 b.2 a in
    let server = server-same b.0 h k p q cut.0.1 b.3.1 in
    (server.0, server.1, cut.1)

-- ---- texts that name nothing

-- no slash
pub no_slash : (text : List ℕ) → Lacks text slash → (host : List ℕ) (port : ℕ) (path : List ℕ) → ¬ (Names text host port path)
no_slash text lacks host port path a = Lacks-middle slash a.0 path (subst (λ t. Lacks t slash) a.1 lacks)

-- no server before it
pub no_server : (text server path : List ℕ) → text ≡ server ++ slash ∷ path → Lacks server slash → ((host : List ℕ) (port : ℕ) → ¬ (SaysServer server host port))
    → (host : List ℕ) (port : ℕ) (other : List ℕ) → ¬ (Names text host port other)
no_server text server path is lacks none host port other a = none host port (server-cut text server path host other port is lacks a).0

-- no host and no port
pub no_host_and_port : (text : List ℕ) → ((host : List ℕ) (port : ℕ) → ¬ (IsHostAndPort text host port)) → (host : List ℕ) (port : ℕ) → ¬ (SaysServer text host port)
no_host_and_port text none host port a = none host port a.1

-- no closing bracket
pub no_bracket : (inside : List ℕ) → Lacks inside right_bracket → (host : List ℕ) (port : ℕ) → ¬ (IsBracketed (left_bracket ∷ inside) host port)
no_bracket inside lacks host port a = Lacks-middle right_bracket host a.0 (subst (λ t. Lacks t right_bracket) (inside-is _ _ a.1) lacks)

-- no port behind it
pub no_port_behind : (inside h b : List ℕ) → inside ≡ h ++ right_bracket ∷ b → Lacks h right_bracket → ((port : ℕ) → ¬ (SaysPortBehind b port))
    → (host : List ℕ) (port : ℕ) → ¬ (IsBracketed (left_bracket ∷ inside) host port)
no_port_behind inside h b is lacks none host port a =
    let same = cut-same right_bracket host h a.0 b a.2 lacks (sym (inside-is _ _ a.1) ∙ is) in
    none port (subst (λ t. SaysPortBehind t port) same.1 a.3)

-- no port behind the colon
pub no_port : (text h digits : List ℕ) → text ≡ h ++ colon ∷ digits → Lacks h colon → ¬ (IsPort digits) → (host : List ℕ) (port : ℕ) → ¬ (IsBareHost text host port)
no_port text h digits is lacks none host port a =
    let same = bare-ends host h a.0 (colon ∷ digits) (sym a.1 ∙ is) a.2 lacks (behind a.0 port a.3) refl in
    let says : SaysPortBehind (colon ∷ digits) port = subst (λ t. SaysPortBehind t port) same.1 a.3 in
    none says.1.0

-- a text in brackets whose inside says nothing
pub no_bracketed : (text inside : List ℕ) → text ≡ left_bracket ∷ inside → ((host : List ℕ) (port : ℕ) → ¬ (IsBracketed (left_bracket ∷ inside) host port))
    → (host : List ℕ) (port : ℕ) → ¬ (IsHostAndPort text host port)
no_bracketed text inside is none host port (inl a) = none host port (subst (λ t. IsBracketed t host port) is a)
no_bracketed text inside is none host port (inr a) = a.0 (inside, is)

-- a text without brackets that says nothing
pub no_bare : (text : List ℕ) → ¬ (BeginsInBrackets text) → ((host : List ℕ) (port : ℕ) → ¬ (IsBareHost text host port))
    → (host : List ℕ) (port : ℕ) → ¬ (IsHostAndPort text host port)
no_bare text not none host port (inl a) = not (begins text host port a)
no_bare text not none host port (inr a) = none host port a.1
