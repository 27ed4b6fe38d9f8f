-- What an upload whose octets are read as they go has still to give (RFC 959, sections 3.1 to 3.5).
use Rattle.std.specs.Prelude.{◌≡◌, ◌⊎◌, ℕ, List, [], ◌++◌, take, drop, IsTrue, Option}
use Rattle.std.specs.Io.KnownBytes.{Appends}
use Rattle.ftp_wire.specs.Encoding.{still_to_give}
use Rattle.ftp_client_stream.specs.declared.source_transfer.SourceTransfer.{SourceTransfer}

-- the octets of the file that were read and are not encoded yet
abbrev pub at_hand : {D A : Type 0} → SourceTransfer D A → List ℕ
at_hand d = drop d.at (take d.end d.piece.items)

-- the octets of the wire that were made and did not go yet
abbrev pub unsent : {D A : Type 0} → SourceTransfer D A → List ℕ
unsent d = drop d.sent (take d.made d.wire.items)

-- the octets of the wire that are still to go, where these octets are still to come of the source
abbrev pub left_to_go : {D A : Type 0} → SourceTransfer D A → List ℕ → List ℕ
left_to_go d more = unsent d ++ still_to_give d.encoder (at_hand d ++ more)

-- octets were read of the source, and what is still to go is the same, where they count as still to come before; the source gave its last only where
-- none is still to come of it
pub record Reads {D A : Type 0} (gave : D → List ℕ) (left : D → ℕ) (old new : SourceTransfer D A) : Type 0 where
  pub drew : List ℕ
  pub given : gave new.source ≡ gave old.source ++ drew
  pub last : IsTrue new.is_last → IsTrue old.is_last ⊎ (left new.source ≡ 0)
  pub text : (more : List ℕ) → (IsTrue new.is_last → more ≡ []) → left_to_go new more ≡ left_to_go old (drew ++ more)

-- nothing was read, and nothing went
pub record Stays {D A : Type 0} (gave : D → List ℕ) (old new : SourceTransfer D A) : Type 0 where
  pub given : gave new.source ≡ gave old.source
  pub last : new.is_last ≡ old.is_last
  pub text : (more : List ℕ) → left_to_go new more ≡ left_to_go old more

-- octets went over a link, the first of those that were still to go
pub record SendsFront {D A : Type 0} (before after : Option (List ℕ)) (old new : SourceTransfer D A) : Type 0 where
  pub went : List ℕ
  pub written : Appends before after went
  pub source : new.source ≡ old.source
  pub last : new.is_last ≡ old.is_last
  pub text : (more : List ℕ) → left_to_go old more ≡ went ++ left_to_go new more

-- octets were read of the source, and octets went over a link: the first of those that were still to go, where what was read counts as still to come before
pub record Gives {D A : Type 0} (gave : D → List ℕ) (left : D → ℕ) (before after : Option (List ℕ)) (old new : SourceTransfer D A) : Type 0 where
  pub drew : List ℕ
  pub went : List ℕ
  pub given : gave new.source ≡ gave old.source ++ drew
  pub written : Appends before after went
  pub text : (more : List ℕ) → (IsTrue new.is_last → more ≡ []) → left_to_go old (drew ++ more) ≡ went ++ left_to_go new more
  pub last : IsTrue new.is_last → IsTrue old.is_last ⊎ (left new.source ≡ 0)
