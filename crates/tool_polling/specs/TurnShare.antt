-- What a session has of a turn (own choice): replies up to one that no other follows (RFC 959, section 4.2.1), and 32,768 octets of data connections.
use Rattle.std.specs.Prelude.{ℕ, ◌+◌, ◌-◌, ◌^◌, ◌==◌, min, nat_le, Bool, true, false, List, [], ◌∷◌, if◌then◌else◌}
use Rattle.tool_polling.specs.declared.turn_share.TurnReplies.{TurnReplies}
use Rattle.tool_polling.specs.declared.turn_share.TurnReplies.TheVariants as Replies
use Rattle.tool_polling.specs.declared.turn_share.TurnShare.{TurnShare}

-- nothing went yet
abbrev pub fresh_share : TurnShare
fresh_share = record { replies = Replies.Nothing; octets = 0 }

-- the first digit of the code is 1: another reply follows
abbrev pub is_preliminary : (reply : List ℕ) → Bool
is_preliminary [] = false
is_preliminary (digit ∷ reply) = digit == 49

-- which replies went once this one did
abbrev pub replies_after : TurnReplies → (reply : List ℕ) → TurnReplies
replies_after Replies.Nothing reply = if is_preliminary reply then Replies.Preliminary else Replies.Last
replies_after Replies.Preliminary reply = if is_preliminary reply then Replies.Preliminary else Replies.Last
replies_after Replies.Last reply = Replies.Last
replies_after Replies.HeldBack reply = Replies.Last

-- what was had once a reply went
abbrev pub share_after_reply : TurnShare → (reply : List ℕ) → TurnShare
share_after_reply share reply = record { replies = replies_after share.replies reply; octets = share.octets }

-- which replies went, where none goes any more
abbrev pub replies_held_back : TurnReplies → TurnReplies
replies_held_back Replies.Nothing = Replies.HeldBack
replies_held_back Replies.Preliminary = Replies.Last
replies_held_back Replies.Last = Replies.Last
replies_held_back Replies.HeldBack = Replies.HeldBack

-- what was had, where no reply goes any more
abbrev pub share_held_back : TurnShare → TurnShare
share_held_back share = record { replies = replies_held_back share.replies; octets = share.octets }

-- what was had once so many octets of a data connection went
abbrev pub share_after_octets : TurnShare → (count : ℕ) → TurnShare
share_after_octets share count = record { replies = share.replies; octets = min (share.octets + count) (2 ^ 64 - 1) }

-- a reply went
abbrev pub share_has_spoken : TurnReplies → Bool
share_has_spoken Replies.Nothing = false
share_has_spoken Replies.Preliminary = true
share_has_spoken Replies.Last = true
share_has_spoken Replies.HeldBack = false

-- no reply goes any more
abbrev pub share_has_replied : TurnReplies → Bool
share_has_replied Replies.Nothing = false
share_has_replied Replies.Preliminary = false
share_has_replied Replies.Last = true
share_has_replied Replies.HeldBack = true

-- the octets of data connections are as many as are its part
abbrev pub share_has_moved : TurnShare → Bool
share_has_moved share = nat_le 32768 share.octets
