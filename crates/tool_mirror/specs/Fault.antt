-- Why something of a mirror was not done, and the sentence that is told of it (own choice; codes by RFC 959, section 4.2.2, and RFC 3659, section 7.2.1).
use Rattle.std.specs.Prelude.{ℕ, ◌==◌, ◌||◌, Bool, List, [], Option, Some, None, codes, if◌then◌else◌}
use Rattle.ftp_operation.specs.declared.answer.Answer.{Answer}
use Rattle.ftp_operation.specs.declared.answer.Answer.TheVariants as Answers
use Rattle.ftp_reply.specs.declared.code.TheConstants.{BAD_ARGUMENT, UNAVAILABLE}
use Rattle.tool_mirror.specs.declared.fault.FaultEffect.{FaultEffect}
use Rattle.tool_mirror.specs.declared.fault.FaultEffect.TheVariants as Effects
use Rattle.tool_mirror.specs.declared.fault.FaultSide.{FaultSide}
use Rattle.tool_mirror.specs.declared.fault.FaultSide.TheVariants as Sides
use Rattle.tool_mirror.specs.declared.fault.MirrorFault.{MirrorFault}
use Rattle.tool_mirror.specs.declared.fault.MirrorFault.TheVariants as Faults
use Rattle.tool_mirror.specs.declared.fault.Sentence.{Sentence}
use Rattle.tool_mirror.specs.declared.fault.Sentence.TheVariants as Sentences

-- what an answer says that is not what was asked for
abbrev pub fault_by : {A : Type 0} → Answer A → MirrorFault
fault_by (Answers.Refused code) = Faults.Refused code
fault_by Answers.Lost = Faults.Lost
fault_by Answers.Memory = Faults.Memory
fault_by Answers.Foreign = Faults.Foreign
fault_by Answers.BadOperation = Faults.BadPath
fault_by Answers.Unopened = Faults.Unopened
fault_by (Answers.Broken got mark) = Faults.Broken
fault_by Answers.Strange = Faults.Strange
fault_by answer = Faults.Unasked

-- what a mirror answers that does nothing more: its control connection ended, the server lists nothing, or want of memory
abbrev pub ended_by : {A : Type 0} → MirrorFault → Answer A
ended_by Faults.Lost = Answers.Lost
ended_by (Faults.NoListing code) = Answers.Refused code
ended_by fault = Answers.Memory

-- what becomes of a mirror in which this was met: the end of the control connection alone lets the same be done again
abbrev pub effect_of : MirrorFault → FaultEffect
effect_of Faults.Lost = Effects.Again
effect_of Faults.Memory = Effects.Stop
effect_of (Faults.NoListing code) = Effects.Stop
effect_of fault = Effects.Told

-- the fault of a download that this ended, in its last try or not
abbrev pub of_download : MirrorFault → (is_spent : Bool) → MirrorFault
of_download Faults.Lost is_spent = if is_spent then Faults.LastTry else Faults.Lost
of_download fault is_spent = fault

-- at which end it was refused, as far as that has a root of its own to tell of
abbrev pub side_of : MirrorFault → FaultSide
side_of (Faults.Here error) = Sides.Here
side_of (Faults.Refused code) = Sides.There
side_of (Faults.Stranger stranger) = Sides.There
side_of Faults.BadPath = Sides.There
side_of Faults.Unopened = Sides.There
side_of Faults.Broken = Sides.There
side_of Faults.Strange = Sides.There
side_of Faults.Unasked = Sides.There
side_of Faults.Changed = Sides.There
side_of fault = Sides.Neither

-- the codes by which servers say that no directory stands at a path
abbrev pub means_missing : ℕ → Bool
means_missing code = code == UNAVAILABLE || code == BAD_ARGUMENT

-- a sentence: perhaps a number, a text, perhaps a number, and a text
pub record SentenceParts : Type 0 where
  pub first : Option ℕ
  pub text : List ℕ
  pub second : Option ℕ
  pub end : List ℕ

abbrev pub plain : List ℕ → SentenceParts
plain text = record { first = None; text = text; second = None; end = [] }

abbrev pub around : (text : List ℕ) → (number : ℕ) → (end : List ℕ) → SentenceParts
around text number end = record { first = None; text = text; second = Some number; end = end }

abbrev pub between : (first : ℕ) → (text : List ℕ) → (second : ℕ) → SentenceParts
between first text second = record { first = Some first; text = text; second = Some second; end = [] }

-- the parts of a sentence
abbrev pub parts_of : Sentence → SentenceParts
parts_of (Sentences.Plain text) = plain text.now
parts_of (Sentences.Around text number end) = around text.now number end.now
parts_of (Sentences.Between first text second) = between first text.now second

-- the sentence that is told of a fault
abbrev pub told_of : MirrorFault → SentenceParts
told_of (Faults.Refused code) = around (codes "the server refuses it: ") code []
told_of (Faults.NoListing code) = around (codes "the server refuses it: ") code []
told_of Faults.Lost = plain (codes "the control connection ended")
told_of Faults.Memory = plain (codes "out of memory")
told_of Faults.Foreign = plain (codes "another host than the server's was named, or came")
told_of (Faults.Stranger stranger) = plain (codes "another host than the server's was named, or came")
told_of Faults.BadPath = plain (codes "the path is no path that can be sent")
told_of Faults.Unopened = plain (codes "no data connection was opened")
told_of Faults.Broken = plain (codes "the data connection broke")
told_of Faults.Strange = plain (codes "the server says what has no place")
told_of Faults.Unasked = plain (codes "the server answers what was not asked")
told_of Faults.Changed = plain (codes "it changed at the server each time that it came")
told_of (Faults.OtherSize went total) = between went (codes " octets went, and the server tells a size of ") total
told_of Faults.Vanished = plain (codes "the server says that it is done, and then that there is no such file")
told_of (Faults.TooLarge size limit) = between size (codes " octets are past the limit of ") limit
told_of (Faults.PastLimit limit) = around (codes "the file has more than ") limit (codes " octets, which is the limit")
told_of Faults.LastTry = plain (codes "the control connection ended in the last of 16 tries")
told_of Faults.StandsAtSource = plain (codes "the source has it, though its listing lacked it; it is not removed")
told_of Faults.KeepsEntries = plain (codes "what stands there has entries that are left alone or can't be looked at; it stays")
told_of Faults.NoFreeName = plain (codes "no name is free beside it; it stays")
told_of Faults.FailedSince = plain (codes "it stood where something else is now, and stays under this name, since not all went well")
told_of (Faults.Here error) = plain (codes "this machine refuses it")
told_of Faults.TooManySteps = plain (codes "more is to be done than a mirror takes on; another run goes on")
