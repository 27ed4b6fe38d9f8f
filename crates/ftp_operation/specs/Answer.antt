-- What an operation answers, as values over lists of octets.
use Rattle.std.specs.Prelude.{ℕ, List, Option, map}
pub use Rattle.ftp_facts.specs.Entry.{listed_of}
pub use Rattle.ftp_facts.specs.Listed.{Listed}
use Rattle.ftp_operation.specs.declared.answer.Answer.{Answer}
use Rattle.ftp_operation.specs.declared.answer.Answer.TheVariants as Answers

-- an answer: what was asked for, the code of a refusal, or how it failed
pub data Said : Type 0 where
  Done : Said
  Path : (text : List ℕ) → Said
  Octets : (octets : List ℕ) → Said
  Number : (number : ℕ) → Said
  Stamp : (seconds : ℕ) → Said
  Entry : (entry : Listed) → Said
  Entries : (entries : List Listed) → Said
  Names : (names : List (List ℕ)) → Said
  Refused : (code : ℕ) → Said
  BadOperation : Said
  Broken : (got : List ℕ) → (mark : Option ℕ) → Said
  Unopened : Said
  Foreign : Said
  Lost : Said
  Strange : Said
  Memory : Said

-- the values of an answer
abbrev pub said_of : {A : Type 0} → Answer A → Said
said_of Answers.Done = Done
said_of (Answers.Path text) = Path text
said_of (Answers.Octets octets) = Octets octets
said_of (Answers.Number number) = Number number
said_of (Answers.Stamp moment) = Stamp moment.seconds
said_of (Answers.Entry entry) = Entry (listed_of entry)
said_of (Answers.Entries entries) = Entries (map listed_of entries.items)
said_of (Answers.Names names) = Names names.items
said_of (Answers.Refused code) = Refused code
said_of Answers.BadOperation = BadOperation
said_of (Answers.Broken got mark) = Broken got mark
said_of Answers.Unopened = Unopened
said_of Answers.Foreign = Foreign
said_of Answers.Lost = Lost
said_of Answers.Strange = Strange
said_of Answers.Memory = Memory
