-- What a session begins with, that it is fair is known in one way, and why it is not; what a script begins with, the transcript of what is delivered,
-- what a script leads to, what a transcript has told as code, and what is written where a script is played.
pub mod Begun
pub mod Known
pub mod Leading
pub mod Making
pub mod Played
pub mod Refusing
pub mod Rows
pub mod Telling
pub mod Transcript
