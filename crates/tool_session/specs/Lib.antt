-- How a client is begun with what is requested.
pub mod Beginning
-- When a data connection did not end, and whether it brought too much.
pub mod Course
-- How much the data connection of a request may bring, and what of a file a request moves.
pub mod Moving
-- How long a data connection waits before it moves more.
pub mod Rate
-- By which commands a data connection is asked for, and when by the others.
pub mod Opening
pub mod OpeningRows
-- What was asked and answered over a control connection, one after another.
pub mod Talking
-- What is known of a server beside its answers.
pub mod Noticed
-- Why a program stops before it has an answer of the server.
pub mod Fault
-- Octets that a file has and that come once more.
pub mod Again
