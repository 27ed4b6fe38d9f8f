-- How an answer comes about.
pub mod Answering
pub mod Asking
-- How many control connections there are, and what each may move.
pub mod Several
-- When a further control connection may bring an answer.
pub mod Again
