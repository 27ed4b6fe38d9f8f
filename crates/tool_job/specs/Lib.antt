-- Several things of one kind that are asked one after another.
pub mod queue
-- A single thing over a control connection of its own.
pub mod single
