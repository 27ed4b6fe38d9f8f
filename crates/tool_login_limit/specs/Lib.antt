pub mod LoginLimiter
