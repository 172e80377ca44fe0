pub mod CacheLaw
