-- The names of this crate that its proofs and the crates above it use, each from its own file.
pub use Rattle.toml_values.specs.Documents.{DocumentFails, IsDocument, Says, all_named, then_with, with_key}
pub use Rattle.toml_values.specs.Numbers.{whole_upto, whole_value_within}
