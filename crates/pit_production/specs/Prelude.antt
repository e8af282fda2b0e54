-- The names of this crate that its proofs and the crates above it use, each from its own file.
pub use Rattle.pit_production.specs.Parts.{IsEachWayWeighted, ThePartBounds, TheTreatedPartBounds, among_kept}
pub use Rattle.pit_production.specs.Parts.{part_mine, part_of, treated_part_of}
