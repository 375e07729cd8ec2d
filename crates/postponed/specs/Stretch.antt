-- The state that packed bits mean when shuffles are owed: the state whose bit i is bit c × i of s.
pub use Rattle.words.specs.Packing.{stretch}
