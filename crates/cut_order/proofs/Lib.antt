pub mod LeafOrder
pub mod RootLoops
