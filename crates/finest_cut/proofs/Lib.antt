pub mod RootCut
pub mod SplitMesh
