pub mod WrittenBodies
pub mod WrittenTexts
pub mod WrittenMeshes
mod WorkedTexts
